-- A list of entries in order: as a map it lists just these, and an entry that is taken away leaves the others.
use Rattle.std.proofs.Common.{◌≡◌, ℕ, zero, suc, ◌+◌, ◌<◌, ◌≤◌, ◌==◌, Bool, true, false, cond, refl, ap, sym, subst, ◌∙◌, arith, List, [], ◌∷◌, length, take, drop, slice_index, Option, Some, None}
use Rattle.std.specs.List.{remove}
use Rattle.std.specs.Ordering.{nat_cmp}
use Rattle.std.specs.declared.cmp.Ordering.{Ordering}
use Rattle.std.specs.declared.cmp.Ordering.TheVariants.{Less}
use Rattle.std.specs.Cmp.{nat_cmp_total}
use Rattle.std.specs.FinMap.{get, entries, put, get-remove, entries-insert, len-entries, len-empty, empty, same_map, nat_cmp-IsAntisymmetric}
use Rattle.std.specs.FinMap as finite
use Rattle.std.specs.FinMap.Entries.{by_order}
use Rattle.std.proofs.lemmas.Bool.{eqb-true}
use Rattle.std.proofs.lemmas.Bool.Decides.{nat_tests}
use Rattle.std.proofs.lemmas.List.{length-map, length-append, length-take, length-drop}
use Rattle.pm_types.specs.declared.object.Slot.{Slot}
use Rattle.pm_cars.specs.Entries.{Entry, numbers, content_at, slots_of, without, IsAscending, HasNone}
use Rattle.pm_cars.proofs.Listed.{NoneBefore, get_slots, tied_nat, not_here, here, differs, same, before_later, content_absent, cond_swap}

-- the entries after the first are in order, and later than it
pub ascending_later : (e : Entry) (es : List Entry) → IsAscending (numbers (e ∷ es)) → IsAscending (numbers es)
ascending_later e es up i j lt within = up (suc i) (suc j) (omega arith) (omega arith)

none_equal : (e : Entry) (es : List Entry) → IsAscending (numbers (e ∷ es)) → HasNone es e.0
none_equal e es up i lt is = let more = up 0 (suc i) (omega arith) (omega (arith, length-map es (λ (e : Entry). e.0))) in omega arith

-- ---- the map of entries in order lists just these

less_is : (a b : ℕ) → a < b → nat_cmp a b ≡ Less
less_is a b lt = grind (arith, nat_tests)

in_front : (r : Ordering) (xs ys zs : List Entry) → r ≡ Less → by_order r xs ys zs ≡ xs
in_front r xs ys zs is = ap (λ r. by_order r xs ys zs) is

put_front : (e : Entry) (es : List Entry) → IsAscending (numbers (e ∷ es)) → put nat_cmp e.0 e.1 es ≡ e ∷ es
put_front e [] up = refl
put_front e (f ∷ fs) up = in_front (nat_cmp e.0 f.0) _ _ _ (less_is e.0 f.0 (up 0 1 (omega arith) (omega arith)))

no_length : {A : Type 0} (xs : List A) → length xs ≡ 0 → xs ≡ []
no_length [] is = refl
no_length (x ∷ xs) is = absurd (omega arith)

pub listed : (es : List Entry) → IsAscending (numbers es) → entries (slots_of es) ≡ es
listed [] up = no_length _ (sym (len-entries (empty {X = Slot} {R = nat_cmp})) ∙ len-empty nat_cmp Slot)
listed (e ∷ es) up =
    entries-insert nat_cmp_total (slots_of es) e.0 e.1 ∙ ap (put nat_cmp e.0 e.1) (listed es (ascending_later e es up)) ∙ put_front e es up

-- ---- one entry taken away

pub without_present : (es : List Entry) (k i : ℕ) → i < length es → slice_index (numbers es) i ≡ k → NoneBefore es k i → remove es i ≡ without es k
without_present [] k i lt is none = absurd (omega arith)
without_present (e ∷ es) k zero lt is none = sym (here (e.0 == k) es (e ∷ without es k) (same e.0 k is))
without_present (e ∷ es) k (suc i) lt is none =
    ap (λ rest. e ∷ rest) (without_present es k i (omega arith) is (before_later e es k i none))
    ∙ sym (not_here (e.0 == k) es (e ∷ without es k) (differs e.0 k (none 0 (omega arith))))

pub without_absent : (es : List Entry) (k : ℕ) → HasNone es k → without es k ≡ es
without_absent [] k none = refl
without_absent (e ∷ es) k none =
    not_here (e.0 == k) _ _ (differs e.0 k (none 0 (omega arith))) ∙ ap (λ rest. e ∷ rest) (without_absent es k (λ i lt. none (suc i) (omega arith)))

pub length_without : (es : List Entry) (k i : ℕ) → i < length es → slice_index (numbers es) i ≡ k → NoneBefore es k i → length (without es k) + 1 ≡ length es
length_without es k i lt is none =
    let same = ap length (without_present es k i lt is none) in
    omega (arith, length-append (take i es) (drop (suc i) es), length-take i es, length-drop (suc i) es)

gone_here : (b c : Bool) (content : Slot) (x : Option Slot) → (b ≡ true → x ≡ None) → (b ≡ false → c ≡ false) → x ≡ cond b None (cond c (Some content) x)
gone_here true c content x none apart = none refl
gone_here false c content x none apart = sym (not_here c (Some content) x (apart refl))

cond_without : (b : Bool) (e : Entry) (es : List Entry) (k q : ℕ) → (e.0 == k) ≡ b → HasNone es e.0 → content_at (without es k) q ≡ cond (k == q) None (content_at es q)
    → content_at (cond b es (e ∷ without es k)) q ≡ cond (k == q) None (cond (e.0 == q) (Some e.1) (content_at es q))
cond_without true e es k q is none later =
    let tied = eqb-true e.0 k is in
    gone_here (k == q) (e.0 == q) e.1 (content_at es q) (λ t. content_absent es q (subst (HasNone es) (tied ∙ eqb-true k q t) none)) (λ t. ap (λ n. n == q) tied ∙ t)
cond_without false e es k q is none later =
    let apart : (k == q) ≡ true → (e.0 == q) ≡ false = λ t. ap (λ n. e.0 == n) (sym (eqb-true k q t)) ∙ is in
    ap (cond (e.0 == q) (Some e.1)) later ∙ cond_swap (e.0 == q) (k == q) (Some e.1) None (content_at es q) apart

neither : {X : Type 0} (b : Bool) (x : X) → x ≡ cond b x x
neither true x = refl
neither false x = refl

pub content_without : (es : List Entry) (k q : ℕ) → IsAscending (numbers es) → content_at (without es k) q ≡ cond (k == q) None (content_at es q)
content_without [] k q up = neither (k == q) None
content_without (e ∷ es) k q up = cond_without (e.0 == k) e es k q refl (none_equal e es up) (content_without es k q (ascending_later e es up))

pub slots_without : (es : List Entry) (k : ℕ) → IsAscending (numbers es) → slots_of (without es k) ≡ finite.remove (slots_of es) k
slots_without es k up =
    same_map nat_cmp_total nat_cmp-IsAntisymmetric _ _ (λ q.
    get_slots (without es k) q ∙ content_without es k q up ∙ ap (cond (k == q) None) (sym (get_slots es q))
    ∙ sym (get-remove nat_cmp_total (slots_of es) k q ∙ ap (λ b. cond b None (get (slots_of es) q)) (tied_nat q k)))

-- numbers in order without one of them
numbers_removed : (es : List Entry) (i : ℕ) → numbers (remove es i) ≡ remove (numbers es) i
numbers_removed [] zero = refl
numbers_removed [] (suc i) = refl
numbers_removed (e ∷ es) zero = refl
numbers_removed (e ∷ es) (suc i) = ap (λ ns. e.0 ∷ ns) (numbers_removed es i)

-- the number at a place of a list without one of its numbers
left_at : (ks : List ℕ) (i j : ℕ) → i < length ks → j < length (remove ks i) → (n : ℕ) × (n < length ks) × (slice_index (remove ks i) j ≡ slice_index ks n) × (j ≤ n) × (n ≤ j + 1) × (j < i → n ≡ j) × (i ≤ j → n ≡ j + 1)
left_at [] i j lt within = absurd (omega arith)
left_at (k ∷ ks) zero j lt within = (suc j, omega arith, refl, omega arith, omega arith, λ less. absurd (omega arith), λ more. omega arith)
left_at (k ∷ ks) (suc i) zero lt within = (zero, omega arith, refl, omega arith, omega arith, λ less. refl, λ more. absurd (omega arith))
left_at (k ∷ ks) (suc i) (suc j) lt within =
    let at = left_at ks i j (omega arith) (omega arith) in
    (suc at.0, omega (arith, at.1), at.2, omega (arith, at.3), omega (arith, at.4), λ less. ap suc (at.5 (omega arith)), λ more. omega (arith, at.6 (omega arith)))

ascending_removed : (ks : List ℕ) (i : ℕ) → i < length ks → IsAscending ks → IsAscending (remove ks i)
ascending_removed ks i lt up a b less within =
    let one = left_at ks i a lt (omega arith) in
    let two = left_at ks i b lt within in
    let under : one.0 < two.0 = grind (arith, one.5, one.6, two.5, two.6) in
    let more = up one.0 two.0 under two.1 in
    omega (arith, one.2, two.2, more)

below_removed : (ks : List ℕ) (i next : ℕ) → i < length ks → ((j : ℕ) → j < length ks → slice_index ks j < next) → (j : ℕ) → j < length (remove ks i) → slice_index (remove ks i) j < next
below_removed ks i next lt below j within =
    let at = left_at ks i j lt within in
    omega (arith, at.2, below at.0 at.1)

module _ (es : List Entry) (k i : ℕ) (lt : i < length es) (is : slice_index (numbers es) i ≡ k) (none : NoneBefore es k i) where
  left_numbers : numbers (without es k) ≡ remove (numbers es) i
  left_numbers = ap numbers (sym (without_present es k i lt is none)) ∙ numbers_removed es i

  pub ascending_without : IsAscending (numbers es) → IsAscending (numbers (without es k))
  ascending_without up = subst IsAscending (sym left_numbers) (ascending_removed (numbers es) i (omega (arith, lt, length-map es (λ (e : Entry). e.0))) up)

  pub below_without : (next : ℕ) → ((j : ℕ) → j < length (numbers es) → slice_index (numbers es) j < next) → (j : ℕ) → j < length (numbers (without es k)) → slice_index (numbers (without es k)) j < next
  below_without next below =
      subst (λ (ks : List ℕ). (j : ℕ) → j < length ks → slice_index ks j < next) (sym left_numbers) (below_removed (numbers es) i next (omega (arith, lt, length-map es (λ (e : Entry). e.0))) below)
