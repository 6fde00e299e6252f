-- A list of entries as a map, after an entry was changed or added.
use Rattle.std.proofs.Common.{◌≡◌, ℕ, zero, suc, ◌<◌, ◌==◌, ◌≢◌, Bool, true, false, cond, refl, ap, sym, ◌∙◌, arith, List, [], ◌∷◌, ◌++◌, length, get_or, set, slice_index, Option, Some, None}
use Rattle.std.specs.Ordering.{nat_cmp, eq_by_cmp}
use Rattle.std.specs.Cmp.{nat_cmp_total, unsigned_tied}
use Rattle.std.specs.FinMap.{get, insert, get-empty, get-insert, same_map, nat_cmp-IsAntisymmetric}
use Rattle.std.proofs.lemmas.Bool.{eqb-true}
use Rattle.std.proofs.lemmas.Bool.Decides.{nat_tests}
use Rattle.pm_types.specs.declared.object.Slot.{Slot}
use Rattle.pm_cars.specs.Cars.{Slots}
use Rattle.pm_cars.specs.Entries.{Entry, numbers, content_at, slots_of, with_content, HasNone}

pub tied_nat : (q k : ℕ) → eq_by_cmp nat_cmp q k ≡ (k == q)
tied_nat q k = unsigned_tied q k ∙ grind (arith, nat_tests)

-- no entry before this place has the slot
abbrev pub NoneBefore : List Entry → ℕ → ℕ → Type 0
NoneBefore es k i = (j : ℕ) → j < i → slice_index (numbers es) j ≢ k

-- a map that is told of one slot
get_told : (slots : Slots) (k : ℕ) (content : Slot) (q : ℕ) → get (insert slots k content) q ≡ cond (k == q) (Some content) (get slots q)
get_told slots k content q = get-insert nat_cmp_total slots k content q ∙ ap (λ b. cond b (Some content) (get slots q)) (tied_nat q k)

-- what the map answers is what the first entry of the slot holds
pub get_slots : (es : List Entry) (q : ℕ) → get (slots_of es) q ≡ content_at es q
get_slots [] q = get-empty nat_cmp q
get_slots (e ∷ es) q = get_told (slots_of es) e.0 e.1 q ∙ ap (cond (e.0 == q) (Some e.1)) (get_slots es q)

pub not_here : {X : Type 0} (b : Bool) (x y : X) → b ≡ false → cond b x y ≡ y
not_here true x y is = cc
not_here false x y is = refl

pub here : {X : Type 0} (b : Bool) (x y : X) → b ≡ true → cond b x y ≡ x
here true x y is = refl
here false x y is = cc

pub differs : (a b : ℕ) → a ≢ b → (a == b) ≡ false
differs a b other = grind (arith, nat_tests)

pub same : (a b : ℕ) → a ≡ b → (a == b) ≡ true
same a b is = grind (arith, nat_tests)

pub none_later : (e : Entry) (es : List Entry) (k : ℕ) → HasNone (e ∷ es) k → HasNone es k
none_later e es k none i lt = none (suc i) (omega arith)

pub before_later : (e : Entry) (es : List Entry) (k i : ℕ) → NoneBefore (e ∷ es) k (suc i) → NoneBefore es k i
before_later e es k i none j lt = none (suc j) (omega arith)

pub content_absent : (es : List Entry) (k : ℕ) → HasNone es k → content_at es k ≡ None
content_absent [] k none = refl
content_absent (e ∷ es) k none =
    not_here (e.0 == k) (Some e.1) (content_at es k) (differs e.0 k (none 0 (omega arith))) ∙ content_absent es k (none_later e es k none)

pub with_absent : (es : List Entry) (k : ℕ) (content : Slot) → HasNone es k → with_content es k content ≡ es
with_absent [] k content none = refl
with_absent (e ∷ es) k content none =
    not_here (e.0 == k) _ _ (differs e.0 k (none 0 (omega arith))) ∙ ap (λ rest. e ∷ rest) (with_absent es k content (none_later e es k none))

-- the first entry of the slot stands at place i
pub content_present : (es : List Entry) (k i : ℕ) (d : Entry) → i < length es → slice_index (numbers es) i ≡ k → NoneBefore es k i → content_at es k ≡ Some (get_or es i d).1
content_present [] k i d lt is none = absurd (omega arith)
content_present (e ∷ es) k zero d lt is none = here (e.0 == k) (Some e.1) (content_at es k) (same e.0 k is)
content_present (e ∷ es) k (suc i) d lt is none =
    not_here (e.0 == k) (Some e.1) (content_at es k) (differs e.0 k (none 0 (omega arith))) ∙ content_present es k i d (omega arith) is (before_later e es k i none)

pub with_present : (es : List Entry) (k i : ℕ) (content : Slot) → i < length es → slice_index (numbers es) i ≡ k → NoneBefore es k i → set es i (k, content) ≡ with_content es k content
with_present [] k i content lt is none = absurd (omega arith)
with_present (e ∷ es) k zero content lt is none = sym (here (e.0 == k) ((k, content) ∷ es) (e ∷ with_content es k content) (same e.0 k is))
with_present (e ∷ es) k (suc i) content lt is none =
    ap (λ rest. e ∷ rest) (with_present es k i content (omega arith) is (before_later e es k i none))
    ∙ sym (not_here (e.0 == k) ((k, content) ∷ es) (e ∷ with_content es k content) (differs e.0 k (none 0 (omega arith))))

-- ---- one entry changed

cond_numbers : (b : Bool) (e : Entry) (es : List Entry) (k : ℕ) (content : Slot) (rest : List Entry) → (b ≡ true → k ≡ e.0) → numbers rest ≡ numbers es → numbers (cond b ((k, content) ∷ es) (e ∷ rest)) ≡ numbers (e ∷ es)
cond_numbers true e es k content rest is same = ap (λ n. n ∷ numbers es) (is refl)
cond_numbers false e es k content rest is same = ap (λ ns. e.0 ∷ ns) same

pub numbers_with : (es : List Entry) (k : ℕ) (content : Slot) → numbers (with_content es k content) ≡ numbers es
numbers_with [] k content = refl
numbers_with (e ∷ es) k content = cond_numbers (e.0 == k) e es k content (with_content es k content) (λ is. sym (eqb-true e.0 k is)) (numbers_with es k content)

cond_length : (b : Bool) (e f : Entry) (es rest : List Entry) → length rest ≡ length es → length (cond b (f ∷ es) (e ∷ rest)) ≡ suc (length es)
cond_length true e f es rest is = refl
cond_length false e f es rest is = ap suc is

pub length_with : (es : List Entry) (k : ℕ) (content : Slot) → length (with_content es k content) ≡ length es
length_with [] k content = refl
length_with (e ∷ es) k content = cond_length (e.0 == k) e (k, content) es (with_content es k content) (length_with es k content)

cond_with : (b : Bool) (e : Entry) (es : List Entry) (k : ℕ) (one two : Slot) → (e.0 == k) ≡ b → with_content (with_content es k one) k two ≡ with_content es k two
    → with_content (cond b ((k, one) ∷ es) (e ∷ with_content es k one)) k two ≡ cond b ((k, two) ∷ es) (e ∷ with_content es k two)
cond_with true e es k one two is again = here (k == k) _ _ (same k k refl)
cond_with false e es k one two is again = not_here (e.0 == k) _ _ is ∙ ap (λ rest. e ∷ rest) again

-- what was changed twice was changed as the second time
pub with_twice : (es : List Entry) (k : ℕ) (one two : Slot) → with_content (with_content es k one) k two ≡ with_content es k two
with_twice [] k one two = refl
with_twice (e ∷ es) k one two = cond_with (e.0 == k) e es k one two refl (with_twice es k one two)

cond_content : (b : Bool) (e : Entry) (es : List Entry) (k : ℕ) (held : Slot) (content : Slot) (q : ℕ) → (e.0 == k) ≡ b
    → (content_at es k ≡ Some held → content_at (with_content es k content) q ≡ cond (k == q) (Some content) (content_at es q))
    → cond b (Some e.1) (content_at es k) ≡ Some held
    → content_at (cond b ((k, content) ∷ es) (e ∷ with_content es k content)) q ≡ cond (k == q) (Some content) (cond (e.0 == q) (Some e.1) (content_at es q))
cond_content true e es k held content q is later found =
    let tied = eqb-true e.0 k is in
    let tests : (e.0 == q) ≡ (k == q) = ap (λ n. n == q) tied in
    elim (k == q) as (λ b. (e.0 == q) ≡ b → cond b (Some content) (content_at es q) ≡ cond b (Some content) (cond (e.0 == q) (Some e.1) (content_at es q))) [
      | true ↦ λ t. refl
      | false ↦ λ t. sym (not_here (e.0 == q) (Some e.1) (content_at es q) t)
    ] tests
cond_content false e es k held content q is later found =
    let apart : (k == q) ≡ true → (e.0 == q) ≡ false = λ t. ap (λ n. e.0 == n) (sym (eqb-true k q t)) ∙ is in
    ap (cond (e.0 == q) (Some e.1)) (later found)
    ∙ elim (k == q) as (λ b. (b ≡ true → (e.0 == q) ≡ false) → cond (e.0 == q) (Some e.1) (cond b (Some content) (content_at es q)) ≡ cond b (Some content) (cond (e.0 == q) (Some e.1) (content_at es q))) [
      | true ↦ λ t. not_here (e.0 == q) (Some e.1) (Some content) (t refl)
      | false ↦ λ t. refl
    ] apart

-- a slot that holds something holds what it is told, and every other slot what it held
pub content_with : (es : List Entry) (k : ℕ) (held : Slot) (content : Slot) → content_at es k ≡ Some held → (q : ℕ) → content_at (with_content es k content) q ≡ cond (k == q) (Some content) (content_at es q)
content_with [] k held content found q = cc
content_with (e ∷ es) k held content found q = cond_content (e.0 == k) e es k held content q refl (λ later. content_with es k held content later q) found

pub slots_with : (es : List Entry) (k : ℕ) (held : Slot) (content : Slot) → content_at es k ≡ Some held → slots_of (with_content es k content) ≡ insert (slots_of es) k content
slots_with es k held content found =
    same_map nat_cmp_total nat_cmp-IsAntisymmetric _ _ (λ q.
    get_slots (with_content es k content) q ∙ content_with es k held content found q ∙ ap (cond (k == q) (Some content)) (sym (get_slots es q)) ∙ sym (get_told (slots_of es) k content q))

-- ---- one entry added

pub cond_swap : (b c : Bool) (x y z : Option Slot) → (c ≡ true → b ≡ false) → cond b x (cond c y z) ≡ cond c y (cond b x z)
cond_swap true true x y z apart = absurd (cc (apart refl))
cond_swap true false x y z apart = refl
cond_swap false c x y z apart = refl

pub content_push : (es : List Entry) (k : ℕ) (content : Slot) → HasNone es k → (q : ℕ) → content_at (es ++ (k, content) ∷ []) q ≡ cond (k == q) (Some content) (content_at es q)
content_push [] k content none q = refl
content_push (e ∷ es) k content none q =
    let apart : (k == q) ≡ true → (e.0 == q) ≡ false = λ t. ap (λ n. e.0 == n) (sym (eqb-true k q t)) ∙ differs e.0 k (none 0 (omega arith)) in
    ap (cond (e.0 == q) (Some e.1)) (content_push es k content (none_later e es k none) q)
    ∙ cond_swap (e.0 == q) (k == q) (Some e.1) (Some content) (content_at es q) apart

pub slots_push : (es : List Entry) (k : ℕ) (content : Slot) → HasNone es k → slots_of (es ++ (k, content) ∷ []) ≡ insert (slots_of es) k content
slots_push es k content none =
    same_map nat_cmp_total nat_cmp-IsAntisymmetric _ _ (λ q.
    get_slots (es ++ (k, content) ∷ []) q ∙ content_push es k content none q ∙ ap (cond (k == q) (Some content)) (sym (get_slots es q)) ∙ sym (get_told (slots_of es) k content q))
