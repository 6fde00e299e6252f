-- The registers that hold an identity, as they are read from the index, and those that are emptied.
use Rattle.std.proofs.Common.{◌≡◌, ◌⊎◌, ⊎_elim, inl, inr, ℕ, ◌+◌, ◌-◌, ◌<◌, ◌||◌, nat_eq, Bool, true, false, cond, if◌then◌else◌, List, [], ◌∷◌, length, map, take, get_or, Option, Some, None, refl, sym, ap, subst, ◌∙◌, arith}
use Rattle.std.specs.List.{Contains}
use Rattle.std.specs.List.Sorted.{IsStrictlySortedBy}
use Rattle.std.specs.Option.{is_some}
use Rattle.std.specs.Ordering.{eq_by_cmp}
use Rattle.std.specs.Map.{keys_of}
use Rattle.std.specs.FinMap.{get, len, remove, from_entries, empty_of_len, get-empty, len-remove}
use Rattle.std.proofs.lemmas.Bool.Decides.{nat_tests}
use Rattle.pm_types.specs.Orders.{place_cmp}
use Rattle.pm_types.proofs.Orders.{places_total, places_antisymmetric}
use Rattle.pm_model.specs.World.{Registers}
use Rattle.pm_model.proofs.Maps.{remove_here, remove_other, tied_key}
use Rattle.pm_nursery.specs.Sweeping.{among, left_held}
use Rattle.pm_nursery.specs.Turned.{AreOfId, Pair}
use Rattle.pm_nursery.specs.Holding.{AreFree, AreHeld, AreHolders, IsTurned, is_id}
use Rattle.pm_nursery.proofs.Beside.{in_map, of_map}
use Rattle.pm_nursery.proofs.Changed.{among-more}
use Rattle.pm_nursery.proofs.Rows.{listed}

found_id : (found : Option ℕ) (id : ℕ) → is_id found id ≡ true → found ≡ Some id
found_id None id is = cc is
found_id (Some x) id is = grind (arith, nat_tests, is)

id_itself : (id : ℕ) → is_id (Some id) id ≡ true
id_itself id = grind (arith, nat_tests)

-- ---- those of one identity, as the index has them

pub are_holders : (registers : Registers) (turned : List Pair) → IsTurned registers turned → (id : ℕ) (part : List Pair) → AreOfId turned id part → AreHolders registers id part
are_holders registers turned kept id part of_id = record {
  ascending = of_id.rise;
  each = λ p within.
      let it = of_id.each p within in
      let held : get registers p.1 ≡ Some p.0 = found_id (get registers p.1) p.0 (sym (kept.same p.0 p.1) ∙ it.1) in
      (it.0, held ∙ ap (λ x. Some x) it.0);
  all = λ place is. of_id.all place (kept.same id place ∙ ap (λ f. is_id f id) is ∙ id_itself id);
}

-- ---- all of them

pub are_held : (held : List ((ℕ × ℕ) × ℕ)) → IsStrictlySortedBy place_cmp (keys_of held) → (ids : List ℕ) → ids ≡ map (λ (e : (ℕ × ℕ) × ℕ). e.1) held → AreHeld (from_entries held) ids
are_held held rise ids is = record {
  each = λ id within.
      let entry = of_map (λ (e : (ℕ × ℕ) × ℕ). e.1) held id (subst (λ xs. Contains xs id) is within) in
      (entry.0.0, (listed places_total places_antisymmetric held rise entry.0.0 entry.0.1).1 entry.1 ∙ ap (λ x. Some x) entry.2);
  all = λ place id holds.
      subst (λ xs. Contains xs id) (sym is)
      (in_map (λ (e : (ℕ × ℕ) × ℕ). e.1) held (place, id) ((listed places_total places_antisymmetric held rise place id).0 holds));
}

-- ---- registers that are emptied

-- each holds what it held, or was emptied of the identity
abbrev pub Freeing : Registers → ℕ → Registers → Type 0
Freeing registers id after = (place : ℕ × ℕ) → (get after place ≡ get registers place) ⊎ ((get after place ≡ None) × (get registers place ≡ Some id))

pub freeing_goes_on : (registers before after : Registers) (id : ℕ) (place : ℕ × ℕ) → get before place ≡ Some id → after ≡ remove before place → Freeing registers id before → Freeing registers id after
freeing_goes_on registers before after id place holds is freeing q = by (eq_by_cmp place_cmp q place) refl
  where
    as_now : get after q ≡ get (remove before place) q
    as_now = ap (λ (r : Registers). get r q) is

    gone : q ≡ place → get after q ≡ None
    gone same = as_now ∙ ap (get (remove before place)) same ∙ remove_here places_total places_antisymmetric before place

    was : (get before q ≡ Some id) → (get before q ≡ get registers q) ⊎ ((get before q ≡ None) × (get registers q ≡ Some id)) → get registers q ≡ Some id
    was held (inl same) = sym same ∙ held
    was held (inr other) = other.1

    by : (b : Bool) → eq_by_cmp place_cmp q place ≡ b → (get after q ≡ get registers q) ⊎ ((get after q ≡ None) × (get registers q ≡ Some id))
    by true tie = let same = tied_key places_antisymmetric q place tie in inr (gone same, was (ap (get before) same ∙ holds) (freeing q))
    by false apart =
        let stays : get after q ≡ get before q = as_now ∙ remove_other places_total places_antisymmetric before place q (λ same. let tie : eq_by_cmp place_cmp q place ≡ true = subst (λ p. eq_by_cmp place_cmp q p ≡ true) same (self q) in cc (tie, apart)) in
        ⊎_elim (λ (same : get before q ≡ get registers q). inl (stays ∙ same)) (λ (other : (get before q ≡ None) × (get registers q ≡ Some id)). inr (stays ∙ other.0, other.1)) (freeing q)
      where
        self : (q : ℕ × ℕ) → eq_by_cmp place_cmp q q ≡ true
        self q = grind (arith, nat_tests)

is_zero : (n : ℕ) (b : Bool) → b ≡ true → (n ≡ 0 → ⊥) → cond b (n - 1) n < n
is_zero n true is some = omega (arith, some)
is_zero n false is some = cc is

pub fewer_held : (registers : Registers) (id : ℕ) (place : ℕ × ℕ) → get registers place ≡ Some id → len (remove registers place) < len registers
fewer_held registers id place holds =
    subst (λ n. n < len registers) (sym (len-remove places_total registers place))
    (is_zero (len registers) (is_some (get registers place)) (ap is_some holds)
    (λ none. let gone : get registers place ≡ None = ap (λ (r : Registers). get r place) (empty_of_len registers none) ∙ get-empty place_cmp place in cc (gone, holds)))

-- none holds it any more
pub freeing_ends : (registers after : Registers) (id : ℕ) → ((place : ℕ × ℕ) → get after place ≡ Some id → ⊥) → Freeing registers id after → AreFree registers (id ∷ []) after
freeing_ends registers after id none freeing place = by (get registers place) refl (freeing place)
  where
    or_false : (b : Bool) → (b || false) ≡ b
    or_false true = refl
    or_false false = refl

    picked : (y : ℕ) (b : Bool) → nat_eq id y ≡ b → (b ≡ true → get after place ≡ None) → (b ≡ false → get after place ≡ Some y) → get after place ≡ left_held (id ∷ []) (Some y)
    picked y true is gone stays = gone refl ∙ sym (ap (λ b. if b then None else Some y) (or_false (nat_eq id y) ∙ is))
    picked y false is gone stays = stays refl ∙ sym (ap (λ b. if b then None else Some y) (or_false (nat_eq id y) ∙ is))

    emptied : (o : Option ℕ) → (o ≡ Some id → ⊥) → (y : ℕ) → nat_eq id y ≡ true → o ≡ Some y → o ≡ None
    emptied o not y same held = let is_it : id ≡ y = grind (arith, nat_tests, same) in absurd (not (held ∙ ap (λ x. Some x) (sym is_it)))

    by : (old : Option ℕ) → get registers place ≡ old → (get after place ≡ get registers place) ⊎ ((get after place ≡ None) × (get registers place ≡ Some id)) → get after place ≡ left_held (id ∷ []) old
    by None was (inl same) = same ∙ was
    by None was (inr freed) = freed.0
    by (Some y) was (inl same) = picked y (nat_eq id y) refl (λ is. emptied (get after place) (none place) y is (same ∙ was)) (λ is. same ∙ was)
    by (Some y) was (inr freed) =
        let is_it : y ≡ id = cc (was, freed.1) in
        picked y true (let tie : nat_eq id y ≡ true = grind (arith, nat_tests, is_it) in tie) (λ is. freed.0) (λ never. cc never)

pub none_free : (registers : Registers) → AreFree registers [] registers
none_free registers place = by (get registers place)
  where
    by : (o : Option ℕ) → o ≡ left_held [] o
    by None = refl
    by (Some y) = refl

pub freed_more : (registers before after : Registers) (ids : List ℕ) (i : ℕ) → i < length ids → AreFree registers (take i ids) before → AreFree before (get_or ids i 0 ∷ []) after → AreFree registers (take (i + 1) ids) after
freed_more registers before after ids i inside sofar last place = last place ∙ ap (left_held (get_or ids i 0 ∷ [])) (sofar place) ∙ by (get registers place)
  where
    step : (y : ℕ) (b : Bool) → left_held (get_or ids i 0 ∷ []) (if b then None else Some y) ≡ (if b || nat_eq (get_or ids i 0) y then None else Some y)
    step y true = refl
    step y false = or_none (nat_eq (get_or ids i 0) y)
      where
        or_none : (c : Bool) → (if c || false then None else Some y) ≡ (if c then None else Some y)
        or_none true = refl
        or_none false = refl

    by : (o : Option ℕ) → left_held (get_or ids i 0 ∷ []) (left_held (take i ids) o) ≡ left_held (take (i + 1) ids) o
    by None = refl
    by (Some y) = step y (among (take i ids) y) ∙ ap (λ b. if b then None else Some y) (sym (among-more ids i y inside))
