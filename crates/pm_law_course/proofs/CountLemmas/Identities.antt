-- The identities of the objects that stand in cars: each is listed once, and what is listed stands.
use Rattle.std.proofs.Common.{◌≡◌, ℕ, ◌==◌, ◌||◌, nat_eq, Bool, true, false, cond, T, refl, ap, sym, ◌∙◌, List, [], ◌∷◌, map, Option, Some, None}
use Rattle.std.specs.Option.{option_map}
use Rattle.std.specs.List.{IsDistinct, list_any}
use Rattle.std.specs.Ordering.{nat_cmp, eq_by_cmp}
use Rattle.std.specs.Cmp.{nat_cmp_total}
use Rattle.std.specs.FinMap.{get, entries, entries_sorted, get-entries, nat_cmp-IsAntisymmetric}
use Rattle.std.specs.FinMap.Entries.{find, is_sorted}
use Rattle.std.proofs.lemmas.Bool.{eqb-true, eq-eqb, true≢false}
use Rattle.std.proofs.lemmas.Map.Keys.{IsDistinct-head, IsDistinct-tail}
use Rattle.std.proofs.lemmas.Map.Views.{tells_apart}
use Rattle.pm_types.specs.declared.address.Addr.{Addr}
use Rattle.pm_types.specs.declared.object.Object.{Object}
use Rattle.pm_types.specs.declared.object.Slot.{Slot}
use Rattle.pm_types.specs.declared.object.Slot.TheVariants.{Live, Moved}
use Rattle.pm_cars.specs.Cars.{Car, object_of}
use Rattle.pm_roots.proofs.Sorted.{first, second, find_below, find_first}
use Rattle.pm_trains.specs.Trains.{is_among}
use Rattle.pm_view.specs.View.{SpaceView}
use Rattle.pm_view.specs.Reading.{is_aside, object_at}
use Rattle.pm_view.specs.Counts.{IsStandingAt}
use Rattle.pm_view.specs.Law.{HeapLaw}
use Rattle.pm_law_commands.proofs.RowLemmas.Places.{slot_of}
use Rattle.pm_law_collect.proofs.PhasesLemmas.Small.{some_same, none_some, or_left, or_right}
use Rattle.pm_law_course.proofs.Counting.{ids_in, ids_of, ids_at, of_cars, held_of, in_cars}
use Rattle.pm_law_course.proofs.CountLemmas.Once.{any_both, among_listed, not_listed, nil_once, one_more_once, both_once}

-- ---- the entries of a car

-- the identities of the objects of these entries
abbrev ids : List (ℕ × Slot) → List ℕ
ids es = ids_in (map (λ (e : ℕ × Slot). e.1) es)

-- an object of these entries has the identity
abbrev Has : ℕ → List (ℕ × Slot) → Type 0
Has q es = (k : ℕ) × ((object : Object) × (find nat_cmp k es ≡ Some (Live object)) × (object.id ≡ q))

-- what is found behind the first entry is found with it
not_front : (e : ℕ × Slot) (es : List (ℕ × Slot)) → T (is_sorted nat_cmp (e ∷ es)) → (k : ℕ) (w : Slot) → find nat_cmp k es ≡ Some w → (b : Bool) → eq_by_cmp nat_cmp k e.0 ≡ b → cond b (Some e.1) (find nat_cmp k es) ≡ Some w
not_front e es sorted k w is true same =
    absurd (none_some w (sym (find_below nat_cmp_total e.0 es (first _ _ sorted)) ∙ ap (λ k. find nat_cmp k es) (sym (tells_apart nat_cmp-IsAntisymmetric k e.0 same)) ∙ is))
not_front e es sorted k w is false apart = is

pushed : (q : ℕ) (e : ℕ × Slot) (es : List (ℕ × Slot)) → T (is_sorted nat_cmp (e ∷ es)) → Has q es → Has q (e ∷ es)
pushed q e es sorted has = (has.0, (has.1.0, not_front e es sorted has.0 (Live has.1.0) has.1.1 (eq_by_cmp nat_cmp has.0 e.0) refl, has.1.2))

-- what is listed has an entry
has_any : (q : ℕ) (es : List (ℕ × Slot)) → T (is_sorted nat_cmp es) → list_any (nat_eq q) (ids es) ≡ true → Has q es
has_any q [] sorted is = absurd (true≢false (sym is))
has_any q (e ∷ es) sorted is = by_slot e.1 refl is (has_any q es (second _ _ sorted))
  where
    by_slot : (w : Slot) → e.1 ≡ w → list_any (nat_eq q) (ids_in (w ∷ map (λ (e : ℕ × Slot). e.1) es)) ≡ true → (list_any (nat_eq q) (ids es) ≡ true → Has q es) → Has q (e ∷ es)
    by_slot (Moved to) at is later = pushed q e es sorted (later is)
    by_slot (Live object) at is later = by_test (nat_eq q object.id) refl is
      where
        by_test : (b : Bool) → nat_eq q object.id ≡ b → (b || list_any (nat_eq q) (ids es)) ≡ true → Has q (e ∷ es)
        by_test true same is = (e.0, (object, find_first nat_cmp_total e es ∙ ap Some at, sym (eqb-true q object.id same)))
        by_test false apart is = pushed q e es sorted (later is)

-- where equal identities are in one slot each is listed once
ids_apart : (es : List (ℕ × Slot)) → T (is_sorted nat_cmp es) → ((k l : ℕ) (o p : Object) → find nat_cmp k es ≡ Some (Live o) → find nat_cmp l es ≡ Some (Live p) → o.id ≡ p.id → k ≡ l) → IsDistinct nat_eq (ids es)
ids_apart [] sorted one = nil_once
ids_apart (e ∷ es) sorted one = by_slot e.1 refl (ids_apart es (second _ _ sorted) (λ k l o p is_o is_p same. one k l o p (not_front e es sorted k (Live o) is_o (eq_by_cmp nat_cmp k e.0) refl) (not_front e es sorted l (Live p) is_p (eq_by_cmp nat_cmp l e.0) refl) same))
  where
    by_slot : (w : Slot) → e.1 ≡ w → IsDistinct nat_eq (ids es) → IsDistinct nat_eq (ids_in (w ∷ map (λ (e : ℕ × Slot). e.1) es))
    by_slot (Moved to) at rest = rest
    by_slot (Live object) at rest =
        one_more_once object.id (ids es) (λ is.
        let has = has_any object.id es (second _ _ sorted) is in
        let same : e.0 ≡ has.0 = one e.0 has.0 object has.1.0 (find_first nat_cmp_total e es ∙ ap Some at) (not_front e es sorted has.0 (Live has.1.0) has.1.1 (eq_by_cmp nat_cmp has.0 e.0) refl) (sym has.1.2) in
        none_some (Live has.1.0) (sym (find_below nat_cmp_total e.0 es (first _ _ sorted)) ∙ ap (λ k. find nat_cmp k es) same ∙ has.1.1)) rest

-- ---- the cars of a space

module _ (view : SpaceView) (law : HeapLaw view) where
  has_car : (c q : ℕ) (o : Option Car) → get view.cars c ≡ o → is_aside view c ≡ false → list_any (nat_eq q) (ids_of o) ≡ true → (slot : ℕ) × IsStandingAt view q (record { car = c; slot = slot })
  has_car c q None at free is = absurd (true≢false (sym is))
  has_car c q (Some car) at free is =
      let has = has_any q (entries car.slots) (entries_sorted car.slots) is in
      (has.0, record { kept = free; here = ap (λ o. option_map (λ (o : Object). o.id) (object_of (slot_of o has.0))) at ∙ ap (λ w. option_map (λ (o : Object). o.id) (object_of w)) (get-entries car.slots has.0 ∙ has.1.1) ∙ ap Some has.1.2 })

  -- what is listed at a car stands there
  stands_there : (c q : ℕ) → list_any (nat_eq q) (ids_at view c) ≡ true → (slot : ℕ) × IsStandingAt view q (record { car = c; slot = slot })
  stands_there c q = by_case (is_aside view c) refl
    where
      by_case : (b : Bool) → is_aside view c ≡ b → list_any (nat_eq q) (cond b [] (ids_of (get view.cars c))) ≡ true → (slot : ℕ) × IsStandingAt view q (record { car = c; slot = slot })
      by_case true aside is = absurd (true≢false (sym is))
      by_case false free is = has_car c q (get view.cars c) refl free is

  -- each identity of a car is listed once
  car_apart : (c : ℕ) (o : Option Car) → get view.cars c ≡ o → IsDistinct nat_eq (ids_of o)
  car_apart c None at = nil_once
  car_apart c (Some car) at =
      ids_apart (entries car.slots) (entries_sorted car.slots) (λ k l o p is_o is_p same.
      ap (λ (a : Addr). a.slot) (law.built.apart (record { car = c; slot = k }) (record { car = c; slot = l }) o p (found k o is_o) (found l p is_p) same))
    where
      found : (k : ℕ) (o : Object) → find nat_cmp k (entries car.slots) ≡ Some (Live o) → object_at view.cars (record { car = c; slot = k }) ≡ Some o
      found k o is = ap (λ o. object_of (slot_of o k)) at ∙ ap object_of (get-entries car.slots k ∙ is)

  at_apart : (c : ℕ) → IsDistinct nat_eq (ids_at view c)
  at_apart c = by_case (is_aside view c)
    where
      by_case : (b : Bool) → IsDistinct nat_eq (cond b [] (ids_of (get view.cars c)))
      by_case true = nil_once
      by_case false = car_apart c (get view.cars c) refl

  -- what is listed of cars stands in one of them
  pub stands_among : (cs : List ℕ) (q : ℕ) → list_any (nat_eq q) (of_cars view cs) ≡ true → (a : Addr) × (IsStandingAt view q a × (is_among a.car cs ≡ true))
  stands_among [] q is = absurd (true≢false (sym is))
  stands_among (c ∷ cs) q is = by_case (list_any (nat_eq q) (ids_at view c)) refl (any_both (nat_eq q) (ids_at view c) (of_cars view cs) is) (stands_among cs q)
    where
      by_case : (b : Bool) → list_any (nat_eq q) (ids_at view c) ≡ b → (b || list_any (nat_eq q) (of_cars view cs)) ≡ true
          → (list_any (nat_eq q) (of_cars view cs) ≡ true → (a : Addr) × (IsStandingAt view q a × (is_among a.car cs ≡ true))) → (a : Addr) × (IsStandingAt view q a × (is_among a.car (c ∷ cs) ≡ true))
      by_case true here is later = let there = stands_there c q here in (record { car = c; slot = there.0 }, (there.1, or_left (c == c) _ (eq-eqb c c refl)))
      by_case false none is later = let found = later is in (found.0, (found.1.0, or_right (c == found.0.car) found.1.1))

  -- an identity is at one address
  pub same_address : (a b : Addr) (q : ℕ) (o p : Option Object) → object_at view.cars a ≡ o → object_at view.cars b ≡ p → option_map (λ (o : Object). o.id) o ≡ Some q → option_map (λ (o : Object). o.id) p ≡ Some q → a ≡ b
  same_address a b q None p is_o is_p one two = absurd (none_some q one)
  same_address a b q (Some o) None is_o is_p one two = absurd (none_some q two)
  same_address a b q (Some o) (Some p) is_o is_p one two = law.built.apart a b o p is_o is_p (some_same o.id q one ∙ sym (some_same p.id q two))

  -- each identity is listed once, where each car is
  pub all_once : (cs : List ℕ) → IsDistinct nat_eq cs → IsDistinct nat_eq (of_cars view cs)
  all_once [] once = once
  all_once (c ∷ cs) once =
      both_once (ids_at view c) (of_cars view cs) (at_apart c) (all_once cs (IsDistinct-tail nat_eq c cs once)) (λ q here there.
      let one = stands_there c q here in
      let two = stands_among cs q there in
      let same = same_address (record { car = c; slot = one.0 }) two.0 q (object_at view.cars (record { car = c; slot = one.0 })) (object_at view.cars two.0) refl refl one.1.here two.1.0.here in
      true≢false (sym (among_listed c cs (ap (λ (a : Addr). is_among a.car cs) same ∙ two.1.1)) ∙ not_listed c cs (IsDistinct-head nat_eq c cs once)))

  -- an identity that stands in one of the cars is listed
  pub listed_among : (cs : List ℕ) (q : ℕ) (a : Addr) → IsStandingAt view q a → is_among a.car cs ≡ true → list_any (nat_eq q) (of_cars view cs) ≡ true
  listed_among cs q a stands among =
      in_cars view (nat_eq q) a.car (ap (λ b. list_any (nat_eq q) (cond b [] (ids_of (get view.cars a.car)))) stands.kept ∙ held_of (get view.cars a.car) a.slot q stands.here) cs among
