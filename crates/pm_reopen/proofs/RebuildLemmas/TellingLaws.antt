-- What is remembered once one source more was told.
use Rattle.std.proofs.Common.{◌≡◌, ℕ, ◌+◌, ◌-◌, ◌<◌, ◌≤◌, ◌==◌, ◌&&◌, Bool, true, false, cond, List, [], ◌∷◌, ◌++◌, map, drop, Option, Some, None, refl, sym, ap, subst, ◌∙◌, arith, append_assoc}
use Rattle.std.specs.Option.{option_map}
use Rattle.std.specs.List.{flat_map, AllByRecursion, sum_by, slice_get}
use Rattle.std.specs.Cmp.{nat_cmp_total}
use Rattle.std.specs.FinMap.{get, insert, get-insert, from_entries}
use Rattle.std.proofs.lemmas.Bool.{eqb-true}
use Rattle.std.proofs.lemmas.Option.{slice_get_within, get_or_from_slice_get}
use Rattle.pm_types.specs.declared.limits.TheConstants.{CAR_BYTES}
use Rattle.pm_types.specs.declared.address.Addr.{Addr}
use Rattle.pm_types.specs.declared.source.RefSource.{RefSource}
use Rattle.pm_types.specs.declared.object.Slot.{Slot}
use Rattle.pm_cars.specs.Cars.{Car, slot_room}
use Rattle.std.proofs.lemmas.List.Sums.{sum_by-cons}
use Rattle.pm_trains.proofs.Order.{agree}
use Rattle.pm_view.specs.Sources.{outside}
use Rattle.pm_view.specs.View.{Cars, Sources, Sets}
use Rattle.pm_law_copies.specs.Storing.{Stored, pick, remembering}
use Rattle.pm_law_copies.proofs.Lists.{nat_turned}
use Rattle.pm_reopen.proofs.RebuildLemmas.Ends.{drop_here}
use Rattle.pm_reopen.specs.Rebuild.Remembering.{with_named, with_remembered, Remember, Adds}

-- ---- several sources after others

pub added_both : (old now new : Sets) (first second : List Stored) → Adds old now second → Adds now new first → Adds old new (first ++ second)
added_both old now new first second one two cars stored is = subst (Remember cars new) (sym (append_assoc first second stored)) (two cars (second ++ stored) (one cars stored is))

pub added_none : (sets : Sets) → Adds sets sets []
added_none sets cars stored is = is

-- ---- one source more

and_false : (a b : Bool) → b ≡ false → (a && b) ≡ false
and_false true b is = is
and_false false b is = refl

module _ (source : RefSource) (to : Addr) where
  more : List Stored → List Stored
  more stored = (source, to) ∷ stored

  -- another car remembers no more
  elsewhere : (stored : List Stored) (n : ℕ) → (to.car == n) ≡ false → remembering ((source, to) ∷ stored) n ≡ remembering stored n
  elsewhere stored n apart = ap (λ b. from_entries (cond b ((source, to.slot) ∷ []) [] ++ flat_map (pick n) stored)) (and_false (outside n source) (to.car == n) apart)

  -- and the car remembers the source
  here : (stored : List Stored) → outside to.car source ≡ true → remembering ((source, to) ∷ stored) to.car ≡ insert (remembering stored to.car) source to.slot
  here stored out = ap (λ b. from_entries (cond b ((source, to.slot) ∷ []) [] ++ flat_map (pick to.car) stored)) (λ i. out i && agree to.car to.car refl i)

  module _ (out : outside to.car source ≡ true) (cars : Cars) (stored : List Stored) (old new : Sets) (is : Remember cars old stored) (more_sets : new ≡ with_remembered old to.car source to.slot) where
    -- a car that does not stand hears nothing
    no_car : get cars to.car ≡ None → Remember cars new ((source, to) ∷ stored)
    no_car none = record {
      each = λ n.
          ap (λ (m : Sets). get m n) sets ∙ is.each n ∙ elim (to.car == n) as (λ b. (to.car == n) ≡ b → option_map (λ _. remembering stored n) (get cars n) ≡ option_map (λ _. remembering ((source, to) ∷ stored) n) (get cars n)) [
            | true ↦ λ same.
                let gone : get cars n ≡ None = ap (get cars) (sym (eqb-true to.car n same)) ∙ none in
                ap (option_map (λ _. remembering stored n)) gone ∙ sym (ap (option_map (λ _. remembering ((source, to) ∷ stored) n)) gone)
            | false ↦ λ apart. ap (λ (set : Sources). option_map (λ _. set) (get cars n)) (sym (elsewhere stored n apart))
          ] refl;
    }
      where
        no_set : get old to.car ≡ None
        no_set = is.each to.car ∙ ap (option_map (λ _. remembering stored to.car)) none

        sets : new ≡ old
        sets = more_sets ∙ ap (λ (o : Option Sources). with_named old to.car o source to.slot) no_set

    -- one that stands remembers the source
    a_car : (car : Car) → get cars to.car ≡ Some car → Remember cars new ((source, to) ∷ stored)
    a_car car some = record {
      each = λ n.
          ap (λ (m : Sets). get m n) sets ∙ get-insert nat_cmp_total old to.car (remembering ((source, to) ∷ stored) to.car) n ∙ ap (λ b. cond b (Some (remembering ((source, to) ∷ stored) to.car)) (get old n)) (sym (nat_turned to.car n))
          ∙ elim (to.car == n) as (λ b. (to.car == n) ≡ b → cond b (Some (remembering ((source, to) ∷ stored) to.car)) (get old n) ≡ option_map (λ _. remembering ((source, to) ∷ stored) n) (get cars n)) [
            | true ↦ λ same. sym (ap (option_map (λ _. remembering ((source, to) ∷ stored) n)) (ap (get cars) (sym (eqb-true to.car n same)) ∙ some) ∙ ap (λ (m : ℕ). Some (remembering ((source, to) ∷ stored) m)) (sym (eqb-true to.car n same)))
            | false ↦ λ apart. is.each n ∙ ap (λ (set : Sources). option_map (λ _. set) (get cars n)) (sym (elsewhere stored n apart))
          ] refl;
    }
      where
        set : get old to.car ≡ Some (remembering stored to.car)
        set = is.each to.car ∙ ap (option_map (λ _. remembering stored to.car)) some

        sets : new ≡ insert old to.car (remembering ((source, to) ∷ stored) to.car)
        sets = more_sets ∙ ap (λ (o : Option Sources). with_named old to.car o source to.slot) set ∙ ap (insert old to.car) (sym (here stored out))

    pub told_more : Remember cars new ((source, to) ∷ stored)
    told_more = by_car (get cars to.car) refl
      where
        by_car : (o : Option Car) → get cars to.car ≡ o → Remember cars new ((source, to) ∷ stored)
        by_car None none = no_car none
        by_car (Some car) some = a_car car some

-- ---- the room of a slot

-- a slot takes no more room than all together
pub all_small : (es : List (ℕ × Slot)) → sum_by slot_room (map (λ (e : ℕ × Slot). e.1) es) ≤ CAR_BYTES → AllByRecursion (λ (e : ℕ × Slot). slot_room e.1 ≤ CAR_BYTES) es
all_small [] fits = tt
all_small (e ∷ es) fits =
    let sum = sum_by-cons slot_room e.1 (map (λ (e : ℕ × Slot). e.1) es) in
    (omega (arith, sum, fits), all_small es (omega (arith, sum, fits)))

-- ---- roots from the end

pub root_here : {X : Type 0} (es : List X) (left : ℕ) (x : X) → 0 < left → slice_get es (left - 1) ≡ Some x → drop (left - 1) es ≡ x ∷ drop left es
root_here es left x some is =
    let back : left - 1 + 1 ≡ left = omega arith in
    drop_here es (left - 1) x (slice_get_within es (left - 1) x is) (sym (get_or_from_slice_get es (left - 1) x x is)) ∙ ap (λ (k : ℕ). x ∷ drop k es) back
