-- The first car of a train, and the front of the trains.
use Rattle.std.proofs.Common.{◌≡◌, ⊎_elim, ℕ, ◌==◌, true, cond, refl, ap, ◌∙◌, List, [], ◌∷◌, Option, Some, None}
use Rattle.std.specs.Option.{IsSomeAnd, option_and_then, unwrap_or}
use Rattle.std.specs.List.{slice_get}
use Rattle.std.specs.Ordering.{nat_cmp}
use Rattle.std.specs.Cmp.{nat_cmp_total, eq_by_cmp_equiv}
use Rattle.std.specs.FinMap.{FinMap, get, remove, get-remove}
use Rattle.std.proofs.lemmas.Bool.{eq-eqb}
use Rattle.pm_trains.specs.Trains.{Train, is_among, first_car, oldest}
use Rattle.pm_view.specs.declared.phase.Phase.TheVariants.{Sweeping}
use Rattle.pm_view.specs.View.{SpaceView}
use Rattle.pm_view.specs.Reading.{aside_in, is_aside}
use Rattle.pm_view.specs.Law.{IsOldest, IsFront}
use Rattle.pm_law_commands.proofs.RowLemmas.SameSource.{tied_nat}
use Rattle.pm_law_collect.proofs.PhasesLemmas.Small.{some_same, or_left}
use Rattle.pm_law_collect.proofs.PhasesLemmas.Comes.{IsSwept, IsFirstDoomed}

-- a value of a map of numbers once another key was taken out
pub at_remove : {X : Type 0} (m : FinMap nat_cmp X) (k q : ℕ) → get (remove m k) q ≡ cond (k == q) None (get m q)
at_remove m k q = get-remove nat_cmp_total m k q ∙ ap (λ b. cond b None (get m q)) ((eq_by_cmp_equiv nat_cmp_total).symm q k ∙ tied_nat k q)

-- the first car of a train is one of its cars
pub first_among : (cars : Option (List ℕ)) (c : ℕ) → option_and_then (λ cars. slice_get cars 0) cars ≡ Some c → is_among c (unwrap_or cars []) ≡ true
first_among None c is = cc
first_among (Some []) c is = cc
first_among (Some (d ∷ cars)) c is = or_left (d == c) _ (eq-eqb d c (some_same d c is))

pub first_cars : (o : Option (List ℕ)) (c : ℕ) → option_and_then (λ (cars : List ℕ). slice_get cars 0) o ≡ Some c → (rest : List ℕ) × (o ≡ Some (c ∷ rest))
first_cars None c is = cc
first_cars (Some []) c is = cc
first_cars (Some (d ∷ rest)) c is = (rest, ap (λ x. Some (x ∷ rest)) (some_same d c is))

-- a car that is swept is set aside
pub swept_aside : (view : SpaceView) (car : ℕ) → IsSwept view car → is_aside view car ≡ true
swept_aside view car is =
    ⊎_elim
    (λ (at : view.phase ≡ Sweeping car). ap (λ p. aside_in p view.trains.trains car) at ∙ eq-eqb car car refl)
    (λ (at : (train : ℕ) × IsFirstDoomed view train car). ap (λ p. aside_in p view.trains.trains car) at.1.doomed ∙ first_among _ car at.1.first)
    is

-- the front of the trains
pub record IsFrontOf (ts : List Train) (car : ℕ) : Type 0 where
  pub train : ℕ
  pub old : IsOldest ts train
  pub first : first_car ts train ≡ Some car

pub front_of : (ts : List Train) (car : ℕ) → IsFront ts car → IsFrontOf ts car
front_of ts car front = by_oldest (oldest ts) front
  where
    by_oldest : (o : Option ℕ) → IsSomeAnd o (λ n. IsOldest ts n × (first_car ts n ≡ Some car)) → IsFrontOf ts car
    by_oldest None front = absurd front
    by_oldest (Some n) front = record { train = n; old = front.0; first = front.1 }
