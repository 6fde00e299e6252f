-- What a sweep carries: the young objects that registers reach, or a first part of them.
use Rattle.std.proofs.Common.{◌≡◌, ℕ, ◌+◌, ◌<◌, true, List, [], length, take, get_or, Result, Ok, Err, OnOk, OnErr, refl, sym, subst, ◌∙◌, arith, append-nil}
use Rattle.std.specs.Option.{IsSome}
use Rattle.std.specs.FinMap.{get}
use Rattle.std.specs.List.Sorted.{IsStrictlySortedBy}
use Rattle.std.proofs.Math.Logic.{∥∥₁_map}
use Rattle.std.proofs.lemmas.List.{get_or-take, length-take}
use Rattle.std.proofs.lemmas.Map.Keys.{IsStrictlyIncreasing-from_sorted, below_from_sorted, sorted_from_strictly_increasing}
use native.Mathlib.Decide.{dec_lt}
use Rattle.pm_model.specs.Reachability.{IsReachable}
use Rattle.pm_model.proofs.Reaching.{reachable_next, along}
use Rattle.pm_view.specs.View.{SpaceView}
use Rattle.pm_nursery.specs.Young.{NurseryView, IsHeldYoung, IsNursery}
use Rattle.pm_nursery.specs.Escaping.{IsAscending}
use Rattle.pm_nursery.specs.Sweeping.{among, AreReached, AreYoung}
use Rattle.pm_young.specs.Bringing.{AreFirstReached, BringsIn, CarriesPart, CarriesReached, Enters, EntersPart, HoldsWithin, MayAllComeIn, MayYoungComeIn, StandsApart, StandsWithout}
use Rattle.pm_young.specs.Rows.{ComeByRows}
use Rattle.pm_young.proofs.Admitted.{adds_none}
use Rattle.pm_young.proofs.Listed.{among_here, among_place, among_take}

-- what registers reach is young
pub path_young : (nursery : NurseryView) → IsNursery nursery → (id : ℕ) → IsReachable nursery.objects (IsHeldYoung nursery) id → IsSome (get nursery.objects id)
path_young nursery sound id path =
    along nursery.objects (λ x. IsSome (get nursery.objects x)) (λ from to there holds. sound.closed from to holds) path.0 path.1 id (sound.held path.0 path.2) path.3

module _ (nursery : NurseryView) (ids : List ℕ) (reached : AreReached nursery ids) where
  pub reached_young : IsNursery nursery → AreYoung nursery ids
  reached_young sound id inside = path_young nursery sound id (reached.each id inside)

  -- and so is what it holds
  pub reached_within : HoldsWithin nursery.objects ids
  reached_within from to inside holds = reached.all to (reachable_next nursery.objects (IsHeldYoung nursery) from to (reached.each from inside) holds)

  pub reached_may : (view : SpaceView) → IsNursery nursery → MayYoungComeIn view nursery → MayAllComeIn view ids
  reached_may view sound may id inside = may id (reached_young sound id inside)

  pub reached_apart : (view : SpaceView) → IsNursery nursery → ∥ StandsApart view nursery ∥₁ → ∥ StandsWithout view ids ∥₁
  reached_apart view sound known = ∥∥₁_map known (λ it. record { world = it.world; represents = it.represents; none = λ id inside. it.none id (reached_young sound id inside) })

-- ---- a first part

take_within : (n : ℕ) (ids : List ℕ) (k : ℕ) → k < length (take n ids) → (k < n) × (k < length ids)
take_within n ids k inside = let many = length-take n ids in (grind (arith, many), grind (arith, many))

pub take_ascending : (n : ℕ) (ids : List ℕ) → IsAscending ids → IsAscending (take n ids)
take_ascending n ids up =
    sorted_from_strictly_increasing (take n ids) (λ k inside.
    let both = take_within n ids (k + 1) inside in
    let first : get_or (take n ids) k 0 ≡ get_or ids k 0 = get_or-take n ids k 0 (omega (arith, both.0)) in
    let second : get_or (take n ids) (k + 1) 0 ≡ get_or ids (k + 1) 0 = get_or-take n ids (k + 1) 0 both.0 in
    let below = IsStrictlyIncreasing-from_sorted ids up k both.1 in
    omega (arith, first, second, below))

take_here : (n : ℕ) (ids : List ℕ) (k : ℕ) → k < n → k < length ids → among (take n ids) (get_or ids k 0) ≡ true
take_here n ids k few inside =
    let many = length-take n ids in
    subst (λ x. among (take n ids) x ≡ true) (get_or-take n ids k 0 few) (among_here (take n ids) k (grind (arith, many)))

pub take_before : (n : ℕ) (ids : List ℕ) → IsAscending ids → (id other : ℕ) → among (take n ids) other ≡ true → id < other → among ids id ≡ true → among (take n ids) id ≡ true
take_before n ids up id other there less here =
    let at = among_place (take n ids) other there in
    let both = take_within n ids at.0 at.1 in
    let is : get_or ids at.0 0 ≡ other = sym (get_or-take n ids at.0 0 both.0) ∙ at.2 in
    let place = among_place ids id here in
    subst (λ x. among (take n ids) x ≡ true) place.2
    (by at.0 place.0 (dec_lt place.0 at.0) both.0 both.1 is place.1 place.2)
  where
    by : (j i : ℕ) → Dec (i < j) → j < n → j < length ids → get_or ids j 0 ≡ other → i < length ids → get_or ids i 0 ≡ id → among (take n ids) (get_or ids i 0) ≡ true
    by j i (yes before) few inside is within at = take_here n ids i (omega (arith, before, few)) within
    by j i (no not) few inside is within at = again (dec_lt j i)
      where
        again : Dec (j < i) → among (take n ids) (get_or ids i 0) ≡ true
        again (yes after) = let below = below_from_sorted ids j i 0 up after within in absurd (omega (arith, below, is, at, less))
        again (no nor) = let same : i ≡ j = grind (arith, not, nor) in subst (λ k. among (take n ids) (get_or ids k 0) ≡ true) (sym same) (take_here n ids j few inside)

pub first_part : (nursery : NurseryView) (ids : List ℕ) (n : ℕ) → IsAscending ids → AreReached nursery ids → AreFirstReached nursery (take n ids)
first_part nursery ids n up reached = record {
  ascending = take_ascending n ids up;
  each = λ id inside. reached.each id (among_take n ids id inside);
  before = λ id other there less path. take_before n ids up id other there less (reached.all id path);
}

-- a part of what would have come in entered
pub carries_part : (view after : SpaceView) (nursery : NurseryView) (before later ids : List ℕ) → IsAscending ids → AreReached nursery ids → EntersPart view after before later ids → CarriesPart view nursery before after later
carries_part view after nursery before later ids up reached part = record { ids = take part.0 ids; first = first_part nursery ids part.0 up reached; enters = part.1 }

no_order : IsAscending []
unfolding IsStrictlySortedBy
no_order = tt

-- nothing did
pub carries_none : (view : SpaceView) (nursery : NurseryView) (before : List ℕ) → CarriesPart view nursery before view before
carries_none view nursery before = record {
  ids = [];
  first = record { ascending = no_order; each = λ id never. absurd (cc never); before = λ id other never. absurd (cc never) };
  enters = record { entered = sym (append-nil before); adds = adds_none view view refl };
}

-- ---- whatever is answered

pub carries_if : {A E : Type 0} (r : Result A E) (view after : SpaceView) (nursery : NurseryView) (before later ids : List ℕ) → IsAscending ids → AreReached nursery ids
    → OnOk r (BringsIn view nursery ids after) → OnOk r (ComeByRows view nursery ids after) → OnOk r (Enters view after before later ids) → OnOk r (CarriesReached view nursery before after later)
carries_if (Ok x) view after nursery before later ids up reached brings rows enters = record { ids = ids; ascending = up; reached = reached; brings = brings; rows = rows; enters = enters }
carries_if (Err e) view after nursery before later ids up reached brings rows enters = tt

pub carries_part_if : {A E : Type 0} (r : Result A E) (view after : SpaceView) (nursery : NurseryView) (before later ids : List ℕ) → IsAscending ids → AreReached nursery ids
    → OnErr r (EntersPart view after before later ids) → OnErr r (CarriesPart view nursery before after later)
carries_part_if (Ok x) view after nursery before later ids up reached part = tt
carries_part_if (Err e) view after nursery before later ids up reached part = carries_part view after nursery before later ids up reached part
