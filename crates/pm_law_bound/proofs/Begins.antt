-- A watch begins with its bound.
use Rattle.std.proofs.Common.{◌≡◌, inl, inr, ℕ, ◌+◌, ◌-◌, ◌*◌, ◌<◌, ◌≤◌, ◌==◌, ◌⊎◌, nat_le, Bool, true, false, cond, if◌then◌else◌, unwrap_or, Some, refl, ap, sym, subst, List, [], ◌∷◌, length, take, arith}
use Rattle.std.specs.List.{sum_by}
use Rattle.std.proofs.lemmas.Bool.{eq-eqb, cond-true}
use Rattle.std.proofs.lemmas.List.{take_all}
use Rattle.std.proofs.lemmas.List.Sums.{sum_by-cons}
use Rattle.std.proofs.lemmas.Nat.{mul-le}
use Rattle.std.proofs.Math.Nat.{mul-le-mul_right}
use Rattle.pm_types.specs.declared.entry.Entry.{Entry}
use Rattle.pm_trains.specs.declared.trains.TheConstants.{BIRTHS}
use Rattle.pm_trains.specs.Trains.{Train, cars_at, youngest}
use Rattle.pm_model.specs.World.{World}
use Rattle.pm_model.specs.Journal.{after}
use Rattle.pm_view.specs.View.{SpaceView}
use Rattle.pm_view.specs.Reading.{cars_of}
use Rattle.pm_view.specs.Counts.{standing_in, standing_of, standing, old_in, old}
use Rattle.pm_view.specs.Law.{HeapLaw}
use Rattle.pm_view.specs.Represents.{Represents}
use Rattle.pm_view.specs.Watches.{objects_in, watch_in}
use Rattle.pm_view.specs.Ranking.{Fits, taking, up_to, rank_of, rank}
use Rattle.pm_view.specs.Sinking.{Sunk, IsLost}
use Rattle.pm_view.specs.Bounded.{KeepsBound}
use Rattle.pm_law_course.proofs.CountLemmas.Watched.{objects_noted, bound_noted}
use Rattle.pm_law_bound.proofs.RankLemmas.Bounds.{rank_below}
use Rattle.pm_law_bound.proofs.SunkLemmas.Lost.{lost_sunk}

-- no more stand in some trains than in all
old_few : (view : SpaceView) (n : ℕ) (ts : List Train) → old_in view n ts ≤ sum_by (standing_of view) ts
old_few view n [] = omega arith
old_few view n (t ∷ ts) = by_case (nat_le t.number n) (old_few view n ts)
  where
    by_case : (b : Bool) → old_in view n ts ≤ sum_by (standing_of view) ts → cond b (standing_of view t) 0 + old_in view n ts ≤ sum_by (standing_of view) (t ∷ ts)
    by_case true rest = let all = sum_by-cons (standing_of view) t ts in omega (arith, all, rest)
    by_case false rest = let all = sum_by-cons (standing_of view) t ts in omega (arith, all, rest)

pub old_at_most : (view : SpaceView) (n : ℕ) → old view n ≤ standing view
old_at_most view n = old_few view n view.trains.trains

-- no more trains are numbered up to one than there are
few_up_to : (n : ℕ) (ts : List Train) → length (up_to n ts) ≤ length ts
few_up_to n [] = omega arith
few_up_to n (t ∷ ts) = by_case (nat_le t.number n) (few_up_to n ts)
  where
    by_case : (b : Bool) → length (up_to n ts) ≤ length ts → length (cond b (t ∷ up_to n ts) (up_to n ts)) ≤ length (t ∷ ts)
    by_case true rest = omega (arith, rest)
    by_case false rest = omega (arith, rest)

module _ (start : World) (journal : List Entry) (view : SpaceView) (law : HeapLaw view) (stands : Represents view (after start journal)) where
  abbrev last : ℕ
  last = youngest view.trains.trains

  abbrev objects : ℕ
  objects = (watch_in view (length journal)).objects

  begins_fitting : Fits view last objects
  begins_fitting = record {
    given = omega arith;
    few =
        let few = old_at_most view last in
        let noted = objects_noted view law (length journal) in
        let takes : taking view last ≡ BIRTHS - view.trains.births = cond-true _ _ _ (eq-eqb last last refl) in
        omega (arith, few, noted, takes);
  }

  -- the rank is below the bound, since no more trains count than stand
  begins_below : (rank view last objects ≡ 0) ⊎ (view.completed - view.completed + rank view last objects < (watch_in view (length journal)).bound)
  begins_below = by_trains (up_to last view.trains.trains) refl
    where
      by_trains : (ts : List Train) → up_to last view.trains.trains ≡ ts → (rank view last objects ≡ 0) ⊎ (view.completed - view.completed + rank view last objects < (watch_in view (length journal)).bound)
      by_trains [] is = inl (ap (rank_of view objects) is)
      by_trains (t ∷ ts) is =
          let some : 0 < length (up_to last view.trains.trains) = let long = ap length is in omega (arith, long) in
          let below = rank_below view law last objects begins_fitting some in
          let many = mul-le-mul_right ((objects + 2) * (objects + 2)) (few_up_to last view.trains.trains) in
          let bound = bound_noted view law (length journal) in
          inr (omega (arith, below, many, bound))

  -- the world at the journal's end is that behind all of its entries
  stood_then : Represents view (after start (take (length journal) journal))
  stood_then = subst (λ entries. Represents view (after start entries)) (sym (take_all (length journal) journal (omega arith))) stands

  pub begins_bounded : KeepsBound start journal view (watch_in view (length journal))
  begins_bounded = record {
    noted = omega arith;
    since = omega arith;
    set = record { view = view; lawful = law; stood = stood_then; is = refl };
    fits = begins_fitting;
    falls = begins_below;
    sunk = subst (λ entries. Sunk view (IsLost (after start entries)) last) (sym (take_all (length journal) journal (omega arith))) (lost_sunk view (after start journal) law stands);
  }

-- the cars of one train have no more objects that stand than all
cars_few : (view : SpaceView) (n : ℕ) (ts : List Train) → sum_by (standing_in view) (cars_of ts n) ≤ sum_by (standing_of view) ts
cars_few view n [] = omega arith
cars_few view n (t ∷ ts) = by_number (t.number == n) (cars_few view n ts)
  where
    by_number : (b : Bool) → sum_by (standing_in view) (cars_of ts n) ≤ sum_by (standing_of view) ts → sum_by (standing_in view) (unwrap_or (if b then Some t.cars else cars_at ts n) []) ≤ sum_by (standing_of view) (t ∷ ts)
    by_number true rest = let all = sum_by-cons (standing_of view) t ts in omega (arith, all)
    by_number false rest = let all = sum_by-cons (standing_of view) t ts in omega (arith, all, rest)

-- A train stands, and as many objects stand or can be born in the open train as may be born in one: so no bound is less
-- than that of one train of so many objects.
pub bound_least : (view : SpaceView) (law : HeapLaw view) (position : ℕ) → 1052676 ≤ (watch_in view position).bound
bound_least view law position =
    let born = law.built.births in
    let few = cars_few view (youngest view.trains.trains) view.trains.trains in
    let noted = objects_noted view law position in
    let many : 1026 ≤ objects_in view + 2 = omega (arith, born, few, noted) in
    let square = mul-le 1026 1026 (objects_in view + 2) (objects_in view + 2) many many in
    let all = mul-le 1 1052676 (length view.trains.trains) ((objects_in view + 2) * (objects_in view + 2)) law.built.trains.standing square in
    let bound = bound_noted view law position in
    omega (arith, all, bound)
