-- All watches keep their bounds, and what is told of them is as their bounds say.
use Rattle.std.proofs.Common.{◌≡◌, ℕ, ◌+◌, ◌≤◌, List, [], ◌∷◌, ◌++◌, length, map, sym, subst, arith}
use Rattle.std.specs.List.{AllByRecursion, AllZip}
use Rattle.pm_types.specs.declared.entry.Entry.{Entry}
use Rattle.pm_types.specs.declared.event.Watch.{Watch}
use Rattle.pm_types.specs.declared.event.WatchLine.{WatchLine}
use Rattle.pm_model.specs.World.{World}
use Rattle.pm_model.specs.Journal.{after}
use Rattle.pm_view.specs.View.{SpaceView}
use Rattle.pm_view.specs.Law.{HeapLaw}
use Rattle.pm_view.specs.Represents.{Represents}
use Rattle.pm_view.specs.Watches.{lines_from, watch_in}
use Rattle.pm_view.specs.Bounded.{KeepsRank, KeepsSunk, CountsOne, KeepsWatches, KeepsBound, EndsLost, IsHonest}
use Rattle.pm_law_bound.proofs.Begins.{begins_bounded, bound_least}
use Rattle.pm_law_bound.proofs.Stays.{stays_bounded}
use Rattle.pm_law_bound.proofs.Reached.{ends_lost, line_honest}

pub all_stay : (start : World) (journal more : List Entry) (old new : SpaceView) (watches : List Watch) → AllByRecursion (KeepsBound start journal old) watches → KeepsRank old new → KeepsSunk old new → CountsOne old new
    → AllByRecursion (KeepsBound start (journal ++ more) new) watches
all_stay start journal more old new [] are ranks sinks counts = tt
all_stay start journal more old new (watch ∷ watches) are ranks sinks counts =
    (stays_bounded start journal more old new watch are.0 ranks sinks counts, all_stay start journal more old new watches are.1 ranks sinks counts)

-- the same space keeps what it has
same_rank : (view : SpaceView) → KeepsRank view view
same_rank view = record {
  fits = λ number objects fits. fits;
  no_more = λ number objects fits. omega arith;
  falls = λ number objects fits rose. absurd (omega (arith, rose));
}

same_sunk : (view : SpaceView) → KeepsSunk view view
same_sunk view = record { every = λ test number sunk. sunk; lost = λ world number sunk. sunk }

pub kept_still : (old new : SpaceView) → new ≡ old → KeepsWatches old new
kept_still old new same = subst (KeepsWatches old) (sym same) (record { rank = same_rank old; sunk = same_sunk old; counts = (omega arith, omega arith) })

all_stay_still : (start : World) (journal more : List Entry) (view : SpaceView) (watches : List Watch) → AllByRecursion (KeepsBound start journal view) watches → AllByRecursion (KeepsBound start (journal ++ more) view) watches
all_stay_still start journal more view watches are = all_stay start journal more view view watches are (same_rank view) (same_sunk view) (omega arith, omega arith)

with_one : {X : Type 0} (P : X → Type 0) (xs : List X) (x : X) → AllByRecursion P xs → P x → AllByRecursion P (xs ++ x ∷ [])
with_one P [] x are is = (is, tt)
with_one P (y ∷ ys) x are is = (are.0, with_one P ys x are.1 is)

pub all_with_one : (start : World) (journal more : List Entry) (view : SpaceView) (watches : List Watch) → HeapLaw view → Represents view (after start journal) → AllByRecursion (KeepsBound start journal view) watches
    → AllByRecursion (KeepsBound start (journal ++ more) view) (watches ++ watch_in view (length journal) ∷ [])
all_with_one start journal more view watches law stands are =
    all_stay_still start journal more view (watches ++ watch_in view (length journal) ∷ [])
    (with_one (KeepsBound start journal view) watches (watch_in view (length journal)) are (begins_bounded start journal view law stands))

pub all_honest : (start : World) (journal : List Entry) (view : SpaceView) (number : ℕ) (watches : List Watch) → HeapLaw view → AllByRecursion (KeepsBound start journal view) watches → AllByRecursion IsHonest (lines_from view number watches)
all_honest start journal view number [] law are = tt
all_honest start journal view number (watch ∷ watches) law are = (line_honest start journal view watch law are.0 number, all_honest start journal view (number + 1) watches law are.1)

pub all_end : (start : World) (journal : List Entry) (view : SpaceView) (number : ℕ) (watches : List Watch) → HeapLaw view → AllByRecursion (KeepsBound start journal view) watches
    → AllZip (EndsLost start journal view) (lines_from view number watches) (map (λ (watch : Watch). watch.position) watches)
all_end start journal view number [] law are = tt
all_end start journal view number (watch ∷ watches) law are = (ends_lost start journal view watch law are.0 number, all_end start journal view (number + 1) watches law are.1)

-- no bound is less than that of one train of 1,024 objects
pub all_least : (start : World) (journal : List Entry) (view : SpaceView) (number : ℕ) (watches : List Watch) → AllByRecursion (KeepsBound start journal view) watches
    → AllByRecursion (λ (line : WatchLine). 1052676 ≤ line.bound) (lines_from view number watches)
all_least start journal view number [] are = tt
all_least start journal view number (watch ∷ watches) are =
    (subst (λ (it : Watch). 1052676 ≤ it.bound) (sym are.0.set.is) (bound_least are.0.set.view are.0.set.lawful watch.position), all_least start journal view (number + 1) watches are.1)
