-- What an engine comes to, as the tally tells it.
use Rattle.std.proofs.Common.{◌≡◌, ℕ, ◌+◌, ◌≤◌, min, List, [], ◌∷◌, length, Option, refl, sym, subst, ◌∙◌, arith}
use Rattle.std.specs.List.{AllByRecursion, AllByRecursion-prop, AllZip}
use Rattle.std.proofs.Math.Nat.{min-eq_left}
use Rattle.std.proofs.Math.Logic.{∥∥₁_elim}
use Rattle.std.proofs.Props.{props}
use Rattle.pm_types.specs.Counts.{greatest_count}
use Rattle.pm_types.specs.declared.event.Watch.{Watch}
use Rattle.pm_types.specs.declared.event.WatchLine.{WatchLine}
use Rattle.pm_types.specs.declared.entry.Entry.{Entry}
use Rattle.pm_disk.specs.declared.disk.Disk as disk
use Rattle.pm_disk.specs.Disk.{IfTold}
use Rattle.pm_model.specs.World.{World}
use Rattle.pm_model.specs.Journal.{watch_places}
use Rattle.pm_view.specs.View.{SpaceView}
use Rattle.pm_view.specs.Counts.{old, standing}
use Rattle.pm_view.specs.Watches.{lines_from}
use Rattle.pm_view.specs.Law.{HeapLaw}
use Rattle.pm_view.specs.Bounded.{EndsLost, IsHonest}
use Rattle.pm_law_course.proofs.CountLemmas.Few.{fewer_than_given}
use Rattle.pm_law_bound.proofs.Begins.{old_at_most}
use Rattle.pm_law_bound.proofs.Many.{all_least}
use Rattle.pm_copies.specs.Opened.{IsOpenedStore}
use Rattle.pm_saving.specs.Bounds.{KeepsBounds}
use Rattle.pm_saving.specs.Serving.{IsServed, Serving, opening, world}
use Rattle.pm_engine.specs.History.{HasHistory}
use Rattle.pm_engine.specs.declared.engine.Engine.{Engine}
use Rattle.pm_engine.specs.declared.unmade.Unmade.{Unmade}
use Rattle.pm_engine.specs.Shown.{Total, opened_disk, serving, tally_in, total_in}
use Rattle.pm_runs.specs.Ends.Tallies.{ComesTo, CountsOld, IsTotalOf, ReachesAtMost}

-- a line for each watch
length_lines : (view : SpaceView) (number : ℕ) (watches : List Watch) → length (lines_from view number watches) ≡ length watches
length_lines view number [] = refl
length_lines view number (watch ∷ watches) = let more = length_lines view (number + 1) watches in omega (arith, more)

lines_done : (view : SpaceView) (number : ℕ) (watches : List Watch) → AllByRecursion (λ (line : WatchLine). line.done ≤ view.completed) (lines_from view number watches)
lines_done view number [] = tt
lines_done view number (watch ∷ watches) = (omega arith, lines_done view (number + 1) watches)

-- What an engine keeps at any moment, of a disk that told this when it was opened.
pub record KeepsAll (told : Option (List ℕ)) (it : Serving) : Type 0 where
  pub served : ∥ IsServed it ∥₁
  pub course : length it.course ≡ length it.journal
  pub watching : (world it).watches ≡ length it.watches
  pub standing : ReachesAtMost (world it) (standing it.view)
  pub lawful : HeapLaw it.view
  pub history : ∥ HasHistory it ∥₁
  pub bounded : ∥ KeepsBounds it ∥₁
  pub store : IfTold told (λ bytes. ∥ IsOpenedStore bytes it.opened ∥₁)
  pub few : it.view.completed ≤ it.steps
  pub gone : AllZip (EndsLost (opening it) it.journal it.view) (lines_from it.view 1 it.watches) (watch_places 0 it.journal)

-- fewer objects stand than identities were given, so that the number is told
number_told : (view : SpaceView) → HeapLaw view → standing view ≡ min (standing view) greatest_count
number_told view law = let fewer = fewer_than_given view law in let last = law.built.next.1 in omega (arith, fewer, last)

-- no more stand in some trains than in all, so their number is told too
old_told : (view : SpaceView) → HeapLaw view → (number : ℕ) (watches : List Watch) → AllZip (CountsOld view) (lines_from view number watches) watches
old_told view law number [] = tt
old_told view law number (watch ∷ watches) =
    let within = old_at_most view watch.youngest in
    let fewer = fewer_than_given view law in
    let last = law.built.next.1 in
    let few : old view watch.youngest ≤ greatest_count = omega (arith, within, fewer, last) in
    (min-eq_left few, old_told view law (number + 1) watches)

least_once : (line : WatchLine) → IsProp (1052676 ≤ line.bound)
least_once line = hlevel props

least_bounds : (it : Serving) → ∥ KeepsBounds it ∥₁ → AllByRecursion (λ (line : WatchLine). 1052676 ≤ line.bound) (lines_from it.view 1 it.watches)
least_bounds it known = ∥∥₁_elim known (AllByRecursion-prop (λ (line : WatchLine). 1052676 ≤ line.bound) least_once _) (λ are. all_least (opening it) it.journal it.view 1 it.watches are)

module _ {D F : Type 0} {d : disk.Ghosts D} where
  -- it is what that engine came to
  pub total_of : (engine : Engine D F d) → KeepsAll (d.contents (opened_disk engine)) (serving engine) → IsTotalOf engine (opening (serving engine)) (serving engine).journal (total_in engine)
  total_of engine kept = let it = serving engine in record {
    began = refl;
    has = refl;
    served = kept.served;
    lawful = kept.lawful;
    history = kept.history;
    bounded = kept.bounded;
    store = kept.store;
    gone = kept.gone;
    is_total = refl;
    counts = sym (number_told it.view kept.lawful);
    counts_old = old_told it.view kept.lawful 1 it.watches;
  }

-- what comes of what an engine serves, with the event that it noted
abbrev pub noting : Serving → Option Unmade → Total
noting it unmade = record (tally_in it) { unmade = unmade }

-- what an engine comes to of which that is said
pub engine_comes : (Of : World → List Entry → Total → Type 0) (told : Option (List ℕ)) (it : Serving) (unmade : Option Unmade) → KeepsAll told it → AllByRecursion IsHonest (tally_in it).lines
    → Of (opening it) it.journal (noting it unmade) → ComesTo Of (opening it) it.journal (noting it unmade)
engine_comes Of told it unmade kept honest of_engine = record {
  of_engine = of_engine;
  course = kept.course;
  journal_is = refl;
  entries = refl;
  watching = length_lines it.view 1 it.watches ∙ sym kept.watching;
  done = lines_done it.view 1 it.watches;
  least = least_bounds it kept.bounded;
  few = kept.few;
  honest = honest;
  standing = subst (ReachesAtMost (world it)) (number_told it.view kept.lawful) kept.standing;
}
