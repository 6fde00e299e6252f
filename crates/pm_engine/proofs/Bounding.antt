-- The watches of an engine keep their bounds through each of its calls.
use Rattle.std.proofs.Common.{◌≡◌, ℕ, ◌<◌, Bool, true, false, cond, List, [], ◌∷◌, ◌++◌, length, Option, None, Result, Ok, Err, IfOk, OnOk, OnErr, sym, ap, subst, ◌∙◌, append-nil, arith}
use Rattle.std.specs.List.{AllByRecursion, AllByRecursion-prop}
use Rattle.std.specs.Borrow.{Bor}
use Rattle.std.specs.Fn.{Shared}
use Rattle.std.proofs.Math.Logic.{∥∥₁_elim, ∥∥₁_map, ∥∥₁_prop}
use Rattle.std.proofs.Props.{props}
use Rattle.pm_types.specs.Counts.{raised}
use Rattle.pm_types.specs.declared.command.Cmd.{Cmd}
use Rattle.pm_types.specs.declared.command.Cmd.TheVariants.{Save, Settle, Unsave, Watch}
use Rattle.pm_types.specs.declared.entry.Entry.{Entry}
use Rattle.pm_types.specs.declared.event.Flushed.{Flushed}
use Rattle.pm_types.specs.declared.event.Step.{Step}
use Rattle.pm_types.specs.declared.event.Watch as kept_watches
use Rattle.pm_types.specs.declared.event.WatchLine.{WatchLine}
use Rattle.pm_types.specs.declared.no_memory.NoMemory.{NoMemory}
use Rattle.pm_types.specs.declared.reply.Reply.{Reply}
use Rattle.pm_types.specs.declared.reply.Reply.TheVariants.{TooManyWatches, Watching}
use Rattle.pm_disk.specs.declared.disk.Disk.{Ghosts}
use Rattle.pm_view.specs.View.{SpaceView}
use Rattle.pm_view.specs.Law.{HeapLaw}
use Rattle.pm_view.specs.Events.{next_row, after, completes}
use Rattle.pm_view.specs.Watches.{lines_from, watch_in}
use Rattle.pm_space.specs.declared.space.Space.{Space}
use Rattle.pm_space.specs.Shown.{view}
use Rattle.pm_law_course.proofs.Completing.{completed_then}
use Rattle.pm_evac.specs.Steps.{IsEvent, IsMade}
use Rattle.pm_view.specs.Bounded.{CountsOne, KeepsBound, KeepsWatches, IsHonest}
use Rattle.pm_law_bound.proofs.Many.{all_stay, all_with_one, all_honest, kept_still}
use Rattle.pm_law_saving.proofs.ServingLemmas.Splitting.{splits_once}
use Rattle.pm_saving.specs.Serving.{IsServed, opening}
use Rattle.pm_saving.specs.Bounds.{KeepsBounds}
use Rattle.pm_engine.specs.declared.works.start.Start.{Start}
use Rattle.pm_engine.specs.declared.works.works.Works.{Works}
use Rattle.pm_engine.specs.Works.Working.{Adds, Answers, CollectsOn, FlushesOn, IsLeft, Rests, SetsWatch, Watches, journal_in, place_in, view_in, watches_in}
use Rattle.pm_engine.specs.Works.Seen.{seen}
use Rattle.pm_engine.specs.Sound.{IsSound}
use Rattle.pm_engine.proofs.Standing.{served_of}
use Rattle.pm_engine.proofs.WorksLemmas.Whole.{more_journal, nothing_journal, same_journal}
use Rattle.pm_engine.proofs.WorksLemmas.Answering.{save_adds, save_view, settle_adds, settle_view, unsave_adds, unsave_view, watch_view}

-- ---- collections that were completed

-- an event completes one at most, by a count that stands still at the greatest number of its width
made_counts : (old new : SpaceView) (step : Step) → old.completed < 18446744073709551616 → IsEvent old new step → CountsOne old new
made_counts old new step small event =
    by_row (completes old (next_row old)) (completed_then old (next_row old) event.picked event.number) (ap (λ (v : SpaceView). v.completed) event.after)
  where
    by_row : (b : Bool) → (after old event.picked event.number (next_row old)).completed ≡ cond b (raised old.completed) old.completed
        → new.completed ≡ (after old event.picked event.number (next_row old)).completed → CountsOne old new
    by_row true rose is = (omega (arith, rose, is, small), omega (arith, rose, is, small))
    by_row false same is = (omega (arith, same, is, small), omega (arith, same, is, small))

-- what an event of the collector leaves
pub made_keeps : {F : Type 0} (old new : SpaceView) (step : Step) (calls : Shared F (Bor (List ℕ) × Unit {0}) ℕ) (choose : F) → old.completed < 18446744073709551616 → IsMade calls choose old new step → KeepsWatches old new
made_keeps old new step calls choose small made = record { rank = made.rank; sunk = made.sunk; counts = made_counts old new step small made.event }

-- what a command leaves
pub kept_of : {D F : Type 0} {g : Ghosts D} (client : ℕ) (cmd : Cmd) (old new : Works D F g) (reply : Reply) → Answers client cmd old new reply → KeepsWatches (view_in old) (view_in new)
kept_of client Save old new reply is = kept_still (view_in old) (view_in new) (save_view client old new reply is)
kept_of client Settle old new reply is = kept_still (view_in old) (view_in new) (settle_view client old new reply is)
kept_of client Unsave old new reply is = kept_still (view_in old) (view_in new) (unsave_view client old new reply is)
kept_of client Watch old new reply is = kept_still (view_in old) (view_in new) (watch_view client old new reply is)
kept_of client cmd old new reply is = is.bound

pub flushed_view : {D F : Type 0} {g : Ghosts D} (old new : Works D F g) (flushed : Flushed) → FlushesOn old new flushed → view_in new ≡ view_in old
flushed_view {D} {F} old new flushed is = ap (λ (space : Space F). view space.parts) is.space

module _ {D : Type 0} {F : Type 0} {g : Ghosts D} (start : Start D F g) (stopped later : Option ℕ) (old new : Works D F g) where
  -- the watches stay, and the journal grows
  go_on : (more : List Entry) → journal_in new ≡ journal_in old ++ more → watches_in new ≡ watches_in old → KeepsWatches (view_in old) (view_in new) → KeepsBounds (seen start stopped old) → KeepsBounds (seen start later new)
  go_on more journal watches kept are =
      let w = opening (seen start stopped old) in
      let P : List Entry × List kept_watches.Watch → Type 0 = λ it. AllByRecursion (KeepsBound w it.0 (view_in new)) it.1 in
      let same : (journal_in old ++ more, watches_in old) ≡ (journal_in new, watches_in new) = (λ i. (sym journal i, sym watches i)) in
      subst P same (all_stay w (journal_in old) more (view_in old) (view_in new) (watches_in old) are kept.rank kept.sunk kept.counts)

  stay : journal_in new ≡ journal_in old → watches_in new ≡ watches_in old → KeepsWatches (view_in old) (view_in new) → KeepsBounds (seen start stopped old) → KeepsBounds (seen start later new)
  stay journal watches kept are = go_on [] (journal ∙ sym (append-nil (journal_in old))) watches kept are

  -- all of it stays
  pub bounds_kept : journal_in new ≡ journal_in old → watches_in new ≡ watches_in old → view_in new ≡ view_in old → ∥ KeepsBounds (seen start stopped old) ∥₁ → ∥ KeepsBounds (seen start later new) ∥₁
  bounds_kept journal watches same known = ∥∥₁_map known (λ are. stay journal watches (kept_still (view_in old) (view_in new) same) are)

  -- nothing was answered
  pub bounds_rested : Rests old new → ∥ KeepsBounds (seen start stopped old) ∥₁ → ∥ KeepsBounds (seen start later new) ∥₁
  bounds_rested rests known = bounds_kept (nothing_journal old new rests.nothing) rests.nothing.watches rests.view known

module _ {D : Type 0} {F : Type 0} {g : Ghosts D} (start : Start D F g) (stopped : Option ℕ) (old new : Works D F g) where
  -- a page was written, or none was left
  pub bounds_flushed : (flushed : Flushed) → FlushesOn old new flushed → ∥ KeepsBounds (seen start stopped old) ∥₁ → ∥ KeepsBounds (seen start stopped new) ∥₁
  bounds_flushed flushed is known = bounds_kept start stopped stopped old new (same_journal old new is.past is.journal) is.watches (flushed_view old new flushed is) known

  -- an event of the collector was made, or none
  pub bounds_tried : (calls : Shared F (Bor (List ℕ) × Unit {0}) ℕ) (r : Result Step NoMemory) → (view_in old).completed < 18446744073709551616 → IfOk r (IsMade calls (place_in old) (view_in old) (view_in new)) → OnOk r (CollectsOn old new)
      → OnErr r (IsLeft old new) → ∥ KeepsBounds (seen start stopped old) ∥₁ → ∥ KeepsBounds (seen start stopped new) ∥₁
  bounds_tried calls (Ok step) small made is left known =
      ∥∥₁_map known (λ are. stay start stopped stopped old new (same_journal old new is.past is.journal) is.watches (made_keeps (view_in old) (view_in new) step calls (place_in old) small made) are)
  bounds_tried calls (Err e) small made is left known = bounds_kept start stopped stopped old new (nothing_journal old new left.nothing) left.nothing.watches left.keeps.view known

  -- ---- commands

  adds_on : (client : ℕ) (cmd : Cmd) (reply : Reply) → Adds client cmd reply old new → KeepsWatches (view_in old) (view_in new) → KeepsBounds (seen start stopped old) → KeepsBounds (seen start stopped new)
  adds_on client cmd reply adds kept are =
      let entry : List Entry = record { client = client; cmd = cmd; reply = reply } ∷ [] in
      go_on start stopped stopped old new entry (more_journal old new entry adds.past adds.journal) adds.watches kept are

  -- one watch more is set, which begins with its bound
  sets_one : (client number : ℕ) → HeapLaw (view_in old) → IsServed (seen start None old) → SetsWatch client old new number → KeepsBounds (seen start stopped old) → KeepsBounds (seen start stopped new)
  sets_one client number law served is are =
      let w = opening (seen start stopped old) in
      let P : List Entry × SpaceView × List kept_watches.Watch → Type 0 = λ it. AllByRecursion (KeepsBound w it.0 it.1) it.2 in
      let more : List Entry = record { client = client; cmd = Watch; reply = Watching number } ∷ [] in
      let same : (journal_in old ++ more, view_in old, watches_in old ++ watch_in (view_in old) (length (journal_in old)) ∷ []) ≡ (journal_in new, view_in new, watches_in new) =
      (λ i. (sym (more_journal old new more is.past is.journal) i, sym is.keeps.view i, sym is.watches i)) in
      subst P same (all_with_one w (journal_in old) more (view_in old) (watches_in old) law served.represents are)

  watches_on : (client : ℕ) (reply : Reply) → HeapLaw (view_in old) → IsServed (seen start None old) → Watches client old new reply → KeepsBounds (seen start stopped old) → KeepsBounds (seen start stopped new)
  watches_on client TooManyWatches law served is are = adds_on client Watch TooManyWatches is.adds (kept_still (view_in old) (view_in new) is.keeps.view) are
  watches_on client (Watching number) law served is are = sets_one client number law served is are
  watches_on client reply law served is are = absurd is

  answers_on : (client : ℕ) (cmd : Cmd) (reply : Reply) → HeapLaw (view_in old) → IsServed (seen start None old) → Answers client cmd old new reply → KeepsBounds (seen start stopped old) → KeepsBounds (seen start stopped new)
  answers_on client Save reply law served is are = adds_on client Save reply (save_adds client old new reply is) (kept_of client Save old new reply is) are
  answers_on client Settle reply law served is are = adds_on client Settle reply (settle_adds client old new reply is) (kept_of client Settle old new reply is) are
  answers_on client Unsave reply law served is are = adds_on client Unsave reply (unsave_adds client old new reply is) (kept_of client Unsave old new reply is) are
  answers_on client Watch reply law served is are = watches_on client reply law served is are
  answers_on client cmd reply law served is are = adds_on client cmd reply is.adds is.bound are

  pub bounds_asked : stopped ≡ None → HeapLaw (view_in old) → ∥ IsSound start stopped old ∥₁ → ∥ KeepsBounds (seen start stopped old) ∥₁ → (client : ℕ) (cmd : Cmd) (reply : Reply) → Answers client cmd old new reply → ∥ KeepsBounds (seen start stopped new) ∥₁
  bounds_asked none law sound known client cmd reply is =
      ∥∥₁_elim (subst (λ (o : Option ℕ). ∥ IsSound start o old ∥₁) none sound) ∥∥₁_prop (λ held. ∥∥₁_map known (λ are. answers_on client cmd reply law (served_of held) is are))

-- ---- what begins, and what is told

pub bounds_begun : {D F : Type 0} {g : Ghosts D} (start : Start D F g) (stopped : Option ℕ) (works : Works D F g) → works.watches.items ≡ [] → ∥ KeepsBounds (seen start stopped works) ∥₁
bounds_begun start stopped works none = ∣ subst (AllByRecursion (KeepsBound (opening (seen start stopped works)) (journal_in works) (view_in works))) (sym none) tt ∣₁

honest_once : (line : WatchLine) → IsProp (IsHonest line)
honest_once line = hlevel props

all_once : (lines : List WatchLine) → IsProp (AllByRecursion IsHonest lines)
all_once lines = AllByRecursion-prop IsHonest honest_once lines

pub told_honest : {D F : Type 0} {g : Ghosts D} (start : Start D F g) (stopped : Option ℕ) (works : Works D F g) → ∥ KeepsBounds (seen start stopped works) ∥₁ → (lines : List WatchLine) → lines ≡ lines_from (view_in works) 1 (watches_in works) → AllByRecursion IsHonest lines
told_honest start stopped works known lines is =
    subst (AllByRecursion IsHonest) (sym is)
    (splits_once (all_once _) (∥∥₁_map known (λ are. all_honest (opening (seen start stopped works)) (journal_in works) (view_in works) 1 (watches_in works) works.space.kept are)))
