-- What a watch keeps, and what an event or a command leaves of it.
use Rattle.std.specs.Prelude.{◌≡◌, ◌⊎◌, ℕ, ◌+◌, ◌-◌, ◌<◌, ◌≤◌, Bool, List, length, take, Some}
use Rattle.pm_types.specs.declared.address.Addr.{Addr}
use Rattle.pm_types.specs.declared.entry.Entry.{Entry}
use Rattle.pm_types.specs.declared.event.Watch.{Watch}
use Rattle.pm_types.specs.declared.event.WatchLine.{WatchLine}
use Rattle.pm_model.specs.World.{World}
use Rattle.pm_model.specs.Journal.{after}
use Rattle.pm_view.specs.View.{SpaceView}
use Rattle.pm_view.specs.Law.{HeapLaw}
use Rattle.pm_view.specs.Reading.{id_at}
use Rattle.pm_view.specs.Represents.{Represents}
use Rattle.pm_view.specs.Watches.{watch_in}
use Rattle.pm_view.specs.Ranking.{Fits, rank}
use Rattle.pm_view.specs.Sinking.{Sunk, Passes, IsLost}

-- What fits before fits after, and the rank has not risen; where a collection was completed it has fallen, unless it was 0.
pub record KeepsRank (old new : SpaceView) : Type 0 where
  pub fits : (number objects : ℕ) → Fits old number objects → Fits new number objects
  pub no_more : (number objects : ℕ) → Fits old number objects → rank new number objects ≤ rank old number objects
  pub falls : (number objects : ℕ) → Fits old number objects → old.completed < new.completed → (rank old number objects ≡ 0) ⊎ (rank new number objects < rank old number objects)

-- What was sunk stays so: each set that a test tells, and the lost set of each world.
pub record KeepsSunk (old new : SpaceView) : Type 0 where
  pub every : (test : ℕ → Bool) (number : ℕ) → Sunk old (Passes test) number → Sunk new (Passes test) number
  pub lost : (world : World) (number : ℕ) → Sunk old (IsLost world) number → Sunk new (IsLost world) number

-- at most one collection more was completed
abbrev pub CountsOne : SpaceView → SpaceView → Type 0
CountsOne old new = (old.completed ≤ new.completed) × (new.completed ≤ old.completed + 1)

-- What an event or a command leaves of the course of the collections, so that each watch keeps its bound: what fits and the
-- rank, sunk sets, and at most one collection more.
pub record KeepsWatches (old new : SpaceView) : Type 0 where
  pub rank : KeepsRank old new
  pub sunk : KeepsSunk old new
  pub counts : CountsOne old new

-- The watch was set, behind a journal from this world on: it notes what is to be noted of a space of the heap law, which
-- stood for the world behind the entries that the journal had then.
pub record WasSet (start : World) (journal : List Entry) (watch : Watch) : Type 0 where
  pub view : SpaceView
  pub lawful : HeapLaw view
  pub stood : Represents view (after start (take watch.position journal))
  pub is : watch ≡ watch_in view watch.position

-- What a watch keeps, in a space behind a journal from this world on. The journal had so many entries when it was set, and
-- so many collections were completed; its trains fit its objects; the rank is 0, or with the collections since then below
-- its bound; and what the world had lost when it was set is sunk up to the train that was open then.
pub record KeepsBound (start : World) (journal : List Entry) (view : SpaceView) (watch : Watch) : Type 0 where
  pub noted : watch.position ≤ length journal
  pub since : watch.completed ≤ view.completed
  pub set : WasSet start journal watch
  pub fits : Fits view watch.youngest watch.objects
  pub falls : (rank view watch.youngest watch.objects ≡ 0) ⊎ (view.completed - watch.completed + rank view watch.youngest watch.objects < watch.bound)
  pub sunk : Sunk view (IsLost (after start (take watch.position journal))) watch.youngest

-- What is told of a watch is as its bound says: where as many collections were completed since it was set as the bound
-- says, no object stands in a train that stood then.
abbrev pub IsHonest : WatchLine → Type 0
IsHonest line = line.bound ≤ line.done → line.old ≡ 0

-- Where as many collections were completed since a watch was set as its line's bound says, no object that the world had
-- lost when it was set, at this place of the journal, is in any car.
abbrev pub EndsLost : World → List Entry → SpaceView → WatchLine → ℕ → Type 0
EndsLost start journal view line position =
    line.bound ≤ line.done → (a : Addr) (id : ℕ) → IsLost (after start (take position journal)) id → id_at view a ≡ Some id → ⊥
