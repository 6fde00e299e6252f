-- What a call makes that makes an event.
use Rattle.std.proofs.Common.{◌≡◌, ℕ, List, sym, subst, Result, Ok, Err, IfOk, OnErr}
use Rattle.std.specs.Borrow.{Bor}
use Rattle.std.specs.Fn.{Shared}
use Rattle.pm_types.specs.declared.no_memory.NoMemory.{NoMemory}
use Rattle.pm_types.proofs.Lent.{on_err}
use Rattle.pm_types.specs.declared.event.Step.{Step}
use Rattle.pm_view.specs.View.{SpaceView}
use Rattle.pm_view.specs.Law.{HeapLaw}
use Rattle.pm_view.specs.Events.{next_row}
use Rattle.pm_view.specs.Represents.{Represents}
use Rattle.pm_view.specs.Bounded.{KeepsRank, KeepsSunk}
use Rattle.pm_space.specs.declared.parts.Parts.{Parts}
use Rattle.pm_space.specs.Shown.{view, KeepsRest}
use Rattle.pm_evac.specs.Steps.{IsEvent, IsChosenEvent, KeepsWorlds, MovesOneAtMost, LowersWork, AnswersByPhase, MovesOn, TakesMemory, MakesEvent}

-- an event that was made keeps the worlds, places, work, the rank and sunk sets
abbrev pub KeepAllWorlds : Type 0
KeepAllWorlds = (old new : SpaceView) (step : Step) → HeapLaw old → IsEvent old new step → KeepsWorlds old new

abbrev pub KeepPlaces : Type 0
KeepPlaces = (old new : SpaceView) (step : Step) → HeapLaw old → (event : IsEvent old new step) → MovesOneAtMost old new event.picked

abbrev pub LowerWork : Type 0
LowerWork = (old new : SpaceView) (step : Step) → HeapLaw old → IsEvent old new step → LowersWork old new

abbrev pub KeepRanks : Type 0
KeepRanks = (old new : SpaceView) (step : Step) → HeapLaw old → IsEvent old new step → KeepsRank old new

abbrev pub KeepSunkSets : Type 0
KeepSunkSets = (old new : SpaceView) (step : Step) → HeapLaw old → IsEvent old new step → KeepsSunk old new

abbrev pub AnswerByPhase : Type 0
AnswerByPhase = (old new : SpaceView) (step : Step) → HeapLaw old → IsEvent old new step → AnswersByPhase old step

abbrev pub MoveOn : Type 0
MoveOn = (old new : SpaceView) (step : Step) → HeapLaw old → IsEvent old new step → MovesOn old new step

-- where the event that comes next may take memory it may once it was found, by which the parts stay
pub found_takes : {F : Type 0} (was old : Parts F) (r : Result Step NoMemory) → old ≡ was → TakesMemory (next_row (view was)) → OnErr r (TakesMemory (next_row (view old)))
found_takes {F} was old r same takes = on_err r (subst (λ (p : Parts F). TakesMemory (next_row (view p))) (sym same) takes)

module _ {F : Type 0} (calls : Shared F (Bor (List ℕ) × Unit {0}) ℕ) where
  -- what holds before an event and once it was made holds, also after want of memory
  pub holds_after : (choose : F) (old new : SpaceView) (P : SpaceView → Type 0) (r : Result Step NoMemory) → P old → ((after : SpaceView) (step : Step) → IsEvent old after step → P after)
      → IfOk r (λ step. IsChosenEvent calls choose old new step) → OnErr r (new ≡ old) → P new
  holds_after choose old new P (Ok step) was keeps made same = keeps new step made.event
  holds_after choose old new P (Err fault) was keeps made same = subst P (sym same) was

  module _ (old new : Parts F) (law : HeapLaw (view old)) where
    -- what a call says that makes an event
    makes : (r : Result Step NoMemory) → KeepAllWorlds → KeepPlaces → LowerWork → KeepRanks → KeepSunkSets → AnswerByPhase → MoveOn → IfOk r (λ step. IsChosenEvent calls old.place (view old) (view new) step) → OnErr r (view new ≡ view old) → OnErr r (TakesMemory (next_row (view old))) → KeepsRest old new
        → MakesEvent calls old new r
    makes (Ok step) worlds places works ranks sinks answers moves made same short rest = record {
      ok = record { event = made.event; chosen = made.chosen; places = places (view old) (view new) step law made.event; work = works (view old) (view new) step law made.event; rank = ranks (view old) (view new) step law made.event; sunk = sinks (view old) (view new) step law made.event; phase = answers (view old) (view new) step law made.event; progress = moves (view old) (view new) step law made.event };
      worlds = worlds (view old) (view new) step law made.event;
      err = tt;
      short = tt;
      rest = rest;
    }
    makes (Err fault) worlds places works ranks sinks answers moves made same short rest = record {
      ok = tt;
      worlds = λ world was. subst (λ t. Represents t world) (sym same) was;
      err = same;
      short = short;
      rest = rest;
    }

  -- and one that first finds the event, by which the parts stay
  pub makes_found : (was old new : Parts F) → old ≡ was → HeapLaw (view old) → (r : Result Step NoMemory) → KeepAllWorlds → KeepPlaces → LowerWork → KeepRanks → KeepSunkSets → AnswerByPhase → MoveOn → IfOk r (λ step. IsChosenEvent calls old.place (view old) (view new) step)
      → OnErr r (view new ≡ view old) → OnErr r (TakesMemory (next_row (view old))) → KeepsRest old new → MakesEvent calls was new r
  makes_found was old new same law r worlds places works ranks sinks answers moves made err short rest = subst (λ (p : Parts F). MakesEvent calls p new r) same (makes old new law r worlds places works ranks sinks answers moves made err short rest)
