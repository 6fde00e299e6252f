-- What parts of a run with a nursery do to engine and disk, one behind another.
use Rattle.std.specs.Prelude.{◌≡◌, ℕ, ◌+◌, ◌≤◌, List, [], Contains, length, Option, None}
use Rattle.pm_disk.specs.declared.disk.Disk.{Ghosts}
use Rattle.pm_disk.specs.Disk.{LeavesOnly}
use Rattle.pm_model.specs.Journal.{chain}
use Rattle.pm_model.specs.World.{Copy}
use Rattle.pm_saving.specs.Serving.{KeepsOpening, opening}
use Rattle.pm_saving.specs.Images.{IsLast, IsOfRun, IsTold}
use Rattle.pm_script.specs.declared.line.Line.{Line}
use Rattle.pm_script.specs.declared.line.Line.TheVariants.{Gc, Flush}
use Rattle.pm_engine.specs.declared.events.stop.Stop.{Stop}
use Rattle.pm_engine.specs.Events.Causes.{CountsDisk, IsDone, IsOfDisk}
use Rattle.pm_engine.specs.Events.Events.{WasIdle}
use Rattle.pm_engine.specs.Works.Clauses.{Face}
use Rattle.pm_young.specs.declared.engine.YoungEngine.{YoungEngine}
use Rattle.pm_young.specs.Seen.{KeepsStart, face, halt_in}
use Rattle.pm_young_run.specs.declared.kind.Kind.{Kind}
use Rattle.pm_young_run.specs.declared.kind.Kind.TheVariants as kinds

-- the line that asks for so many events of a kind
abbrev pub line_of : Kind → ℕ → Line
line_of kinds.Collect count = Gc count
line_of kinds.Flush count = Flush count

-- What a part of a run does to an engine, whichever it is, and to its disk, by why the run stops in it, if it does.
pub record FaceGoesOn {D : Type 0} {g : Ghosts D} (old new : Face g) (stop : Option Stop) : Type 0 where
  pub start : KeepsOpening old.serving new.serving
  pub opened : new.opened ≡ old.opened
  -- each entry takes the room of one
  pub room : old.room + length old.serving.journal ≤ new.room + length new.serving.journal
  -- what was acknowledged stays so
  pub grows : (kept : ℕ × Copy) → Contains (chain (opening old.serving) old.serving.journal) kept
      → Contains (chain (opening new.serving) new.serving.journal) kept
  -- at each moment a crash leaves a copy that was acknowledged; where the disk failed, or the one in progress
  pub leaves : IsTold (g.contents old.opened) → LeavesOnly g.moment g.since old.disk new.disk (IsOfRun new.serving)
  -- where it failed, that is the last acknowledged one, or the one in progress
  pub last : IsOfDisk stop → IsTold (g.contents old.opened) → (left : List ℕ) → g.image new.disk left
      → IsLast new.serving left
  -- the engine is stopped only where the disk failed
  pub going : (IsOfDisk stop → ⊥) → new.serving.stopped ≡ None
  -- whose count of failed calls rose
  pub cause : CountsDisk stop (g.count old.disk) (g.count new.disk)
  -- no read reached past the end of what the disk told
  pub past : (g.made new.disk).past ≡ (g.made old.disk).past
  -- where no command is answered still
  pub idle : new.serving.journal ≡ [] → WasIdle old.serving new.serving old.disk new.disk

module _ {D : Type 0} {F : Type 0} {g : Ghosts D} where
  -- What a part of a run does to an engine with a nursery. Where it does not stop every call is answered still.
  pub record YoungGoesOnRun (old new : YoungEngine D F g) (stop : Option Stop) : Type 0 where
    pub start : KeepsStart old new
    pub face : FaceGoesOn (face old) (face new) stop
    pub runs : IsDone stop → halt_in new ≡ None
