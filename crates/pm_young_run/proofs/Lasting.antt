-- What parts of a run with a nursery do, one behind another.
use Rattle.std.proofs.Common.{◌≡◌, ◌⊎◌, ⊎_elim, ℕ, ◌+◌, ◌≤◌, arith, length, List, Option, Some, None, Result, Ok, Err, OnOk, refl, ap, sym, subst, ◌∙◌}
use Rattle.std.specs.List.{Contains}
use Rattle.pm_types.specs.Memory.{no_memory}
use Rattle.pm_disk.specs.declared.disk.Disk.{Ghosts}
use Rattle.pm_disk.specs.Disk.{LeavesOnly}
use Rattle.pm_model.specs.Journal.{IsLegal, chain}
use Rattle.pm_saving.specs.Serving.{Serving, opening, world}
use Rattle.pm_saving.specs.Images.{IsOfRun, IsSettledCopy, IsTold}
use Rattle.pm_engine.specs.Events.Causes.{IsDone, why}
use Rattle.pm_engine.specs.Events.Running.{IsFresh}
use Rattle.pm_engine.specs.declared.events.stop.Stop.{Stop}
use Rattle.pm_engine.specs.declared.events.stop.Stop.TheVariants.{Memory, Writing}
use Rattle.pm_young.specs.declared.engine.YoungEngine.{YoungEngine}
use Rattle.pm_young.specs.Halts.{stopped_by}
use Rattle.pm_young.specs.Seen.{KeepsStart, disk_in, face, halt_in, opened_disk, room, serving}
use Rattle.pm_young_run.specs.Running.{RunsYoungOnDisk}
use Rattle.pm_young_run.specs.Stepping.{YoungGoesOnRun}
use Rattle.pm_young_run.proofs.Going.{goes_first, goes_short, goes_then, goes_unwritten, last_of}

-- ---- why a run stops

-- what came to its end at the end had done so before
pub was_done : (before after : Option Stop) → (after ≡ before) ⊎ ((before ≡ None) × (after ≡ Some Writing))
    → IsDone after → IsDone before
was_done before after why done = ⊎_elim (λ same. subst IsDone same done) (λ both. absurd (subst IsDone both.1 done)) why

-- what holds where a run came to its end
pub on_done : (P : Type 0) (result : Result (Unit {0}) Stop) → IsDone (why result) → OnOk result P → P
on_done P (Ok x) done p = p
on_done P (Err stop) done p = absurd done

-- ---- parts of a run

module _ {D : Type 0} {F : Type 0} {g : Ghosts D} where
  same_start : (it : YoungEngine D F g) → KeepsStart it it
  same_start it = record {
    opening = record { number = refl; opened = refl };
    disk = refl;
    count = refl;
    chooser = refl;
  }

  keeps_then : (old mid new : YoungEngine D F g) → KeepsStart old mid → KeepsStart mid new → KeepsStart old new
  keeps_then old mid new one two = record {
    opening = record {
      number = two.opening.number ∙ one.opening.number;
      opened = two.opening.opened
          ∙ one.opening.opened;
    };
    disk = two.disk ∙ one.disk;
    count = two.count ∙ one.count;
    chooser = two.chooser ∙ one.chooser;
  }

  -- what stands before: the last acknowledged copy
  abbrev Settled : YoungEngine D F g → Type 0
  Settled it = (serving it).stopped ≡ None → IsTold (g.contents (opened_disk it)) → (left : List ℕ)
      → g.image (disk_in it) left → IsSettledCopy (world (serving it)) left

  abbrev OnlyNow : YoungEngine D F g → Type 0
  OnlyNow it = (left : List ℕ) → g.since (disk_in it) (g.moment (disk_in it)) left → g.image (disk_in it) left

  -- nothing was done yet
  pub run_first : (it : YoungEngine D F g) → halt_in it ≡ None → IsLegal (opening (serving it)) (serving it).journal
      → Settled it → OnlyNow it → YoungGoesOnRun it it None
  run_first it running legal settled now =
      let none : (serving it).stopped ≡ None = ap stopped_by running in
      record { start = same_start it; face = goes_first (face it) none legal (settled none) now; runs = λ _. running }

  pub run_then : (old mid new : YoungEngine D F g) (stop : Option Stop) → YoungGoesOnRun old mid None
      → YoungGoesOnRun mid new stop → YoungGoesOnRun old new stop
  run_then old mid new stop one two = record {
    start = keeps_then old mid new one.start two.start;
    face = goes_then (face old) (face mid) (face new) stop one.face two.face;
    runs = two.runs;
  }

  -- nothing was done but that room was made
  pub run_still : (old new : YoungEngine D F g) → KeepsStart old new → room old ≤ room new → serving new ≡ serving old
      → disk_in new ≡ disk_in old → halt_in new ≡ halt_in old → YoungGoesOnRun old old None
      → YoungGoesOnRun old new None
  run_still old new start within same disk halt first =
      let here = first.face in
      record {
        start = start;
        face = record {
          start = start.opening;
          opened = start.disk;
          room = room_still (room old) (room new) (serving old) (serving new) same within;
          grows = λ kept there. subst (λ (it : Serving). Contains (chain (opening it) it.journal) kept) (sym same)
              there;
          leaves = λ told. subst (λ (both : D × Serving). LeavesOnly g.moment g.since (disk_in old) both.0
              (IsOfRun both.1)) (λ i. (sym disk i, sym same i)) (here.leaves told);
          last = λ of. absurd of;
          going = λ not. ap (λ (it : Serving). it.stopped) same ∙ here.going not;
          cause = ap g.count disk;
          past = ap (λ (d : D). (g.made d).past) disk;
          idle = λ empty. record {
            none = sym (ap (λ (it : Serving). it.journal) same)
                ∙ empty;
            still = λ is. ap (λ (it : Serving). it.saving.progress) same ∙ is;
            disk = λ _. disk;
          };
        };
        runs = λ done. halt ∙ first.runs done;
      }
    where
      room_still : (before after : ℕ) (one two : Serving) → two ≡ one → before ≤ after
          → before + length one.journal ≤ after + length two.journal
      room_still before after one two same within = let long = ap (λ (it : Serving). length it.journal) same in omega
          (arith, long, within)

  -- where the sink fails
  pub run_unwritten : (old new : YoungEngine D F g) → YoungGoesOnRun old new None
      → YoungGoesOnRun old new (Some Writing)
  run_unwritten old new goes = record {
    start = goes.start;
    face = goes_unwritten (face old) (face new) goes.face;
    runs
        = λ done. absurd done;
  }

  -- and where memory ran out before anything was asked
  pub run_short : (old new : YoungEngine D F g) → YoungGoesOnRun old new None
      → YoungGoesOnRun old new (Some (Memory no_memory))
  run_short old new goes = record {
    start = goes.start;
    face = goes_short (face old) (face new) goes.face;
    runs = λ
        done. absurd done;
  }

  -- the end of a run stops it only where nothing else did
  pub run_ended : (old new : YoungEngine D F g) (before after : Option Stop)
      → (after ≡ before) ⊎ ((before ≡ None) × (after ≡ Some Writing)) → YoungGoesOnRun old new before
      → YoungGoesOnRun old new after
  run_ended old new before after why goes =
      ⊎_elim (λ same. subst (YoungGoesOnRun old new) (sym same) goes)
      (λ both. subst (YoungGoesOnRun old new) (sym both.1)
      (run_unwritten old new (subst (YoungGoesOnRun old new) both.0 goes))) why

  -- the whole run
  pub runs_on_disk : (old new : YoungEngine D F g) (stop : Option Stop) → IsFresh (serving old)
      → YoungGoesOnRun old new stop → Settled new → RunsYoungOnDisk old new stop
  runs_on_disk old new stop fresh goes law = record {
    leaves = goes.face.leaves;
    last = last_of (face old) (face new) stop goes.face law;
    going = goes.face.going;
    runs = goes.runs;
    cause = goes.face.cause;
    past = goes.face.past;
    idle = λ none. (goes.face.idle none).disk fresh.progress;
  }
