-- What parts of a conversation do to engine and disk, one behind another.
use Rattle.std.proofs.Common.{◌≡◌, ⊎_elim, inl, ℕ, true, false, List, Option, Some, None, Result, Ok, Err, ap, sym, subst, ◌∙◌}
use Rattle.std.specs.List.{Contains}
use Rattle.std.specs.Option.{IsSome, is_some}
use Rattle.pm_types.specs.declared.fault.EngineFault.{EngineFault}
use Rattle.pm_types.specs.declared.fault.EngineFault.TheVariants.{Memory as NoRoom, Disk, Reopen}
use Rattle.pm_disk.specs.declared.disk.Disk.{Ghosts}
use Rattle.pm_disk.specs.Disk.{LeavesOnly}
use Rattle.pm_disk.proofs.RunLemmas.{joined, weaker}
use Rattle.pm_model.specs.World.{Copy}
use Rattle.pm_model.specs.Journal.{IsLegal, chain}
use Rattle.pm_saving.specs.Serving.{Serving, opening, world}
use Rattle.pm_saving.specs.Images.{IsLast, IsOfChain, IsOfRun, IsSettledCopy, IsTold}
use Rattle.pm_engine.specs.declared.engine.Engine.{Engine}
use Rattle.pm_engine.specs.Shown.{KeepsStart, disk_in, opened_disk, serving}
use Rattle.pm_engine.specs.declared.events.stop.Stop.{Stop}
use Rattle.pm_engine.specs.declared.events.stop.Stop.TheVariants.{Memory, Writing, Device}
use Rattle.pm_engine.specs.Events.Causes.{CountsDisk, stop_after}
use Rattle.pm_engine.specs.Events.Events.{EngineGoesOn}
use Rattle.pm_engine.specs.Events.Running.{IsFresh, RunsOnDisk}
use Rattle.pm_engine.proofs.EventsLemmas.Going.{goes_first}
use Rattle.pm_talk.specs.Going.{TalkGoesOn, halt_after}

not_stopped : (it : Serving) → it.stopped ≡ None → IsSome it.stopped → ⊥
not_stopped it none some = let never : false ≡ true = sym (ap is_some none) ∙ some in cc never

-- while no call has answered that the disk failed an image is of the chain, and stays so
stays_of_run : (old new : Serving) → old.stopped ≡ None → ((kept : ℕ × Copy) → Contains (chain (opening old) old.journal) kept → Contains (chain (opening new) new.journal) kept) → (left : List ℕ) → IsOfRun old left → IsOfRun new left
stays_of_run old new none grows left of = ⊎_elim (λ (kept : IsOfChain (opening old) old.journal left). inl (kept.0, grows kept.0 kept.1, kept.2)) (λ begun. absurd (not_stopped old none begun.0)) of

keeps_start_then : {D F : Type 0} {g : Ghosts D} (old mid new : Engine D F g) → KeepsStart old mid → KeepsStart mid new → KeepsStart old new
keeps_start_then old mid new one two = record {
  opening = record { number = two.opening.number ∙ one.opening.number; opened = two.opening.opened ∙ one.opening.opened };
  disk = two.disk ∙ one.disk;
  count = two.count ∙ one.count;
  chooser = two.chooser ∙ one.chooser;
}

counts_disk_then : (stop : Option Stop) (before mid end : ℕ) → mid ≡ before → CountsDisk stop mid end → CountsDisk stop before end
counts_disk_then stop before mid end same cause = subst (λ (n : ℕ). CountsDisk stop n end) same cause

module _ {D : Type 0} {F : Type 0} {g : Ghosts D} where
  told_at : (old new : Engine D F g) → KeepsStart old new → IsTold (g.contents (opened_disk old)) → IsTold (g.contents (opened_disk new))
  told_at old new start told = subst (λ (d : D). IsTold (g.contents d)) (sym start.disk) told

  -- what an engine does, where entries stay
  pub talk_goes : (old new : Engine D F g) → EngineGoesOn old new None → TalkGoesOn old new None
  talk_goes old new goes = record { start = goes.start; grows = goes.grows; leaves = goes.leaves; last = λ of. absurd of; going = goes.going; cause = goes.cause; past = goes.past; idle = goes.idle }

  -- where memory ran out the conversation goes on
  pub talk_short : (old new : Engine D F g) → EngineGoesOn old new (Some (Memory _)) → TalkGoesOn old new None
  talk_short old new goes = record { start = goes.start; grows = goes.grows; leaves = goes.leaves; last = λ of. absurd of; going = goes.going; cause = goes.cause; past = goes.past; idle = goes.idle }

  talk_device : (old new : Engine D F g) → EngineGoesOn old new (Some Device) → TalkGoesOn old new (Some Device)
  talk_device old new goes = record { start = goes.start; grows = goes.grows; leaves = goes.leaves; last = goes.last; going = goes.going; cause = goes.cause; past = goes.past; idle = goes.idle }

  -- what a call of the engine does
  pub talk_called : {T : Type 0} (old new : Engine D F g) (result : Result T EngineFault) → EngineGoesOn old new (stop_after result) → TalkGoesOn old new (halt_after result)
  talk_called old new (Ok x) goes = talk_goes old new goes
  talk_called old new (Err (NoRoom _)) goes = talk_short old new goes
  talk_called old new (Err (Disk before after)) goes = talk_device old new goes
  talk_called old new (Err (Reopen count)) goes = talk_device old new goes

  -- nothing was done yet
  pub talk_first : (old : Engine D F g) → (serving old).stopped ≡ None → IsLegal (opening (serving old)) (serving old).journal
      → (IsTold (g.contents (opened_disk old)) → (left : List ℕ) → g.image (disk_in old) left → IsSettledCopy (world (serving old)) left)
      → ((left : List ℕ) → g.since (disk_in old) (g.moment (disk_in old)) left → g.image (disk_in old) left) → TalkGoesOn old old None
  talk_first old none legal settled now = talk_goes old old (goes_first old none legal settled now)

  -- nothing was done but what is not served, as room that was made, or entries that were let go
  pub talk_still : (old new : Engine D F g) → KeepsStart old new → serving new ≡ serving old → disk_in new ≡ disk_in old → (serving old).stopped ≡ None → IsLegal (opening (serving old)) (serving old).journal
      → (IsTold (g.contents (opened_disk old)) → (left : List ℕ) → g.image (disk_in old) left → IsSettledCopy (world (serving old)) left)
      → ((left : List ℕ) → g.since (disk_in old) (g.moment (disk_in old)) left → g.image (disk_in old) left) → TalkGoesOn old new None
  talk_still old new start same disk none legal settled now =
      let first = talk_first old none legal settled now in
      record {
        start = start;
        grows = λ kept there. subst (λ (it : Serving). Contains (chain (opening it) it.journal) kept) (sym same) there;
        leaves = λ told. subst (λ (both : D × Serving). LeavesOnly g.moment g.since (disk_in old) both.0 (IsOfRun both.1)) (λ i. (sym disk i, sym same i)) (first.leaves told);
        last = λ of. absurd of;
        going = λ _. ap (λ (it : Serving). it.stopped) same ∙ none;
        cause = ap g.count disk;
        past = ap (λ (d : D). (g.made d).past) disk;
        idle = λ empty. record { none = sym (ap (λ (it : Serving). it.journal) same) ∙ empty; still = λ is. ap (λ (it : Serving). it.saving.progress) same ∙ is; disk = λ _. disk };
      }

  -- one part behind another
  pub talk_then : (old mid new : Engine D F g) (stop : Option Stop) → TalkGoesOn old mid None → TalkGoesOn mid new stop → TalkGoesOn old new stop
  talk_then old mid new stop one two = record {
    start = keeps_start_then old mid new one.start two.start;
    grows = λ kept there. two.grows kept (one.grows kept there);
    leaves = λ told.
        joined g.moment g.since (disk_in old) (disk_in mid) (disk_in new) (IsOfRun (serving new))
        (weaker g.moment g.since (disk_in old) (disk_in mid) (IsOfRun (serving mid)) (IsOfRun (serving new)) (one.leaves told) (stays_of_run (serving mid) (serving new) (one.going (λ of. of)) two.grows))
        (two.leaves (told_at old mid one.start told));
    last = λ of told. two.last of (told_at old mid one.start told);
    going = two.going;
    cause = counts_disk_then stop (g.count (disk_in old)) (g.count (disk_in mid)) (g.count (disk_in new)) one.cause two.cause;
    past = two.past ∙ one.past;
    idle = λ none.
        let second = two.idle none in
        let first = one.idle second.none in
        record { none = first.none; still = λ is. second.still (first.still is); disk = λ is. second.disk (first.still is) ∙ first.disk is };
  }

  last_of : (old new : Engine D F g) (stop : Option Stop) → TalkGoesOn old new stop
      → ((serving new).stopped ≡ None → IsTold (g.contents (opened_disk new)) → (left : List ℕ) → g.image (disk_in new) left → IsSettledCopy (world (serving new)) left)
      → IsTold (g.contents (opened_disk old)) → (left : List ℕ) → g.image (disk_in new) left → IsLast (serving new) left
  last_of old new None goes law told left here = inl (law (goes.going (λ of. of)) (told_at old new goes.start told) left here)
  last_of old new (Some (Memory _)) goes law told left here = inl (law (goes.going (λ of. of)) (told_at old new goes.start told) left here)
  last_of old new (Some Writing) goes law told left here = inl (law (goes.going (λ of. of)) (told_at old new goes.start told) left here)
  last_of old new (Some Device) goes law told left here = goes.last tt told left here

  -- a whole conversation
  pub talk_runs : (old new : Engine D F g) (stop : Option Stop) → IsFresh (serving old) → TalkGoesOn old new stop
      → ((serving new).stopped ≡ None → IsTold (g.contents (opened_disk new)) → (left : List ℕ) → g.image (disk_in new) left → IsSettledCopy (world (serving new)) left)
      → RunsOnDisk old new stop
  talk_runs old new stop fresh goes law = record {
    leaves = goes.leaves;
    last = last_of old new stop goes law;
    going = goes.going;
    cause = goes.cause;
    past = goes.past;
    idle = λ none. (goes.idle none).disk fresh.progress;
  }
