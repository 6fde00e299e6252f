-- What a crash may leave while a command is answered, and what has settled then.
use Rattle.std.proofs.Common.{◌≡◌, ◌⊎◌, ⊎_elim, inl, inr, ℕ, Bool, true, false, List, Option, Some, None, IfSome, Result, Ok, Err, refl, sym, ap, subst, ◌∙◌}
use Rattle.std.specs.Option.{IsSome}
use Rattle.pm_types.specs.declared.command.Cmd.{Cmd}
use Rattle.pm_types.specs.declared.command.Cmd.TheVariants.{Save, Settle, Unsave, Watch}
use Rattle.pm_types.specs.declared.fault.EngineFault.{EngineFault}
use Rattle.pm_types.specs.declared.fault.EngineFault.TheVariants.{Disk}
use Rattle.pm_types.specs.declared.reply.Reply.{Reply}
use Rattle.pm_types.specs.declared.reply.Reply.TheVariants.{Saved}
use Rattle.pm_disk.specs.declared.disk.Disk.{Ghosts}
use Rattle.pm_disk.specs.Disk.{IfTold, LeavesOnly}
use Rattle.pm_disk.proofs.RunLemmas.{weaker}
use Rattle.pm_model.specs.World.{World, Copy as Copied}
use Rattle.pm_model.specs.Answer.{answer}
use Rattle.pm_model.specs.Frames.{is_settle}
use Rattle.pm_model.specs.Journal.{after, settled_in, says_saved}
use Rattle.pm_model.proofs.ChainLaws.{after_more, saved}
use Rattle.pm_image.specs.Stands.{StandsForCopy}
use Rattle.pm_view.specs.Commands.{is_act}
use Rattle.pm_saving.specs.Progress.{Progress, cars_or_none, copy_of}
use Rattle.pm_saving.specs.Tied.{HasCopy}
use Rattle.pm_save.specs.Progress.Answers.{Spares}
use Rattle.pm_saving.specs.Serving.{opening, world}
use Rattle.pm_saving.specs.Events.{Serves}
use Rattle.pm_saving.specs.Images.{IsCopyInProgress, IsSettledCopy, IsTold}
use Rattle.pm_law_saving.proofs.ServingLemmas.Kept as law
use Rattle.pm_engine.specs.declared.works.start.Start.{Start}
use Rattle.pm_engine.specs.declared.works.works.Works.{Works}
use Rattle.pm_engine.specs.Works.Working.{Answers, LeavesEither, SettlesCopy, StaysStill, contents_in, disk_at, frozen_in, journal_in, saving_in, state_in}
use Rattle.pm_engine.specs.Works.Seen.{IsCrashSafe, disk_then, seen}
use Rattle.pm_engine.specs.Works.Copies.{MayStand}
use Rattle.pm_engine.proofs.WorksLemmas.Answering.{not_saved}
use Rattle.pm_engine.proofs.WorksLemmas.Asking.{leaves_begun, leaves_settled, saving_is, stored, tells}
use Rattle.pm_engine.proofs.WorksLemmas.Kept.{spares_still}

-- only `settle` settles a copy
never_acts : (world : World) (client : ℕ) (cmd : Cmd) (number : ℕ) → is_act cmd ≡ true → Saved number ≡ (answer world client cmd).0 → ⊥
never_acts world client cmd number act is = let other : says_saved (Saved number) ≡ false = not_saved world client cmd (Saved number) is (law.acts cmd act) in cc other

module _ {D : Type 0} {F : Type 0} {g : Ghosts D} (start : Start D F g) (stopped : Option ℕ) (old : Works D F g) (none : stopped ≡ None) (known : ∥ IsCrashSafe start stopped old ∥₁) (new : Works D F g) where
  -- the last acknowledged copy alone
  pub settled_alone : (cmd : Cmd) (result : Result Reply EngineFault) → Spares g.contents g.moment g.since (state_in old) (disk_at old) (disk_at new) → IsTold (g.contents (disk_then start))
      → LeavesOnly g.moment g.since (disk_at old) (disk_at new) (MayStand cmd (seen start stopped old) result)
  settled_alone cmd result spares first =
      weaker g.moment g.since (disk_at old) (disk_at new) (IsSettledCopy (world (seen start stopped old))) (MayStand cmd (seen start stopped old) result)
      (leaves_settled start stopped old none known new spares first) (λ image is. inl is)

  -- a command was answered
  pub leaves_answered : (cmd : Cmd) (reply : Reply) → ((bytes : List ℕ) → g.since (disk_at old) (g.moment (disk_at old)) bytes → g.image (disk_at old) bytes) → (is_settle cmd ≡ false → StaysStill old new) → (is_settle cmd ≡ true → LeavesEither old new)
      → IsTold (g.contents (disk_then start)) → LeavesOnly g.moment g.since (disk_at old) (disk_at new) (MayStand cmd (seen start stopped old) (Ok reply))
  leaves_answered cmd reply only_now still either first = by (is_settle cmd) refl (saving_in old).progress refl
    where
      fine : (state_in old).failed ≡ false
      fine = (stored start stopped old none known).tied.sound

      by : (b : Bool) → is_settle cmd ≡ b → (progress : Option Progress) → (saving_in old).progress ≡ progress → LeavesOnly g.moment g.since (disk_at old) (disk_at new) (MayStand cmd (seen start stopped old) (Ok reply))
      by false quiet progress is = settled_alone cmd (Ok reply) (spares_still old new only_now (still quiet).disk fine) first
      by true settles None is = settled_alone cmd (Ok reply) (spares_still old new only_now ((either settles).none is) fine) first
      by true settles (Some progress) is =
          weaker g.moment g.since (disk_at old) (disk_at new) (λ image. IsSettledCopy (world (seen start stopped old)) image ⊎ IsCopyInProgress (world (seen start stopped old)) image) (MayStand cmd (seen start stopped old) (Ok reply))
          (leaves_begun start stopped old none known new progress is (either settles).either first)
          (λ image it. ⊎_elim (λ settled. inl settled) (λ begun. inr (settles, tt, begun)) it)

  -- the disk failed
  pub leaves_failed : (cmd : Cmd) (before after : ℕ) → is_settle cmd ≡ true → (progress : Progress) → (saving_in old).progress ≡ Some progress → LeavesEither old new
      → IsTold (g.contents (disk_then start)) → LeavesOnly g.moment g.since (disk_at old) (disk_at new) (MayStand cmd (seen start stopped old) (Err (Disk before after)))
  leaves_failed cmd before after settles progress is either first =
      weaker g.moment g.since (disk_at old) (disk_at new) (λ image. IsSettledCopy (world (seen start stopped old)) image ⊎ IsCopyInProgress (world (seen start stopped old)) image) (MayStand cmd (seen start stopped old) (Err (Disk before after)))
      (leaves_begun start stopped old none known new progress is either.either first)
      (λ image it. ⊎_elim (λ settled. inl settled) (λ begun. inr (settles, tt, begun)) it)

  -- the copy that settled
  module _ (client number : ℕ) where
    acted_never : (cmd : Cmd) → is_act cmd ≡ true → Serves client cmd (seen start None old) (seen start None new) (Saved number) → ⊥
    acted_never cmd act serves = never_acts (world (seen start None old)) client cmd number act serves.reply_is

    pub settles_copy : (cmd : Cmd) → Serves client cmd (seen start None old) (seen start None new) (Saved number) → Answers client cmd old new (Saved number) → SettlesCopy client old new number
    settles_copy Settle serves is = is
    settles_copy Save serves is = absurd is
    settles_copy Unsave serves is = absurd is
    settles_copy Watch serves is = absurd is
    settles_copy cmd serves is = absurd (acted_never cmd refl serves)

    module _ (cmd : Cmd) (serves : Serves client cmd (seen start None old) (seen start None new) (Saved number)) (is : SettlesCopy client old new number) where
      world_is : world (seen start None new) ≡ (answer (world (seen start None old)) client cmd).1
      world_is =
          let w = opening (seen start None old) in
          ap (after w) serves.appends.journal ∙ after_more w (journal_in old) (record { client = client; cmd = cmd; reply = Saved number })

      was : ((world (seen start None old)).saving ≡ Some (settled_in (answer (world (seen start None old)) client cmd).1)) × ((answer (world (seen start None old)) client cmd).1.settled ≡ number) × ((answer (world (seen start None old)) client cmd).1.saving ≡ None)
      was = saved (world (seen start None old)) client number cmd (sym serves.reply_is)

      pub settled_number : (world (seen start None new)).settled ≡ number
      settled_number = ap (λ (w : World). w.settled) world_is ∙ was.1

      settled_copy : (world (seen start None new)).settled_copy ≡ copy_of (cars_or_none (frozen_in old)) is.settles.progress
      settled_copy =
          let same : settled_in (answer (world (seen start None old)) client cmd).1 ≡ (is.settles.progress.number, copy_of (cars_or_none (frozen_in old)) is.settles.progress) =
          cc (was.0, saving_is start stopped old none known is.settles.progress is.settles.is_progress) in
          ap (λ (w : World). w.settled_copy) world_is ∙ ap (λ (kept : ℕ × Copied). kept.1) same

      pub settled_images : IsTold (g.contents (disk_then start)) → (left : List ℕ) → g.image (disk_at new) left → IsSettledCopy (world (seen start None new)) left
      settled_images first left here =
          let told = tells start stopped old none known first in
          let cars = cars_or_none (frozen_in old) in
          let now = subst (λ (o : Option Progress). IfSome o (λ (p : Progress). (bytes : List ℕ) → contents_in old ≡ Some bytes
          → ((left : List ℕ) → g.image (disk_at new) left → StandsForCopy left number (copy_of cars p)) × IfTold (contents_in new) (λ after. HasCopy (state_in new) after (copy_of cars p)))) is.settles.is_progress is.now in
          subst (StandsForCopy left (world (seen start None new)).settled) (sym settled_copy) (subst (λ (n : ℕ). StandsForCopy left n (copy_of cars is.settles.progress)) (sym settled_number) ((now told.0 told.1).0 left here))

-- a copy that is there
pub progress_of : (progress : Option Progress) → IsSome progress → (one : Progress) × (progress ≡ Some one)
progress_of None is = absurd (cc is)
progress_of (Some one) is = (one, refl)
