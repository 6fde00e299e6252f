-- What an engine's type keeps goes on through its calls, and what is told of it.
use Rattle.std.proofs.Common.{◌≡◌, ◌⊎◌, ⊎_elim, inl, inr, ℕ, ◌≤◌, List, [], ◌∷◌, Option, Some, None, option_map, refl, sym, ap, subst, ◌∙◌}
use Rattle.std.specs.Coded.{Coded-set, coded×, coded_ℕ, coded_option}
use Rattle.std.proofs.Math.Logic.{∥∥₁_elim, ∥∥₁_map}
use mathlib.Core.HLevel.{⊥_prop}
use Rattle.std.proofs.Props.{props}
use Rattle.pm_types.specs.declared.command.Cmd.{Cmd}
use Rattle.pm_types.specs.declared.reply.Reply.{Reply}
use Rattle.pm_types.specs.contracts.reply.Reply as reply_type
use Rattle.pm_disk.specs.declared.disk.Disk.{Ghosts}
use Rattle.pm_disk.specs.Disk.{LeavesOnly}
use Rattle.pm_disk.proofs.RunLemmas.{weaker}
use Rattle.pm_model.specs.World.{World, Copy, begin, copy_code}
use Rattle.pm_model.specs.Closed.{IsClosed}
use Rattle.pm_model.specs.Answer.{answer}
use Rattle.pm_image.specs.Stands.{StandsForCopy}
use Rattle.pm_copies.specs.Listed.{copy_in}
use Rattle.pm_saving.specs.Progress.{Progress, cars_or_none, copy_of}
use Rattle.pm_save.specs.Progress.Answers.{Spares, TellsOn}
use Rattle.pm_save.specs.Writer.Settling.{SparesEither}
use Rattle.pm_saving.specs.Serving.{KeepsJournal, Serving, numbered_copy, opening, world}
use Rattle.pm_saving.specs.Events.{Serves}
use Rattle.pm_saving.specs.Images.{IsCopyInProgress, IsSettledCopy, IsStored, IsTold, KeepsImages}
use Rattle.pm_model.specs.Journal.{IsLegal}
use Rattle.pm_types.specs.declared.entry.Entry.{Entry}
use Rattle.pm_types.specs.declared.event.Flushed.{Flushed}
use Rattle.pm_types.specs.declared.event.Watch.{Watch}
use Rattle.arrayvec.specs.ArrayVec.{ArrayVec}
use Rattle.pm_shadow.specs.Pages.{current_kept, disk_of, state}
use Rattle.pm_shadow.specs.declared.pages.Pages.{Pages}
use Rattle.pm_space.specs.Shown.{view}
use Rattle.pm_save.specs.Shown.{frozen_of, saving}
use Rattle.pm_law_saving.proofs.Publishing.{copy_held}
use Rattle.pm_law_saving.proofs.ServingLemmas.Splitting.{splits_once}
use Rattle.pm_law_saving.proofs.ServingLemmas.Stored.{splits_stored}
use Rattle.pm_engine.specs.Works.Course.{told_before}
use Rattle.pm_engine.specs.declared.works.start.Start.{Start}
use Rattle.pm_engine.specs.declared.works.works.Works.{Works}
use Rattle.pm_engine.specs.Works.Working.{Answers, FlushesOn, IsTiedIn, LastsIn, Rests, contents_in, disk_at, frozen_in, journal_in, saving_in, state_in}
use Rattle.pm_engine.specs.Works.Seen.{IsCrashSafe, disk_then, seen}
use Rattle.pm_engine.proofs.WorksLemmas.Going.{failed_still, leaves, rests_sound}
use Rattle.pm_engine.proofs.WorksLemmas.Flushed.{flush_sound}
use Rattle.pm_engine.proofs.WorksLemmas.Answering.{AgreesOn, Told, answered, appends_of, failed_sound, leaves_either}

splits_told : (contents : Option (List ℕ)) → ∥ IsTold contents ∥₁ → IsTold contents
splits_told (Some bytes) known = (bytes, refl)
splits_told None known = absurd (∥∥₁_elim known ⊥_prop (λ is. let never : None ≡ Some is.0 = is.1 in cc never))

module _ {D : Type 0} {F : Type 0} {g : Ghosts D} (start : Start D F g) (stopped : Option ℕ) (old : Works D F g) (none : stopped ≡ None) (known : ∥ IsCrashSafe start stopped old ∥₁) where
  pub at_none : ∥ IsCrashSafe start None old ∥₁
  at_none = subst (λ (o : Option ℕ). ∥ IsCrashSafe start o old ∥₁) none known

  pub stored : IsStored (seen start None old) (state_in old) (g.contents (disk_then start)) (contents_in old)
  stored = splits_stored (seen start None old) (state_in old) (g.contents (disk_then start)) (contents_in old) (∥∥₁_map at_none (λ sound. sound.stored refl))

  pub tells : IsTold (g.contents (disk_then start)) → IsTold (contents_in old)
  tells first = splits_told (contents_in old) (∥∥₁_map at_none (λ sound. sound.images.told first))

  -- the copy in progress is the world's
  pub saving_is : (progress : Progress) → (saving_in old).progress ≡ Some progress → (world (seen start None old)).saving ≡ Some (progress.number, copy_of (cars_or_none (frozen_in old)) progress)
  saving_is progress is = splits_once (Coded-set (coded_option (coded× coded_ℕ copy_code)) _ _) (∥∥₁_map at_none (λ sound.
      sound.journal.saving ∙ ap (option_map (numbered_copy (frozen_in old))) is))

  module _ (new : Works D F g) where
    -- a command was answered
    pub ask_sound : (client : ℕ) (cmd : Cmd) (reply : Reply) → AgreesOn client cmd reply (seen start None old) → Told cmd old new → Answers client cmd old new reply → ∥ IsCrashSafe start stopped new ∥₁
    ask_sound client cmd reply agrees told is = subst (λ (o : Option ℕ). ∥ IsCrashSafe start o new ∥₁) (sym none) (∥∥₁_map at_none (λ sound. (answered start old new sound client cmd reply agrees told is).1))

    -- the reply is the world's
    pub ask_reply : (client : ℕ) (cmd : Cmd) (reply : Reply) → AgreesOn client cmd reply (seen start None old) → Told cmd old new → Answers client cmd old new reply → reply ≡ (answer (world (seen start None old)) client cmd).0
    ask_reply client cmd reply agrees told is = splits_once (Coded-set reply_type.the_row.coded _ _) (∥∥₁_map at_none (λ sound. (answered start old new sound client cmd reply agrees told is).0.reply_is))

    pub ask_serves : (client : ℕ) (cmd : Cmd) (reply : Reply) → AgreesOn client cmd reply (seen start None old) → Told cmd old new → Answers client cmd old new reply → Serves client cmd (seen start stopped old) (seen start stopped new) reply
    ask_serves client cmd reply agrees told is =
        record { appends = appends_of start stopped old new client cmd reply is; reply_is = ask_reply client cmd reply agrees told is }

    -- memory ran out
    pub rest_sound : Rests old new → IsTiedIn new → LastsIn old new → TellsOn (contents_in old) (contents_in new) → Spares g.contents g.moment g.since (state_in old) (disk_at old) (disk_at new)
        → ((t : ℕ) (bytes : List ℕ) → t ≤ g.moment (disk_at new) → g.image (disk_at new) bytes → g.since (disk_at new) t bytes) → ∥ IsCrashSafe start stopped new ∥₁
    rest_sound rests tied lasts told spares counts = subst (λ (o : Option ℕ). ∥ IsCrashSafe start o new ∥₁) (sym none) (∥∥₁_map at_none (λ sound. rests_sound start old new sound counts rests tied lasts told spares))

    -- the disk failed
    pub fail_sound : (count : ℕ) → Rests old new → SparesEither g.contents g.moment g.since (saving_in old).progress (cars_or_none (frozen_in old)) (state_in old) (disk_at old) (disk_at new)
        → (progress : Progress) → (saving_in old).progress ≡ Some progress → TellsOn (contents_in old) (contents_in new)
        → ((t : ℕ) (bytes : List ℕ) → t ≤ g.moment (disk_at new) → g.image (disk_at new) bytes → g.since (disk_at new) t bytes) → ∥ IsCrashSafe start (Some count) new ∥₁
    fail_sound count rests either progress is told counts = ∥∥₁_map at_none (λ sound. failed_sound start old new sound counts told count rests either progress is)

    -- a crash at each moment of the call
    pub leaves_settled : Spares g.contents g.moment g.since (state_in old) (disk_at old) (disk_at new) → IsTold (g.contents (disk_then start))
        → LeavesOnly g.moment g.since (disk_at old) (disk_at new) (IsSettledCopy (world (seen start None old)))
    leaves_settled = leaves start old new stored tells

    pub leaves_begun : (progress : Progress) → (saving_in old).progress ≡ Some progress
        → SparesEither g.contents g.moment g.since (saving_in old).progress (cars_or_none (frozen_in old)) (state_in old) (disk_at old) (disk_at new) → IsTold (g.contents (disk_then start))
        → LeavesOnly g.moment g.since (disk_at old) (disk_at new) (λ image. IsSettledCopy (world (seen start None old)) image ⊎ IsCopyInProgress (world (seen start None old)) image)
    leaves_begun progress is either first =
        let cars = cars_or_none (frozen_in old) in
        weaker g.moment g.since (disk_at old) (disk_at new) (λ image. IsSettledCopy (world (seen start None old)) image ⊎ StandsForCopy image progress.number (copy_of cars progress))
        (λ image. IsSettledCopy (world (seen start None old)) image ⊎ IsCopyInProgress (world (seen start None old)) image)
        (leaves_either start old new stored tells progress is either first)
        (λ image it. ⊎_elim (λ settled. inl settled) (λ begun. inr ((progress.number, copy_of cars progress), saving_is progress is, begun)) it)

    -- a page was written, or none was left
    pub flush_kept : (flushed : Flushed) → FlushesOn old new flushed → IsTiedIn new → LastsIn old new → TellsOn (contents_in old) (contents_in new) → Spares g.contents g.moment g.since (state_in old) (disk_at old) (disk_at new)
        → ((t : ℕ) (bytes : List ℕ) → t ≤ g.moment (disk_at new) → g.image (disk_at new) bytes → g.since (disk_at new) t bytes) → ∥ IsCrashSafe start stopped new ∥₁
    flush_kept flushed is tied last told spares counts = subst (λ (o : Option ℕ). ∥ IsCrashSafe start o new ∥₁) (sym none) (∥∥₁_map at_none (λ sound. flush_sound start old new sound counts flushed is tied last told spares))

    -- the disk failed in a flush
    pub flush_failed : (count : ℕ) → Rests old new → TellsOn (contents_in old) (contents_in new) → Spares g.contents g.moment g.since (state_in old) (disk_at old) (disk_at new)
        → ((t : ℕ) (bytes : List ℕ) → t ≤ g.moment (disk_at new) → g.image (disk_at new) bytes → g.since (disk_at new) t bytes) → ∥ IsCrashSafe start (Some count) new ∥₁
    flush_failed count rests told spares counts = ∥∥₁_map at_none (λ sound. failed_still start old new sound counts count rests told spares)

  -- each image now stands for the last acknowledged copy
  pub settled_now : IsTold (g.contents (disk_then start)) → (left : List ℕ) → g.image (disk_at old) left → IsSettledCopy (world (seen start None old)) left
  settled_now first left here =
      let was = tells first in
      subst (λ (n : ℕ). StandsForCopy left n (world (seen start None old)).settled_copy) stored.numbered
      (copy_held (state_in old) was.0 left (world (seen start None old)).settled_copy (stored.has first was.0 was.1) ((current_kept old.pages stored.tied.sound was.0 was.1).each left here))

-- whatever is named in the world that was opened is an object
closed_once : (number : ℕ) (copy : Copy) → IsProp (IsClosed (begin number copy))
closed_once number copy = hlevel props

pub splits_closed : (it : Serving) → ∥ IsClosed (opening it) ∥₁ → IsClosed (opening it)
splits_closed it = splits_once (closed_once it.number (copy_in it.opened))

-- the journal is legal
pub splits_legal : (start : World) (journal : List Entry) → ∥ IsLegal start journal ∥₁ → IsLegal start journal
splits_legal start [] known = tt
splits_legal start (entry ∷ rest) known =
    (splits_once (Coded-set reply_type.the_row.coded _ _) (∥∥₁_map known (λ legal. legal.0)), splits_legal (answer start entry.client entry.cmd).1 rest (∥∥₁_map known (λ legal. legal.1)))

-- the journal has more room
pub kept_journal : {D F : Type 0} {g : Ghosts D} (start : Start D F g) (stopped : Option ℕ) (old new : Works D F g) → journal_in new ≡ journal_in old → new.course ≡ old.course → new.watches ≡ old.watches → new.events ≡ old.events → new.steps ≡ old.steps → new.space ≡ old.space → new.saver ≡ old.saver → new.pages ≡ old.pages
    → ∥ IsCrashSafe start stopped old ∥₁ → ∥ IsCrashSafe start stopped new ∥₁
kept_journal {D} {F} {g} start stopped old new journal course watches events steps space saver pages known =
    let it : Serving = seen start stopped old in
    let same : it ≡ seen start stopped new =
    (λ i. record { number = it.number; opened = it.opened; view = view ((sym space i).parts); frozen = frozen_of ((sym space i).parts); saving = saving (sym saver i); journal = sym journal i; course = told_before (sym course i); watches = sym (ap (λ (w : ArrayVec Watch). w.items) watches) i; events = sym events i; steps = sym steps i; stopped = stopped }) in
    let P : Serving × Pages D g → Type 0 = λ both.
    KeepsJournal both.0 × (stopped ≡ None → IsStored both.0 (state both.1) (g.contents (disk_then start)) (g.contents (disk_of both.1))) × KeepsImages g.contents g.image g.moment g.since (disk_then start) both.0 (disk_of both.1) in
    let moved : (it, old.pages) ≡ (seen start stopped new, new.pages) = (λ i. (same i, sym pages i)) in
    ∥∥₁_map known (λ sound. let parts = subst P moved (sound.journal, sound.stored, sound.images) in record { journal = parts.0; stored = parts.1; images = parts.2 })
