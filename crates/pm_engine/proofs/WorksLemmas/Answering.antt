-- What each command's answer makes of what holds.
use Rattle.std.proofs.Common.{◌≡◌, ◌⊎◌, ⊎_elim, inl, inr, ℕ, ◌<◌, ◌≤◌, ◌+◌, true, false, List, [], ◌∷◌, ◌++◌, length, Option, Some, None, option_map, IfSome, refl, sym, ap, subst, ◌∙◌, arith}
use Rattle.std.proofs.lemmas.List.Elements.{Contains-append_left, Contains-append_right}
use Rattle.pm_types.specs.declared.command.Cmd.{Cmd}
use Rattle.pm_types.specs.declared.command.Cmd.TheVariants.{Save, Settle, Unsave, Watch}
use Rattle.pm_types.specs.declared.entry.Entry.{Entry}
use Rattle.pm_types.specs.declared.limits.TheConstants.{LAST_COPY}
use Rattle.pm_types.specs.declared.reply.Reply.{Reply}
use Rattle.pm_types.specs.declared.reply.Reply.TheVariants.{Begun, Busy, Dropped, Idle, Saved, SavesSpent, TooManyWatches, Watching}
use Rattle.pm_disk.specs.declared.disk.Disk.{Ghosts}
use Rattle.pm_disk.specs.Disk.{IfTold, LeavesOnly}
use Rattle.pm_model.specs.World.{World}
use Rattle.pm_model.specs.Copying.{copy}
use Rattle.pm_model.specs.Answer.{answer}
use Rattle.pm_model.specs.Frames.{is_settle, saves}
use Rattle.pm_shadow.specs.declared.pages.Pages.{Pages}
use Rattle.pm_shadow.specs.Pages.{disk_of}
use Rattle.pm_model.specs.Journal.{after, chain, settled_in, says_saved}
use Rattle.pm_model.proofs.AnswerLaws.{leaves_saving}
use Rattle.pm_model.proofs.ChainLaws.{chain_more, saved}
use Rattle.pm_model.proofs.Members.{at_first}
use Rattle.pm_image.specs.Stands.{StandsForCopy}
use Rattle.pm_view.specs.View.{Cars, SpaceView}
use Rattle.pm_view.specs.Work.{work}
use Rattle.pm_law_collect.specs.Work.Raises.{raises}
use Rattle.pm_view.specs.Commands.{is_act}
use Rattle.pm_copies.specs.Listed.{copy_in}
use Rattle.pm_saving.specs.Progress.{Progress, cars_or_none, copy_of}
use Rattle.pm_saving.specs.Paging.{NextPage, CarPage, PartPage, next_page, with_next, written_on}
use Rattle.pm_saving.specs.Tied.{HasCopy}
use Rattle.pm_save.specs.Progress.Answers.{TellsOn}
use Rattle.pm_save.specs.Writer.Settling.{SparesEither}
use Rattle.pm_saving.specs.Serving.{KeepsJournal, Serving, numbered_copy, opening, world}
use Rattle.pm_saving.specs.Events.{Appends, Serves}
use Rattle.pm_saving.specs.Images.{IsSettledCopy, IsStored, IsTold}
use Rattle.pm_law_saving.proofs.ServingLemmas.Kept as law
use Rattle.pm_law_saving.proofs.ServingLemmas.Images.{acknowledged, failed}
use Rattle.pm_engine.specs.declared.works.start.Start.{Start}
use Rattle.pm_engine.specs.declared.works.works.Works.{Works}
use Rattle.pm_engine.specs.Works.Working.{Acts, Adds, Answers, IsTiedIn, LeavesEither, Rests, Saves, SetsWatch, SettlesCopy, SettlesIt, StaysStill, Unsaves, Watches, contents_in, disk_at, frozen_in, journal_in, room_in, saving_in, state_in, view_in, watches_in}
use Rattle.pm_engine.specs.Works.Seen.{IsCrashSafe, disk_then, seen}
use Rattle.pm_engine.proofs.WorksLemmas.Going.{answers_sound, appends, appends_so, rests_kept, settled_there}
use Rattle.pm_engine.proofs.WorksLemmas.Kept.{pages_last, spares_still}
use Rattle.pm_engine.proofs.WorksLemmas.Whole.{more_journal, nothing_journal}

-- only `settle` says that a copy settled
pub not_saved : (world : World) (client : ℕ) (cmd : Cmd) (reply : Reply) → reply ≡ (answer world client cmd).0 → saves cmd ≡ false → says_saved reply ≡ false
not_saved world client cmd (Saved number) is none =
    let was = saved world client number cmd (sym is) in
    let never : None ≡ Some (settled_in (answer world client cmd).1) = sym was.2 ∙ leaves_saving world client cmd none ∙ was.0 in
    absurd (cc never)
not_saved world client cmd reply is none = refl

module _ {D : Type 0} {F : Type 0} {g : Ghosts D} (start : Start D F g) (old new : Works D F g) where
  pub act_served : (client : ℕ) (cmd : Cmd) (reply : Reply) → KeepsJournal (seen start None old) → is_act cmd ≡ true → reply ≡ (answer (world (seen start None old)) client cmd).0 → Acts client cmd old new reply
      → Serves client cmd (seen start None old) (seen start None new) reply × KeepsJournal (seen start None new)
  act_served client cmd reply keeps act is acts =
      let appended = appends start old new client cmd reply (law.sets_none (seen start None old) cmd reply (law.unwatching cmd act)) acts.adds in (
        record { appends = appended; reply_is = is },
        law.acted client cmd (seen start None old) (seen start None new) reply keeps act appended is acts.frozen acts.saving,
      )

  -- an entry whose reply has this number
  numbered : (client : ℕ) (cmd : Cmd) (reply : ℕ → Reply) (number other : ℕ) → number ≡ other → Adds client cmd (reply number) old new → Adds client cmd (reply other) old new
  numbered client cmd reply number other is adds = subst (λ (n : ℕ). Adds client cmd (reply n) old new) is adds

  back : (client : ℕ) (cmd : Cmd) (reply : ℕ → Reply) (number other : ℕ) → number ≡ other → Serves client cmd (seen start None old) (seen start None new) (reply other) × KeepsJournal (seen start None new)
      → Serves client cmd (seen start None old) (seen start None new) (reply number) × KeepsJournal (seen start None new)
  back client cmd reply number other is both = subst (λ (n : ℕ). Serves client cmd (seen start None old) (seen start None new) (reply n) × KeepsJournal (seen start None new)) (sym is) both

  pub save_served : (client : ℕ) (reply : Reply) → KeepsJournal (seen start None old) → copy_in (view_in old) ≡ copy (world (seen start None old)) → (state_in old).header.epoch ≡ (world (seen start None old)).settled → Saves client old new reply
      → Serves client Save (seen start None old) (seen start None new) reply × KeepsJournal (seen start None new)
  save_served client (Busy number) served copied at is =
      back client Save Busy number is.begun.number is.number_is
      (law.busy client (seen start None old) (seen start None new) is.begun served is.is_begun (appends start old new client Save (Busy is.begun.number) refl (numbered client Save Busy number is.begun.number is.number_is is.adds)) is.keeps.frozen is.keeps.saving)
  save_served client SavesSpent served copied at is =
      law.spent client (seen start None old) (seen start None new) served is.none (sym at ∙ is.last) (appends start old new client Save SavesSpent refl is.adds) is.keeps.frozen is.keeps.saving
  save_served client (Begun number) served copied at is =
      back client Save Begun number is.begun.number is.number_is
      (law.begins client (seen start None old) (seen start None new) is.begun served is.none (subst (λ (n : ℕ). n < LAST_COPY) at is.below) (is.next ∙ ap (λ (n : ℕ). n + 1) at)
      (appends start old new client Save (Begun is.begun.number) refl (numbered client Save Begun number is.begun.number is.number_is is.adds)) is.is_begun (is.copy ∙ copied))
  save_served client reply served copied at is = absurd is

  pub unsave_served : (client : ℕ) (reply : Reply) → KeepsJournal (seen start None old) → Unsaves client old new reply → Serves client Unsave (seen start None old) (seen start None new) reply × KeepsJournal (seen start None new)
  unsave_served client Idle served is =
      law.undropped client (seen start None old) (seen start None new) served is.none (appends start old new client Unsave Idle refl is.adds) is.keeps.frozen is.keeps.saving
  unsave_served client (Dropped number) served is =
      back client Unsave Dropped number is.begun.number is.number_is
      (law.drops client (seen start None old) (seen start None new) is.begun served is.is_begun (appends start old new client Unsave (Dropped is.begun.number) refl (numbered client Unsave Dropped number is.begun.number is.number_is is.adds)) is.none)
  unsave_served client reply served is = absurd is

-- ---- watches

module _ {D : Type 0} {F : Type 0} {g : Ghosts D} (start : Start D F g) (stopped : Option ℕ) (old new : Works D F g) (client : ℕ) where
  abbrev entry_of : ℕ → Entry
  entry_of number = record { client = client; cmd = Watch; reply = Watching number }

  -- the entry of a watch that was set, with another name for its number
  set_appends : (number other : ℕ) → number ≡ other → SetsWatch client old new number → Appends client Watch (seen start stopped old) (seen start stopped new) (Watching other)
  set_appends number other same is = record {
    opening = record { number = refl; opened = refl };
    journal = more_journal old new (entry_of number ∷ []) is.past is.journal ∙ ap (λ (n : ℕ). journal_in old ++ entry_of n ∷ []) same;
    course = is.course;
    watches = is.watches;
    events = is.events;
    steps = is.steps;
    stopped = refl;
  }

  pub watch_appends : (reply : Reply) → Watches client old new reply → Appends client Watch (seen start stopped old) (seen start stopped new) reply
  watch_appends TooManyWatches is = appends_so start old new stopped client Watch TooManyWatches refl is.adds
  watch_appends (Watching number) is = set_appends number number refl is
  watch_appends reply is = absurd is

module _ {D : Type 0} {F : Type 0} {g : Ghosts D} (start : Start D F g) (old new : Works D F g) where
  pub watch_served : (client : ℕ) (reply : Reply) → KeepsJournal (seen start None old) → Watches client old new reply → Serves client Watch (seen start None old) (seen start None new) reply × KeepsJournal (seen start None new)
  watch_served client TooManyWatches served is =
      let full = is.full in
      law.watches_full client (seen start None old) (seen start None new) served (omega (arith, full)) (appends start old new client Watch TooManyWatches refl is.adds) is.keeps.frozen is.keeps.saving
  watch_served client (Watching number) served is =
      subst (λ (n : ℕ). Serves client Watch (seen start None old) (seen start None new) (Watching n) × KeepsJournal (seen start None new)) (sym is.number_is)
      (law.watches_set client (seen start None old) (seen start None new) served is.few (set_appends start None old new client number (length (watches_in old) + 1) is.number_is is) is.keeps.frozen is.keeps.saving)
  watch_served client reply served is = absurd is

watch_other : {D F : Type 0} {g : Ghosts D} (client : ℕ) (old new : Works D F g) (reply : Reply) → Watches client old new reply → says_saved reply ≡ false
watch_other client old new TooManyWatches is = refl
watch_other client old new (Watching number) is = refl
watch_other client old new reply is = absurd is

-- the number of a copy stays while its pages are written
pub written_number : (cars : Cars) (pages : List ℕ) (progress : Progress) → (written_on cars pages progress).number ≡ progress.number
written_number cars [] progress = refl
written_number cars (page ∷ pages) progress = written_number cars pages (with_next page progress (next_page cars progress)) ∙ number_next (next_page cars progress)
  where
    number_next : (next : Option NextPage) → (with_next page progress next).number ≡ progress.number
    number_next None = refl
    number_next (Some (CarPage image)) = refl
    number_next (Some (PartPage entries)) = refl

module _ {D : Type 0} {F : Type 0} {g : Ghosts D} (start : Start D F g) (old new : Works D F g) where
  -- at each moment the current copy stood, or the one in progress
  pub leaves_either : IsStored (seen start None old) (state_in old) (g.contents (disk_then start)) (contents_in old) → (IsTold (g.contents (disk_then start)) → IsTold (contents_in old))
      → (progress : Progress) → (saving_in old).progress ≡ Some progress
      → SparesEither g.contents g.moment g.since (saving_in old).progress (cars_or_none (frozen_in old)) (state_in old) (disk_at old) (disk_at new) → IsTold (g.contents (disk_then start))
      → LeavesOnly g.moment g.since (disk_at old) (disk_at new) (λ image. IsSettledCopy (world (seen start None old)) image ⊎ StandsForCopy image progress.number (copy_of (cars_or_none (frozen_in old)) progress))
  leaves_either stored tells progress is spares first =
      let was = tells first in
      let w = world (seen start None old) in
      let cars = cars_or_none (frozen_in old) in
      let all = subst (λ (o : Option Progress). SparesEither g.contents g.moment g.since o cars (state_in old) (disk_at old) (disk_at new)) is spares in
      subst (λ (n : ℕ). LeavesOnly g.moment g.since (disk_at old) (disk_at new) (λ image. StandsForCopy image n w.settled_copy ⊎ StandsForCopy image progress.number (copy_of cars progress))) stored.numbered
      (all w.settled_copy was.0 was.1 (stored.has first was.0 was.1))

module _ {D : Type 0} {F : Type 0} {g : Ghosts D} (start : Start D F g) (old new : Works D F g) (sound : IsCrashSafe start None old)
    (counts : (t : ℕ) (bytes : List ℕ) → t ≤ g.moment (disk_at new) → g.image (disk_at new) bytes → g.since (disk_at new) t bytes) (told : TellsOn (contents_in old) (contents_in new)) where
  tells : IsTold (contents_in old) → IsTold (contents_in new)
  tells is = told is.0 is.1

  -- the copy in progress has settled
  pub settled_sound : (client number : ℕ) → SettlesCopy client old new number → IsTiedIn new
      → SparesEither g.contents g.moment g.since (saving_in old).progress (cars_or_none (frozen_in old)) (state_in old) (disk_at old) (disk_at new)
      → Serves client Settle (seen start None old) (seen start None new) (Saved number) × IsCrashSafe start None new
  settled_sound client number is tied spares =
      let progress = is.settles.progress in
      let cars = cars_or_none (frozen_in old) in
      let OS = seen start None old in
      let NS = seen start None new in
      let adds = subst (λ (n : ℕ). Adds client Settle (Saved n) old new) is.settles.number_is is.adds in
      let all = law.settles client OS NS progress sound.journal is.settles.is_progress (appends start old new client Settle (Saved progress.number) refl adds) (ap (λ s. s.progress) is.settles.saving) in
      let copied : (world NS).settled_copy ≡ copy_of cars progress = all.3 in
      let w = opening OS in
      let entry : Entry = record { client = client; cmd = Settle; reply = Saved progress.number } in
      let longer = chain w (journal_in old) ++ settled_in (world NS) ∷ [] in
      let now = subst (λ (o : Option Progress). IfSome o (λ (p : Progress). (was : List ℕ) → contents_in old ≡ Some was
      → ((left : List ℕ) → g.image (disk_at new) left → StandsForCopy left number (copy_of cars p)) × IfTold (contents_in new) (λ after. HasCopy (state_in new) after (copy_of cars p)))) is.settles.is_progress is.now in
      let stands : (left : List ℕ) → StandsForCopy left progress.number (copy_of cars progress) → IsSettledCopy (world NS) left =
      λ left it. subst (StandsForCopy left (world NS).settled) (sym copied) (subst (λ (n : ℕ). StandsForCopy left n (copy_of cars progress)) (sym all.2) it) in (
        subst (λ (n : ℕ). Serves client Settle OS NS (Saved n)) (sym is.settles.number_is) all.0,
        record {
          journal = all.1;
          stored = λ _. record {
            tied = tied;
            numbered = ap (λ h. h.epoch) is.settles.header ∙ written_number cars is.settles.pages progress ∙ sym all.2;
            has = λ first bytes told.
                let was = sound.images.told first in
                subst (HasCopy (state_in new) bytes) (sym copied) ((now was.0 was.1).1 bytes told);
          };
          images = acknowledged g.contents g.image g.moment g.since (disk_then start) OS (disk_at old) (disk_at new) (λ image. IsSettledCopy (world OS) image ⊎ StandsForCopy image progress.number (copy_of cars progress)) refl sound.images
              (leaves_either start old new (sound.stored refl) sound.images.told progress is.settles.is_progress spares) tells counts NS longer
              (ap (chain w) all.0.appends.journal ∙ chain_more w (journal_in old) entry ∙ ap (λ (last : World). chain w (journal_in old) ++ settled_in last ∷ []) (ap (after w) (sym all.0.appends.journal)))
              (λ kept there. Contains-append_left (chain w (journal_in old)) (settled_in (world NS) ∷ []) kept there)
              (Contains-append_right (chain w (journal_in old)) (settled_in (world NS) ∷ []) (settled_in (world NS)) (at_first (settled_in (world NS)) []))
              (settled_there OS sound.journal)
              (λ left it. ⊎_elim (λ settled. inl settled) (λ begun. inr (stands left begun)) it)
              (λ first left here.
              let was = sound.images.told first in
              stands left (subst (λ (n : ℕ). StandsForCopy left n (copy_of cars progress)) is.settles.number_is ((now was.0 was.1).0 left here)));
        },
      )

  -- the disk failed
  pub failed_sound : (count : ℕ) → Rests old new → SparesEither g.contents g.moment g.since (saving_in old).progress (cars_or_none (frozen_in old)) (state_in old) (disk_at old) (disk_at new)
      → (progress : Progress) → (saving_in old).progress ≡ Some progress → IsCrashSafe start (Some count) new
  failed_sound count rests spares progress is =
      let OS = seen start None old in
      let NS = seen start (Some count) new in
      let w = opening OS in
      let cars = cars_or_none (frozen_in old) in
      let saving : (world OS).saving ≡ Some (progress.number, copy_of cars progress) =
      sound.journal.saving ∙ ap (option_map (numbered_copy (frozen_in old))) is in
      record {
        journal = rests_kept start old new (Some count) sound.journal rests;
        stored = λ none. absurd (cc none);
        images = failed g.contents g.image g.moment g.since (disk_then start) OS (disk_at old) (disk_at new) (λ image. IsSettledCopy (world OS) image ⊎ StandsForCopy image progress.number (copy_of cars progress)) refl sound.images
            (leaves_either start old new (sound.stored refl) sound.images.told progress is spares) tells counts NS refl (ap (after w) (nothing_journal old new rests.nothing)) (ap (chain w) (nothing_journal old new rests.nothing)) (settled_there OS sound.journal)
            (λ left it. ⊎_elim (λ settled. inl settled) (λ begun. inr ((progress.number, copy_of cars progress), saving, begun)) it);
      }

-- every command but `settle` says that none settled
save_other : {D F : Type 0} {g : Ghosts D} (client : ℕ) (old new : Works D F g) (reply : Reply) → Saves client old new reply → says_saved reply ≡ false
save_other client old new (Busy number) is = refl
save_other client old new SavesSpent is = refl
save_other client old new (Begun number) is = refl
save_other client old new reply is = absurd is

unsave_other : {D F : Type 0} {g : Ghosts D} (client : ℕ) (old new : Works D F g) (reply : Reply) → Unsaves client old new reply → says_saved reply ≡ false
unsave_other client old new Idle is = refl
unsave_other client old new (Dropped number) is = refl
unsave_other client old new reply is = absurd is

-- what is known of a command that was answered
pub record Told {D F : Type 0} {g : Ghosts D} (cmd : Cmd) (old new : Works D F g) : Type 0 where
  pub tied : IsTiedIn new
  pub still : is_settle cmd ≡ false → StaysStill old new
  pub leaves : is_settle cmd ≡ true → LeavesEither old new
  pub told : TellsOn (contents_in old) (contents_in new)
  pub counts : (t : ℕ) (bytes : List ℕ) → t ≤ g.moment (disk_at new) → g.image (disk_at new) bytes → g.since (disk_at new) t bytes
  pub only_now : (bytes : List ℕ) → g.since (disk_at old) (g.moment (disk_at old)) bytes → g.image (disk_at old) bytes

-- What a space has to say as the world does: the reply to a command on it, and the copy that `save` begins.
pub record AgreesOn (client : ℕ) (cmd : Cmd) (reply : Reply) (it : Serving) : Type 0 where
  pub reply_is : is_act cmd ≡ true → reply ≡ (answer (world it) client cmd).0
  pub copied : cmd ≡ Save → copy_in it.view ≡ copy (world it)

module _ {D : Type 0} {F : Type 0} {g : Ghosts D} (start : Start D F g) (old new : Works D F g) (sound : IsCrashSafe start None old) where
  abbrev Result_of : ℕ → Cmd → Reply → Type 0
  Result_of client cmd reply = Serves client cmd (seen start None old) (seen start None new) reply × IsCrashSafe start None new

  stays : (client : ℕ) (cmd : Cmd) (reply : Reply) → IsTiedIn new → StaysStill old new → TellsOn (contents_in old) (contents_in new)
      → ((t : ℕ) (bytes : List ℕ) → t ≤ g.moment (disk_at new) → g.image (disk_at new) bytes → g.since (disk_at new) t bytes)
      → ((bytes : List ℕ) → g.since (disk_at old) (g.moment (disk_at old)) bytes → g.image (disk_at old) bytes)
      → says_saved reply ≡ false → Serves client cmd (seen start None old) (seen start None new) reply × KeepsJournal (seen start None new) → Result_of client cmd reply
  stays client cmd reply tied still told counts only_now other both = (
    both.0,
    answers_sound start old new sound counts client cmd reply both.0 both.1 other tied still.lasts told (spares_still old new only_now still.disk (sound.stored refl).tied.sound),
  )

  settle_answered : (client : ℕ) (reply : Reply) → Told Settle old new → SettlesIt client old new reply → Result_of client Settle reply
  settle_answered client Idle all is =
      stays client Settle Idle all.tied (record { disk = ap (λ (p : Pages D g). disk_of p) is.pages; lasts = pages_last old new is.pages }) all.told all.counts all.only_now refl
      (law.idle client (seen start None old) (seen start None new) sound.journal is.none (appends start old new client Settle Idle refl is.adds) is.keeps.frozen is.keeps.saving)
  settle_answered client (Saved number) all is = settled_sound start old new sound all.counts all.told client number is all.tied (all.leaves refl).either
  settle_answered client reply all is = absurd is

  act_answered : (client : ℕ) (cmd : Cmd) (reply : Reply) → is_act cmd ≡ true → AgreesOn client cmd reply (seen start None old) → Told cmd old new → is_settle cmd ≡ false → Acts client cmd old new reply → Result_of client cmd reply
  act_answered client cmd reply act agrees all quiet is =
      let both = act_served start old new client cmd reply sound.journal act (agrees.reply_is act) is in
      stays client cmd reply all.tied (all.still quiet) all.told all.counts all.only_now
      (not_saved (world (seen start None old)) client cmd reply both.0.reply_is (law.acts cmd act)) both

  -- each command
  pub answered : (client : ℕ) (cmd : Cmd) (reply : Reply) → AgreesOn client cmd reply (seen start None old) → Told cmd old new → Answers client cmd old new reply → Result_of client cmd reply
  answered client Save reply agrees all is =
      stays client Save reply all.tied (all.still refl) all.told all.counts all.only_now (save_other client old new reply is)
      (save_served start old new client reply sound.journal (agrees.copied refl) (sound.stored refl).numbered is)
  answered client Settle reply agrees all is = settle_answered client reply all is
  answered client Unsave reply agrees all is =
      stays client Unsave reply all.tied (all.still refl) all.told all.counts all.only_now (unsave_other client old new reply is)
      (unsave_served start old new client reply sound.journal is)
  answered client Watch reply agrees all is =
      stays client Watch reply all.tied (all.still refl) all.told all.counts all.only_now (watch_other client old new reply is)
      (watch_served start old new client reply sound.journal is)
  answered client cmd reply agrees all is = act_answered client cmd reply refl agrees all refl is

-- ---- the entry of an answer

pub save_adds : {D F : Type 0} {g : Ghosts D} (client : ℕ) (old new : Works D F g) (reply : Reply) → Saves client old new reply → Adds client Save reply old new
save_adds client old new (Busy number) is = is.adds
save_adds client old new SavesSpent is = is.adds
save_adds client old new (Begun number) is = is.adds
save_adds client old new reply is = absurd is

pub unsave_adds : {D F : Type 0} {g : Ghosts D} (client : ℕ) (old new : Works D F g) (reply : Reply) → Unsaves client old new reply → Adds client Unsave reply old new
unsave_adds client old new Idle is = is.adds
unsave_adds client old new (Dropped number) is = is.adds
unsave_adds client old new reply is = absurd is

pub settle_adds : {D F : Type 0} {g : Ghosts D} (client : ℕ) (old new : Works D F g) (reply : Reply) → SettlesIt client old new reply → Adds client Settle reply old new
settle_adds client old new Idle is = is.adds
settle_adds client old new (Saved number) is = is.adds
settle_adds client old new reply is = absurd is

module _ {D : Type 0} {F : Type 0} {g : Ghosts D} (start : Start D F g) (stopped : Option ℕ) (old new : Works D F g) where
  -- entry, watches and counts once a command was answered
  pub appends_of : (client : ℕ) (cmd : Cmd) (reply : Reply) → Answers client cmd old new reply → Appends client cmd (seen start stopped old) (seen start stopped new) reply
  appends_of client Save reply is = appends_so start old new stopped client Save reply refl (save_adds client old new reply is)
  appends_of client Settle reply is = appends_so start old new stopped client Settle reply refl (settle_adds client old new reply is)
  appends_of client Unsave reply is = appends_so start old new stopped client Unsave reply refl (unsave_adds client old new reply is)
  appends_of client Watch reply is = watch_appends start stopped old new client reply is
  appends_of client cmd reply is = appends_so start old new stopped client cmd reply refl is.adds

-- ---- room and work

watch_room : {D F : Type 0} {g : Ghosts D} (client : ℕ) (old new : Works D F g) (reply : Reply) → Watches client old new reply → room_in old ≤ room_in new + 1
watch_room client old new TooManyWatches is = is.adds.room
watch_room client old new (Watching number) is = is.room
watch_room client old new reply is = absurd is

-- an entry takes the room of one
pub room_of : {D F : Type 0} {g : Ghosts D} (client : ℕ) (cmd : Cmd) (old new : Works D F g) (reply : Reply) → Answers client cmd old new reply → room_in old ≤ room_in new + 1
room_of client Save old new reply is = (save_adds client old new reply is).room
room_of client Settle old new reply is = (settle_adds client old new reply is).room
room_of client Unsave old new reply is = (unsave_adds client old new reply is).room
room_of client Watch old new reply is = watch_room client old new reply is
room_of client cmd old new reply is = is.adds.room

pub save_view : {D F : Type 0} {g : Ghosts D} (client : ℕ) (old new : Works D F g) (reply : Reply) → Saves client old new reply → view_in new ≡ view_in old
save_view client old new (Busy number) is = is.keeps.view
save_view client old new SavesSpent is = is.keeps.view
save_view client old new (Begun number) is = is.view
save_view client old new reply is = absurd is

pub settle_view : {D F : Type 0} {g : Ghosts D} (client : ℕ) (old new : Works D F g) (reply : Reply) → SettlesIt client old new reply → view_in new ≡ view_in old
settle_view client old new Idle is = is.keeps.view
settle_view client old new (Saved number) is = is.view
settle_view client old new reply is = absurd is

pub unsave_view : {D F : Type 0} {g : Ghosts D} (client : ℕ) (old new : Works D F g) (reply : Reply) → Unsaves client old new reply → view_in new ≡ view_in old
unsave_view client old new Idle is = is.keeps.view
unsave_view client old new (Dropped number) is = is.view
unsave_view client old new reply is = absurd is

pub watch_view : {D F : Type 0} {g : Ghosts D} (client : ℕ) (old new : Works D F g) (reply : Reply) → Watches client old new reply → view_in new ≡ view_in old
watch_view client old new TooManyWatches is = is.keeps.view
watch_view client old new (Watching number) is = is.keeps.view
watch_view client old new reply is = absurd is

pub still_works : (old new : SpaceView) (more : ℕ) → new ≡ old → work new ≤ work old + more
still_works old new more same = let is = ap work same in omega (arith, is)

-- a command adds little work
pub work_of : {D F : Type 0} {g : Ghosts D} (client : ℕ) (cmd : Cmd) (old new : Works D F g) (reply : Reply) → Answers client cmd old new reply → work (view_in new) ≤ work (view_in old) + raises cmd
work_of client Save old new reply is = still_works (view_in old) (view_in new) (raises Save) (save_view client old new reply is)
work_of client Settle old new reply is = still_works (view_in old) (view_in new) (raises Settle) (settle_view client old new reply is)
work_of client Unsave old new reply is = still_works (view_in old) (view_in new) (raises Unsave) (unsave_view client old new reply is)
work_of client Watch old new reply is = still_works (view_in old) (view_in new) (raises Watch) (watch_view client old new reply is)
work_of client cmd old new reply is = is.work
