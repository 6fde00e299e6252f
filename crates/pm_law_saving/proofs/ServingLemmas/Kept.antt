-- After each command journal and copies are those of the next world, whatever the space is.
use Rattle.std.proofs.Common.{◌≡◌, ◌<◌, ◌≤◌, ℕ, ◌+◌, Bool, true, false, if◌then◌else◌, length, Option, Some, None, option_map, refl, sym, ap, subst, ◌∙◌, arith, nat_lt}
use Rattle.std.proofs.lemmas.Bool.Decides.{nat_tests}
use Rattle.std.specs.FinMap.{get}
use Rattle.std.proofs.lemmas.List.{length_push}
use Rattle.pm_types.specs.declared.command.Cmd.{Cmd}
use Rattle.pm_types.specs.declared.command.Cmd.TheVariants.{Save, Settle, Unsave, Watch}
use Rattle.pm_types.specs.declared.event.Watch as kept
use Rattle.pm_types.specs.declared.limits.TheConstants.{LAST_COPY, WATCHES}
use Rattle.pm_types.specs.declared.reply.Reply.{Reply}
use Rattle.pm_types.specs.declared.reply.Reply.TheVariants.{Begun, Busy, SavesSpent, Saved, Idle, Dropped, Watching, TooManyWatches}
use Rattle.pm_model.specs.Heap.{Object}
use Rattle.pm_model.specs.World.{World, begin, beginning, settling, dropping, watching}
use Rattle.pm_model.specs.Closed.{IsClosed}
use Rattle.pm_model.specs.Copying.{copy}
use Rattle.pm_model.specs.Answer.{answer, answer_save, answer_settle, answer_unsave, answer_watch, refused}
use Rattle.pm_model.specs.Frames.{saves, sets_watch}
use Rattle.pm_model.specs.Journal.{IsLegal, after}
use Rattle.pm_model.proofs.AnswerLaws.{leaves_saving, leaves_watches}
use Rattle.pm_model.proofs.ChainLaws.{after_more, legal_more}
use Rattle.pm_model.proofs.ClosedLaws.{closed_after}
use Rattle.pm_view.specs.View.{Cars, SpaceView}
use Rattle.pm_view.specs.Commands.{is_act}
use Rattle.pm_view.specs.Watches.{watch_in}
use Rattle.pm_copies.specs.Listed.{copy_in}
use Rattle.pm_saving.specs.Progress.{Progress, cars_or_none, copy_of}
use Rattle.pm_saving.specs.Tied.{GoesOn}
use Rattle.pm_saving.specs.Serving.{KeepsJournal, KeepsOpening, Serving, in_progress, made_now, numbered_copy, opening, world}
use Rattle.pm_saving.specs.Events.{Appends, Collects, Flushes, Serves, ServesNothing, StaysBegun, watched}

-- no object of a closed world has the next identity
none_next : (next : ℕ) (found : Option Object) → ((object : Object) → found ≡ Some object → next < next) → found ≡ None
none_next next None below = refl
none_next next (Some object) below = let less = below object refl in absurd (omega (arith, less))

pub fresh : (it : Serving) → KeepsJournal it → get (world it).heap (world it).next ≡ None
fresh it keeps =
    let closed = closed_after (opening it) it.journal keeps.closed in
    none_next (world it).next (get (world it).heap (world it).next) (λ object is. (closed.graph.given (world it).next object is).1)

pub same_opening : (old new : Serving) → KeepsOpening old new → opening new ≡ opening old
same_opening old new keeps = (λ i. begin (keeps.number i) (copy_in (keeps.opened i)))

module _ (client : ℕ) (cmd : Cmd) (old new : Serving) (reply : Reply) (appends : Appends client cmd old new reply) where
  -- the world after the command
  pub next_world : world new ≡ (answer (world old) client cmd).1
  next_world =
      ap (λ (start : World). after start new.journal) (same_opening old new appends.opening)
      ∙ ap (after (opening old)) appends.journal
      ∙ after_more (opening old) old.journal (record { client = client; cmd = cmd; reply = reply })

  module _ (keeps : KeepsJournal old) where
    pub goes_on : reply ≡ (answer (world old) client cmd).0 → (answer (world old) client cmd).1.saving ≡ in_progress new
        → (answer (world old) client cmd).1.watches ≡ length new.watches → KeepsJournal new
    goes_on is saving watches = record {
      closed = subst IsClosed (sym (same_opening old new appends.opening)) keeps.closed;
      legal = subst (λ (start : World). IsLegal start new.journal) (sym (same_opening old new appends.opening))
          (subst (IsLegal (opening old)) (sym appends.journal) (legal_more (opening old) old.journal (record { client = client; cmd = cmd; reply = reply }) keeps.legal is));
      saving = ap (λ (w : World). w.saving) next_world ∙ saving;
      watching = ap (λ (w : World). w.watches) next_world ∙ watches;
      told = ap length appends.course ∙ length_push old.course (made_now old) ∙ ap (λ (n : ℕ). n + 1) keeps.told
          ∙ sym (ap length appends.journal ∙ length_push old.journal (record { client = client; cmd = cmd; reply = reply }));
    }

    -- the watches stay where the command sets none
    pub unwatched : watched old cmd reply ≡ old.watches → (answer (world old) client cmd).1.watches ≡ (world old).watches → (answer (world old) client cmd).1.watches ≡ length new.watches
    unwatched none same = same ∙ keeps.watching ∙ sym (ap length (appends.watches ∙ none))

-- a command that sets no watch leaves the watches
pub sets_none : (it : Serving) (cmd : Cmd) (reply : Reply) → sets_watch cmd ≡ false → watched it cmd reply ≡ it.watches
sets_none it Watch reply is = cc
sets_none it cmd reply is = refl

-- a command on the space saves nothing
pub acts : (cmd : Cmd) → is_act cmd ≡ true → saves cmd ≡ false
acts Save is = cc is
acts Settle is = cc is
acts Unsave is = cc is
acts cmd is = refl

-- and sets no watch
pub unwatching : (cmd : Cmd) → is_act cmd ≡ true → sets_watch cmd ≡ false
unwatching Watch is = cc is
unwatching cmd is = refl

same_progress : (old new : Serving) → new.frozen ≡ old.frozen → new.saving ≡ old.saving → in_progress old ≡ in_progress new
same_progress old new frozen saving = (λ i. option_map (numbered_copy (sym frozen i)) ((sym saving i).progress))

pub acted : (client : ℕ) (cmd : Cmd) (old new : Serving) (reply : Reply) → KeepsJournal old → is_act cmd ≡ true → Appends client cmd old new reply
    → reply ≡ (answer (world old) client cmd).0 → new.frozen ≡ old.frozen → new.saving ≡ old.saving → KeepsJournal new
acted client cmd old new reply keeps act appends is frozen saving =
    goes_on client cmd old new reply appends keeps is
    (leaves_saving (world old) client cmd (acts cmd act) ∙ keeps.saving ∙ same_progress old new frozen saving)
    (unwatched client cmd old new reply appends keeps (sets_none old cmd reply (unwatching cmd act)) (leaves_watches (world old) client cmd (unwatching cmd act)))

-- where a command answers so, and its world is the one before
module _ (client : ℕ) (cmd : Cmd) (old new : Serving) (reply : Reply) (keeps : KeepsJournal old) (appends : Appends client cmd old new reply) (says : answer (world old) client cmd ≡ refused (world old) reply) where
  pub refuses : watched old cmd reply ≡ old.watches → new.frozen ≡ old.frozen → new.saving ≡ old.saving → Serves client cmd old new reply × KeepsJournal new
  refuses none frozen saving =
      let is : reply ≡ (answer (world old) client cmd).0 = sym (ap (λ (a : Reply × World). a.0) says) in
      let same : (answer (world old) client cmd).1 ≡ world old = ap (λ (a : Reply × World). a.1) says in (
        record { appends = appends; reply_is = is },
        goes_on client cmd old new reply appends keeps is
            (ap (λ (w : World). w.saving) same ∙ keeps.saving ∙ same_progress old new frozen saving)
            (unwatched client cmd old new reply appends keeps none (ap (λ (w : World). w.watches) same)),
      )

-- what is in progress in the world
saving_is : (it : Serving) (progress : Option Progress) → KeepsJournal it → it.saving.progress ≡ progress → (world it).saving ≡ option_map (numbered_copy it.frozen) progress
saving_is it progress keeps is = keeps.saving ∙ ap (option_map (numbered_copy it.frozen)) is

pub busy : (client : ℕ) (old new : Serving) (begun : Progress) → KeepsJournal old → old.saving.progress ≡ Some begun → Appends client Save old new (Busy begun.number)
    → new.frozen ≡ old.frozen → new.saving ≡ old.saving → Serves client Save old new (Busy begun.number) × KeepsJournal new
unfolding answer
busy client old new begun keeps is appends =
    refuses client Save old new (Busy begun.number) keeps appends (ap (answer_save (world old)) (saving_is old (Some begun) keeps is)) refl

spent_says : (w : World) → w.settled ≡ LAST_COPY → answer_save w None ≡ refused w SavesSpent
spent_says w is = ap (λ (less : Bool). if less then (Begun (w.settled + 1), beginning w (w.settled + 1) (copy w)) else refused w SavesSpent) (ap (λ (n : ℕ). nat_lt n LAST_COPY) is)

pub spent : (client : ℕ) (old new : Serving) → KeepsJournal old → old.saving.progress ≡ None → (world old).settled ≡ LAST_COPY → Appends client Save old new SavesSpent
    → new.frozen ≡ old.frozen → new.saving ≡ old.saving → Serves client Save old new SavesSpent × KeepsJournal new
unfolding answer
spent client old new keeps none last appends =
    refuses client Save old new SavesSpent keeps appends (ap (answer_save (world old)) (saving_is old None keeps none) ∙ spent_says (world old) last) refl

pub idle : (client : ℕ) (old new : Serving) → KeepsJournal old → old.saving.progress ≡ None → Appends client Settle old new Idle → new.frozen ≡ old.frozen
    → new.saving ≡ old.saving → Serves client Settle old new Idle × KeepsJournal new
unfolding answer
idle client old new keeps none appends =
    refuses client Settle old new Idle keeps appends (ap (answer_settle (world old)) (saving_is old None keeps none)) refl

pub undropped : (client : ℕ) (old new : Serving) → KeepsJournal old → old.saving.progress ≡ None → Appends client Unsave old new Idle → new.frozen ≡ old.frozen
    → new.saving ≡ old.saving → Serves client Unsave old new Idle × KeepsJournal new
unfolding answer
undropped client old new keeps none appends =
    refuses client Unsave old new Idle keeps appends (ap (answer_unsave (world old)) (saving_is old None keeps none)) refl

below : (n : ℕ) → n < LAST_COPY → nat_lt n LAST_COPY ≡ true
below n less = grind (arith, nat_tests, less)

begun_says : (w : World) → w.settled < LAST_COPY → answer_save w None ≡ (Begun (w.settled + 1), beginning w (w.settled + 1) (copy w))
begun_says w less = ap (λ (b : Bool). if b then (Begun (w.settled + 1), beginning w (w.settled + 1) (copy w)) else refused w SavesSpent) (below w.settled less)

-- where a command answers so, and the world after it is the one before with another copy in progress or settled
module _ (client : ℕ) (cmd : Cmd) (old new : Serving) (reply : Reply) (keeps : KeepsJournal old) (appends : Appends client cmd old new reply) (next : World) (says : answer (world old) client cmd ≡ (reply, next)) where
  pub moves : sets_watch cmd ≡ false → next.saving ≡ in_progress new → Serves client cmd old new reply × KeepsJournal new
  moves none saving =
      let is : reply ≡ (answer (world old) client cmd).0 = sym (ap (λ (a : Reply × World). a.0) says) in
      let same : (answer (world old) client cmd).1 ≡ next = ap (λ (a : Reply × World). a.1) says in (
        record { appends = appends; reply_is = is },
        goes_on client cmd old new reply appends keeps is
            (ap (λ (w : World). w.saving) same ∙ saving)
            (unwatched client cmd old new reply appends keeps (sets_none old cmd reply none) (leaves_watches (world old) client cmd none)),
      )

pub begins : (client : ℕ) (old new : Serving) (begun : Progress) → KeepsJournal old → old.saving.progress ≡ None → (world old).settled < LAST_COPY → begun.number ≡ (world old).settled + 1
    → Appends client Save old new (Begun begun.number) → new.saving.progress ≡ Some begun → copy_of (cars_or_none new.frozen) begun ≡ copy (world old)
    → Serves client Save old new (Begun begun.number) × KeepsJournal new
unfolding answer
begins client old new begun keeps none less number appends is copied =
    let w = world old in
    let next = beginning w (w.settled + 1) (copy w) in
    let says : answer w client Save ≡ (Begun begun.number, next) =
    ap (answer_save w) (saving_is old None keeps none) ∙ begun_says w less ∙ ap (λ (n : ℕ). (Begun n, next)) (sym number) in
    let same : (w.settled + 1, copy w) ≡ numbered_copy new.frozen begun = (λ i. (sym number i, sym copied i)) in
    moves client Save old new (Begun begun.number) keeps appends next says refl (ap Some same ∙ sym (ap (option_map (numbered_copy new.frozen)) is))

pub settles : (client : ℕ) (old new : Serving) (begun : Progress) → KeepsJournal old → old.saving.progress ≡ Some begun → Appends client Settle old new (Saved begun.number)
    → new.saving.progress ≡ None → Serves client Settle old new (Saved begun.number) × KeepsJournal new × ((world new).settled ≡ begun.number) × ((world new).settled_copy ≡ copy_of (cars_or_none old.frozen) begun)
unfolding answer
settles client old new begun keeps is appends none =
    let w = world old in
    let next = settling w begun.number (copy_of (cars_or_none old.frozen) begun) in
    let says : answer w client Settle ≡ (Saved begun.number, next) = ap (answer_settle w) (saving_is old (Some begun) keeps is) in
    let both = moves client Settle old new (Saved begun.number) keeps appends next says refl (sym (ap (option_map (numbered_copy new.frozen)) none)) in
    let goes : world new ≡ next = next_world client Settle old new (Saved begun.number) appends ∙ ap (λ (a : Reply × World). a.1) says in
    (both.0, both.1, ap (λ (v : World). v.settled) goes, ap (λ (v : World). v.settled_copy) goes)

pub drops : (client : ℕ) (old new : Serving) (begun : Progress) → KeepsJournal old → old.saving.progress ≡ Some begun → Appends client Unsave old new (Dropped begun.number)
    → new.saving.progress ≡ None → Serves client Unsave old new (Dropped begun.number) × KeepsJournal new
unfolding answer
drops client old new begun keeps is appends none =
    let w = world old in
    let says : answer w client Unsave ≡ (Dropped begun.number, dropping w) = ap (answer_unsave w) (saving_is old (Some begun) keeps is) in
    moves client Unsave old new (Dropped begun.number) keeps appends (dropping w) says refl (sym (ap (option_map (numbered_copy new.frozen)) none))

-- ---- watches

-- the watch that is set now
abbrev kept_watch : Serving → kept.Watch
kept_watch it = watch_in it.view (length it.journal)

may_set : (w : World) (count : ℕ) → w.watches ≡ count → count < WATCHES → answer_watch w ≡ (Watching (count + 1), watching w)
may_set w count is few =
    let less : nat_lt count WATCHES ≡ true = grind (arith, nat_tests, few) in
    (λ i. if nat_lt (is i) WATCHES then (Watching (is i + 1), watching w) else refused w TooManyWatches)
    ∙ ap (λ (b : Bool). if b then (Watching (count + 1), watching w) else refused w TooManyWatches) less

may_not : (w : World) (count : ℕ) → w.watches ≡ count → WATCHES ≤ count → answer_watch w ≡ refused w TooManyWatches
may_not w count is many =
    let not_less : nat_lt count WATCHES ≡ false = grind (arith, nat_tests, many) in
    ap (λ (n : ℕ). if nat_lt n WATCHES then (Watching (n + 1), watching w) else refused w TooManyWatches) is
    ∙ ap (λ (b : Bool). if b then (Watching (count + 1), watching w) else refused w TooManyWatches) not_less

pub watches_set : (client : ℕ) (old new : Serving) → KeepsJournal old → length old.watches < WATCHES → Appends client Watch old new (Watching (length old.watches + 1))
    → new.frozen ≡ old.frozen → new.saving ≡ old.saving → Serves client Watch old new (Watching (length old.watches + 1)) × KeepsJournal new
unfolding answer
watches_set client old new keeps few appends frozen saving =
    let w = world old in
    let reply : Reply = Watching (length old.watches + 1) in
    let says : answer w client Watch ≡ (reply, watching w) = may_set w (length old.watches) keeps.watching few in
    let is : reply ≡ (answer w client Watch).0 = sym (ap (λ (a : Reply × World). a.0) says) in
    let same : (answer w client Watch).1 ≡ watching w = ap (λ (a : Reply × World). a.1) says in (
      record { appends = appends; reply_is = is },
      goes_on client Watch old new reply appends keeps is
          (ap (λ (w : World). w.saving) same ∙ keeps.saving ∙ same_progress old new frozen saving)
          (ap (λ (w : World). w.watches) same ∙ ap (λ (n : ℕ). n + 1) keeps.watching ∙ sym (ap length appends.watches ∙ length_push old.watches (kept_watch old))),
    )

pub watches_full : (client : ℕ) (old new : Serving) → KeepsJournal old → WATCHES ≤ length old.watches → Appends client Watch old new TooManyWatches
    → new.frozen ≡ old.frozen → new.saving ≡ old.saving → Serves client Watch old new TooManyWatches × KeepsJournal new
unfolding answer
watches_full client old new keeps many appends =
    refuses client Watch old new TooManyWatches keeps appends (may_not (world old) (length old.watches) keeps.watching many) refl

-- ---- where journal, course and watches stay

-- the copy in progress is the same, of which more pages may have been written
pub stays_begun : (frozen : Option Cars) (old new : Option Progress) → StaysBegun old new → option_map (numbered_copy frozen) old ≡ option_map (numbered_copy frozen) new
stays_begun frozen None None stays = refl
stays_begun frozen None (Some now) stays = absurd stays
stays_begun frozen (Some was) None stays = absurd stays
stays_begun frozen (Some was) (Some now) stays = (λ i. Some (sym stays.number i, sym (stays.copy (cars_or_none frozen)) i))

goes_same : (progress : Progress) → GoesOn progress progress
goes_same progress = record { number = refl; roots = refl; next_id = refl; copy = λ cars. refl; left = omega arith }

pub stays_same : (old new : Option Progress) → new ≡ old → StaysBegun old new
stays_same old new is = subst (StaysBegun old) (sym is) (same old)
  where
    same : (progress : Option Progress) → StaysBegun progress progress
    same None = tt
    same (Some progress) = goes_same progress

module _ (old new : Serving) (keeps : KeepsJournal old) where
  stays : KeepsOpening old new → new.frozen ≡ old.frozen → StaysBegun old.saving.progress new.saving.progress → new.journal ≡ old.journal → new.course ≡ old.course → new.watches ≡ old.watches → KeepsJournal new
  stays opened frozen progress journal course watches =
      let start = same_opening old new opened in
      let same : world new ≡ world old = (λ i. after (start i) (journal i)) in
      record {
        closed = subst IsClosed (sym start) keeps.closed;
        legal = subst (λ (w : World). IsLegal w new.journal) (sym start) (subst (IsLegal (opening old)) (sym journal) keeps.legal);
        saving = ap (λ (w : World). w.saving) same ∙ keeps.saving
            ∙ stays_begun old.frozen old.saving.progress new.saving.progress progress
            ∙ ap (λ (f : Option Cars). option_map (numbered_copy f) new.saving.progress) (sym frozen);
        watching = ap (λ (w : World). w.watches) same ∙ keeps.watching ∙ sym (ap length watches);
        told = ap length course ∙ keeps.told ∙ sym (ap length journal);
      }

  pub collected : Collects old new → KeepsJournal new
  collected it =
      stays it.opening it.frozen (stays_same old.saving.progress new.saving.progress (ap (λ saving. saving.progress) it.saving)) it.journal it.course it.watches

  pub flushed : Flushes old new → StaysBegun old.saving.progress new.saving.progress → KeepsJournal new
  flushed it progress = stays it.opening it.frozen progress it.journal it.course it.watches

  pub unanswered : ServesNothing old new → KeepsJournal new
  unanswered it = stays it.opening it.frozen it.progress it.journal it.course it.watches

-- another space is as good
pub spaceless : (it : Serving) (view : SpaceView) → KeepsJournal it → KeepsJournal (record it { view = view })
spaceless it view keeps = record { closed = keeps.closed; legal = keeps.legal; saving = keeps.saving; watching = keeps.watching; told = keeps.told }
