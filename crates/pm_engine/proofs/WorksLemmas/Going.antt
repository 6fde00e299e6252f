-- What holds of an engine goes on through each of its calls.
use Rattle.std.proofs.Common.{◌≡◌, ℕ, ◌≤◌, Bool, true, false, if◌then◌else◌, List, [], ◌∷◌, ◌++◌, Option, Some, None, Contains, refl, sym, ap, subst, ◌∙◌}
use Rattle.pm_types.specs.declared.command.Cmd.{Cmd}
use Rattle.pm_types.specs.declared.entry.Entry.{Entry}
use Rattle.pm_types.specs.declared.reply.Reply.{Reply}
use Rattle.pm_disk.specs.declared.disk.Disk.{Ghosts}
use Rattle.pm_disk.specs.Disk.{LeavesOnly}
use Rattle.pm_model.specs.World.{World, Copy}
use Rattle.pm_model.specs.Answer.{answer}
use Rattle.pm_model.specs.Journal.{IsLegal, after, chain, settled_along, settled_in, says_saved}
use Rattle.pm_model.proofs.ChainLaws.{after_more, chain_same, same_settled}
use Rattle.pm_model.proofs.Members.{at_first, in_rest}
use Rattle.pm_image.specs.Stands.{StandsForCopy}
use Rattle.pm_saving.specs.Tied.{HasCopy}
use Rattle.pm_save.specs.Progress.Answers.{Spares, TellsOn}
use Rattle.pm_saving.specs.Serving.{KeepsJournal, Serving, opening, world}
use Rattle.pm_saving.specs.Events.{Appends, Serves, watched}
use Rattle.pm_saving.specs.Images.{IsSettledCopy, IsStored, IsTold}
use Rattle.pm_law_saving.proofs.ServingLemmas.Images.{spared}
use Rattle.pm_law_saving.proofs.ServingLemmas.Kept as law
use Rattle.pm_engine.specs.declared.works.start.Start.{Start}
use Rattle.pm_engine.specs.declared.works.works.Works.{Works}
use Rattle.pm_engine.specs.Works.Working.{Adds, IsTiedIn, LastsIn, Rests, contents_in, disk_at, journal_in, state_in, watches_in}
use Rattle.pm_engine.specs.Works.Seen.{IsCrashSafe, disk_then, seen}
use Rattle.pm_engine.proofs.WorksLemmas.Telling.{nothing_served}
use Rattle.pm_engine.proofs.WorksLemmas.Whole.{more_journal, nothing_journal}

-- ---- the copy that settled last is one of the chain

along : (world : World) (kept : ℕ × Copy) (journal : List Entry) → kept ≡ settled_in world → IsLegal world journal → Contains (kept ∷ settled_along world journal) (settled_in (after world journal))
along world kept [] is legal = subst (λ (it : ℕ × Copy). Contains (kept ∷ []) it) is (at_first kept [])
along world kept (entry ∷ rest) is legal =
    let next = (answer world entry.client entry.cmd).1 in
    by (says_saved entry.reply) (settled_in next) (settled_along next rest) (settled_in (after next rest)) refl
    (λ other. is ∙ sym (same_settled world entry.client entry.cmd (sym (ap says_saved legal.0) ∙ other)))
    (λ also same. along next also rest same legal.1)
  where
    by : (b : Bool) (now : ℕ × Copy) (later : List (ℕ × Copy)) (last : ℕ × Copy) → says_saved entry.reply ≡ b → (b ≡ false → kept ≡ now)
        → ((also : ℕ × Copy) → also ≡ now → Contains (also ∷ later) last) → Contains (kept ∷ ((if b then now ∷ [] else []) ++ later)) last
    by true now later last here same goes = in_rest kept last (now ∷ later) (goes now refl)
    by false now later last here same goes = goes kept (same refl)

pub settled_there : (it : Serving) → KeepsJournal it → Contains (chain (opening it) it.journal) (settled_in (world it))
settled_there it keeps = along (opening it) (settled_in (opening it)) it.journal refl keeps.legal

module _ {D : Type 0} {F : Type 0} {g : Ghosts D} (start : Start D F g) (old new : Works D F g) where
  abbrev before : Serving
  before = seen start None old

  abbrev later : Serving
  later = seen start None new

  -- the entry of a command that sets no watch
  pub appends_so : (stopped : Option ℕ) (client : ℕ) (cmd : Cmd) (reply : Reply) → watched (seen start stopped old) cmd reply ≡ watches_in old → Adds client cmd reply old new
      → Appends client cmd (seen start stopped old) (seen start stopped new) reply
  appends_so stopped client cmd reply none adds = record {
    opening = record { number = refl; opened = refl };
    journal = more_journal old new (record { client = client; cmd = cmd; reply = reply } ∷ []) adds.past adds.journal;
    course = adds.course;
    watches = adds.watches ∙ sym none;
    events = adds.events;
    steps = adds.steps;
    stopped = refl;
  }

  pub appends : (client : ℕ) (cmd : Cmd) (reply : Reply) → watched (seen start None old) cmd reply ≡ watches_in old → Adds client cmd reply old new → Appends client cmd (seen start None old) (seen start None new) reply
  appends = appends_so None

  -- nothing was answered
  pub rests_kept : (later : Option ℕ) → KeepsJournal (seen start None old) → Rests old new → KeepsJournal (seen start later new)
  rests_kept later keeps rests = law.unanswered (seen start None old) (seen start later new) keeps (nothing_served start None old new later rests)

  -- at each moment of the call the current copy stood
  pub leaves : IsStored (seen start None old) (state_in old) (g.contents (disk_then start)) (contents_in old) → (IsTold (g.contents (disk_then start)) → IsTold (contents_in old))
      → Spares g.contents g.moment g.since (state_in old) (disk_at old) (disk_at new) → IsTold (g.contents (disk_then start))
      → LeavesOnly g.moment g.since (disk_at old) (disk_at new) (IsSettledCopy (world (seen start None old)))
  leaves stored tells spares first =
      let was = tells first in
      let w = world (seen start None old) in
      subst (λ (n : ℕ). LeavesOnly g.moment g.since (disk_at old) (disk_at new) (λ image. StandsForCopy image n w.settled_copy)) stored.numbered
      (spares w.settled_copy was.0 was.1 (stored.has first was.0 was.1))

  module _ (sound : IsCrashSafe start None old) (counts : (t : ℕ) (bytes : List ℕ) → t ≤ g.moment (disk_at new) → g.image (disk_at new) bytes → g.since (disk_at new) t bytes) where
    stored : IsStored (seen start None old) (state_in old) (g.contents (disk_then start)) (contents_in old)
    stored = sound.stored refl

    tells : TellsOn (contents_in old) (contents_in new) → IsTold (contents_in old) → IsTold (contents_in new)
    tells told is = told is.0 is.1

    -- the same copy has settled, and it stands where it stood
    pub lasts : KeepsJournal (seen start None new) → settled_in (world (seen start None new)) ≡ settled_in (world (seen start None old))
        → chain (opening (seen start None new)) (journal_in new) ≡ chain (opening (seen start None old)) (journal_in old)
        → IsTiedIn new → LastsIn old new → TellsOn (contents_in old) (contents_in new) → Spares g.contents g.moment g.since (state_in old) (disk_at old) (disk_at new) → IsCrashSafe start None new
    lasts keeps settled same tied last told spares = record {
      journal = keeps;
      stored = λ _. record {
        tied = tied;
        numbered = ap (λ h. h.epoch) last.header ∙ stored.numbered ∙ sym (ap (λ (kept : ℕ × Copy). kept.0) settled);
        has = λ first bytes is.
            let was = sound.images.told first in
            subst (HasCopy (state_in new) bytes) (sym (ap (λ (kept : ℕ × Copy). kept.1) settled))
            (last.has (world (seen start None old)).settled_copy was.0 was.1 (stored.has first was.0 was.1) bytes is);
      };
      images = spared g.contents g.image g.moment g.since (disk_then start) (seen start None old) (disk_at old) (disk_at new) (IsSettledCopy (world (seen start None old))) refl sound.images (leaves stored sound.images.told spares) (tells told) counts
          (seen start None new) settled same (settled_there (seen start None old) sound.journal) (λ left is. is);
    }

    -- nothing was answered
    pub rests_sound : Rests old new → IsTiedIn new → LastsIn old new → TellsOn (contents_in old) (contents_in new) → Spares g.contents g.moment g.since (state_in old) (disk_at old) (disk_at new) → IsCrashSafe start None new
    rests_sound rests =
        let w = opening (seen start None old) in
        lasts (rests_kept None sound.journal rests)
        (ap (λ (entries : List Entry). settled_in (after w entries)) (nothing_journal old new rests.nothing))
        (ap (chain w) (nothing_journal old new rests.nothing))

    -- a command was answered that settles nothing
    pub answers_sound : (client : ℕ) (cmd : Cmd) (reply : Reply) → Serves client cmd (seen start None old) (seen start None new) reply → KeepsJournal (seen start None new) → says_saved reply ≡ false
        → IsTiedIn new → LastsIn old new → TellsOn (contents_in old) (contents_in new) → Spares g.contents g.moment g.since (state_in old) (disk_at old) (disk_at new) → IsCrashSafe start None new
    answers_sound client cmd reply serves keeps other =
        let w = opening (seen start None old) in
        let entry : Entry = record { client = client; cmd = cmd; reply = reply } in
        lasts keeps
        (ap (λ (entries : List Entry). settled_in (after w entries)) serves.appends.journal ∙ ap settled_in (after_more w (journal_in old) entry)
        ∙ same_settled (world (seen start None old)) client cmd (ap says_saved (sym serves.reply_is) ∙ other))
        (ap (chain w) serves.appends.journal ∙ chain_same w (journal_in old) entry other)

    -- the disk failed, and the current copy stood at each moment
    pub failed_still : (count : ℕ) → Rests old new → TellsOn (contents_in old) (contents_in new) → Spares g.contents g.moment g.since (state_in old) (disk_at old) (disk_at new) → IsCrashSafe start (Some count) new
    failed_still count rests told spares =
        let w = opening (seen start None old) in
        record {
          journal = rests_kept (Some count) sound.journal rests;
          stored = λ none. absurd (cc none);
          images = spared g.contents g.image g.moment g.since (disk_then start) (seen start None old) (disk_at old) (disk_at new) (IsSettledCopy (world (seen start None old))) refl sound.images (leaves stored sound.images.told spares) (tells told) counts
              (seen start (Some count) new) (ap (λ (entries : List Entry). settled_in (after w entries)) (nothing_journal old new rests.nothing)) (ap (chain w) (nothing_journal old new rests.nothing)) (settled_there (seen start None old) sound.journal) (λ left is. is);
        }
