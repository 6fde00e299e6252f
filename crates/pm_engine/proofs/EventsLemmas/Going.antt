-- What parts of a run do to engine and disk, one behind another.
use Rattle.std.proofs.Common.{◌≡◌, ◌⊎◌, ⊎_elim, inl, inr, ℕ, ◌+◌, ◌<◌, ◌≤◌, length, length-append, arith, true, false, List, [], ◌∷◌, ◌++◌, Option, Some, None, Ok, Err, refl, ap, sym, subst, ◌∙◌}
use Rattle.std.specs.List.{Contains}
use Rattle.std.specs.Option.{IsSome, is_some}
use Rattle.pm_types.specs.Memory.{no_memory}
use Rattle.pm_types.specs.Counts.{Rose, ShowsRise}
use Rattle.pm_types.specs.declared.command.Cmd.{Cmd}
use Rattle.pm_types.specs.declared.entry.Entry.{Entry}
use Rattle.pm_types.specs.declared.event.Flushed.{Flushed}
use Rattle.pm_types.specs.declared.event.Flushed.TheVariants.{AllFlushed, Wrote}
use Rattle.pm_types.specs.declared.fault.EngineFault.{EngineFault}
use Rattle.pm_types.specs.declared.fault.EngineFault.TheVariants.{Memory as NoRoom, Disk, Reopen}
use Rattle.pm_types.specs.declared.reply.Reply.{Reply}
use Rattle.pm_disk.specs.declared.disk.Disk.{Ghosts}
use Rattle.pm_disk.specs.Disk.{LeavesOnly}
use Rattle.pm_disk.proofs.RunLemmas.{joined, started, weaker}
use Rattle.pm_model.specs.World.{World, Copy}
use Rattle.pm_model.specs.Answer.{answer}
use Rattle.pm_model.specs.Frames.{is_settle}
use Rattle.pm_model.specs.Journal.{IsLegal, after, chain, settled_in}
use Rattle.pm_model.proofs.ChainLaws.{after_more, legal_more}
use Rattle.pm_image.specs.Stands.{StandsForCopy}
use Rattle.pm_view.specs.View.{Cars}
use Rattle.pm_shadow.specs.State.{State}
use Rattle.pm_saving.specs.Progress.{Progress, Saving}
use Rattle.pm_save.specs.Progress.Answers.{IsFlushed}
use Rattle.pm_saving.specs.Serving.{KeepsOpening, Serving, opening, world}
use Rattle.pm_saving.specs.Images.{IsCopyInProgress, IsLast, IsOfChain, IsOfRun, IsSettledCopy, IsTold}
use Rattle.pm_saving.specs.Events.{Collects, FailsAs, Flushes, Serves, ServesNothing, StaysBegun}
use Rattle.pm_engine.specs.declared.engine.Engine.{Engine}
use Rattle.pm_engine.specs.Shown.{KeepsStart, disk_in, face, opened_disk, past_of, room, serving}
use Rattle.pm_engine.specs.Works.Copies.{IsOfDisk as IsDiskFault, MayStand}
use Rattle.pm_engine.specs.Works.Clauses.{IsRunning, LeavesCopies, LeavesCopy, MayRunOut}
use Rattle.pm_engine.specs.declared.events.stop.Stop.{Stop}
use Rattle.pm_engine.specs.declared.events.stop.Stop.TheVariants.{Memory, Writing, Device}
use Rattle.pm_engine.specs.Events.Causes.{CountsDisk, stop_of}
use Rattle.pm_engine.specs.Events.Running.{IsFresh, RunsOnDisk}
use Rattle.pm_engine.specs.Events.Events.{EngineGoesOn, IsShort, KeepsCounts, WasIdle}
use Rattle.pm_engine.proofs.EventsLemmas.Journals.{chain_longer, end_in_chain, no_end, settled_next}

-- ---- what is served

Members : Serving → ℕ × Copy → Type 0
Members it kept = Contains (chain (opening it) it.journal) kept

same_opening : (old new : Serving) → KeepsOpening old new → opening new ≡ opening old
same_opening old new keeps = (λ i. opening (record old { number = keeps.number i; opened = keeps.opened i }))

not_stopped : (it : Serving) → it.stopped ≡ None → IsSome it.stopped → ⊥
not_stopped it none some = let never : false ≡ true = sym (ap is_some none) ∙ some in cc never

-- while no call has answered that the disk failed an image is of the chain, and stays so
stays_of_run : (old new : Serving) → old.stopped ≡ None → ((kept : ℕ × Copy) → Contains (chain (opening old) old.journal) kept → Contains (chain (opening new) new.journal) kept) → (left : List ℕ) → IsOfRun old left → IsOfRun new left
stays_of_run old new none grows left of = ⊎_elim (λ (kept : IsOfChain (opening old) old.journal left). inl (kept.0, grows kept.0 kept.1, kept.2)) (λ begun. absurd (not_stopped old none begun.0)) of

-- what has settled is of the chain
settled_of_run : (old new : Serving) → IsLegal (opening old) old.journal → ((kept : ℕ × Copy) → Contains (chain (opening old) old.journal) kept → Contains (chain (opening new) new.journal) kept) → (left : List ℕ) → IsSettledCopy (world old) left → IsOfRun new left
settled_of_run old new legal grows left is = inl (settled_in (world old), grows (settled_in (world old)) (end_in_chain (opening old) old.journal legal), is)

-- a journal that stays
module _ (old new : Serving) (keeps : KeepsOpening old new) (journal : new.journal ≡ old.journal) where
  pub same_chain : (kept : ℕ × Copy) → Contains (chain (opening old) old.journal) kept → Contains (chain (opening new) new.journal) kept
  same_chain kept there = subst (λ (both : World × List Entry). Contains (chain both.0 both.1) kept) (λ i. (sym (same_opening old new keeps) i, sym journal i)) there

  pub same_world : world new ≡ world old
  same_world = (λ i. after (same_opening old new keeps i) (journal i))

-- one that grew by a reply that is the world's
module _ (client : ℕ) (cmd : Cmd) (old new : Serving) (reply : Reply) (legal : IsLegal (opening old) old.journal) (serves : Serves client cmd old new reply) where
  abbrev entry_of : Entry
  entry_of = record { client = client; cmd = cmd; reply = reply }

  longer : ◌≡◌ {A = World × List Entry} (opening old, old.journal ++ entry_of ∷ []) (opening new, new.journal)
  longer = (λ i. (sym (same_opening old new serves.appends.opening) i, sym serves.appends.journal i))

  pub more_chain : (kept : ℕ × Copy) → Contains (chain (opening old) old.journal) kept → Contains (chain (opening new) new.journal) kept
  more_chain kept there = subst (λ (both : World × List Entry). Contains (chain both.0 both.1) kept) longer (chain_longer (opening old) old.journal entry_of kept there)

  legal_then : IsLegal (opening new) new.journal
  legal_then = subst (λ (both : World × List Entry). IsLegal both.0 both.1) longer (legal_more (opening old) old.journal entry_of legal serves.reply_is)

  next_world : world new ≡ (answer (world old) client cmd).1
  next_world = sym (ap (λ (both : World × List Entry). after both.0 both.1) longer) ∙ after_more (opening old) old.journal entry_of

  -- the copy that was in progress has settled
  begun_settled : is_settle cmd ≡ true → (left : List ℕ) → IsCopyInProgress (world old) left → IsOfRun new left
  begun_settled settles left begun =
      let same : settled_in (world new) ≡ begun.0 = ap settled_in next_world ∙ settled_next (world old) client cmd begun.0 settles begun.1 in
      inl (settled_in (world new), end_in_chain (opening new) new.journal legal_then, subst (λ (kept : ℕ × Copy). StandsForCopy left kept.0 kept.1) (sym same) begun.2)

  pub answered_of_run : (left : List ℕ) → MayStand cmd old (Ok reply) left → IsOfRun new left
  answered_of_run left may = ⊎_elim (settled_of_run old new legal more_chain left) (λ begun. begun_settled begun.0 left begun.2) may

-- ---- the copy in progress

-- a flush begins none
none_flushed : (old new : Saving) (cars : Cars) (s t : State) (was now : Option (List ℕ)) (flushed : Flushed) → IsFlushed old new cars s t was now flushed → old.progress ≡ None → new.progress ≡ None
none_flushed old new cars s t was now AllFlushed is none = ap (λ (it : Saving). it.progress) is.1.saving ∙ none
none_flushed old new cars s t was now (Wrote page) is none = let some = is.is_progress in absurd (cc (none, some))

none_begun : (old new : Option Progress) → StaysBegun old new → old ≡ None → new ≡ None
none_begun None None stays none = refl
none_begun None (Some after) stays none = absurd stays
none_begun (Some before) None stays none = refl
none_begun (Some before) (Some after) stays none = absurd (cc none)

-- ---- calls of the engine

-- the count rose as told
rose_of : (b a before later : ℕ) → ShowsRise b a before later → Rose before later
rose_of b a before later shows = subst (λ (both : ℕ × ℕ). Rose both.0 both.1) (λ i. (shows.0 i, shows.1 i)) shows.2

-- what may stand at a moment of a call that failed
abbrev MayStandAt : EngineFault → Serving → List ℕ → Type 0
MayStandAt fault it left = IsSettledCopy (world it) left ⊎ (IsDiskFault fault × IsCopyInProgress (world it) left)

-- an entry took the room of one
room_of_one : (room_old room_new : ℕ) (old new : List Entry) (entry : Entry) → new ≡ old ++ entry ∷ [] → room_old ≤ room_new + 1 → room_old + length old ≤ room_new + length new
room_of_one room_old room_new old new entry is within =
    let long : length new ≡ length old + 1 = ap length is ∙ length-append old (entry ∷ []) in
    omega (arith, long, within)

-- and none took any
room_of_none : (room_old room_new : ℕ) (old new : List Entry) → new ≡ old → room_old ≤ room_new → room_old + length old ≤ room_new + length new
room_of_none room_old room_new old new is within = let long = ap length is in omega (arith, long, within)

module _ {D : Type 0} {F : Type 0} {g : Ghosts D} (old new : Engine D F g) (start : KeepsStart old new) (legal : IsLegal (opening (serving old)) (serving old).journal) (past : (g.made (disk_in new)).past ≡ (g.made (disk_in old)).past) (entries : past_of new ≡ past_of old)
    (idle : (serving old).saving.progress ≡ None → disk_in new ≡ disk_in old) where
  -- a command was answered
  pub answered : (client : ℕ) (cmd : Cmd) (reply : Reply) → Serves client cmd (serving old) (serving new) reply → IsRunning (serving old).stopped (face old) (face new) → LeavesCopies cmd (face old) (face new) (Ok reply) → room old ≤ room new + 1 → EngineGoesOn old new None
  answered client cmd reply serves runs leaves within = record {
    start = start;
    entries = entries;
    room = room_of_one (room old) (room new) (serving old).journal (serving new).journal (record { client = client; cmd = cmd; reply = reply }) serves.appends.journal within;
    grows = more_chain client cmd (serving old) (serving new) reply legal serves;
    leaves = λ told. weaker g.moment g.since (disk_in old) (disk_in new) (MayStand cmd (serving old) (Ok reply)) (IsOfRun (serving new)) (leaves runs.running told) (answered_of_run client cmd (serving old) (serving new) reply legal serves);
    last = λ of. absurd of;
    going = λ _. serves.appends.stopped ∙ runs.running;
    cause = runs.count;
    past = past;
    idle = λ none. absurd (no_end (serving old).journal (record { client = client; cmd = cmd; reply = reply }) (sym serves.appends.journal ∙ none));
  }

  -- there is room for as many entries
  module _ (within : room old ≤ room new) where
    -- an event was made that answers nothing, and begins no copy
    eventful : KeepsOpening (serving old) (serving new) → (serving new).journal ≡ (serving old).journal → (serving new).stopped ≡ (serving old).stopped → ((serving old).saving.progress ≡ None → (serving new).saving.progress ≡ None)
        → IsRunning (serving old).stopped (face old) (face new) → LeavesCopy (face old) (face new) → EngineGoesOn old new None
    eventful keeps journal stopped still runs leaves =
        let same = same_chain (serving old) (serving new) keeps journal in
        record {
          start = start;
          entries = entries;
          room = room_of_none (room old) (room new) (serving old).journal (serving new).journal journal within;
          grows = same;
          leaves = λ told. weaker g.moment g.since (disk_in old) (disk_in new) (IsSettledCopy (world (serving old))) (IsOfRun (serving new)) (leaves runs.running told) (settled_of_run (serving old) (serving new) legal same);
          last = λ of. absurd of;
          going = λ _. stopped ∙ runs.running;
          cause = runs.count;
          past = past;
          idle = λ none. record { none = sym journal ∙ none; still = still; disk = idle };
        }

    -- an event that writes a page was made
    pub flushed : (answer : Flushed) (cars : Cars) (s t : State) (was now : Option (List ℕ)) → Flushes (serving old) (serving new) → IsFlushed (serving old).saving (serving new).saving cars s t was now answer
        → IsRunning (serving old).stopped (face old) (face new) → LeavesCopy (face old) (face new) → EngineGoesOn old new None
    flushed answer cars s t was now flushes is runs leaves = eventful flushes.opening flushes.journal flushes.stopped (none_flushed (serving old).saving (serving new).saving cars s t was now answer is) runs leaves

    -- an event of the collector was made
    pub collected : Collects (serving old) (serving new) → IsRunning (serving old).stopped (face old) (face new) → LeavesCopy (face old) (face new) → EngineGoesOn old new None
    collected collects runs leaves = eventful collects.opening collects.journal collects.stopped (λ none. ap (λ (it : Saving). it.progress) collects.saving ∙ none) runs leaves

    -- where nothing was answered
    module _ (nothing : ServesNothing (serving old) (serving new)) where
      same_members : (kept : ℕ × Copy) → Contains (chain (opening (serving old)) (serving old).journal) kept → Contains (chain (opening (serving new)) (serving new).journal) kept
      same_members = same_chain (serving old) (serving new) nothing.opening nothing.journal

      in_world : (left : List ℕ) → IsCopyInProgress (world (serving old)) left → IsCopyInProgress (world (serving new)) left
      in_world left begun = subst (λ (w : World). IsCopyInProgress w left) (sym (same_world (serving old) (serving new) nothing.opening nothing.journal)) begun

      was_idle : (serving new).journal ≡ [] → WasIdle (serving old) (serving new) (disk_in old) (disk_in new)
      was_idle none = record { none = sym nothing.journal ∙ none; still = none_begun (serving old).saving.progress (serving new).saving.progress nothing.progress; disk = idle }

      no_room : (before after : ℕ) → (serving new).stopped ≡ None → g.count (disk_in new) ≡ g.count (disk_in old)
          → (IsTold (g.contents (opened_disk old)) → LeavesOnly g.moment g.since (disk_in old) (disk_in new) (MayStandAt (NoRoom no_memory) (serving old))) → EngineGoesOn old new (Some (Memory no_memory))
      no_room before after going counted leaves = record {
        start = start;
        entries = entries;
        room = room_of_none (room old) (room new) (serving old).journal (serving new).journal nothing.journal within;
        grows = same_members;
        leaves = λ told.
            weaker g.moment g.since (disk_in old) (disk_in new) (MayStandAt (NoRoom no_memory) (serving old)) (IsOfRun (serving new)) (leaves told)
            (λ left may. ⊎_elim (settled_of_run (serving old) (serving new) legal same_members left) (λ never. absurd never.0) may);
        last = λ of. absurd of;
        going = λ _. going;
        cause = counted;
        past = past;
        idle = was_idle;
      }

      device : (before after count : ℕ) → (serving new).stopped ≡ Some count → Rose (g.count (disk_in old)) (g.count (disk_in new))
          → ((left : List ℕ) → g.image (disk_in new) left → g.moment (disk_in old) ≤ g.moment (disk_in new) → g.since (disk_in new) (g.moment (disk_in old)) left)
          → (IsTold (g.contents (opened_disk old)) → LeavesOnly g.moment g.since (disk_in old) (disk_in new) (MayStandAt (Disk before after) (serving old))) → EngineGoesOn old new (Some Device)
      device before after count stopped rose counts leaves =
          let some : IsSome (serving new).stopped = ap is_some stopped in
          record {
            start = start;
            entries = entries;
            room = room_of_none (room old) (room new) (serving old).journal (serving new).journal nothing.journal within;
            grows = same_members;
            leaves = λ told.
                weaker g.moment g.since (disk_in old) (disk_in new) (MayStandAt (Disk before after) (serving old)) (IsOfRun (serving new)) (leaves told)
                (λ left may. ⊎_elim (settled_of_run (serving old) (serving new) legal same_members left) (λ begun. inr (some, in_world left begun.1)) may);
            last = λ of told left here.
                let each = leaves told in
                ⊎_elim
                (λ (settled : IsSettledCopy (world (serving old)) left). inl (subst (λ (w : World). IsSettledCopy w left) (sym (same_world (serving old) (serving new) nothing.opening nothing.journal)) settled))
                (λ begun. inr (some, in_world left begun.1))
                (each.each left (counts left here each.later));
            going = λ not. absurd (not tt);
            cause = rose;
            past = past;
            idle = was_idle;
          }

    -- a call failed
    pub failed : (fault : EngineFault) → FailsAs (serving old) (serving new) (g.count (disk_in old)) (g.count (disk_in new)) fault → (serving old).stopped ≡ None
        → ((left : List ℕ) → g.image (disk_in new) left → g.moment (disk_in old) ≤ g.moment (disk_in new) → g.since (disk_in new) (g.moment (disk_in old)) left)
        → (IsTold (g.contents (opened_disk old)) → LeavesOnly g.moment g.since (disk_in old) (disk_in new) (MayStandAt fault (serving old))) → EngineGoesOn old new (Some (stop_of fault))
    failed (NoRoom _) fails none counts leaves = no_room fails.0 0 0 fails.2 fails.3 leaves
    failed (Disk b a) fails none counts leaves = device fails.0 b a (g.count (disk_in new)) fails.2 (rose_of b a (g.count (disk_in old)) (g.count (disk_in new)) fails.3) counts leaves
    failed (Reopen count) fails none counts leaves = let stopped = fails.1 in absurd (cc (none, stopped))

    pub client_failed : (cmd : Cmd) (fault : EngineFault) → FailsAs (serving old) (serving new) (g.count (disk_in old)) (g.count (disk_in new)) fault → (serving old).stopped ≡ None
        → ((left : List ℕ) → g.image (disk_in new) left → g.moment (disk_in old) ≤ g.moment (disk_in new) → g.since (disk_in new) (g.moment (disk_in old)) left)
        → LeavesCopies cmd (face old) (face new) (Err fault) → EngineGoesOn old new (Some (stop_of fault))
    client_failed cmd fault fails none counts leaves =
        failed fault fails none counts
        (λ told. weaker g.moment g.since (disk_in old) (disk_in new) (MayStand cmd (serving old) (Err fault)) (MayStandAt fault (serving old)) (leaves none told)
        (λ left may. ⊎_elim (λ settled. inl settled) (λ begun. inr (begun.1, begun.2)) may))

    -- and calls no disk, or only to write a page
    pub event_failed : (fault : EngineFault) → FailsAs (serving old) (serving new) (g.count (disk_in old)) (g.count (disk_in new)) fault → (serving old).stopped ≡ None
        → ((left : List ℕ) → g.image (disk_in new) left → g.moment (disk_in old) ≤ g.moment (disk_in new) → g.since (disk_in new) (g.moment (disk_in old)) left)
        → LeavesCopy (face old) (face new) → EngineGoesOn old new (Some (stop_of fault))
    event_failed fault fails none counts leaves =
        failed fault fails none counts
        (λ told. weaker g.moment g.since (disk_in old) (disk_in new) (IsSettledCopy (world (serving old))) (MayStandAt fault (serving old)) (leaves none told) (λ left settled. inl settled))

-- a call that failed leaves journal and counts
pub counts_stay : (old new : Serving) (before after : ℕ) (fault : EngineFault) → FailsAs old new before after fault → KeepsCounts old new
counts_stay old new before after (NoRoom _) fails = record { journal = fails.0.journal; course = fails.0.course; events = fails.0.events; steps = fails.0.steps }
counts_stay old new before after (Disk b a) fails = record { journal = fails.0.journal; course = fails.0.course; events = fails.0.events; steps = fails.0.steps }
counts_stay old new before after (Reopen count) fails = record {
  journal = ap (λ (it : Serving). it.journal) fails.0;
  course = ap (λ (it : Serving). it.course) fails.0;
  events = ap (λ (it : Serving). it.events) fails.0;
  steps = ap (λ (it : Serving). it.steps) fails.0;
}

module _ {D : Type 0} {F : Type 0} {g : Ghosts D} (old new : Engine D F g) where
  -- where there was room for the entry, and memory ran out in `settle`
  pub unfinished : (cmd : Cmd) (fault : EngineFault) → FailsAs (serving old) (serving new) (g.count (disk_in old)) (g.count (disk_in new)) fault → MayRunOut cmd (face old) (face new) fault → 0 < room old → IsShort cmd (serving old) (serving new) (Some (stop_of fault))
  unfinished cmd (NoRoom _) fails may within =
      (fails.0.events, λ settles. ⊎_elim (λ both. both.1) (λ none. absurd (omega (arith, none, within))) (may settles))
  unfinished cmd (Disk b a) fails may within = tt
  unfinished cmd (Reopen count) fails may within = tt

  -- where the disk was not called what stood may stand
  pub leaves_still : disk_in new ≡ disk_in old
      → ((serving old).stopped ≡ None → IsTold (g.contents (opened_disk old)) → (left : List ℕ) → g.image (disk_in old) left → IsSettledCopy (world (serving old)) left)
      → ((left : List ℕ) → g.since (disk_in old) (g.moment (disk_in old)) left → g.image (disk_in old) left) → LeavesCopy (face old) (face new)
  leaves_still same settled now none told =
      subst (λ (d : D). LeavesOnly g.moment g.since (disk_in old) d (IsSettledCopy (world (serving old)))) (sym same)
      (started g.moment g.since (disk_in old) (IsSettledCopy (world (serving old))) (λ left there. settled none told left (now left there)))

-- ---- one part behind another

counts_then : (stop : Option Stop) (before mid end : ℕ) → mid ≡ before → CountsDisk stop mid end → CountsDisk stop before end
counts_then stop before mid end same cause = subst (λ (n : ℕ). CountsDisk stop n end) same cause

-- what an engine was opened with is its own
pub same_start : {D F : Type 0} {g : Ghosts D} (it : Engine D F g) → KeepsStart it it
same_start it = record { opening = record { number = refl; opened = refl }; disk = refl; count = refl; chooser = refl }

keeps_then : {D F : Type 0} {g : Ghosts D} (old mid new : Engine D F g) → KeepsStart old mid → KeepsStart mid new → KeepsStart old new
keeps_then old mid new one two = record {
  opening = record { number = two.opening.number ∙ one.opening.number; opened = two.opening.opened ∙ one.opening.opened };
  disk = two.disk ∙ one.disk;
  count = two.count ∙ one.count;
  chooser = two.chooser ∙ one.chooser;
}

module _ {D : Type 0} {F : Type 0} {g : Ghosts D} where
  told_then : (old new : Engine D F g) → KeepsStart old new → IsTold (g.contents (opened_disk old)) → IsTold (g.contents (opened_disk new))
  told_then old new start told = subst (λ (d : D). IsTold (g.contents d)) (sym start.disk) told

  -- nothing was done yet
  pub goes_first : (old : Engine D F g) → (serving old).stopped ≡ None → IsLegal (opening (serving old)) (serving old).journal
      → (IsTold (g.contents (opened_disk old)) → (left : List ℕ) → g.image (disk_in old) left → IsSettledCopy (world (serving old)) left)
      → ((left : List ℕ) → g.since (disk_in old) (g.moment (disk_in old)) left → g.image (disk_in old) left) → EngineGoesOn old old None
  goes_first old none legal settled now = record {
    start = same_start old;
    entries = refl;
    room = omega arith;
    grows = λ kept there. there;
    leaves = λ told. started g.moment g.since (disk_in old) (IsOfRun (serving old)) (λ left there. settled_of_run (serving old) (serving old) legal (λ kept in_chain. in_chain) left (settled told left (now left there)));
    last = λ of. absurd of;
    going = λ _. none;
    cause = refl;
    past = refl;
    idle = λ empty. record { none = empty; still = λ is. is; disk = λ _. refl };
  }

  -- nothing was done but that room was made
  pub goes_still : (old new : Engine D F g) → KeepsStart old new → past_of new ≡ past_of old → room old ≤ room new → serving new ≡ serving old → disk_in new ≡ disk_in old → (serving old).stopped ≡ None → IsLegal (opening (serving old)) (serving old).journal
      → (IsTold (g.contents (opened_disk old)) → (left : List ℕ) → g.image (disk_in old) left → IsSettledCopy (world (serving old)) left)
      → ((left : List ℕ) → g.since (disk_in old) (g.moment (disk_in old)) left → g.image (disk_in old) left) → EngineGoesOn old new None
  goes_still old new start entries within same disk none legal settled now =
      let first = goes_first old none legal settled now in
      record {
        start = start;
        entries = entries;
        room = room_of_none (room old) (room new) (serving old).journal (serving new).journal (ap (λ (it : Serving). it.journal) same) within;
        grows = λ kept there. subst (λ (it : Serving). Contains (chain (opening it) it.journal) kept) (sym same) there;
        leaves = λ told. subst (λ (both : D × Serving). LeavesOnly g.moment g.since (disk_in old) both.0 (IsOfRun both.1)) (λ i. (sym disk i, sym same i)) (first.leaves told);
        last = λ of. absurd of;
        going = λ _. ap (λ (it : Serving). it.stopped) same ∙ none;
        cause = ap g.count disk;
        past = ap (λ (d : D). (g.made d).past) disk;
        idle = λ empty. record { none = sym (ap (λ (it : Serving). it.journal) same) ∙ empty; still = λ is. ap (λ (it : Serving). it.saving.progress) same ∙ is; disk = λ _. disk };
      }

  pub goes_then : (old mid new : Engine D F g) (stop : Option Stop) → EngineGoesOn old mid None → EngineGoesOn mid new stop → EngineGoesOn old new stop
  goes_then old mid new stop one two = record {
    start = keeps_then old mid new one.start two.start;
    entries = two.entries ∙ one.entries;
    room = let first = one.room in let second = two.room in omega (arith, first, second);
    grows = λ kept there. two.grows kept (one.grows kept there);
    leaves = λ told.
        joined g.moment g.since (disk_in old) (disk_in mid) (disk_in new) (IsOfRun (serving new))
        (weaker g.moment g.since (disk_in old) (disk_in mid) (IsOfRun (serving mid)) (IsOfRun (serving new)) (one.leaves told) (stays_of_run (serving mid) (serving new) (one.going (λ of. of)) two.grows))
        (two.leaves (told_then old mid one.start told));
    last = λ of told. two.last of (told_then old mid one.start told);
    going = two.going;
    cause = counts_then stop (g.count (disk_in old)) (g.count (disk_in mid)) (g.count (disk_in new)) one.cause two.cause;
    past = two.past ∙ one.past;
    idle = λ none.
        let second = two.idle none in
        let first = one.idle second.none in
        record { none = first.none; still = λ is. second.still (first.still is); disk = λ is. second.disk (first.still is) ∙ first.disk is };
  }

  -- what went well goes on so where the sink fails
  pub goes_unwritten : (old new : Engine D F g) → EngineGoesOn old new None → EngineGoesOn old new (Some Writing)
  goes_unwritten old new goes =
      record { start = goes.start; entries = goes.entries; room = goes.room; grows = goes.grows; leaves = goes.leaves; last = λ of. absurd of; going = goes.going; cause = goes.cause; past = goes.past; idle = goes.idle }

  -- and where memory ran out before anything was asked
  pub goes_short : (old new : Engine D F g) → EngineGoesOn old new None → EngineGoesOn old new (Some (Memory no_memory))
  goes_short old new goes =
      record { start = goes.start; entries = goes.entries; room = goes.room; grows = goes.grows; leaves = goes.leaves; last = λ of. absurd of; going = goes.going; cause = goes.cause; past = goes.past; idle = goes.idle }

  -- the end of a run stops it only where nothing else did
  pub goes_ended : (old new : Engine D F g) (before after : Option Stop) → (after ≡ before) ⊎ ((before ≡ None) × (after ≡ Some Writing)) → EngineGoesOn old new before → EngineGoesOn old new after
  goes_ended old new before after why goes =
      ⊎_elim (λ same. subst (EngineGoesOn old new) (sym same) goes) (λ both. subst (EngineGoesOn old new) (sym both.1) (goes_unwritten old new (subst (EngineGoesOn old new) both.0 goes))) why

  -- ---- the whole run

  last_of : (old new : Engine D F g) (stop : Option Stop) → EngineGoesOn old new stop
      → ((serving new).stopped ≡ None → IsTold (g.contents (opened_disk new)) → (left : List ℕ) → g.image (disk_in new) left → IsSettledCopy (world (serving new)) left)
      → IsTold (g.contents (opened_disk old)) → (left : List ℕ) → g.image (disk_in new) left → IsLast (serving new) left
  last_of old new None goes law told left here = inl (law (goes.going (λ of. of)) (told_then old new goes.start told) left here)
  last_of old new (Some (Memory _)) goes law told left here = inl (law (goes.going (λ of. of)) (told_then old new goes.start told) left here)
  last_of old new (Some Writing) goes law told left here = inl (law (goes.going (λ of. of)) (told_then old new goes.start told) left here)
  last_of old new (Some Device) goes law told left here = goes.last tt told left here

  pub runs : (old new : Engine D F g) (stop : Option Stop) → IsFresh (serving old) → EngineGoesOn old new stop
      → ((serving new).stopped ≡ None → IsTold (g.contents (opened_disk new)) → (left : List ℕ) → g.image (disk_in new) left → IsSettledCopy (world (serving new)) left)
      → RunsOnDisk old new stop
  runs old new stop fresh goes law = record {
    leaves = goes.leaves;
    last = last_of old new stop goes law;
    going = goes.going;
    cause = goes.cause;
    past = goes.past;
    idle = λ none. (goes.idle none).disk fresh.progress;
  }
