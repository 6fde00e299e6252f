-- What contracts see of an engine.
use Rattle.std.specs.Prelude.{◌≡◌, ℕ, List, [], ◌∷◌, ◌++◌, length, Option, None}
use Rattle.pm_types.specs.declared.command.Cmd.{Cmd}
use Rattle.pm_types.specs.declared.entry.Entry.{Entry}
use Rattle.pm_types.specs.declared.event.WatchLine.{WatchLine}
use Rattle.pm_types.specs.declared.reply.Reply.{Reply}
use Rattle.pm_disk.specs.declared.disk.Disk.{Ghosts}
use Rattle.pm_shadow.specs.State.{State}
use Rattle.pm_view.specs.Counts.{standing}
use Rattle.pm_view.specs.Watches.{lines_from}
use Rattle.pm_types.specs.Counts.{capped}
use Rattle.pm_saving.specs.Paging.{left_of}
use Rattle.pm_save.specs.Shown.{saving}
use Rattle.pm_saving.specs.Serving.{Before, KeepsOpening, Serving}
use Rattle.pm_engine.specs.declared.engine.Engine.{Engine}
use Rattle.pm_engine.specs.declared.tally.Tally.{Tally}
use Rattle.pm_engine.specs.declared.unmade.Unmade.{Unmade}
use Rattle.pm_engine.specs.Works.Clauses.{Face, face_of}
use Rattle.pm_engine.specs.Works.Course.{told_before}
use Rattle.pm_engine.specs.Works.Told.{told_of}
use Rattle.pm_engine.specs.Works.Working.{disk_at, past_in, place_in, room_in, state_in}
use Rattle.pm_engine.specs.Works.Seen.{disk_then, seen}

module _ {D : Type 0} {F : Type 0} {g : Ghosts D} where
  -- all but its disk
  abbrev pub serving : Engine D F g → Serving
  serving it = seen it.opening it.stopped it.works

  -- its disk, and the pages on it
  abbrev pub disk_in : Engine D F g → D
  disk_in it = disk_at it.works

  abbrev pub pages_in : Engine D F g → State
  pages_in it = state_in it.works

  -- the disk as it was opened, and its count of failed calls then
  abbrev pub opened_disk : Engine D F g → D
  opened_disk it = disk_then it.opening

  abbrev pub opened_count : Engine D F g → ℕ
  opened_count it = it.opening.count

  -- the entries that were let go, and those that are kept behind them
  abbrev pub past_of : Engine D F g → List Entry
  past_of it = past_in it.works

  abbrev pub recent : Engine D F g → List Entry
  recent it = it.works.journal.items

  -- so many entries more take no memory
  abbrev pub room : Engine D F g → ℕ
  room it = room_in it.works

  -- the event for which a call last answered that memory ran out, if one did
  abbrev pub unmade_in : Engine D F g → Option Unmade
  unmade_in it = it.unmade

  -- the chooser of the space
  abbrev pub chooser : Engine D F g → F
  chooser it = place_in it.works

  -- what the clauses of its calls see of it
  abbrev pub face : Engine D F g → Face g
  face it = face_of it.opening it.stopped it.works

  -- the opening stays: the number and the space, the disk as it was, and its count; and so does the chooser
  pub record KeepsStart (old new : Engine D F g) : Type 0 where
    pub opening : KeepsOpening (serving old) (serving new)
    pub disk : opened_disk new ≡ opened_disk old
    pub count : opened_count new ≡ opened_count old
    pub chooser : chooser new ≡ chooser old

  -- no entry was let go, and none was added
  pub record KeepsEntries (old new : Engine D F g) : Type 0 where
    pub past : past_of new ≡ past_of old
    pub recent : recent new ≡ recent old

  -- none was let go, and this one is the last of those that are kept
  pub record AddsEntry (client : ℕ) (cmd : Cmd) (old new : Engine D F g) (reply : Reply) : Type 0 where
    pub past : past_of new ≡ past_of old
    pub recent : recent new ≡ recent old ++ record { client = client; cmd = cmd; reply = reply } ∷ []

-- What an engine came to: how many entries its journal has, how many events were made, and how many of them by the
-- collector, how many collections were completed, how many objects stand, what is told of the watches, the journal, its
-- course: for each entry what had been made before it, and how many pages of the copy in progress were left to be written.
pub record Total : Type 0 where
  pub entries : ℕ
  pub events : ℕ
  pub steps : ℕ
  pub completed : ℕ
  pub standing : ℕ
  pub lines : List WatchLine
  pub journal : List Entry
  pub course : List Before
  pub left : ℕ
  -- and the event for which memory ran out last
  pub unmade : Option Unmade

abbrev pub tally_of : Tally → Total
tally_of it = record {
  entries = it.entries;
  events = it.events;
  steps = it.steps;
  completed = it.completed;
  standing = it.standing;
  lines = it.lines.items;
  journal = told_of it.past.value.entries ++ it.journal.value.items;
  course = told_before it.course;
  left = left_of (saving it.saver.value).progress;
  unmade = it.unmade;
}

-- what comes of what an engine serves, with no event noted
abbrev pub tally_in : Serving → Total
tally_in it = record {
  entries = length it.journal;
  events = it.events;
  steps = it.steps;
  completed = it.view.completed;
  standing = capped (standing it.view);
  lines = lines_from it.view 1 it.watches;
  journal = it.journal;
  course = it.course;
  left = left_of it.saving.progress;
  unmade = None;
}

-- what an engine comes to: the same, with the event that it noted
abbrev pub total_in : {D F : Type 0} {g : Ghosts D} → Engine D F g → Total
total_in it = record (tally_in (serving it)) { unmade = unmade_in it }
