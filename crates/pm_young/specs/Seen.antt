-- What contracts see of an engine with a nursery.
use Rattle.std.specs.Prelude.{◌≡◌, ℕ, List, [], length, Option, None}
use Rattle.std.specs.FinMap.{len}
use Rattle.pm_types.specs.declared.entry.Entry.{Entry}
use Rattle.pm_types.specs.Counts.{capped}
use Rattle.pm_disk.specs.declared.disk.Disk.{Ghosts}
use Rattle.pm_shadow.specs.State.{State}
use Rattle.pm_view.specs.Counts.{standing}
use Rattle.pm_saving.specs.Paging.{left_of}
use Rattle.pm_saving.specs.Serving.{Before, KeepsOpening, Serving}
use Rattle.pm_save.specs.Shown.{saving}
use Rattle.pm_engine.specs.Works.Course.{told_before}
use Rattle.pm_engine.specs.Works.Working.{disk_at, place_in, room_in, state_in}
use Rattle.pm_engine.specs.Works.Seen.{disk_then, seen}
use Rattle.pm_engine.specs.Works.Clauses.{Face, face_of}
use Rattle.pm_nursery.specs.Young.{NurseryView, no_nursery}
use Rattle.pm_young.specs.declared.engine.YoungEngine.{YoungEngine}
use Rattle.pm_young.specs.declared.halt.Halt.{Halt}
use Rattle.pm_young.specs.declared.tally.YoungTally.{YoungTally}
use Rattle.pm_young.specs.Halts.{stopped_by}

module _ {D : Type 0} {F : Type 0} {g : Ghosts D} where
  -- all but disk and nursery; it is stopped where the disk failed
  abbrev pub serving : YoungEngine D F g → Serving
  serving it = seen it.opening (stopped_by it.halted) it.works

  -- the young objects, and the registers that hold one
  abbrev pub young_in : YoungEngine D F g → NurseryView
  young_in it = it.nursery

  -- the identities of the objects that came into a car since the opening, in their order
  abbrev pub entered_in : YoungEngine D F g → List ℕ
  entered_in it = it.entered.items

  -- why it answers no more
  abbrev pub halt_in : YoungEngine D F g → Option Halt
  halt_in it = it.halted

  -- its disk, and the pages on it
  abbrev pub disk_in : YoungEngine D F g → D
  disk_in it = disk_at it.works

  abbrev pub pages_in : YoungEngine D F g → State
  pages_in it = state_in it.works

  -- the disk as it was opened, and its count of failed calls then
  abbrev pub opened_disk : YoungEngine D F g → D
  opened_disk it = disk_then it.opening

  abbrev pub opened_count : YoungEngine D F g → ℕ
  opened_count it = it.opening.count

  -- so many entries more take no memory
  abbrev pub room : YoungEngine D F g → ℕ
  room it = room_in it.works

  -- the chooser of the space
  abbrev pub chooser : YoungEngine D F g → F
  chooser it = place_in it.works

  -- what the clauses of its calls see of it
  abbrev pub face : YoungEngine D F g → Face g
  face it = face_of it.opening (stopped_by it.halted) it.works

  -- the opening stays: the number and the space, the disk as it was, and its count; and so does the chooser
  pub record KeepsStart (old new : YoungEngine D F g) : Type 0 where
    pub opening : KeepsOpening (serving old) (serving new)
    pub disk : opened_disk new ≡ opened_disk old
    pub count : opened_count new ≡ opened_count old
    pub chooser : chooser new ≡ chooser old

  -- the nursery and what entered stay
  pub record KeepsNursery (old new : YoungEngine D F g) : Type 0 where
    pub young : young_in new ≡ young_in old
    pub entered : entered_in new ≡ entered_in old

  -- the nursery, what entered and why it answers no more stay
  pub record KeepsYoung (old new : YoungEngine D F g) : Type 0 where
    pub young : young_in new ≡ young_in old
    pub entered : entered_in new ≡ entered_in old
    pub halt : halt_in new ≡ halt_in old

  -- nothing is young, nothing entered, and every call is answered
  pub record BeginsYoung (it : YoungEngine D F g) : Type 0 where
    pub young : young_in it ≡ no_nursery
    pub entered : entered_in it ≡ []
    pub halt : halt_in it ≡ None

-- What an engine with a nursery came to: how many entries its journal has, how many events were made, and how many of
-- them by the collector, how many collections were completed, how many objects stand in cars, how many are young, how many
-- entered a car since the opening; the journal, its course: for each entry what had been made before it; the identities
-- that entered, and how many pages of the copy in progress were left to be written.
pub record YoungTotal : Type 0 where
  pub entries : ℕ
  pub events : ℕ
  pub steps : ℕ
  pub completed : ℕ
  pub standing : ℕ
  pub young : ℕ
  pub entered : ℕ
  pub journal : List Entry
  pub course : List Before
  pub ids : List ℕ
  pub left : ℕ

abbrev pub young_tally_of : YoungTally → YoungTotal
young_tally_of it = record {
  entries = it.entries;
  events = it.events;
  steps = it.steps;
  completed = it.completed;
  standing = it.standing;
  young = it.young;
  entered = it.entered;
  journal = it.journal.value.items;
  course = told_before it.course;
  ids = it.ids.value.items;
  left = left_of (saving it.saver.value).progress;
}

-- what an engine comes to
abbrev pub young_tally_in : {D F : Type 0} {g : Ghosts D} → YoungEngine D F g → YoungTotal
young_tally_in it = record {
  entries = length (serving it).journal;
  events = (serving it).events;
  steps = (serving it).steps;
  completed = (serving it).view.completed;
  standing = capped (standing (serving it).view);
  young = len (young_in it).objects;
  entered = length (entered_in it);
  journal = (serving it).journal;
  course = (serving it).course;
  ids = entered_in it;
  left = left_of (serving it).saving.progress;
}
