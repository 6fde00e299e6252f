-- What contracts see of an engine, beside its disk.
use Rattle.std.specs.Prelude.{◌≡◌, ℕ, List, [], length, Option, None, option_map}
use Rattle.pm_types.specs.declared.entry.Entry.{Entry}
use Rattle.pm_types.specs.declared.event.Watch.{Watch}
use Rattle.pm_model.specs.World.{World, Copy, begin}
use Rattle.pm_model.specs.Closed.{IsClosed}
use Rattle.pm_model.specs.Journal.{IsLegal, after}
use Rattle.pm_view.specs.View.{Cars, SpaceView}
use Rattle.pm_view.specs.Represents.{Represents}
use Rattle.pm_copies.specs.Listed.{copy_in}
use Rattle.pm_saving.specs.Progress.{Progress, Saving, cars_or_none, copy_of}

-- What had been made before an entry of the journal: so many events by the collector, and so many events in all.
pub record Before : Type 0 where
  pub steps : ℕ
  pub events : ℕ

-- An engine: the number of the copy that was opened, and the space as it was opened; the space now, and its cars as they
-- were frozen, if they are; the saver; the journal, and its course: for each entry what had been made before it; the
-- watches that are set; how many events were made, and how many of them by the collector; and, where a call answered that
-- the disk failed, the disk's count of failed calls then.
pub record Serving : Type 0 where
  pub number : ℕ
  pub opened : SpaceView
  pub view : SpaceView
  pub frozen : Option Cars
  pub saving : Saving
  pub journal : List Entry
  pub course : List Before
  pub watches : List Watch
  pub events : ℕ
  pub steps : ℕ
  pub stopped : Option ℕ

-- what was made until now
abbrev pub made_now : Serving → Before
made_now it = record { steps = it.steps; events = it.events }

-- the world as it was opened
abbrev pub opening : Serving → World
opening it = begin it.number (copy_in it.opened)

-- the world now
abbrev pub world : Serving → World
world it = after (opening it) it.journal

-- a copy in progress with its number
abbrev pub numbered_copy : Option Cars → Progress → ℕ × Copy
numbered_copy frozen progress = (progress.number, copy_of (cars_or_none frozen) progress)

-- the copy in progress, if there is one
abbrev pub in_progress : Serving → Option (ℕ × Copy)
in_progress it = option_map (numbered_copy it.frozen) it.saving.progress

-- What an engine keeps of its journal and its copies at every moment, whatever its space is: in the world that was opened
-- whatever is named is an object, the journal is legal from it, the copy in progress is that of the world at the journal's
-- end, so many watches are set in it, and the course tells of each entry what had been made before it.
pub record KeepsJournal (it : Serving) : Type 0 where
  pub closed : IsClosed (opening it)
  pub legal : IsLegal (opening it) it.journal
  pub saving : (world it).saving ≡ in_progress it
  pub watching : (world it).watches ≡ length it.watches
  pub told : length it.course ≡ length it.journal

-- What holds of an engine whose space stands for the world at its journal's end.
pub record IsServed (it : Serving) : Type 0 where
  pub journal : KeepsJournal it
  pub represents : Represents it.view (world it)

-- the opening stays
pub record KeepsOpening (old new : Serving) : Type 0 where
  pub number : new.number ≡ old.number
  pub opened : new.opened ≡ old.opened

-- the engine of a space that was just opened, with a copy of this number
abbrev pub just_opened : ℕ → SpaceView → Saving → Serving
just_opened number view saving = record {
  number = number;
  opened = view;
  view = view;
  frozen = None;
  saving = saving;
  journal = [];
  course = [];
  watches = [];
  events = 0;
  steps = 0;
  stopped = None;
}
