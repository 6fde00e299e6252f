-- What a command needs. Where it has that, and nothing fails, it is done, or memory ran out.
use Rattle.std.specs.Prelude.{◌≡◌, ℕ, List, [], Option, Some}
use Rattle.pm_types.specs.Counts.{Rose}
use Rattle.pm_disk.specs.declared.disk.Disk as disk
use Rattle.pm_io.specs.declared.source.Source as source
use Rattle.pm_io.specs.declared.sink.Sink as sink
use Rattle.pm_model.specs.World.{Copy}
use Rattle.pm_image.specs.Stands.{StandsForCopy}
use Rattle.pm_script.specs.declared.line.Line.{Line}
use Rattle.pm_script.specs.declared.line.YoungLine.{YoungLine}
use Rattle.pm_script.specs.Script.{IsScript}
use Rattle.pm_script.specs.Young.{IsYoungScript}
use Rattle.pm_words.specs.declared.command.Command.{Command}
use Rattle.pm_words.specs.declared.command.Command.TheVariants.{Init, Run, RunThreads, RunSeats, RunYoung, Inspect, Dump, Restore, Why, Make, Trial}
use Rattle.pm_runs.specs.declared.ends.ended.Alone.{Alone as Ended}
use Rattle.pm_top.specs.Dumps.{HoldsDump}

-- the source tells that it holds a script
pub record HoldsScript (told : Option (List ℕ)) : Type 0 where
  pub bytes : List ℕ
  pub is_told : told ≡ Some bytes
  pub lines : List Line
  pub script : IsScript bytes lines

-- the source tells that it holds a script for a run with a nursery
pub record HoldsYoungScript (told : Option (List ℕ)) : Type 0 where
  pub bytes : List ℕ
  pub is_told : told ≡ Some bytes
  pub lines : List YoungLine
  pub script : IsYoungScript bytes lines

-- the disk tells that it holds a store
pub record HoldsStore (told : Option (List ℕ)) : Type 0 where
  pub bytes : List ℕ
  pub is_told : told ≡ Some bytes
  pub number : ℕ
  pub copy : Copy
  pub stands : StandsForCopy bytes number copy

module _ {D S : Type 0} (d : disk.Ghosts D) (s : source.Ghosts S) where
  -- what a command needs of what disk and source tell
  abbrev pub HasNeeds : Command → D → S → Type 0
  HasNeeds Init disk source = d.contents disk ≡ Some []
  HasNeeds Run disk source = HoldsStore (d.contents disk) × HoldsScript (s.left source)
  HasNeeds RunThreads disk source = HoldsStore (d.contents disk) × HoldsScript (s.left source)
  HasNeeds RunSeats disk source = HoldsStore (d.contents disk) × HoldsScript (s.left source)
  HasNeeds RunYoung disk source = HoldsStore (d.contents disk) × HoldsYoungScript (s.left source)
  HasNeeds Inspect disk source = HoldsStore (d.contents disk)
  HasNeeds Dump disk source = HoldsStore (d.contents disk)
  HasNeeds Restore disk source = (d.contents disk ≡ Some []) × HoldsDump (s.left source)
  HasNeeds (Why id) disk source = HoldsStore (d.contents disk)
  HasNeeds (Make seed turns) disk source = Unit {0}
  HasNeeds (Trial seed turns) disk source = HoldsStore (d.contents disk)

module _ {D S K : Type 0} (d : disk.Ghosts D) (s : source.Ghosts S) (k : sink.Ghosts K) where
  -- none of the three failed
  pub record NothingFails (disk : D) (source : S) (sink : K) (ended : Ended D S K) : Type 0 where
    pub disk_stands : ¬ (Rose (d.count disk) (d.count ended.disk))
    pub source_stands : ¬ (Rose (s.count source) (s.count ended.source))
    pub sink_stands : ¬ (Rose (k.count sink) (k.count ended.sink))
