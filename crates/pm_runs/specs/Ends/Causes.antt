-- Why a command ended so, whatever the command.
use Rattle.std.specs.Prelude.{◌≡◌}
use Rattle.pm_disk.specs.declared.disk.Disk as disk
use Rattle.pm_io.specs.declared.source.Source as source
use Rattle.pm_io.specs.declared.sink.Sink as sink
use Rattle.pm_runs.specs.declared.ends.ended.Alone.{Alone as Ended}
use Rattle.pm_runs.specs.Ends.Ends.{ShowsReading, ShowsWriting, ShowsDevice, ShowsOpened, NamesRule, OneTally}

module _ {D S K : Type 0} (d : disk.Ghosts D) (s : source.Ghosts S) (k : sink.Ghosts K) where
  -- Why it ended so, whatever the command: the count of faults rose of what failed, and the others stand still.
  pub record ShowsCauses (disk : D) (source : S) (sink : K) (ended : Ended D S K) : Type 0 where
    pub reading : ShowsReading ended.detail (s.count source) (s.count ended.source)
    pub writing : ShowsWriting ended.detail (k.count sink) (k.count ended.sink)
    pub device : ShowsDevice ended.detail (d.count disk) (d.count ended.disk)
    -- a script and a store are refused by a rule of their bytes alone
    pub rule : NamesRule ended.detail
    -- whether a store was opened for a run: there is a tally just where it says so, and never one of each kind
    pub opened : ShowsOpened ended.detail ended.tally ended.young
    pub one : OneTally ended.tally ended.young
    -- nobody asked for a read past the end of what the disk tells
    pub reads : (d.made ended.disk).past ≡ (d.made disk).past
