-- What a run does over a store, from its start to its end, by how it ended: a record of named facts for each way to run.
use Rattle.std.specs.Prelude.{◌≡◌, ℕ, List, [], Some, None, IsSome, IfSome, IfNone}
use Rattle.pm_disk.specs.declared.disk.Disk as disk
use Rattle.pm_io.specs.declared.source.Source as source
use Rattle.pm_io.specs.declared.sink.Sink as sink
use Rattle.pm_model.specs.World.{begin}
use Rattle.pm_model.specs.Text.{text}
use Rattle.pm_image.specs.Stands.{StandsForCopy}
use Rattle.pm_engine.specs.Shown.{tally_of}
use Rattle.pm_serial.specs.Acknowledged.{Acknowledges, AcknowledgesLast}
use Rattle.pm_serial.specs.Writing.{tail_of}
use Rattle.pm_runs.specs.Threads.Together.{IsToldScript, ServesByPasses, ServesInTurns, ServesTogether}
use Rattle.pm_runs.specs.declared.ends.ended.Alone.{Alone as Ended}
use Rattle.pm_runs.specs.declared.ends.ended.Detail.TheVariants.{Fine}
use Rattle.pm_runs.specs.declared.way.Way.{Way}
use Rattle.pm_runs.specs.declared.way.Way.TheVariants.{Turns, Passes}
use Rattle.pm_runs.specs.declared.writes.Writes.{Writes}
use Rattle.pm_runs.specs.declared.writes.Writes.TheVariants.{Replies}
use Rattle.pm_runs.specs.Ends.Ends.{IsUnwritten, stop_in}
use Rattle.pm_runs.specs.Ends.Stages.{IsPast, the_words, the_script}
use Rattle.pm_runs.specs.Ends.Journals.{IsBegun, KeepsOrder, ReadsScript}
use Rattle.pm_runs.specs.Ends.Disks.{LeavesDisk, SyncsAtMost}
use Rattle.pm_runs.specs.Ends.Tallies.{TalliesRun}
use Rattle.pm_runs.specs.Wrote.{Wrote}

module _ {D S K : Type 0} (d : disk.Ghosts D) (k : sink.Ghosts K) where
  -- What a run that writes this does to disk and sink, and what it answers, whatever it reads, in whichever order it asks.
  -- Its engine has this chooser.
  pub record RunsStore {F : Type 0} (place : F) (writes : Writes) (disk : D) (sink : K) (ended : Ended D S K) : Type 0 where
    -- the journal is legal from the world of some copy, and empty where no store was opened
    pub begun : IsBegun ended.journal.items
    pub none : IfNone ended.tally (ended.journal.items ≡ [])
    -- where one was, it is the world of the copy for which the disk's bytes stand
    pub stands : IsSome ended.tally → (bytes : List ℕ) → d.contents disk ≡ Some bytes
        → StandsForCopy bytes begun.number begun.copy
    -- what the engine came to, from that world
    pub tallies : TalliesRun d place disk ended.disk (begin begun.number begun.copy) ended.detail ended.journal.items ended.tally
    -- and it has no nursery
    pub no_young : ended.young ≡ None
    -- what it does to the disk
    pub leaves : LeavesDisk d disk ended.disk ended.detail ended.journal.items
    -- where no store was opened the disk is not called, or synced once; where one was, it was synced first
    pub synced : IfNone ended.tally (SyncsAtMost d disk ended.disk)
    -- the sink is not called where no store was opened
    pub quiet : IfNone ended.tally (ended.sink ≡ sink)
    -- and where one was, it is what this run writes for the journal's text and for the lines behind it, by how it ended
    pub replies : IfSome ended.tally
        (λ it. Wrote k writes sink ended.sink (text ended.journal.items) (tail_of (tally_of it)) (stop_in ended.detail))

module _ {D S K : Type 0} (d : disk.Ghosts D) (s : source.Ghosts S) (k : sink.Ghosts K) where
  -- What `run FILE serial` does: the source is read to its end, the script is read, the store is opened, and its lines
  -- are run in their order.
  pub record RunsScript {F : Type 0} (place : F) (disk : D) (source : S) (sink : K) (ended : Ended D S K) : Type 0 where
    -- the words were read, so it ends as no other command does
    pub ends : IsPast the_words ended.detail
    -- past the script the source was read to its end
    pub read : IsPast the_script ended.detail
        → (bytes : List ℕ) → s.left source ≡ Some bytes → s.left ended.source ≡ Some []
    -- what it answers of the bytes that the source told
    pub script : (bytes : List ℕ) → s.left source ≡ Some bytes
        → ReadsScript bytes ended.detail ended.journal.items ended.tally
    -- in the order of its lines
    pub order : (bytes : List ℕ) → s.left source ≡ Some bytes
        → KeepsOrder bytes ended.detail ended.journal.items ended.tally
    -- what it does to disk and sink
    pub store : RunsStore d k place Replies disk sink ended
    -- acknowledged is told: unless the sink failed, the text through each reply `saved` is finished
    pub saved : IfSome ended.tally (λ it. Acknowledges k sink ended.sink ended.journal.items (stop_in ended.detail))

  -- What a run by workers does: the source is read to its end, the script is read, the store is opened, and each client's
  -- lines are run in their order, in threads. The journal has the commands in the order in which the engine was asked.
  pub record RunsTogether {F : Type 0} (place : F) (disk : D) (source : S) (sink : K) (ended : Ended D S K) : Type 0 where
    -- the words were read, so it ends as no other command does
    pub ends : IsPast the_words ended.detail
    -- past the script the source was read to its end
    pub read : IsPast the_script ended.detail
        → (bytes : List ℕ) → s.left source ≡ Some bytes → s.left ended.source ≡ Some []
    -- what it answers of the bytes that the source told
    pub script : (bytes : List ℕ) → s.left source ≡ Some bytes
        → ReadsScript bytes ended.detail ended.journal.items ended.tally
    -- what it does to disk and sink; the replies are written behind the last event
    pub store : ∥ RunsStore d k place Replies disk sink ended ∥₁
    -- where the sink failed all was made that the script asks for, as where the run is done
    pub last : IsUnwritten ended.detail → (bytes : List ℕ) → s.left source ≡ Some bytes
        → ReadsScript bytes Fine ended.journal.items ended.tally
    -- it is a run of the script's lines in some order
    pub order : ServesTogether (IsToldScript (s.left source)) ended.detail ended.journal.items ended.tally
    -- acknowledged is told: unless the sink failed, the text through each reply `saved` is finished
    pub saved : IfSome ended.tally (λ it. AcknowledgesLast k sink ended.sink ended.journal.items (stop_in ended.detail))

  -- What `run FILE threads` does: the workers take turns, and the first fault ends them all. Where memory runs out the tally
  -- tells the event that is left.
  pub record RunsInTurns {F : Type 0} (place : F) (disk : D) (source : S) (sink : K) (ended : Ended D S K) : Type 0 where
    pub together : RunsTogether place disk source sink ended
    pub turns : ServesInTurns (IsToldScript (s.left source)) ended.detail ended.journal.items ended.tally

  -- What `run FILE seats` does: each worker has a pass of its own and ends at the first fault that it meets, and the others
  -- go on. Where memory runs out something is left, unless no event was made.
  pub record RunsByPasses {F : Type 0} (place : F) (disk : D) (source : S) (sink : K) (ended : Ended D S K) : Type 0 where
    pub together : RunsTogether place disk source sink ended
    pub left : ServesByPasses (IsToldScript (s.left source)) ended.detail ended.journal.items ended.tally

  -- what a run by workers does that share the engine this way
  abbrev pub RunsBy : {F : Type 0} → Way → F → D → S → K → Ended D S K → Type 0
  RunsBy Turns place disk source sink ended = RunsInTurns place disk source sink ended
  RunsBy Passes place disk source sink ended = RunsByPasses place disk source sink ended
