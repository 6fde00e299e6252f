-- What a run with a nursery does over a store, from its start to its end, by how it ended.
use Rattle.std.specs.Prelude.{◌≡◌, ℕ, List, [], Some, None, IsSome, IfSome, IfNone}
use Rattle.pm_disk.specs.declared.disk.Disk as disk
use Rattle.pm_io.specs.declared.source.Source as source
use Rattle.pm_io.specs.declared.sink.Sink as sink
use Rattle.pm_model.specs.World.{begin}
use Rattle.pm_model.specs.Text.{text}
use Rattle.pm_image.specs.Stands.{StandsForCopy}
use Rattle.pm_script.specs.declared.line.YoungLine.{YoungLine}
use Rattle.pm_script.specs.Young.{IsYoungScript}
use Rattle.pm_serial.specs.Acknowledged.{Acknowledges}
use Rattle.pm_serial.specs.Writing.{WroteRun}
use Rattle.pm_young.specs.Seen.{young_tally_of}
use Rattle.pm_young_run.specs.Writing.{young_tail_of}
use Rattle.pm_runs.specs.declared.ends.ended.Alone.{Alone as Ended}
use Rattle.pm_runs.specs.Ends.Ends.{stop_in}
use Rattle.pm_runs.specs.Ends.Stages.{IsPast, the_words, the_script}
use Rattle.pm_runs.specs.Ends.Journals.{IsBegun}
use Rattle.pm_runs.specs.Ends.Disks.{LeavesDisk, SyncsAtMost}
use Rattle.pm_runs.specs.Young.Journals.{KeepsYoungOrder, ReadsYoung}
use Rattle.pm_runs.specs.Young.Tallies.{EntersYoung, TalliesYoung}

module _ {D S K : Type 0} (d : disk.Ghosts D) (k : sink.Ghosts K) where
  -- What it does to disk and sink, and what it answers, whatever it reads. Its engine has this chooser.
  pub record RunsYoungStore {F : Type 0} (place : F) (disk : D) (sink : K) (ended : Ended D S K) : Type 0 where
    -- the journal is legal from the world of some copy, and empty where no store was opened
    pub begun : IsBegun ended.journal.items
    pub none : IfNone ended.young (ended.journal.items ≡ [])
    -- where one was, it is the world of the copy for which the disk's bytes stand
    pub stands : IsSome ended.young → (bytes : List ℕ) → d.contents disk ≡ Some bytes
        → StandsForCopy bytes begun.number begun.copy
    -- what the engine came to, from that world, and there is no tally of another kind
    pub tallies : TalliesYoung d place disk ended.disk (begin begun.number begun.copy) ended.detail ended.journal.items ended.young
    pub no_tally : ended.tally ≡ None
    -- what it does to the disk
    pub leaves : LeavesDisk d disk ended.disk ended.detail ended.journal.items
    -- where no store was opened the disk is not called, or synced once; where one was, it was synced first
    pub synced : IfNone ended.young (SyncsAtMost d disk ended.disk)
    -- the sink is not called where no store was opened
    pub quiet : IfNone ended.young (ended.sink ≡ sink)
    -- and where one was, it has the journal's text, the end line and the line of the nursery behind it, by how it ended
    pub replies : IfSome ended.young (λ it. WroteRun k.written k.finished k.count sink ended.sink
        (text ended.journal.items) (young_tail_of (young_tally_of it)) (stop_in ended.detail))

  -- The same of these lines, once they were read: where the run is done just those identities entered that they let enter,
  -- from the world that was opened.
  pub record OpensYoung {F : Type 0} (place : F) (lines : List YoungLine) (disk : D) (sink : K) (ended : Ended D S K) : Type 0 where
    pub store : RunsYoungStore place disk sink ended
    pub entered : EntersYoung (begin store.begun.number store.begun.copy) lines ended.detail ended.journal.items ended.young

module _ {D S K : Type 0} (d : disk.Ghosts D) (s : source.Ghosts S) (k : sink.Ghosts K) where
  -- What `run FILE young` does: the source is read to its end, the script is read, the store is opened, and its lines are
  -- run in their order, with new objects held outside the cars until they escape.
  pub record RunsYoung {F : Type 0} (place : F) (disk : D) (source : S) (sink : K) (ended : Ended D S K) : Type 0 where
    -- the words were read, so it ends as no other command does
    pub ends : IsPast the_words ended.detail
    -- past the script the source was read to its end
    pub read : IsPast the_script ended.detail
        → (bytes : List ℕ) → s.left source ≡ Some bytes → s.left ended.source ≡ Some []
    -- what it answers of the bytes that the source told
    pub script : (bytes : List ℕ) → s.left source ≡ Some bytes
        → ReadsYoung bytes ended.detail ended.journal.items ended.young
    -- in the order of its lines
    pub order : (bytes : List ℕ) → s.left source ≡ Some bytes
        → KeepsYoungOrder bytes ended.detail ended.journal.items ended.young
    -- what it does to disk and sink
    pub store : RunsYoungStore d k place disk sink ended
    -- where it is done just those identities entered that the lines let enter, from the world that was opened
    pub entered : (bytes : List ℕ) → s.left source ≡ Some bytes → (lines : List YoungLine) → IsYoungScript bytes lines
        → EntersYoung (begin store.begun.number store.begun.copy) lines ended.detail ended.journal.items ended.young
    -- acknowledged is told: unless the sink failed, the text through each reply `saved` is finished
    pub saved : IfSome ended.young (λ it. Acknowledges k sink ended.sink ended.journal.items (stop_in ended.detail))
