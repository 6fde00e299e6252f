-- What each command does, from its start to its end, by how it ended: a record of named facts for each.
use Rattle.std.specs.Prelude.{◌≡◌, ◌⊎◌, ℕ, ◌<◌, ◌≤◌, List, [], length, Some, None}
use Rattle.pm_disk.specs.declared.disk.Disk as disk
use Rattle.pm_disk.specs.Disk.{LeavesOnly}
use Rattle.pm_disk.specs.Made.{with_sync}
use Rattle.pm_io.specs.declared.source.Source as source
use Rattle.pm_io.specs.declared.sink.Sink as sink
use Rattle.pm_inspect.specs.Tell.Told.{Telling, IsTold, IsToldOfSome, Reports, Dumps, GivesPath}
use Rattle.pm_make.specs.Made.{made_text}
use Rattle.pm_dump.specs.Dump.{Dump as Dumped}
use Rattle.pm_dump.specs.Sound.{IsSoundDump}
use Rattle.pm_script.specs.declared.fault.ScriptFault.TheVariants.{TooLong}
use Rattle.pm_types.specs.declared.limits.TheConstants.{MOST_TURNS}
use Rattle.pm_words.specs.declared.command.Command.{Command}
use Rattle.pm_words.specs.declared.command.Command.TheVariants.{Init, Run, RunThreads, RunSeats, RunYoung, Inspect, Dump, Restore, Why, Make, Trial}
use Rattle.pm_runs.specs.declared.ends.ended.Detail.{Detail}
use Rattle.pm_runs.specs.declared.ends.ended.Detail.TheVariants.{Fine, Script, Dump as BadDump, Reading, Writing, Device, NotEmpty, Refused, Memory}
use Rattle.pm_runs.specs.declared.ends.ended.Alone.{Alone as Ended}
use Rattle.pm_runs.specs.declared.writes.Writes.TheVariants.{Digest}
use Rattle.pm_runs.specs.Ends.Ends.{IsUnwritten}
use Rattle.pm_runs.specs.Ends.Journals.{KeepsOrder, ReadsScript}
use Rattle.pm_runs.specs.Ends.Disks.{IsRefusedFor}
use Rattle.pm_top.specs.Stores.{CallsMaking, LeavesMade, LeavesRestored}
use Rattle.pm_top.specs.Dumps.{HasDump, ReadsDump}
use Rattle.pm_runs.specs.Ends.Wrote.{IsWriting, WroteText}
use Rattle.pm_runs.specs.Runs.{RunsByPasses, RunsInTurns, RunsScript, RunsStore}
use Rattle.pm_runs.specs.Young.Runs.{RunsYoung}

-- All is as it was.
pub record IsUntouched {D S K : Type 0} (disk : D) (source : S) (sink : K) (ended : Ended D S K) : Type 0 where
  pub disk_stays : ended.disk ≡ disk
  pub source_stays : ended.source ≡ source
  pub sink_stays : ended.sink ≡ sink
  pub no_event : ended.journal.items ≡ []
  pub no_tally : ended.tally ≡ None
  pub no_young : ended.young ≡ None

-- ---- how a command may end

-- how a command may end that tells of a store
abbrev pub EndsTelling : Detail → Type 0
EndsTelling Fine = Unit {0}
EndsTelling (Writing before after) = Unit {0}
EndsTelling (Device before after opened) = Unit {0}
EndsTelling (Refused fault) = Unit {0}
EndsTelling (Memory opened _) = Unit {0}
EndsTelling detail = ⊥

-- how `restore FILE` may end
abbrev pub EndsRestoring : Detail → Type 0
EndsRestoring Fine = Unit {0}
EndsRestoring (Script fault) = fault ≡ TooLong
EndsRestoring (BadDump fault) = Unit {0}
EndsRestoring (Reading before after) = Unit {0}
EndsRestoring (Device before after opened) = Unit {0}
EndsRestoring (NotEmpty bytes) = Unit {0}
EndsRestoring (Memory opened _) = Unit {0}
EndsRestoring detail = ⊥

-- how `make SEED N` may end
abbrev pub EndsMaking : Detail → Type 0
EndsMaking Fine = Unit {0}
EndsMaking (Writing before after) = Unit {0}
EndsMaking (Memory opened _) = Unit {0}
EndsMaking detail = ⊥

-- how `trial FILE SEED N` may end
abbrev pub EndsTrying : Detail → Type 0
EndsTrying Fine = Unit {0}
EndsTrying (Writing before after) = Unit {0}
EndsTrying (Device before after opened) = Unit {0}
EndsTrying (Refused fault) = Unit {0}
EndsTrying (Memory opened _) = Unit {0}
EndsTrying detail = ⊥

-- no more turns are made than that
abbrev pub MayPerform : Command → Type 0
MayPerform (Make seed turns) = turns ≤ MOST_TURNS
MayPerform (Trial seed turns) = turns ≤ MOST_TURNS
MayPerform command = Unit {0}

module _ {D S K : Type 0} (d : disk.Ghosts D) where
  -- What `init FILE` does: a store is made, and source and sink are not called.
  pub record MakesStore (disk : D) (source : S) (sink : K) (ended : Ended D S K) : Type 0 where
    pub makes : LeavesMade d disk ended.disk ended.detail
    pub calls : CallsMaking d disk ended.disk ended.detail
    -- where the disk told some byte, a crash at any moment leaves what it might have left at the start
    pub leaves : (bytes : List ℕ) → d.contents disk ≡ Some bytes → 0 < length bytes
        → LeavesOnly d.moment d.since disk ended.disk (d.image disk)
    pub source_stays : ended.source ≡ source
    pub sink_stays : ended.sink ≡ sink
    pub no_event : ended.journal.items ≡ []
    pub no_tally : ended.tally ≡ None
    pub no_young : ended.young ≡ None

module _ {D S K : Type 0} (d : disk.Ghosts D) (k : sink.Ghosts K) where
  -- What a command does that tells of a store: the store is opened, and a text that says so is written.
  pub record TellsStore (Says : Telling) (disk : D) (source : S) (sink : K) (ended : Ended D S K) : Type 0 where
    pub ends : EndsTelling ended.detail
    -- where it comes to writing, the disk's bytes are a store, and what is written says so of that; of any disk, it says so
    -- of some space
    pub text : List ℕ
    pub told : IsWriting ended.detail → (bytes : List ℕ) → d.contents disk ≡ Some bytes → IsTold Says bytes text
    pub some : IsWriting ended.detail → IsToldOfSome Says text
    pub wrote : WroteText k sink ended.sink text ended.detail
    -- bytes are refused for no rule but the first that they break
    pub refused : (bytes : List ℕ) → d.contents disk ≡ Some bytes → IsRefusedFor bytes ended.detail
    -- nothing is written to the disk, and a crash leaves what it might have left at the start
    pub disk_stays : d.contents ended.disk ≡ d.contents disk
    pub images : LeavesOnly d.moment d.since disk ended.disk (d.image disk)
    pub unwritten : (d.made ended.disk).writes ≡ (d.made disk).writes
    -- it is not called, or synced first, before any other call, and not again
    pub synced : (ended.disk ≡ disk) ⊎ (d.made ended.disk ≡ with_sync (d.moment disk) (d.made disk))
    -- the source is not called
    pub source_stays : ended.source ≡ source
    pub no_event : ended.journal.items ≡ []
    pub no_tally : ended.tally ≡ None
    pub no_young : ended.young ≡ None

  -- What `inspect FILE` does: its report is written.
  abbrev pub InspectsStore : D → S → K → Ended D S K → Type 0
  InspectsStore disk source sink ended = TellsStore Reports disk source sink ended

  -- What `dump FILE` does: the dump of its copy is written.
  abbrev pub DumpsStore : D → S → K → Ended D S K → Type 0
  DumpsStore disk source sink ended = TellsStore Dumps disk source sink ended

  -- What `why FILE ID` does: a path to the object of this identity is written, or that there is none.
  abbrev pub TellsWhy : ℕ → D → S → K → Ended D S K → Type 0
  TellsWhy id disk source sink ended = TellsStore (GivesPath id) disk source sink ended

  -- What `trial FILE SEED N` does: the script of this seed and of so many turns is run as `run FILE serial` does it, and
  -- the digest of the replies' text is written in place of that text. The source is not called.
  pub record TriesScript {F : Type 0} (place : F) (seed turns : ℕ) (disk : D) (source : S) (sink : K) (ended : Ended D S K) : Type 0 where
    pub ends : EndsTrying ended.detail
    pub script : ReadsScript (made_text seed turns) ended.detail ended.journal.items ended.tally
    -- in the order of its lines
    pub order : KeepsOrder (made_text seed turns) ended.detail ended.journal.items ended.tally
    pub store : RunsStore d k place Digest disk sink ended
    -- where the sink failed all was made that the script asks for, as where the run is done
    pub last : IsUnwritten ended.detail → ReadsScript (made_text seed turns) Fine ended.journal.items ended.tally
        × KeepsOrder (made_text seed turns) Fine ended.journal.items ended.tally
    pub source_stays : ended.source ≡ source

module _ {D S K : Type 0} (k : sink.Ghosts K) where
  -- What `make SEED N` does: the script of this seed and of so many turns is written, and neither disk nor source is
  -- called.
  pub record MakesScript (seed turns : ℕ) (disk : D) (source : S) (sink : K) (ended : Ended D S K) : Type 0 where
    pub ends : EndsMaking ended.detail
    pub wrote : WroteText k sink ended.sink (made_text seed turns) ended.detail
    pub disk_stays : ended.disk ≡ disk
    pub source_stays : ended.source ≡ source
    pub no_event : ended.journal.items ≡ []
    pub no_tally : ended.tally ≡ None
    pub no_young : ended.young ≡ None

module _ {D S K : Type 0} (d : disk.Ghosts D) (s : source.Ghosts S) (k : sink.Ghosts K) where
  -- What `restore FILE` does: the source is read to its end, the dump is read, a store is made, and the dump is settled in it
  -- as copy 1. The sink is not called.
  pub record RestoresStore (disk : D) (source : S) (sink : K) (ended : Ended D S K) : Type 0 where
    pub ends : EndsRestoring ended.detail
    -- where a dump was read it was this one, also where the source tells nothing
    pub dump : Dumped
    pub sound : HasDump ended.detail → IsSoundDump dump
    -- what it answers of the bytes that the source told
    pub reads : (bytes : List ℕ) → s.left source ≡ Some bytes → ReadsDump dump bytes (s.left ended.source) ended.detail
    -- what it does to the disk
    pub leaves : LeavesRestored d dump disk ended.disk ended.detail
    -- where the disk told some byte, a crash at any moment leaves what it might have left at the start
    pub keeps : (bytes : List ℕ) → d.contents disk ≡ Some bytes → 0 < length bytes
        → LeavesOnly d.moment d.since disk ended.disk (d.image disk)
    pub sink_stays : ended.sink ≡ sink
    pub no_event : ended.journal.items ≡ []
    pub no_tally : ended.tally ≡ None
    pub no_young : ended.young ≡ None

  -- what each command does, with this chooser
  abbrev pub Does : {F : Type 0} → F → Command → D → S → K → Ended D S K → Type 0
  Does place Init disk source sink ended = MakesStore d disk source sink ended
  Does place Run disk source sink ended = RunsScript d s k place disk source sink ended
  Does place RunThreads disk source sink ended = RunsInTurns d s k place disk source sink ended
  Does place RunSeats disk source sink ended = RunsByPasses d s k place disk source sink ended
  Does place RunYoung disk source sink ended = RunsYoung d s k place disk source sink ended
  Does place Inspect disk source sink ended = InspectsStore d k disk source sink ended
  Does place Dump disk source sink ended = DumpsStore d k disk source sink ended
  Does place Restore disk source sink ended = RestoresStore disk source sink ended
  Does place (Why id) disk source sink ended = TellsWhy d k id disk source sink ended
  Does place (Make seed turns) disk source sink ended = MakesScript k seed turns disk source sink ended
  Does place (Trial seed turns) disk source sink ended = TriesScript d k place seed turns disk source sink ended
