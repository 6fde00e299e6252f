-- What the whole program does, down to its status and to standard error.
use Rattle.std.specs.Prelude.{false, ◌≡◌, ◌⊎◌, ℕ, List}
use Rattle.pm_types.specs.Memory.{no_memory}
use Rattle.pm_types.specs.Counts.{Rose}
use Rattle.pm_disk.specs.declared.disk.Disk as disk
use Rattle.pm_io.specs.declared.source.Source as source
use Rattle.pm_io.specs.declared.sink.Sink as sink
use Rattle.pm_serial.specs.Output.Writing.{PutsAll, PutsPart}
use Rattle.pm_words.specs.declared.command.Command.{Command}
use Rattle.pm_words.specs.Words.{AreShip, SpellsAlone, SpellsNothing}
use Rattle.pm_runs.specs.declared.ends.ended.Detail.TheVariants.{Usage, Memory}
use Rattle.pm_runs.specs.declared.ends.ended.Ended.{Ended}
use Rattle.pm_runs.specs.Ends.Alone.{alone}
use Rattle.pm_runs.specs.Ends.Ends.{ShowsOther, status_of}
use Rattle.pm_runs.specs.Ends.Causes.{ShowsCauses}
use Rattle.pm_top.specs.Commands.{IsUntouched, Does}
use Rattle.pm_top.specs.Needs.{HasNeeds, NothingFails}
use Rattle.pm_top.specs.Ships.{MayShip, ShipsStore}

module _ {E : Type 0} (e : sink.Ghosts E) where
  -- This line was written to the sink and nothing else, or, where the sink failed, a first part of it.
  pub record Tells (old new : E) (line : List ℕ) : Type 0 where
    pub all : ¬ (Rose (e.count old) (e.count new)) → PutsAll (e.written old) (e.written new) line
    pub part : PutsPart (e.written old) (e.written new) line

module _ {D E S K : Type 0} (d : disk.Ghosts D) (e : disk.Ghosts E) (s : source.Ghosts S) (k : sink.Ghosts K) where
  -- The program ended so, with a status, a journal, a tally and what is left of both disks, source and sink: all holds of
  -- this end that holds of the top call, with this chooser.
  pub record Performs {F : Type 0} (place : F) (words : List (List ℕ)) (disk : D) (other : E) (source : S) (sink : K) (ended : Ended D E S K) : Type 0 where
    pub is_status : ended.status ≡ status_of ended.detail
    pub usage : ended.detail ≡ Usage → SpellsNothing words
    pub refused : SpellsNothing words → (ended.detail ≡ Usage) ⊎ (ended.detail ≡ Memory false no_memory)
    pub untouched : SpellsNothing words → IsUntouched disk source sink (alone ended) × (ended.other ≡ other)
    pub causes : ShowsCauses d s k disk source sink (alone ended)
    pub other_causes : ShowsOther ended.detail (e.count other) (e.count ended.other)
    pub does : (command : Command) → SpellsAlone words command → Does d s k place command disk source sink (alone ended) × (ended.other ≡ other)
    pub complete : (command : Command) → SpellsAlone words command → HasNeeds d s command disk source
        → NothingFails d s k disk source sink (alone ended) → (ended.status ≡ 0) ⊎ (ended.status ≡ 7)
    pub ships : AreShip words → ShipsStore d e k disk other source sink ended
    pub ship_complete : AreShip words → MayShip d e disk other → NothingFails d s k disk source sink (alone ended)
        → (Rose (e.count other) (e.count ended.other) → ⊥) → (ended.status ≡ 0) ⊎ (ended.status ≡ 7)
