-- The stages that a run passes, in their order, and what each end says of them.
use Rattle.std.specs.Prelude.{ℕ, ◌≤◌, true, false}
use Rattle.pm_runs.specs.declared.ends.ended.Detail.{Detail}
use Rattle.pm_runs.specs.declared.ends.ended.Detail.TheVariants.{Fine, Usage, Script, Dump as BadDump, Reading, Writing, Device, NotEmpty, Refused, Standby, Ahead, Foreign, OtherDevice, Memory}

-- no stage
abbrev pub at_start : ℕ
at_start = 0

-- the words are those of a run
abbrev pub the_words : ℕ
the_words = 1

-- the source is read to its end
abbrev pub the_source : ℕ
the_source = 2

-- its bytes are read as a script
abbrev pub the_script : ℕ
the_script = 3

-- the store on the disk is opened
abbrev pub the_store : ℕ
the_store = 4

-- the events are made, and their replies gathered and put
abbrev pub the_events : ℕ
the_events = 5

-- the last replies are put, and all are finished
abbrev pub the_output : ℕ
the_output = 6

-- past all stages
abbrev pub at_end : ℕ
at_end = 7

-- the last stage that a run which ended so surely did
abbrev pub behind : Detail → ℕ
behind Fine = the_output
behind Usage = at_start
behind (Script fault) = the_words
behind (BadDump fault) = at_start
behind (Reading before after) = the_words
behind (Writing before after) = the_store
behind (Device before after false) = the_script
behind (Device before after true) = the_store
behind (NotEmpty bytes) = at_start
behind (Standby fault) = at_start
behind (Ahead to from) = at_start
behind (Foreign number) = at_start
behind (OtherDevice before after) = at_start
behind (Refused fault) = the_script
behind (Memory false _) = the_words
behind (Memory true _) = the_store

-- the first stage that it surely did not begin
abbrev pub unreached : Detail → ℕ
unreached Fine = at_end
unreached Usage = the_source
unreached (Script fault) = the_store
unreached (BadDump fault) = the_store
unreached (Reading before after) = the_script
unreached (Writing before after) = at_end
unreached (Device before after false) = the_events
unreached (Device before after true) = the_output
unreached (NotEmpty bytes) = the_events
unreached (Standby fault) = the_events
unreached (Ahead to from) = the_events
unreached (Foreign number) = the_events
unreached (OtherDevice before after) = the_events
unreached (Refused fault) = the_events
unreached (Memory false _) = the_events
unreached (Memory true _) = the_output

-- a run that ended so surely did this stage
abbrev pub IsPast : ℕ → Detail → Type 0
IsPast stage detail = stage ≤ behind detail

-- it surely did not begin this stage
abbrev pub IsBefore : ℕ → Detail → Type 0
IsBefore stage detail = unreached detail ≤ stage
