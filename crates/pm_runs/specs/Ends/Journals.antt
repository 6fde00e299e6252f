-- What a run answers: its journal, and the events that it made.
use Rattle.std.specs.Prelude.{◌≡◌, ◌⊎◌, false, ◌∷◌, ℕ, ◌+◌, ◌<◌, ◌≤◌, List, ◌++◌, length, Option, IfSome}
use Rattle.pm_types.specs.Counts.{greatest_count}
use Rattle.pm_types.specs.declared.entry.Entry.{Entry}
use Rattle.pm_model.specs.declared.request.Request.{Request}
use Rattle.pm_model.specs.World.{Copy, begin}
use Rattle.pm_model.specs.Closed.{IsClosed}
use Rattle.pm_model.specs.Journal.{IsFirstPart, IsLegal, commands_of, part, requests_of, Serves}
use Rattle.pm_script.specs.declared.fault.ScriptFault.{ScriptFault}
use Rattle.pm_script.specs.declared.line.Line.{Line}
use Rattle.pm_script.specs.declared.line.Line.TheVariants.{Client}
use Rattle.pm_types.specs.declared.command.Cmd.TheVariants.{Settle}
use Rattle.pm_script.specs.Bad.{IsBad}
use Rattle.pm_script.specs.Script.{IsScript}
use Rattle.pm_engine.specs.declared.tally.Tally.{Tally}
use Rattle.pm_engine.specs.Shown.{Total, tally_of}
use Rattle.pm_script.specs.Parted.Asked.{events_asked, flushes_asked, requests_asked, steps_asked}
use Rattle.pm_engine.specs.Events.Causes.{OnStop}
use Rattle.pm_serial.specs.Ordered.{StopsAmong, course_of}
use Rattle.pm_runs.specs.declared.ends.ended.Detail.{Detail}
use Rattle.pm_runs.specs.declared.ends.ended.Detail.TheVariants.{Fine, Script, Reading, Memory}
use Rattle.pm_runs.specs.Ends.Ends.{IsOfScript, RanShort, stop_in}
use Rattle.pm_runs.specs.Ends.Stages.{IsPast, unreached, the_words, the_script, the_store, the_output}

-- The journal is legal from the world of some copy, under some number, also where the disk tells nothing.
pub record IsBegun (journal : List Entry) : Type 0 where
  pub number : ℕ
  pub copy : Copy
  -- in its world whatever is named is an object
  pub closed : IsClosed (begin number copy)
  -- each reply is the one that the world gives at that point
  pub legal : IsLegal (begin number copy) journal

-- the bytes are a script, and the journal serves a first part of what its lines ask, which may be none or all
pub record ServesPart (bytes : List ℕ) (journal : List Entry) : Type 0 where
  pub lines : List Line
  pub rest : List Request
  pub script : IsScript bytes lines
  pub served : requests_of journal ++ rest ≡ requests_asked lines

-- the bytes are a script, and of each client's commands in it the journal has a first part, which may be none or all
pub record ServesClients (bytes : List ℕ) (journal : List Entry) : Type 0 where
  pub lines : List Line
  pub script : IsScript bytes lines
  pub parts : (client : ℕ) → IsFirstPart (part client journal) (commands_of client (requests_asked lines))

-- where just these events were made, something of the copy in progress is left to be written, unless they are none
abbrev pub IsShortIn : ℕ → Total → Type 0
IsShortIn before total = total.events ≡ before → (total.events ≡ 0) ⊎ (0 < total.left)

-- Where memory runs out in a `settle` of these lines, something of the copy is left to be written, unless no event was made.
abbrev pub IsShortRun : List Line → Detail → Option Tally → Type 0
IsShortRun lines detail tally =
    RanShort detail → (done more : List Line) (client : ℕ) → lines ≡ done ++ Client client Settle ∷ more
    → events_asked done < greatest_count → IfSome tally (λ it. IsShortIn (events_asked done) (tally_of it))

-- What a run answers of these lines in their order, once they were read, whatever the worker does that memory ran out for.
pub record FollowsLines (lines : List Line) (detail : Detail) (journal : List Entry) (tally : Option Tally) : Type 0 where
  -- a first part of what the lines ask is served, which may be none or all
  pub rest : List Request
  pub served : requests_of journal ++ rest ≡ requests_asked lines
  -- where it is done, it is all of it
  pub all : IsPast the_output detail → requests_of journal ≡ requests_asked lines
  -- the events come in the order of the lines: of a first part of the commands it is told what was made before each, and
  -- where it is done of all
  pub ordered : events_asked lines ≤ greatest_count → IfSome tally (λ it. IsFirstPart (tally_of it).course (course_of 0 0 lines))
  pub all_ordered : IsPast the_output detail → events_asked lines ≤ greatest_count
      → IfSome tally (λ it. (tally_of it).course ≡ course_of 0 0 lines)
  -- where it stopped
  pub stopped : OnStop (stop_in detail) (events_asked lines ≤ greatest_count
      → IfSome tally (λ it. StopsAmong lines journal (tally_of it).steps (tally_of it).events (stop_in detail)))

-- The same of a run that makes nothing more where memory runs out.
pub record ServesInOrder (lines : List Line) (detail : Detail) (journal : List Entry) (tally : Option Tally) : Type 0 where
  pub order : FollowsLines lines detail journal tally
  pub short : IsShortRun lines detail tally

-- What a run answers of these lines, once they were read, in whichever order the clients' commands are asked.
pub record ServesLines (lines : List Line) (detail : Detail) (journal : List Entry) (tally : Option Tally) : Type 0 where
  -- it is a run, and came to the store
  pub ends : IsPast the_words detail
  pub tried : the_store < unreached detail
  -- of each client's commands a first part is served, which may be none or all
  pub parts : (client : ℕ) → IsFirstPart (part client journal) (commands_of client (requests_asked lines))
  -- where it is done, it is all of each, and every event was made that the lines ask for
  pub serves : IsPast the_output detail → Serves journal (requests_asked lines)
  pub long : IsPast the_output detail → length journal ≡ length (requests_asked lines)
  pub steps : IsPast the_output detail → IfSome tally (λ it. (tally_of it).steps ≡ steps_asked lines)
  pub events : IsPast the_output detail → IfSome tally (λ it. (tally_of it).events ≡ events_asked lines)

-- All that these lines ask was answered in their order, as where the run is done.
pub record ServesAll (lines : List Line) (journal : List Entry) (tally : Option Tally) : Type 0 where
  pub serves : ServesLines lines Fine journal tally
  pub order : ServesInOrder lines Fine journal tally

-- a script that is refused has a fault of which this is said
abbrev pub IsScriptEndOf : (ScriptFault → Type 0) → Detail → Type 0
IsScriptEndOf IsFault (Script fault) = IsFault fault
IsScriptEndOf IsFault detail = Unit {0}

-- a script that is refused has this fault
abbrev pub IsScriptEnd : List ℕ → Detail → Type 0
IsScriptEnd bytes detail = IsScriptEndOf (λ fault. IsBad fault bytes) detail

-- Bytes with this fault are refused for it, unless memory ran out or the source failed.
abbrev pub EndsFor : ScriptFault → Detail → Type 0
EndsFor fault (Script told) = told ≡ fault
EndsFor fault (Reading before after) = Unit {0}
EndsFor fault (Memory opened _) = Unit {0}
EndsFor fault detail = ⊥

-- how reading a script may stop the program
abbrev pub EndsReading : Detail → Type 0
EndsReading (Script fault) = IsOfScript fault
EndsReading (Reading before after) = Unit {0}
EndsReading (Memory opened _) = opened ≡ false
EndsReading detail = ⊥

-- What is said of bytes that were not read, by the first fault that applies to them: they are refused for no other, and where
-- one applies they are refused, unless memory ran out or the source failed.
pub record StopsReadingOf (IsFault : ScriptFault → Type 0) (detail : Detail) : Type 0 where
  pub refused : IsScriptEndOf IsFault detail
  pub told : (fault : ScriptFault) → IsFault fault → EndsFor fault detail

-- the same of a script
abbrev pub StopsReading : List ℕ → Detail → Type 0
StopsReading bytes detail = StopsReadingOf (λ fault. IsBad fault bytes) detail

-- Every event was made for which the lines ask: so many are the collector's, and beside them and those that write pages
-- there is one for each entry of the journal.
pub record MakesAll (lines : List Line) (journal : List Entry) (total : Total) : Type 0 where
  pub steps : total.steps ≡ steps_asked lines
  pub events : total.events ≡ length journal + steps_asked lines + flushes_asked lines

-- What a run answers of these bytes, once they were read, in whichever order the clients' commands are asked.
pub record ReadsScript (bytes : List ℕ) (detail : Detail) (journal : List Entry) (tally : Option Tally) : Type 0 where
  -- they are refused for no fault but the first that applies, and where one applies they are refused
  pub refused : IsScriptEnd bytes detail
  pub told : (fault : ScriptFault) → IsBad fault bytes → EndsFor fault detail
  -- past the script they are one, and of each client's commands in it a first part is served
  pub ran : IsPast the_script detail → ServesClients bytes journal
  -- where the run is done, each client's part is all that its lines ask
  pub serves : IsPast the_output detail → (lines : List Line) → IsScript bytes lines → Serves journal (requests_asked lines)
  -- and every event was made that they ask for
  pub made : IsPast the_output detail → (lines : List Line) → IsScript bytes lines
      → IfSome tally (λ it. MakesAll lines journal (tally_of it))

-- A run keeps the order of the lines.
pub record KeepsOrder (bytes : List ℕ) (detail : Detail) (journal : List Entry) (tally : Option Tally) : Type 0 where
  -- past the script the bytes are one, and a first part of what its lines ask is served, in their order
  pub ran : IsPast the_script detail → ServesPart bytes journal
  -- where the run is done, the journal has just what they ask, in their order
  pub all : IsPast the_output detail → (lines : List Line) → IsScript bytes lines → requests_of journal ≡ requests_asked lines
  -- before each command were made just the events that the lines before it ask for: this is told of a first part of the
  -- commands, and where the run is done of all
  pub ordered : (lines : List Line) → IsScript bytes lines → IfSome tally (λ it. IsFirstPart (tally_of it).course (course_of 0 0 lines))
  pub all_ordered : IsPast the_output detail → (lines : List Line) → IsScript bytes lines
      → IfSome tally (λ it. (tally_of it).course ≡ course_of 0 0 lines)
  -- a run that stopped has made all events of the lines that are done, and of the next one, if there is one, some
  pub stopped : (lines : List Line) → IsScript bytes lines
      → IfSome tally (λ it. OnStop (stop_in detail) (StopsAmong lines journal (tally_of it).steps (tally_of it).events (stop_in detail)))
  -- where memory runs out in a `settle`, which is the event that was not made where so many were made as the lines before it
  -- ask for, something of the copy is left to be written, unless no event was made: a copy that was flushed whole settles
  pub short : RanShort detail → (lines done more : List Line) (client : ℕ) → IsScript bytes lines
      → lines ≡ done ++ Client client Settle ∷ more → IfSome tally (λ it. IsShortIn (events_asked done) (tally_of it))
