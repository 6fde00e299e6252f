-- What a run with a nursery answers: its journal, and the events that it made. A sweep is one event that answers nothing.
use Rattle.std.specs.Prelude.{◌≡◌, ◌⊎◌, ℕ, ◌+◌, ◌<◌, List, ◌∷◌, ◌++◌, length, Option, IfSome}
use Rattle.pm_types.specs.declared.command.Cmd.TheVariants.{Settle}
use Rattle.pm_types.specs.declared.entry.Entry.{Entry}
use Rattle.pm_model.specs.declared.request.Request.{Request}
use Rattle.pm_model.specs.Journal.{IsFirstPart, requests_of}
use Rattle.pm_script.specs.declared.fault.ScriptFault.{ScriptFault}
use Rattle.pm_script.specs.declared.line.Line.{Line}
use Rattle.pm_script.specs.declared.line.Line.TheVariants.{Client}
use Rattle.pm_script.specs.declared.line.YoungLine.{YoungLine}
use Rattle.pm_script.specs.Bad.{IsYoungBad}
use Rattle.pm_script.specs.Young.{IsYoungScript}
use Rattle.pm_script.specs.Parted.Asked.{events_asked, flushes_asked, requests_asked, steps_asked}
use Rattle.pm_engine.specs.Events.Causes.{OnStop}
use Rattle.pm_serial.specs.Ordered.{StopsAmong, course_of}
use Rattle.pm_young.specs.declared.tally.YoungTally.{YoungTally}
use Rattle.pm_young.specs.Seen.{YoungTotal, young_tally_of}
use Rattle.pm_young_run.specs.Asked.{as_lines, bases_of, sweeps_asked}
use Rattle.pm_runs.specs.declared.ends.ended.Detail.{Detail}
use Rattle.pm_runs.specs.Ends.Ends.{RanShort, stop_in}
use Rattle.pm_runs.specs.Ends.Journals.{EndsFor, IsScriptEndOf, StopsReadingOf}
use Rattle.pm_runs.specs.Ends.Stages.{IsPast, unreached, the_words, the_script, the_store, the_output}

-- where just these events were made, something of the copy in progress is left to be written, unless they are none
abbrev pub IsShortIn : ℕ → YoungTotal → Type 0
IsShortIn before total = total.events ≡ before → (total.events ≡ 0) ⊎ (0 < total.left)

-- Every event was made for which the lines ask: so many are the collector's, and beside them, those that write pages and
-- the sweeps there is one for each entry of the journal.
pub record MakesYoung (lines : List YoungLine) (journal : List Entry) (total : YoungTotal) : Type 0 where
  pub entries : total.entries ≡ length journal
  pub steps : total.steps ≡ steps_asked (bases_of lines)
  pub events : total.events ≡ length journal + steps_asked (bases_of lines) + flushes_asked (bases_of lines) + sweeps_asked lines

-- What a run answers of these lines, once they were read.
pub record ServesYoung (lines : List YoungLine) (detail : Detail) (journal : List Entry) (young : Option YoungTally) : Type 0 where
  -- it is a run, and came to the store
  pub ends : IsPast the_words detail
  pub tried : the_store < unreached detail
  -- a first part of what the lines ask is served, which may be none or all
  pub rest : List Request
  pub served : requests_of journal ++ rest ≡ requests_asked (as_lines lines)
  -- where it is done, it is all of it, and every event was made that the lines ask for
  pub all : IsPast the_output detail → requests_of journal ≡ requests_asked (as_lines lines)
  pub made : IsPast the_output detail → IfSome young (λ it. MakesYoung lines journal (young_tally_of it))
  -- the events come in the order of the lines: of a first part of the commands it is told what was made before each, and
  -- where it is done of all
  pub ordered : IfSome young (λ it. IsFirstPart (young_tally_of it).course (course_of 0 0 (as_lines lines)))
  pub all_ordered : IsPast the_output detail → IfSome young (λ it. (young_tally_of it).course ≡ course_of 0 0 (as_lines lines))
  -- where it stopped
  pub stopped : IfSome young (λ it. OnStop (stop_in detail)
      (StopsAmong (as_lines lines) journal (young_tally_of it).steps (young_tally_of it).events (stop_in detail)))
  -- where memory runs out in a `settle`, something of the copy is left to be written, unless no event was made
  pub short : RanShort detail → (done more : List Line) (client : ℕ) → as_lines lines ≡ done ++ Client client Settle ∷ more
      → IfSome young (λ it. IsShortIn (events_asked done) (young_tally_of it))

-- a script that is refused has this fault
abbrev pub IsYoungEnd : List ℕ → Detail → Type 0
IsYoungEnd bytes detail = IsScriptEndOf (λ fault. IsYoungBad fault bytes) detail

-- what is said of bytes that were not read as a script
abbrev pub StopsYoung : List ℕ → Detail → Type 0
StopsYoung bytes detail = StopsReadingOf (λ fault. IsYoungBad fault bytes) detail

-- the bytes are a script, and the journal serves a first part of what its lines ask, which may be none or all
pub record ServesYoungPart (bytes : List ℕ) (journal : List Entry) : Type 0 where
  pub lines : List YoungLine
  pub rest : List Request
  pub script : IsYoungScript bytes lines
  pub served : requests_of journal ++ rest ≡ requests_asked (bases_of lines)

-- What a run answers of these bytes, once they were read.
pub record ReadsYoung (bytes : List ℕ) (detail : Detail) (journal : List Entry) (young : Option YoungTally) : Type 0 where
  -- they are refused for no fault but the first that applies, and where one applies they are refused
  pub refused : IsYoungEnd bytes detail
  pub told : (fault : ScriptFault) → IsYoungBad fault bytes → EndsFor fault detail
  -- past the script they are one, and a first part of what its lines ask is served, in their order
  pub ran : IsPast the_script detail → ServesYoungPart bytes journal
  -- where the run is done, the journal has just what they ask, in their order
  pub all : IsPast the_output detail → (lines : List YoungLine) → IsYoungScript bytes lines
      → requests_of journal ≡ requests_asked (bases_of lines)
  -- and every event was made that they ask for
  pub made : IsPast the_output detail → (lines : List YoungLine) → IsYoungScript bytes lines
      → IfSome young (λ it. MakesYoung lines journal (young_tally_of it))

-- A run keeps the order of the lines.
pub record KeepsYoungOrder (bytes : List ℕ) (detail : Detail) (journal : List Entry) (young : Option YoungTally) : Type 0 where
  -- before each command were made just the events that the lines before it ask for: this is told of a first part of the
  -- commands, and where the run is done of all
  pub ordered : (lines : List YoungLine) → IsYoungScript bytes lines
      → IfSome young (λ it. IsFirstPart (young_tally_of it).course (course_of 0 0 (as_lines lines)))
  pub all_ordered : IsPast the_output detail → (lines : List YoungLine) → IsYoungScript bytes lines
      → IfSome young (λ it. (young_tally_of it).course ≡ course_of 0 0 (as_lines lines))
  -- a run that stopped has made all events of the lines that are done, and of the next one, if there is one, some
  pub stopped : (lines : List YoungLine) → IsYoungScript bytes lines
      → IfSome young (λ it. OnStop (stop_in detail)
      (StopsAmong (as_lines lines) journal (young_tally_of it).steps (young_tally_of it).events (stop_in detail)))
  -- where memory runs out in a `settle`, which is the event that was not made where so many were made as the lines before it
  -- ask for, something of the copy is left to be written, unless no event was made: a copy that was flushed whole settles
  pub short : RanShort detail → (lines : List YoungLine) (done more : List Line) (client : ℕ) → IsYoungScript bytes lines
      → as_lines lines ≡ done ++ Client client Settle ∷ more → IfSome young (λ it. IsShortIn (events_asked done) (young_tally_of it))
