-- What a run with a nursery answers of bytes, from what it answers of their lines, and where they were not read.
use Rattle.std.proofs.Common.{◌≡◌, ℕ, ◌<◌, List, [], Option, None, refl, ap, subst, ◌∙◌, arith}
use Rattle.std.specs.Prelude.{IfSome}
use Rattle.pm_types.specs.declared.entry.Entry.{Entry}
use Rattle.pm_model.specs.Journal.{IsFirstPart}
use Rattle.pm_script.specs.declared.line.YoungLine.{YoungLine}
use Rattle.pm_script.specs.Bad.{IsYoungBad}
use Rattle.pm_script.specs.Young.{IsYoungScript}
use Rattle.pm_script.specs.Parted.Asked.{requests_asked}
use Rattle.pm_script.proofs.YoungLaws.{no_young_fault, one_young_reading}
use Rattle.pm_engine.specs.Events.Causes.{OnStop}
use Rattle.pm_serial.specs.Ordered.{StopsAmong, course_of}
use Rattle.pm_young.specs.declared.tally.YoungTally.{YoungTally}
use Rattle.pm_young.specs.Seen.{young_tally_of}
use Rattle.pm_young_run.specs.Asked.{as_lines, bases_of}
use Rattle.pm_young_run.proofs.Asking.{requests_same}
use Rattle.pm_model.specs.World.{World}
use Rattle.pm_runs.specs.declared.ends.ended.Detail.{Detail}
use Rattle.pm_runs.specs.Ends.Ends.{stop_in}
use Rattle.pm_runs.specs.Ends.Stages.{IsPast, unreached, the_words, the_store, the_output}
use Rattle.pm_runs.specs.Ends.Journals.{EndsReading}
use Rattle.pm_runs.specs.Young.Journals.{KeepsYoungOrder, MakesYoung, ReadsYoung, ServesYoung, StopsYoung}
use Rattle.pm_runs.specs.Young.Tallies.{EntersYoung}
use Rattle.pm_runs.proofs.EndsLemmas.Scripts.{tried_read}
use Rattle.pm_runs.proofs.EndsLemmas.Unread.{script_unread}

-- the bytes are a script of these lines
pub young_read : (bytes : List ℕ) (lines : List YoungLine) (detail : Detail) (journal : List Entry) (young : Option YoungTally) → IsYoungScript bytes lines → ServesYoung lines detail journal young → ReadsYoung bytes detail journal young
young_read bytes lines detail journal young script serves = record {
  refused = tried_read (λ fault. IsYoungBad fault bytes) detail serves.tried;
  told = λ fault is. absurd (no_young_fault bytes fault lines is script);
  ran = λ past. record { lines = lines; rest = serves.rest; script = script; served = serves.served ∙ requests_same lines };
  all = λ past others other. serves.all past ∙ requests_same lines ∙ ap (λ (ls : List YoungLine). requests_asked (bases_of ls)) (one_young_reading bytes lines others script other);
  made = λ past others other. subst (λ (ls : List YoungLine). IfSome young (λ it. MakesYoung ls journal (young_tally_of it))) (one_young_reading bytes lines others script other) (serves.made past);
}

-- and they were run in their order
pub young_order : (bytes : List ℕ) (lines : List YoungLine) (detail : Detail) (journal : List Entry) (young : Option YoungTally) → IsYoungScript bytes lines → ServesYoung lines detail journal young → KeepsYoungOrder bytes detail journal young
young_order bytes lines detail journal young script serves = record {
  ordered = λ others other. subst (λ (ls : List YoungLine). IfSome young (λ it. IsFirstPart (young_tally_of it).course (course_of 0 0 (as_lines ls)))) (one_young_reading bytes lines others script other) serves.ordered;
  all_ordered = λ past others other.
      subst (λ (ls : List YoungLine). IfSome young (λ it. (young_tally_of it).course ≡ course_of 0 0 (as_lines ls))) (one_young_reading bytes lines others script other) (serves.all_ordered past);
  stopped = λ others other.
      subst (λ (ls : List YoungLine). IfSome young (λ it. OnStop (stop_in detail) (StopsAmong (as_lines ls) journal (young_tally_of it).steps (young_tally_of it).events (stop_in detail)))) (one_young_reading bytes lines others script other) serves.stopped;
  short = λ ran others done more client other parted. serves.short ran done more client (ap as_lines (one_young_reading bytes lines others script other) ∙ parted);
}

-- what they let enter
pub young_enters : (bytes : List ℕ) (start : World) (lines others : List YoungLine) (detail : Detail) (journal : List Entry) (young : Option YoungTally) → IsYoungScript bytes lines → IsYoungScript bytes others
    → EntersYoung start lines detail journal young → EntersYoung start others detail journal young
young_enters bytes start lines others detail journal young script other = subst (λ (ls : List YoungLine). EntersYoung start ls detail journal young) (one_young_reading bytes lines others script other)

-- nothing was read of the bytes
pub young_unread : (bytes : List ℕ) (detail : Detail) (journal : List Entry) → EndsReading detail → StopsYoung bytes detail → ReadsYoung bytes detail journal None
young_unread bytes detail journal ends stops = record {
  refused = stops.refused;
  told = stops.told;
  ran = λ past. absurd (script_unread detail ends past);
  all = λ past. absurd (script_unread detail ends (omega (arith, past)));
  made = λ past. absurd (script_unread detail ends (omega (arith, past)));
}

-- and no line was run
pub young_unordered : (bytes : List ℕ) (detail : Detail) (journal : List Entry) → KeepsYoungOrder bytes detail journal None
young_unordered bytes detail journal = record {
  ordered = λ lines script. tt;
  all_ordered = λ past lines script. tt;
  stopped = λ lines script. tt;
  short = λ ran lines done more client script parted. tt;
}

-- no store was opened for them
pub young_unserved : (lines : List YoungLine) (detail : Detail) → IsPast the_words detail → the_store < unreached detail → (IsPast the_output detail → ⊥) → ServesYoung lines detail [] None
young_unserved lines detail ends tried undone = record {
  ends = ends;
  tried = tried;
  rest = requests_asked (as_lines lines);
  served = refl;
  all = λ past. absurd (undone past);
  made = λ past. tt;
  ordered = tt;
  all_ordered = λ past. tt;
  stopped = tt;
  short = λ ran done more client parted. tt;
}
