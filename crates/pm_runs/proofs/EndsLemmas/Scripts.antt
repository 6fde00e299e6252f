-- What a run answers of bytes, from what it answers of their lines; and runs that end before the store.
use Rattle.std.proofs.Common.{◌+◌, ◌∷◌, ◌++◌, ◌≡◌, ℕ, ◌<◌, ◌≤◌, List, [], Option, Some, None, sym, ap, subst, ◌∙◌, arith}
use Rattle.std.specs.Prelude.{IfSome}
use Rattle.pm_types.specs.Counts.{greatest_count}
use Rattle.pm_types.specs.declared.entry.Entry.{Entry}
use Rattle.pm_model.specs.Journal.{IsFirstPart, commands_of}
use Rattle.pm_script.specs.declared.fault.ScriptFault.{ScriptFault}
use Rattle.pm_types.specs.declared.command.Cmd.TheVariants.{Settle}
use Rattle.pm_script.specs.declared.line.Line.{Line}
use Rattle.pm_script.specs.declared.line.Line.TheVariants.{Client}
use Rattle.pm_script.specs.Bad.{IsBad}
use Rattle.pm_script.specs.Script.{IsScript}
use Rattle.pm_script.proofs.BadLaws.{no_fault}
use Rattle.pm_script.proofs.ScriptLaws.{one_reading}
use Rattle.pm_engine.specs.declared.tally.Tally.{Tally}
use Rattle.pm_engine.specs.Shown.{tally_of}
use Rattle.pm_script.specs.Parted.Asked.{events_asked, requests_asked}
use Rattle.pm_engine.specs.declared.events.stop.Stop.{Stop}
use Rattle.pm_engine.specs.Events.Causes.{OnStop}
use Rattle.pm_serial.specs.Ordered.{StopsAmong, course_of}
use Rattle.pm_runs.specs.declared.ends.ended.Detail.{Detail}
use Rattle.pm_runs.specs.declared.ends.ended.Detail.TheVariants.{Fine, Usage, Script, Dump as BadDump, Reading, Writing, Device, NotEmpty, Refused, Standby, Ahead, Foreign, OtherDevice, Memory}
use Rattle.pm_runs.specs.Ends.Ends.{stop_in}
use Rattle.pm_runs.specs.Ends.Stages.{IsPast, unreached, the_script, the_store, the_output}
use Rattle.pm_runs.specs.Ends.Journals.{EndsFor, IsScriptEnd, IsScriptEndOf, KeepsOrder, MakesAll, ReadsScript, ServesInOrder, ServesLines}
use Rattle.pm_runs.proofs.EndsLemmas.Counted.{few_events, made_all}
use Rattle.pm_serial.proofs.Answering.{events_cons}
use Rattle.pm_serial.proofs.Ordering.{events_append}

-- a run that came to the store does not refuse the script
pub tried_read : (IsFault : ScriptFault → Type 0) (detail : Detail) → the_store < unreached detail → IsScriptEndOf IsFault detail
tried_read IsFault Fine tried = tt
tried_read IsFault Usage tried = tt
tried_read IsFault (Script fault) tried = absurd (omega arith)
tried_read IsFault (BadDump fault) tried = tt
tried_read IsFault (Reading before after) tried = tt
tried_read IsFault (Writing before after) tried = tt
tried_read IsFault (Device before after opened) tried = tt
tried_read IsFault (NotEmpty n) tried = tt
tried_read IsFault (Standby fault) tried = tt
tried_read IsFault (Ahead to from) tried = tt
tried_read IsFault (Foreign number) tried = tt
tried_read IsFault (OtherDevice before after) tried = tt
tried_read IsFault (Refused fault) tried = tt
tried_read IsFault (Memory opened _) tried = tt

-- every event was made
made : (lines : List Line) (detail : Detail) (journal : List Entry) (tally : Option Tally) → ServesLines lines detail journal tally → IsPast the_output detail
    → IfSome tally (λ it. MakesAll lines journal (tally_of it))
made lines detail journal None serves past = tt
made lines detail journal (Some tally) serves past = made_all lines journal (tally_of tally) (serves.long past) (serves.steps past) (serves.events past)

-- the bytes are a script of these lines
pub script_read : (bytes : List ℕ) (lines : List Line) (detail : Detail) (journal : List Entry) (tally : Option Tally) → IsScript bytes lines → ServesLines lines detail journal tally → ReadsScript bytes detail journal tally
script_read bytes lines detail journal tally script serves =
    record {
      refused = tried_read (λ fault. IsBad fault bytes) detail serves.tried;
      told = λ fault is. absurd (no_fault bytes fault lines is script);
      ran = λ past. record { lines = lines; script = script; parts = serves.parts };
      serves = λ past others other client. serves.serves past client ∙ ap (λ (ls : List Line). commands_of client (requests_asked ls)) (one_reading bytes lines others script other);
      made = λ past others other. subst (λ (ls : List Line). IfSome tally (λ it. MakesAll ls journal (tally_of it))) (one_reading bytes lines others script other) (made lines detail journal tally serves past);
    }

-- no count comes to its end before a `settle` among lines over which none does
pub settle_within : (lines done more : List Line) (client : ℕ) → lines ≡ done ++ Client client Settle ∷ more → events_asked lines ≤ greatest_count → events_asked done < greatest_count
settle_within lines done more client parted few =
    let all : events_asked lines ≡ events_asked done + events_asked (Client client Settle ∷ more) = ap events_asked parted ∙ events_append done (Client client Settle ∷ more) in
    let one = events_cons (Client client Settle) more in
    omega (arith, all, one, few)

-- and its lines were run in their order
pub order_read : (bytes : List ℕ) (lines : List Line) (detail : Detail) (journal : List Entry) (tally : Option Tally) → IsScript bytes lines → ServesInOrder lines detail journal tally → KeepsOrder bytes detail journal tally
order_read bytes lines detail journal tally script serves =
    let few = few_events bytes lines script in
    record {
      ran = λ past. record { lines = lines; rest = serves.order.rest; script = script; served = serves.order.served };
      all = λ past others other. serves.order.all past ∙ ap requests_asked (one_reading bytes lines others script other);
      ordered = λ others other. subst (λ (ls : List Line). IfSome tally (λ it. IsFirstPart (tally_of it).course (course_of 0 0 ls))) (one_reading bytes lines others script other) (serves.order.ordered few);
      all_ordered = λ past others other.
          subst (λ (ls : List Line). IfSome tally (λ it. (tally_of it).course ≡ course_of 0 0 ls)) (one_reading bytes lines others script other) (serves.order.all_ordered past few);
      stopped = λ others other.
          subst (λ (ls : List Line). IfSome tally (λ it. OnStop (stop_in detail) (StopsAmong ls journal (tally_of it).steps (tally_of it).events (stop_in detail)))) (one_reading bytes lines others script other)
          (stopped_at tally (stop_in detail) serves.order.stopped few);
      short = λ ran others done more client other parted.
          let same : others ≡ lines = sym (one_reading bytes lines others script other) in
          serves.short ran done more client (sym same ∙ parted) (settle_within lines done more client (sym same ∙ parted) few);
    }
  where
    stopped_at : (tally : Option Tally) (stop : Option Stop) → OnStop stop (events_asked lines ≤ greatest_count → IfSome tally (λ it. StopsAmong lines journal (tally_of it).steps (tally_of it).events stop))
        → events_asked lines ≤ greatest_count → IfSome tally (λ it. OnStop stop (StopsAmong lines journal (tally_of it).steps (tally_of it).events stop))
    stopped_at None stop stops few = tt
    stopped_at (Some it) None stops few = tt
    stopped_at (Some it) (Some why) stops few = stops few

-- no line was run
pub order_unread : (bytes : List ℕ) (detail : Detail) → (IsPast the_script detail → ⊥) → KeepsOrder bytes detail [] None
order_unread bytes detail none = record {
  ran = λ past. absurd (none past);
  all = λ past. absurd (none (omega (arith, past)));
  ordered = λ lines script. tt;
  all_ordered = λ past lines script. tt;
  stopped = λ lines script. tt;
  short = λ ran lines done more client script parted. tt;
}

-- and none was served
pub unordered : (bytes : List ℕ) (detail : Detail) (journal : List Entry) → journal ≡ [] → (IsPast the_script detail → ⊥) → KeepsOrder bytes detail journal None
unordered bytes detail journal empty none = subst (λ (j : List Entry). KeepsOrder bytes detail j None) (sym empty) (order_unread bytes detail none)

-- nothing was read of the bytes
pub script_unknown : (bytes : List ℕ) (detail : Detail) → IsScriptEnd bytes detail → ((fault : ScriptFault) → EndsFor fault detail) → (IsPast the_script detail → ⊥) → ReadsScript bytes detail [] None
script_unknown bytes detail refused ends none = record {
  refused = refused;
  told = λ fault is. ends fault;
  ran = λ past. absurd (none past);
  serves = λ past. absurd (none (omega (arith, past)));
  made = λ past. absurd (none (omega (arith, past)));
}

-- nothing was served
pub unserved : (bytes : List ℕ) (detail : Detail) (journal : List Entry) → journal ≡ [] → ReadsScript bytes detail [] None → ReadsScript bytes detail journal None
unserved bytes detail journal empty reads = subst (λ (j : List Entry). ReadsScript bytes detail j None) (sym empty) reads
