-- Where a run with a nursery stops: how many events of a line were made until then.
use Rattle.std.proofs.Common.{◌≡◌, ℕ, ◌+◌, ◌<◌, min, List, [], ◌++◌, take, Option, Some, None, Result, Ok, Err, OnErr, arith, refl, ap, sym, ◌∙◌}
use Rattle.std.proofs.Math.Seq.{take-nil}
use Rattle.std.proofs.lemmas.List.{append-nil}
use Rattle.pm_types.specs.Counts.{greatest_count}
use Rattle.pm_model.specs.declared.request.Request.{Request}
use Rattle.pm_model.specs.Journal.{requests_of}
use Rattle.pm_script.specs.declared.line.Line.{Line}
use Rattle.pm_script.specs.declared.line.Line.TheVariants.{Gc, Flush}
use Rattle.pm_script.specs.Parted.Asked.{request_of, steps_of}
use Rattle.pm_saving.specs.Serving.{Serving}
use Rattle.pm_engine.specs.declared.events.stop.Stop.{Stop}
use Rattle.pm_engine.specs.declared.events.stop.Stop.TheVariants.{Memory, Writing, Device}
use Rattle.pm_engine.specs.Events.Causes.{OnMemory, OnStop, why}
use Rattle.pm_engine.specs.Events.Events.{AnswersPart, IsUnfinished, KeepsCounts}
use Rattle.pm_engine.proofs.EventsLemmas.Answering.{answers_none}
use Rattle.pm_serial.specs.Stepping.{AsksSettle, IsGathered, StopsLine, events_of, steps_in}
use Rattle.pm_serial.proofs.Gathering.{not_both}
use Rattle.pm_young_run.specs.Stepping.{line_of}
use Rattle.pm_young_run.specs.declared.kind.Kind.{Kind}
use Rattle.pm_young_run.specs.declared.kind.Kind.TheVariants as kinds

-- one more event of a kind
pub steps_more : (kind : Kind) (count : ℕ) → steps_of (line_of kind count) + steps_of (line_of kind 1) ≡ steps_of
    (line_of kind (count + 1))
steps_more kinds.Collect count = refl
steps_more kinds.Flush count = refl

-- no event of a kind
pub steps_none : (kind : Kind) → 0 ≡ steps_of (line_of kind 0)
steps_none kinds.Collect = refl
steps_none kinds.Flush = refl

-- what holds, holds where memory ran out
on_memory : (P : Type 0) (stop : Option Stop) → P → OnMemory stop P
on_memory P None p = tt
on_memory P (Some (Memory _)) p = p
on_memory P (Some Writing) p = tt
on_memory P (Some Device) p = tt

-- of the events of a line that answers nothing not all were made
line_cut : (line : Line) (made steps : ℕ) (old mid new : Serving) (stop : Stop) → IsGathered (Some stop)
    → made < events_of line → request_of line ≡ [] → steps_in line made ≡ steps → (AsksSettle line → ⊥)
    → new.journal ≡ old.journal → AnswersPart [] made steps old mid None
    → KeepsCounts mid new → StopsLine line old new (Some stop)
line_cut line made steps old mid new stop unwritten less none counted no_settle journal part same = record {
  made = made;
  within = omega (arith, less);
  cut = λ _. less;
  last = λ of. absurd (not_both (Some stop) unwritten of);
  served =
      ap requests_of journal ∙ sym (append-nil (requests_of old.journal))
      ∙ ap (λ (more : List Request). requests_of old.journal ++ more)
      (sym (take-nil made) ∙ ap (λ (asked : List Request). take made asked) (sym none));
  events = λ small. same.events ∙ part.events tt small;
  steps = λ small. same.steps ∙ part.steps tt small ∙ ap (λ (n : ℕ). min (old.steps + n) greatest_count) (sym counted);
  left = on_memory (AsksSettle line → IsUnfinished new) (Some stop) (λ asks. absurd (no_settle asks));
}

-- of so many events of a kind not all were made
pub events_cut : (kind : Kind) (count made : ℕ) (old mid new : Serving) (stop : Stop) → IsGathered (Some stop)
    → new.journal ≡ old.journal → made < count → AnswersPart [] made (steps_of (line_of kind made)) old mid None
    → KeepsCounts mid new
    → StopsLine (line_of kind count) old new (Some stop)
events_cut kinds.Collect count made old mid new stop unwritten journal within part same = line_cut (Gc count) made made
    old mid new stop unwritten (omega (arith, within)) refl refl (λ never. never) journal part same
events_cut kinds.Flush count made old mid new stop unwritten journal within part same = line_cut (Flush count) made 0
    old mid new stop unwritten (omega (arith, within)) refl refl (λ never. never) journal part same

-- no sweep was made
pub sweep_stops : (old new : Serving) (result : Result (Unit {0}) Stop) → IsGathered (why result)
    → new.journal ≡ old.journal → OnErr result (KeepsCounts old new)
    → OnStop (why result) (StopsLine (Flush 1) old new (why result))
sweep_stops old new (Ok done) unwritten journal stays = tt
sweep_stops old new (Err stop) unwritten journal stays = line_cut (Flush 1) 0 0 old old new stop unwritten (omega arith)
    refl refl (λ never. never) journal (answers_none old) stays
