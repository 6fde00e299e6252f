use Rattle.std.proofs.Common.{Option, inl, refl, ap, subst}
use Rattle.pm_types.specs.Memory.{no_memory}
use Rattle.pm_model.specs.Text.{text}
use Rattle.pm_engine.specs.Events.Causes.{why}
use Rattle.pm_engine.specs.Shown.{serving, tally_in}
use Rattle.pm_engine.specs.declared.events.stop.Stop.{Stop}
use Rattle.pm_engine.specs.declared.events.stop.Stop.TheVariants.{Memory}
use Rattle.pm_serial.specs.Writing.{tail_of}
use Rattle.pm_serial.proofs.Gathering.{wrote_none}
use Rattle.pm_serial.proofs.TogetherLemmas.Ended.{Ends, counts_known, past_known, runs_known, runs_none, start_known, whole_first, whole_known}
use Rattle.pm_serial.proofs.TogetherLemmas.Ordered.{fresh_order, unanswered_yet}
use Rattle.pm_callers.specs.Faults.{stop_met}
use Rattle.pm_callers.proofs.Passing.{answers, answers_last, is_of_engine, order, short}
use Rattle.pm_callers.proofs.passes.run_passes.Goals as goal

-- ---- where there is no memory for the buffer

pub returns-in-Err-clause-answers : goal.returns-in-Err-clause-answers
returns-in-Err-clause-answers g c = unanswered_yet c.args.script (serving c.args.engine) (Memory no_memory) c.requires.fresh.journal

pub returns-in-Err-clause-order : goal.returns-in-Err-clause-order
returns-in-Err-clause-order g c = ∣ fresh_order c.args.script (serving c.args.engine) c.requires.fresh ∣₁

pub returns-in-Err-clause-left : goal.returns-in-Err-clause-left
returns-in-Err-clause-left g c = inl c.requires.fresh.events

pub returns-in-Err-clause-disk : goal.returns-in-Err-clause-disk
returns-in-Err-clause-disk g c =
    let law = c.keep_their_images.ensures in
    ∣ runs_none c.args.engine c.args.engine c.requires.fresh refl refl law.legal law.settled c.images_since_now.ensures ∣₁

pub returns-in-Err-clause-sink : goal.returns-in-Err-clause-sink
returns-in-Err-clause-sink g c =
    let it = serving c.args.engine in
    wrote_none g.K.Sink.written g.K.Sink.finished g.K.Sink.count c.args.sink.now it.journal (tail_of (tally_in it)) (ap text c.requires.fresh.journal)

pub returns-in-Err-clause-whole : goal.returns-in-Err-clause-whole
returns-in-Err-clause-whole g c = whole_first c.args.engine c.requires.fresh

-- ---- where the workers ran

pub of_engine-requires : goal.of_engine-requires
of_engine-requires g c = is_of_engine c.args.script c.args.engine c.run_calls-fault.result.1 c.run_calls-fault.result.0 c.run_calls-fault.ensures.says

pub end_workers-ran-requires-clause-past : goal.end_workers-ran-requires-clause-past
end_workers-ran-requires-clause-past g c =
    let run = c.run_calls-fault in
    whole_known c.args.engine run.result.1 (stop_met run.result.0) (stop_met run.result.0) (inl refl) run.ensures.goes (whole_first c.args.engine c.requires.fresh)

pub returns-clause-answers : goal.returns-clause-answers
returns-clause-answers g c =
    let run = c.run_calls-fault in
    let stop = why c.end_workers-ran.result in
    let ends = subst (λ (before : Option Stop). Ends before stop) c.of_engine.ensures c.end_workers-ran.ensures.first in
    answers c.args.script c.args.engine run.result.1 run.result.0 stop run.ensures ends

pub returns-clause-order : goal.returns-clause-order
returns-clause-order g c =
    let run = c.run_calls-fault in
    let stop = why c.end_workers-ran.result in
    let ends = subst (λ (before : Option Stop). Ends before stop) c.of_engine.ensures c.end_workers-ran.ensures.first in
    order c.args.script c.args.engine run.result.1 run.result.0 stop run.ensures ends c.keep_their_images-2.ensures.history

pub returns-clause-left : goal.returns-clause-left
returns-clause-left g c =
    let run = c.run_calls-fault in
    let stop = why c.end_workers-ran.result in
    let ends = subst (λ (before : Option Stop). Ends before stop) c.of_engine.ensures c.end_workers-ran.ensures.first in
    short c.args.script c.args.engine run.result.1 run.result.0 stop run.ensures ends c.requires.fresh

pub returns-clause-disk : goal.returns-clause-disk
returns-clause-disk g c =
    let run = c.run_calls-fault in
    let stop = why c.end_workers-ran.result in
    let ends = subst (λ (before : Option Stop). Ends before stop) c.of_engine.ensures c.end_workers-ran.ensures.first in
    runs_known c.args.engine run.result.1 (stop_met run.result.0) stop ends run.ensures.goes c.requires.fresh c.keep_their_images-2.ensures.settled

pub returns-clause-cause : goal.returns-clause-cause
returns-clause-cause g c =
    let run = c.run_calls-fault in
    let stop = why c.end_workers-ran.result in
    let ends = subst (λ (before : Option Stop). Ends before stop) c.of_engine.ensures c.end_workers-ran.ensures.first in
    counts_known c.args.engine run.result.1 (stop_met run.result.0) stop ends run.ensures.goes

pub returns-clause-past : goal.returns-clause-past
returns-clause-past g c =
    let run = c.run_calls-fault in
    past_known c.args.engine run.result.1 (stop_met run.result.0) (stop_met run.result.0) (inl refl) run.ensures.goes

pub returns-clause-whole : goal.returns-clause-whole
returns-clause-whole g c =
    let run = c.run_calls-fault in
    whole_known c.args.engine run.result.1 (stop_met run.result.0) (stop_met run.result.0) (inl refl) run.ensures.goes (whole_first c.args.engine c.requires.fresh)

pub returns-clause-start : goal.returns-clause-start
returns-clause-start g c =
    let run = c.run_calls-fault in
    start_known c.args.engine run.result.1 (stop_met run.result.0) (stop_met run.result.0) (inl refl) run.ensures.goes

pub returns-clause-last : goal.returns-clause-last
returns-clause-last g c =
    let run = c.run_calls-fault in
    let stop = why c.end_workers-ran.result in
    let ends = subst (λ (before : Option Stop). Ends before stop) c.of_engine.ensures c.end_workers-ran.ensures.first in
    answers_last c.args.script c.args.engine run.result.1 run.result.0 stop run.ensures ends
