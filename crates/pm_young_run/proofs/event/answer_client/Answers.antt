use Rattle.std.proofs.Common.{[], ◌∷◌, Some, None, length, ap, refl, ◌∙◌}
use Rattle.pm_types.specs.declared.entry.Entry.{Entry}
use Rattle.pm_model.specs.Journal.{says_saved}
use Rattle.pm_model.specs.Text.{reply_line}
use Rattle.pm_saving.specs.Serving.{made_now}
use Rattle.pm_engine.specs.declared.events.stop.Stop.TheVariants.{Writing}
use Rattle.pm_engine.proofs.EventsLemmas.Answering.{answers_nothing, answers_one, answers_stopped}
use Rattle.pm_serial.specs.Output.Gathered.{gathered}
use Rattle.pm_serial.proofs.Acknowledging.{keeps_entry, keeps_lost, keeps_still}
use Rattle.pm_serial.proofs.Cutting.{stops_before, stops_behind}
use Rattle.pm_serial.proofs.Gathering.{sink_line, sink_lost, sink_still}
use Rattle.pm_serial.proofs.Journals.{pushed_last, text_grown}
use Rattle.pm_serial.proofs.Ordering.{tells_all, tells_nothing}
use Rattle.pm_young.specs.Seen.{serving}
use Rattle.pm_young_run.proofs.Lasting.{run_unwritten}
use Rattle.pm_young_run.proofs.event.answer_client.Goals as goal

pub returns-in-Ok-tell_reply-clause-answers : goal.returns-in-Ok-tell_reply-clause-answers
returns-in-Ok-tell_reply-clause-answers g c = answers_one c.args.client c.args.cmd (serving c.args.engine.now)
    (serving c.ask_engine.new.engine) c.in-Ok.ensures.adds

pub returns-in-Ok-tell_reply-clause-course : goal.returns-in-Ok-tell_reply-clause-course
returns-in-Ok-tell_reply-clause-course g c =
    tells_all (made_now (serving c.args.engine.now) ∷ []) (serving c.args.engine.now) (serving c.ask_engine.new.engine)
    None c.in-Ok.ensures.adds.course

pub returns-in-Ok-tell_reply-clause-sink : goal.returns-in-Ok-tell_reply-clause-sink
returns-in-Ok-tell_reply-clause-sink g c =
    let adds = c.in-Ok.ensures.adds in
    let journal = (serving c.args.engine.now).journal in
    let longer = (serving c.ask_engine.new.engine).journal in
    let last = c.index-journal-last.result in
    let lent = c.journal-journal.result.now in
    let is = pushed_last journal lent adds.entry last (length lent) (c.journal-journal.ensures ∙ adds.journal) refl
    c.index-journal-last.is in
    let grown = text_grown journal longer adds.entry last adds.journal is in
    let step = c.in-Ok-tell_reply.ensures in
    sink_line g.K.Sink.written g.K.Sink.finished g.K.Sink.count c.args.sink.now c.tell_reply.new.sink
    (gathered c.args.output.now) (gathered c.tell_reply.new.output) (reply_line last) journal longer grown step.adds
    step.counted

pub returns-in-Ok-tell_reply-clause-saved : goal.returns-in-Ok-tell_reply-clause-saved
returns-in-Ok-tell_reply-clause-saved g c =
    let adds = c.in-Ok.ensures.adds in
    let journal = (serving c.args.engine.now).journal in
    let longer = (serving c.ask_engine.new.engine).journal in
    let last = c.index-journal-last.result in
    let lent = c.journal-journal.result.now in
    let is = pushed_last journal lent adds.entry last (length lent) (c.journal-journal.ensures ∙ adds.journal) refl
    c.index-journal-last.is in
    let grown = text_grown journal longer adds.entry last adds.journal is in
    let step = c.in-Ok-tell_reply.ensures in
    keeps_entry g.K.Sink c.args.sink.now c.tell_reply.new.sink (gathered c.args.output.now)
    (gathered c.tell_reply.new.output) journal longer adds.entry adds.journal
    (sink_line g.K.Sink.written g.K.Sink.finished g.K.Sink.count c.args.sink.now c.tell_reply.new.sink
    (gathered c.args.output.now) (gathered c.tell_reply.new.output) (reply_line last) journal longer grown step.adds
    step.counted)
    (λ says. step.saved (ap (λ (e : Entry). says_saved e.reply) is ∙ says))
    (λ other. step.other (ap (λ (e : Entry). says_saved e.reply) is ∙ other))

pub returns-in-Err-tell_reply-clause-answers : goal.returns-in-Err-tell_reply-clause-answers
returns-in-Err-tell_reply-clause-answers g c =
    answers_stopped _ 1 0 (serving c.args.engine.now) (serving c.ask_engine.new.engine) Writing
    (answers_one c.args.client c.args.cmd (serving c.args.engine.now) (serving c.ask_engine.new.engine)
    c.in-Ok.ensures.adds)

pub returns-in-Err-tell_reply-clause-course : goal.returns-in-Err-tell_reply-clause-course
returns-in-Err-tell_reply-clause-course g c =
    tells_all (made_now (serving c.args.engine.now) ∷ []) (serving c.args.engine.now) (serving c.ask_engine.new.engine)
    (Some Writing) c.in-Ok.ensures.adds.course

pub returns-in-Err-tell_reply-clause-stops : goal.returns-in-Err-tell_reply-clause-stops
returns-in-Err-tell_reply-clause-stops g c =
    stops_behind c.args.client c.args.cmd (serving c.args.engine.now) (serving c.ask_engine.new.engine)
    (answers_one c.args.client c.args.cmd (serving c.args.engine.now) (serving c.ask_engine.new.engine)
    c.in-Ok.ensures.adds)

pub returns-in-Err-tell_reply-clause-engine : goal.returns-in-Err-tell_reply-clause-engine
returns-in-Err-tell_reply-clause-engine g c = run_unwritten c.args.engine.now c.ask_engine.new.engine
    c.in-Ok.ensures.engine

pub returns-in-Err-tell_reply-clause-sink : goal.returns-in-Err-tell_reply-clause-sink
returns-in-Err-tell_reply-clause-sink g c =
    let adds = c.in-Ok.ensures.adds in
    let journal = (serving c.args.engine.now).journal in
    let longer = (serving c.ask_engine.new.engine).journal in
    let last = c.index-journal-last.result in
    let lent = c.journal-journal.result.now in
    let is = pushed_last journal lent adds.entry last (length lent) (c.journal-journal.ensures ∙ adds.journal) refl
    c.index-journal-last.is in
    let grown = text_grown journal longer adds.entry last adds.journal is in
    let step = c.in-Err-tell_reply.ensures in
    sink_lost g.K.Sink.written g.K.Sink.finished g.K.Sink.count c.args.sink.now c.tell_reply.new.sink
    (gathered c.args.output.now) (gathered c.tell_reply.new.output) (reply_line last) journal longer grown step.part
    step.cause

pub returns-in-Err-tell_reply-clause-saved : goal.returns-in-Err-tell_reply-clause-saved
returns-in-Err-tell_reply-clause-saved g c =
    let adds = c.in-Ok.ensures.adds in
    let journal = (serving c.args.engine.now).journal in
    let longer = (serving c.ask_engine.new.engine).journal in
    let last = c.index-journal-last.result in
    let lent = c.journal-journal.result.now in
    let is = pushed_last journal lent adds.entry last (length lent) (c.journal-journal.ensures ∙ adds.journal) refl
    c.index-journal-last.is in
    let grown = text_grown journal longer adds.entry last adds.journal is in
    keeps_lost g.K.Sink c.args.sink.now c.tell_reply.new.sink (gathered c.args.output.now) (reply_line last) journal
    longer grown c.in-Err-tell_reply.ensures.near

pub returns-in-Err-clause-answers : goal.returns-in-Err-clause-answers
returns-in-Err-clause-answers g c = answers_nothing _ 1 0 (serving c.args.engine.now) (serving c.ask_engine.new.engine)
    c.in-Err.stop c.in-Err.ensures.stays.journal

pub returns-in-Err-clause-course : goal.returns-in-Err-clause-course
returns-in-Err-clause-course g c = tells_nothing (made_now (serving c.args.engine.now) ∷ []) (serving c.args.engine.now)
    (serving c.ask_engine.new.engine) c.in-Err.stop c.in-Err.ensures.stays.course

pub returns-in-Err-clause-stops : goal.returns-in-Err-clause-stops
returns-in-Err-clause-stops g c =
    stops_before c.args.client c.args.cmd (serving c.args.engine.now) (serving c.ask_engine.new.engine) c.in-Err.stop
    c.in-Err.ensures.unwritten c.in-Err.ensures.stays c.in-Err.ensures.short

pub returns-in-Err-clause-sink : goal.returns-in-Err-clause-sink
returns-in-Err-clause-sink g c =
    sink_still g.K.Sink.written g.K.Sink.finished g.K.Sink.count c.args.sink.now (gathered c.args.output.now)
    (serving c.args.engine.now).journal (serving c.ask_engine.new.engine).journal (Some c.in-Err.stop)
    c.in-Err.ensures.unwritten c.in-Err.ensures.stays.journal

pub returns-in-Err-clause-saved : goal.returns-in-Err-clause-saved
returns-in-Err-clause-saved g c =
    keeps_still g.K.Sink c.args.sink.now (gathered c.args.output.now) (serving c.args.engine.now).journal
    (serving c.ask_engine.new.engine).journal (Some c.in-Err.stop) c.in-Err.ensures.unwritten
    c.in-Err.ensures.stays.journal
