use Rattle.std.proofs.Common.{List, [], inr, refl, None, Some, ap, subst, Option}
use Rattle.pm_types.specs.declared.entry.Entry.{Entry}
use Rattle.pm_engine.specs.Shown.{serving, tally_in}
use Rattle.pm_serial.specs.Output.Gathered.{gathered}
use Rattle.pm_engine.specs.declared.events.stop.Stop.{Stop}
use Rattle.pm_engine.specs.declared.events.stop.Stop.TheVariants.{Writing}
use Rattle.pm_engine.specs.Events.Causes.{why}
use Rattle.pm_serial.specs.Stepping.{SinkGoesOn}
use Rattle.pm_serial.specs.Writing.{tail_of}
use Rattle.pm_serial.proofs.Gathering.{sink_as, wrote_lost, wrote_run}
use Rattle.pm_serial.proofs.journal.write_journal.Goals as goal

pub returns-in-Ok-clause-wrote : goal.returns-in-Ok-clause-wrote
returns-in-Ok-clause-wrote g c =
    let journal = (serving c.args.engine.now).journal in
    let old = gathered c.args.output.now in
    let mid = gathered c.put_journal.new.output in
    let put = subst (λ (items : List Entry). SinkGoesOn g.K.Sink.written g.K.Sink.count c.args.sink.now c.put_journal.new.sink old mid [] items None) c.journal.ensures c.in-Ok.ensures.sink in
    wrote_run g.K.Sink.written g.K.Sink.finished g.K.Sink.count c.args.sink.now c.put_journal.new.sink c.end.new.sink old mid (tail_of (tally_in (serving c.args.engine.now))) [] journal (why c.args.ran) (why c.end.result) c.requires.empty refl
    (sink_as g.K.Sink.written g.K.Sink.finished g.K.Sink.count c.args.sink.now c.put_journal.new.sink old mid [] journal (why c.args.ran) c.requires.elsewhere put) c.end.ensures

pub returns-in-Ok-ran-clause-first : goal.returns-in-Ok-ran-clause-first
returns-in-Ok-ran-clause-first g c = inr (ap why c.in-Ok-ran.is, refl)

pub returns-in-Ok-ran-clause-wrote : goal.returns-in-Ok-ran-clause-wrote
returns-in-Ok-ran-clause-wrote g c =
    let journal = (serving c.args.engine.now).journal in
    let old = gathered c.args.output.now in
    let mid = gathered c.put_journal.new.output in
    let put = subst (λ (stop : Option Stop). SinkGoesOn g.K.Sink.written g.K.Sink.count c.args.sink.now c.put_journal.new.sink old mid [] c.journal.result.now stop) c.in-Err.ensures.only c.in-Err.ensures.sink in
    let lost = subst (λ (items : List Entry). SinkGoesOn g.K.Sink.written g.K.Sink.count c.args.sink.now c.put_journal.new.sink old mid [] items (Some Writing)) c.journal.ensures put in
    wrote_lost g.K.Sink.written g.K.Sink.finished g.K.Sink.count c.args.sink.now c.put_journal.new.sink old mid (tail_of (tally_in (serving c.args.engine.now))) journal Writing c.requires.empty lost

pub returns-in-Err-ran-clause-wrote : goal.returns-in-Err-ran-clause-wrote
returns-in-Err-ran-clause-wrote g c =
    let journal = (serving c.args.engine.now).journal in
    let old = gathered c.args.output.now in
    let mid = gathered c.put_journal.new.output in
    let put = subst (λ (stop : Option Stop). SinkGoesOn g.K.Sink.written g.K.Sink.count c.args.sink.now c.put_journal.new.sink old mid [] c.journal.result.now stop) c.in-Err.ensures.only c.in-Err.ensures.sink in
    let lost = subst (λ (items : List Entry). SinkGoesOn g.K.Sink.written g.K.Sink.count c.args.sink.now c.put_journal.new.sink old mid [] items (Some Writing)) c.journal.ensures put in
    wrote_lost g.K.Sink.written g.K.Sink.finished g.K.Sink.count c.args.sink.now c.put_journal.new.sink old mid (tail_of (tally_in (serving c.args.engine.now))) journal c.in-Err-ran.first c.requires.empty lost
