use Rattle.std.proofs.Common.{◌+◌, [], Some, None, take, drop}
use Rattle.pm_model.specs.Text.{reply_line, text}
use Rattle.pm_serial.specs.Output.Gathered.{gathered}
use Rattle.pm_engine.specs.declared.events.stop.Stop.TheVariants.{Writing}
use Rattle.pm_serial.proofs.OutputLemmas.Gathering.{part_longer}
use Rattle.pm_serial.proofs.Gathering.{sink_line, sink_lost, sink_then}
use Rattle.pm_serial.proofs.Journals.{text_next, text_rest}
use Rattle.pm_serial.proofs.journal.put_journal.Goals as goal

pub returns-in-Err-clause-sink : goal.returns-in-Err-clause-sink
returns-in-Err-clause-sink g c =
    let journal = c.args.journal.now in
    let i = c.loop-entry.entry-index in
    let step = c.in-Err.ensures in
    let old = gathered c.args.output.now in
    let mid = gathered c.loop-entry.output in
    let new = gathered c.add_reply.new.self in
    sink_then g.K.Sink.written g.K.Sink.finished g.K.Sink.count c.args.sink.now c.loop-entry.sink c.add_reply.new.sink old mid new [] (take i journal) journal (Some Writing) c.loop-entry.invariant.goes
    (sink_lost g.K.Sink.written g.K.Sink.finished g.K.Sink.count c.loop-entry.sink c.add_reply.new.sink mid new (text (drop i journal)) (take i journal) journal (text_rest journal i) (part_longer (text (drop i journal)) (g.K.Sink.written c.loop-entry.sink) (g.K.Sink.written c.add_reply.new.sink) mid step.part) step.cause)

pub loop-entry-preserved : goal.loop-entry-preserved
loop-entry-preserved g c =
    let journal = c.args.journal.now in
    let i = c.loop-entry.entry-index in
    let entry = c.entry-item.result in
    let step = c.in-Ok.ensures in
    let old = gathered c.args.output.now in
    let mid = gathered c.loop-entry.output in
    let new = gathered c.add_reply.new.self in
    record {
      goes =
          sink_then g.K.Sink.written g.K.Sink.finished g.K.Sink.count c.args.sink.now c.loop-entry.sink c.add_reply.new.sink old mid new [] (take i journal) (take (i + 1) journal) None c.loop-entry.invariant.goes
          (sink_line g.K.Sink.written g.K.Sink.finished g.K.Sink.count c.loop-entry.sink c.add_reply.new.sink mid new (reply_line entry) (take i journal) (take (i + 1) journal) (text_next journal i entry c.loop-entry-test.true c.entry-item.is) step.adds
          step.counted);
    }
