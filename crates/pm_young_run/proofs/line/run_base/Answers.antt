use Rattle.std.proofs.Common.{OnOk, subst, sym}
use Rattle.pm_script.specs.declared.line.Line.{Line}
use Rattle.pm_script.specs.declared.line.YoungLine.TheVariants.{Base}
use Rattle.pm_engine.specs.Events.Causes.{OnStop, why}
use Rattle.pm_serial.specs.Output.Gathered.{gathered}
use Rattle.pm_serial.specs.Ordered.{TellsLine}
use Rattle.pm_serial.specs.Stepping.{StopsLine}
use Rattle.pm_serial.proofs.Acknowledging.{keeps_still}
use Rattle.pm_serial.proofs.Gathering.{sink_still}
use Rattle.pm_serial.proofs.Ordering.{tells_same}
use Rattle.pm_young.specs.Seen.{serving}
use Rattle.pm_young_run.specs.Entered.{Enters}
use Rattle.pm_young_run.specs.declared.kind.Kind.TheVariants as kinds
use Rattle.pm_young_run.proofs.Entering.{events_enter}
use Rattle.pm_young_run.proofs.line.run_base.Goals as goal

-- ---- a command

pub returns-in-Client-clause-course : goal.returns-in-Client-clause-course
returns-in-Client-clause-course g c =
    let old = serving c.args.engine.now in
    let new = serving c.answer_client.new.engine in
    let stop = why c.answer_client.result in
    subst (λ (line : Line). TellsLine line old new stop) (sym c.in-Client.is) c.answer_client.ensures.course

pub returns-in-Client-clause-stops : goal.returns-in-Client-clause-stops
returns-in-Client-clause-stops g c =
    let old = serving c.args.engine.now in
    let new = serving c.answer_client.new.engine in
    let stop = why c.answer_client.result in
    subst (λ (line : Line). OnStop stop (StopsLine line old new stop)) (sym c.in-Client.is)
    c.answer_client.ensures.stops

pub returns-in-Client-clause-enters : goal.returns-in-Client-clause-enters
returns-in-Client-clause-enters g c =
    subst (λ (line : Line). OnOk c.answer_client.result (Enters (Base line) c.args.engine.now
    c.answer_client.new.engine)) (sym c.in-Client.is) c.answer_client.ensures.enters

-- ---- steps of the collector

pub returns-in-Gc-clause-course : goal.returns-in-Gc-clause-course
returns-in-Gc-clause-course g c =
    let old = serving c.args.engine.now in
    let new = serving c.make_events.new.engine in
    let stop = why c.make_events.result in
    subst (λ (line : Line). TellsLine line old new stop) (sym c.in-Gc.is)
    (tells_same old new stop c.make_events.ensures.course)

pub returns-in-Gc-clause-stops : goal.returns-in-Gc-clause-stops
returns-in-Gc-clause-stops g c =
    let old = serving c.args.engine.now in
    let new = serving c.make_events.new.engine in
    let stop = why c.make_events.result in
    subst (λ (line : Line). OnStop stop (StopsLine line old new stop)) (sym c.in-Gc.is) c.make_events.ensures.stops

pub returns-in-Gc-clause-enters : goal.returns-in-Gc-clause-enters
returns-in-Gc-clause-enters g c =
    let old = c.args.engine.now in
    let new = c.make_events.new.engine in
    let step = c.make_events.ensures in
    subst (λ (line : Line). OnOk c.make_events.result (Enters (Base line) old new)) (sym c.in-Gc.is)
    (events_enter old new kinds.Collect c.in-Gc.count c.make_events.result step.engine.start.opening step.stays
    step.nursery)

pub returns-in-Gc-clause-sink : goal.returns-in-Gc-clause-sink
returns-in-Gc-clause-sink g c =
    sink_still g.K.Sink.written g.K.Sink.finished g.K.Sink.count c.args.sink.now (gathered c.args.output.now)
    (serving c.args.engine.now).journal (serving c.make_events.new.engine).journal (why c.make_events.result)
    c.make_events.ensures.unwritten c.make_events.ensures.stays

pub returns-in-Gc-clause-saved : goal.returns-in-Gc-clause-saved
returns-in-Gc-clause-saved g c =
    keeps_still g.K.Sink c.args.sink.now (gathered c.args.output.now) (serving c.args.engine.now).journal
    (serving c.make_events.new.engine).journal (why c.make_events.result) c.make_events.ensures.unwritten
    c.make_events.ensures.stays

-- ---- pages

pub returns-in-Flush-clause-course : goal.returns-in-Flush-clause-course
returns-in-Flush-clause-course g c =
    let old = serving c.args.engine.now in
    let new = serving c.make_events-in-Flush.new.engine in
    let stop = why c.make_events-in-Flush.result in
    subst (λ (line : Line). TellsLine line old new stop) (sym c.in-Flush.is)
    (tells_same old new stop c.make_events-in-Flush.ensures.course)

pub returns-in-Flush-clause-stops : goal.returns-in-Flush-clause-stops
returns-in-Flush-clause-stops g c =
    let old = serving c.args.engine.now in
    let new = serving c.make_events-in-Flush.new.engine in
    let stop = why c.make_events-in-Flush.result in
    subst (λ (line : Line). OnStop stop (StopsLine line old new stop)) (sym c.in-Flush.is)
    c.make_events-in-Flush.ensures.stops

pub returns-in-Flush-clause-enters : goal.returns-in-Flush-clause-enters
returns-in-Flush-clause-enters g c =
    let old = c.args.engine.now in
    let new = c.make_events-in-Flush.new.engine in
    let step = c.make_events-in-Flush.ensures in
    subst (λ (line : Line). OnOk c.make_events-in-Flush.result (Enters (Base line) old new)) (sym c.in-Flush.is)
    (events_enter old new kinds.Flush c.in-Flush.count c.make_events-in-Flush.result step.engine.start.opening
    step.stays step.nursery)

pub returns-in-Flush-clause-sink : goal.returns-in-Flush-clause-sink
returns-in-Flush-clause-sink g c =
    sink_still g.K.Sink.written g.K.Sink.finished g.K.Sink.count c.args.sink.now (gathered c.args.output.now)
    (serving c.args.engine.now).journal (serving c.make_events-in-Flush.new.engine).journal
    (why c.make_events-in-Flush.result)
    c.make_events-in-Flush.ensures.unwritten c.make_events-in-Flush.ensures.stays

pub returns-in-Flush-clause-saved : goal.returns-in-Flush-clause-saved
returns-in-Flush-clause-saved g c =
    keeps_still g.K.Sink c.args.sink.now (gathered c.args.output.now) (serving c.args.engine.now).journal
    (serving c.make_events-in-Flush.new.engine).journal (why c.make_events-in-Flush.result)
    c.make_events-in-Flush.ensures.unwritten c.make_events-in-Flush.ensures.stays
