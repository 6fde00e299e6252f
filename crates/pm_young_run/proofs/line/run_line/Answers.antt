use Rattle.std.proofs.Common.{OnOk, subst, sym}
use Rattle.pm_script.specs.declared.line.YoungLine.{YoungLine}
use Rattle.pm_script.specs.Parted.Asked.{request_of, steps_of}
use Rattle.pm_engine.specs.Events.Causes.{OnStop, why}
use Rattle.pm_engine.specs.Events.Events.{AnswersPart}
use Rattle.pm_serial.specs.Output.Gathered.{gathered}
use Rattle.pm_serial.specs.Ordered.{TellsLine}
use Rattle.pm_serial.specs.Stepping.{StopsLine, events_of}
use Rattle.pm_serial.proofs.Acknowledging.{keeps_still}
use Rattle.pm_serial.proofs.Gathering.{sink_still}
use Rattle.pm_serial.proofs.Ordering.{tells_same}
use Rattle.pm_young.specs.Seen.{serving}
use Rattle.pm_young_run.specs.Asked.{as_line}
use Rattle.pm_young_run.specs.Entered.{Enters}
use Rattle.pm_young_run.proofs.line.run_line.Goals as goal

-- ---- a line of any script

pub returns-in-Base-clause-answers : goal.returns-in-Base-clause-answers
returns-in-Base-clause-answers g c =
    let old = serving c.args.engine.now in
    let new = serving c.run_base.new.engine in
    subst (λ (line : YoungLine). AnswersPart (request_of (as_line line)) (events_of (as_line line))
    (steps_of (as_line line)) old new (why c.run_base.result)) (sym c.in-Base.is) c.run_base.ensures.answers

pub returns-in-Base-clause-course : goal.returns-in-Base-clause-course
returns-in-Base-clause-course g c =
    subst (λ (line : YoungLine). TellsLine (as_line line) (serving c.args.engine.now) (serving c.run_base.new.engine)
    (why c.run_base.result)) (sym c.in-Base.is) c.run_base.ensures.course

pub returns-in-Base-clause-stops : goal.returns-in-Base-clause-stops
returns-in-Base-clause-stops g c =
    let stop = why c.run_base.result in
    subst (λ (line : YoungLine). OnStop stop (StopsLine (as_line line) (serving c.args.engine.now)
    (serving c.run_base.new.engine) stop)) (sym c.in-Base.is) c.run_base.ensures.stops

pub returns-in-Base-clause-enters : goal.returns-in-Base-clause-enters
returns-in-Base-clause-enters g c =
    subst (λ (line : YoungLine). OnOk c.run_base.result (Enters line c.args.engine.now c.run_base.new.engine))
    (sym c.in-Base.is) c.run_base.ensures.enters

-- ---- a sweep

pub returns-in-Young-clause-answers : goal.returns-in-Young-clause-answers
returns-in-Young-clause-answers g c =
    let old = serving c.args.engine.now in
    let new = serving c.make_sweep.new.engine in
    subst (λ (line : YoungLine). AnswersPart (request_of (as_line line)) (events_of (as_line line))
    (steps_of (as_line line)) old new (why c.make_sweep.result)) (sym c.in-Young.is) c.make_sweep.ensures.answers

pub returns-in-Young-clause-course : goal.returns-in-Young-clause-course
returns-in-Young-clause-course g c =
    let old = serving c.args.engine.now in
    let new = serving c.make_sweep.new.engine in
    let stop = why c.make_sweep.result in
    subst (λ (line : YoungLine). TellsLine (as_line line) old new stop) (sym c.in-Young.is)
    (tells_same old new stop c.make_sweep.ensures.course)

pub returns-in-Young-clause-stops : goal.returns-in-Young-clause-stops
returns-in-Young-clause-stops g c =
    let stop = why c.make_sweep.result in
    subst (λ (line : YoungLine). OnStop stop (StopsLine (as_line line) (serving c.args.engine.now)
    (serving c.make_sweep.new.engine) stop)) (sym c.in-Young.is) c.make_sweep.ensures.stops

pub returns-in-Young-clause-enters : goal.returns-in-Young-clause-enters
returns-in-Young-clause-enters g c =
    subst (λ (line : YoungLine). OnOk c.make_sweep.result (Enters line c.args.engine.now c.make_sweep.new.engine))
    (sym c.in-Young.is) c.make_sweep.ensures.enters

pub returns-in-Young-clause-sink : goal.returns-in-Young-clause-sink
returns-in-Young-clause-sink g c =
    sink_still g.K.Sink.written g.K.Sink.finished g.K.Sink.count c.args.sink.now (gathered c.args.output.now)
    (serving c.args.engine.now).journal (serving c.make_sweep.new.engine).journal (why c.make_sweep.result)
    c.make_sweep.ensures.unwritten c.make_sweep.ensures.stays

pub returns-in-Young-clause-saved : goal.returns-in-Young-clause-saved
returns-in-Young-clause-saved g c =
    keeps_still g.K.Sink c.args.sink.now (gathered c.args.output.now) (serving c.args.engine.now).journal
    (serving c.make_sweep.new.engine).journal (why c.make_sweep.result) c.make_sweep.ensures.unwritten
    c.make_sweep.ensures.stays
