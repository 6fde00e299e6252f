use Rattle.std.proofs.Common.{Some, ap, rules}
use Rattle.pm_engine.specs.Events.Causes.{why}
use Rattle.pm_serial.specs.Causes.{IsElsewhere}
use Rattle.pm_serial.specs.Output.Gathered.{gathered}
use Rattle.pm_serial.proofs.Gathering.{ends_elsewhere, ends_well}
use Rattle.pm_young.specs.Seen.{young_tally_in}
use Rattle.pm_young_run.specs.Writing.{young_tail_of}
use Rattle.pm_young_run.proofs.last_lines.end.Goals as goal

pub returns-in-Ok-finish_run : goal.returns-in-Ok-finish_run
returns-in-Ok-finish_run g c =
    let step = c.in-Ok-finish_run.ensures in
    ends_well g.K.Sink.written g.K.Sink.finished g.K.Sink.count c.args.sink.now c.finish_run.new.sink
    (gathered c.args.output.now) (young_tail_of (young_tally_in c.args.engine.now)) (why c.args.ran)
    (ap why c.in-Ok.is)
    step.all step.finished step.counted

pub returns-in-Err : goal.returns-in-Err
returns-in-Err g c =
    let elsewhere : IsElsewhere (Some c.in-Err.stop) = search rules in
    let step = c.put_what_goes.ensures in
    ends_elsewhere g.K.Sink.written g.K.Sink.finished g.K.Sink.count c.args.sink.now c.put_what_goes.new.sink
    (gathered c.args.output.now) (young_tail_of (young_tally_in c.args.engine.now)) (why c.args.ran) c.in-Err.stop
    (ap why c.in-Err.is) elsewhere step.whole step.finished step.part step.kept
