use Rattle.std.proofs.lemmas.Result.{on_err_weaker, on_ok_weaker}
use Rattle.pm_serial.specs.Output.Gathered.{gathered}
use Rattle.pm_serial.proofs.Gathering.{all_then, finished_then, some_then}
use Rattle.pm_young.specs.Seen.{young_tally_in}
use Rattle.pm_young_run.specs.Writing.{young_tail_of}
use Rattle.pm_young_run.proofs.last_lines.finish_run.Goals as goal

pub returns-clause-all : goal.returns-clause-all
returns-clause-all g c =
    let written = g.K.Sink.written in
    let mid = c.add_last_lines.new in
    on_ok_weaker c.finish.result
    (all_then (young_tail_of (young_tally_in c.args.engine.now)) (written c.args.sink.now) (written mid.sink)
    (written c.finish.new.sink) (gathered c.args.output.now) (gathered mid.output)
    c.in_ok-add_last_lines.ensures.adds) c.finish.ensures.all

pub returns-clause-finished : goal.returns-clause-finished
returns-clause-finished g c =
    let written = g.K.Sink.written in
    let mid = c.add_last_lines.new in
    on_ok_weaker c.finish.result
    (finished_then (young_tail_of (young_tally_in c.args.engine.now)) (written c.args.sink.now) (written mid.sink)
    (gathered c.args.output.now) (gathered mid.output) (g.K.Sink.finished c.finish.new.sink)
    c.in_ok-add_last_lines.ensures.adds)
    c.finish.ensures.finished

pub returns-clause-part : goal.returns-clause-part
returns-clause-part g c =
    let written = g.K.Sink.written in
    let mid = c.add_last_lines.new in
    on_err_weaker c.finish.result
    (some_then (young_tail_of (young_tally_in c.args.engine.now)) (written c.args.sink.now) (written mid.sink)
    (written c.finish.new.sink) (gathered c.args.output.now) (gathered mid.output)
    c.in_ok-add_last_lines.ensures.adds) c.finish.ensures.part
