use Rattle.pm_script.proofs.ScriptLaws.{lines_of_script}
use Rattle.pm_make.specs.Made.{made_text}
use Rattle.pm_runs.specs.Ends.Causes.{ShowsCauses}
use Rattle.pm_top.specs.Commands.{TriesScript}
use Rattle.pm_runs.proofs.EndsLemmas.Counted.{few_events}
use Rattle.pm_runs.proofs.EndsLemmas.Parts.{at_end}
use Rattle.pm_top.proofs.Performing.{tried, untouched_trial, memory_causes}
use Rattle.pm_top.proofs.made.try_script.Goals as goal

pub run_lines-requires-clause-clients : goal.run_lines-requires-clause-clients
run_lines-requires-clause-clients g c = lines_of_script (made_text c.args.seed c.args.turns) c.in-Ok.lines.items c.in-Ok.ensures

pub run_lines-requires-clause-few : goal.run_lines-requires-clause-few
run_lines-requires-clause-few g c = few_events (made_text c.args.seed c.args.turns) c.in-Ok.lines.items c.in-Ok.ensures

pub returns-in-Ok-clause-tries : goal.returns-in-Ok-clause-tries
returns-in-Ok-clause-tries g c =
    let ran = c.run_lines.ensures in
    tried g.D.Disk g.K.Sink c.args.place c.args.seed c.args.turns c.in-Ok.lines.items c.args.disk c.args.source c.args.sink c.run_lines.result
    c.in-Ok.ensures ran.serves ran.order ran.store (ran.last tt) ran.source

pub returns-in-Err-clause-causes : goal.returns-in-Err-clause-causes
returns-in-Err-clause-causes g c =
    let it = c.end_unopened.result in
    let e = c.end_unopened.ensures in
    at_end (λ it. ShowsCauses g.D.Disk g.S.Source g.K.Sink c.args.disk c.args.source c.args.sink it) it e.detail e.tally e.young e.disk e.source e.sink
    (memory_causes g.D.Disk g.S.Source g.K.Sink c.args.disk c.args.source c.args.sink it)

pub returns-in-Err-clause-tries : goal.returns-in-Err-clause-tries
returns-in-Err-clause-tries g c =
    let it = c.end_unopened.result in
    let e = c.end_unopened.ensures in
    at_end (λ it. TriesScript g.D.Disk g.K.Sink c.args.place c.args.seed c.args.turns c.args.disk c.args.source c.args.sink it) it e.detail e.tally e.young e.disk e.source e.sink
    (untouched_trial g.D.Disk g.K.Sink c.args.place c.args.seed c.args.turns c.args.disk c.args.source c.args.sink it e.journal (g.met.D.Disk.only_now c.args.disk))
