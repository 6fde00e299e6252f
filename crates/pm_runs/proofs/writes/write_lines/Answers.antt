use Rattle.std.proofs.Common.{sym, subst}
use Rattle.pm_engine.specs.Events.Causes.{why}
use Rattle.pm_serial.specs.Whole.{RunsLines}
use Rattle.pm_runs.specs.declared.writes.Writes.{Writes}
use Rattle.pm_runs.specs.Wrote.{WroteLines}
use Rattle.pm_runs.proofs.writes.write_lines.Goals as goal

pub returns-in-Replies-clause-runs : goal.returns-in-Replies-clause-runs
returns-in-Replies-clause-runs g c =
    let ran = c.run_lines.ensures in
    subst (λ (writes : Writes). RunsLines (WroteLines g.K.Sink writes c.args.sink.now c.run_lines.new.sink) c.args.lines.items c.args.engine.now c.run_lines.new.engine (why c.run_lines.result)) (sym c.in-Replies.is)
    (record { answers = ran.answers; disk = ran.disk; start = ran.start; entries = ran.entries; wrote = record { sink = ran.wrote.sink; saved = ran.wrote.saved; cause = ran.wrote.sink.cause } })

pub returns-in-Digest-clause-runs : goal.returns-in-Digest-clause-runs
returns-in-Digest-clause-runs g c =
    let ran = c.run_trial.ensures.runs in
    subst (λ (writes : Writes). RunsLines (WroteLines g.K.Sink writes c.args.sink.now c.run_trial.new.sink) c.args.lines.items c.args.engine.now c.run_trial.new.engine (why c.run_trial.result)) (sym c.in-Digest.is)
    (record { answers = ran.answers; disk = ran.disk; start = ran.start; entries = ran.entries; wrote = record { sink = ran.wrote; saved = tt; cause = ran.wrote.cause } })
