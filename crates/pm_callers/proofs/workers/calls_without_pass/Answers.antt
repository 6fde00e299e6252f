use Rattle.std.proofs.Common.{None, Some, refl}
use Rattle.pm_script.proofs.PartedLemmas.Beside.{queue_first}
use Rattle.pm_callers.proofs.Stepping.{queue_empty}
use Rattle.pm_callers.proofs.workers.calls_without_pass.Goals as goal

pub returns-in-Some-clause-ends : goal.returns-in-Some-clause-ends
returns-in-Some-clause-ends c =
    let was = c.args.commands.now in
    let first = queue_first (λ cmd. cmd.now) was.items was.items was.len (Some c.in-Some._first) refl was.ok.0 c.in-Some.ensures.variant c.in-Some.ensures.lookup in
    (c.in-Some._first.now, first.0, first.1)

pub returns-in-None-clause-ends : goal.returns-in-None-clause-ends
returns-in-None-clause-ends c =
    let was = c.args.commands.now in
    queue_empty {R = Unit {0}} None was.items was.len was.ok.0 c.in-None.ensures.variant refl
