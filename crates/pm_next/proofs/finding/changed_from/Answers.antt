use Rattle.std.proofs.Common.{arith, sym, ◌∙◌}
use Rattle.pm_view.specs.Events.{has_change}
use Rattle.pm_space.specs.Linked.{queues_of, waiting}
use Rattle.pm_next.proofs.Drained.{none_more, found_here, found_past}
use Rattle.pm_next.proofs.finding.changed_from.Goals as goal

pub returns-then-has_change-clause-found : goal.returns-then-has_change-clause-found
returns-then-has_change-clause-found c =
    sym (found_here (λ car. has_change (waiting (queues_of c.args.links.now) car)) c.args.cars.now c.loop-at.at c.loop-at-test.true c.loop-at.invariant (sym c.has_change.ensures ∙ c.if-has_change.true))

pub loop-at-preserved : goal.loop-at-preserved
loop-at-preserved c =
    none_more (λ car. has_change (waiting (queues_of c.args.links.now) car)) c.args.cars.now c.loop-at.at c.loop-at-test.true c.loop-at.invariant (sym c.has_change.ensures ∙ c.if-has_change.false)

pub returns-clause-found : goal.returns-clause-found
returns-clause-found c =
    let past = c.loop-at-test.false in
    sym (found_past (λ car. has_change (waiting (queues_of c.args.links.now) car)) c.args.cars.now c.loop-at.at (omega (arith, past)) c.loop-at.invariant)
