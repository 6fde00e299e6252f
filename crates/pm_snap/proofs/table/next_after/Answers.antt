use Rattle.std.proofs.Common.{sym, ◌∙◌}
use Rattle.pm_snap.proofs.Passed.{used_more, next_found}
use Rattle.pm_snap.proofs.table.next_after.Goals as goal

pub loop-below-preserved : goal.loop-below-preserved
loop-below-preserved g c =
    used_more c.args.values.now c.args.next c.loop-below.below c.loop-below.invariant (sym c.has.ensures ∙ c.if-not-has.false)

pub returns-then-not-has-clause-found : goal.returns-then-not-has-clause-found
returns-then-not-has-clause-found g c =
    next_found c.args.values.now c.args.next c.args.key c.loop-below.below c.if-key-next.false c.loop-below.auto.below c.loop-below.invariant
    (sym c.has.ensures ∙ c.if-not-has.true)
