use Rattle.std.proofs.Common.{ℕ, None, Some, subst}
use Rattle.pm_types.specs.declared.object.Slot.{Slot}
use Rattle.pm_image.specs.CarPages.{record_spelling}
use Rattle.pm_graphs.specs.Settled.Behind.{IsBehindOf}
use Rattle.pm_graphs.specs.Settled.Packed.{IsRecord}
use Rattle.pm_graphs.proofs.SettledLemmas.BehindLaws.{no_more, one_more}
use Rattle.pm_graphs.proofs.settled.matching.behind_records.Goals as goal

pub returns-in_default : goal.returns-in_default
returns-in_default c =
    no_more record_spelling IsRecord c.args.bytes.now c.loop-number.rest.now c.args.slots.now c.loop-number.number-index c.loop-number-item.result c.loop-number-test.true c.loop-number.invariant
    (subst (λ (entry : ℕ × Slot). IsBehindOf (IsRecord entry) c.loop-number.rest.now (record_spelling entry) None) c.loop-number-item.is c.in_default.ensures.behind)

pub loop-number-preserved : goal.loop-number-preserved
loop-number-preserved c =
    one_more record_spelling IsRecord c.args.bytes.now c.loop-number.rest.now c.args.slots.now c.loop-number.number-index c.loop-number-item.result c.loop-number-test.true c.loop-number.invariant c.in-Some.next.now
    (subst (λ (entry : ℕ × Slot). IsBehindOf (IsRecord entry) c.loop-number.rest.now (record_spelling entry) (Some c.in-Some.next.now)) c.loop-number-item.is c.in-Some.ensures.behind)
