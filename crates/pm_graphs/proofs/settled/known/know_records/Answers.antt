use Rattle.std.proofs.Common.{ℕ, subst, sym, get_or}
use Rattle.std.proofs.lemmas.List.{take_more}
use Rattle.std.specs.List.{AllByRecursion}
use Rattle.pm_types.specs.declared.object.Slot.{Slot}
use Rattle.pm_layout.specs.Spelling.{HasSpelling}
use Rattle.pm_types.specs.declared.limits.TheConstants.{FIELDS}
use Rattle.pm_graphs.specs.Settled.Packed.{IsRecord}
use Rattle.pm_graphs.proofs.SettledLemmas.Lists.{all_at, all_more}
use Rattle.pm_graphs.proofs.settled.known.know_records.Goals as goal

pub know_record-requires : goal.know_record-requires
know_record-requires c =
    subst (λ (entry : ℕ × Slot). HasSpelling FIELDS entry.1) (sym c.loop-number-item.is) (all_at (λ (entry : ℕ × Slot). HasSpelling FIELDS entry.1) c.args.slots.now c.loop-number.number-index c.loop-number-item.result c.loop-number-test.true c.requires)

pub loop-number-preserved : goal.loop-number-preserved
loop-number-preserved c =
    let slots = c.args.slots.now in
    let i = c.loop-number.number-index in
    let entry = c.loop-number-item.result in
    subst (AllByRecursion IsRecord) (sym (take_more slots i entry c.loop-number-test.true))
    (all_more IsRecord _ (get_or slots i entry) c.loop-number.invariant (subst IsRecord c.loop-number-item.is c.know_record.ensures))
