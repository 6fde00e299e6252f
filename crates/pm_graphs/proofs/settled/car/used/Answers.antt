use Rattle.std.proofs.Common.{◌+◌, ℕ, arith, sym, subst}
use Rattle.pm_types.specs.declared.limits.TheConstants.{FIELDS}
use Rattle.pm_types.specs.declared.object.Slot.{Slot}
use Rattle.pm_layout.specs.Spelling.{HasSpelling, IsWithinLimits}
use Rattle.pm_graphs.proofs.SettledLemmas.Lists.{all_at}
use Rattle.pm_graphs.proofs.SettledLemmas.PackedLaws.{used_front, used_more}
use Rattle.pm_graphs.proofs.settled.car.used.Goals as goal

pub size-requires : goal.size-requires
size-requires c =
    subst (λ (entry : ℕ × Slot). IsWithinLimits FIELDS entry.1) (sym c.entry-item.is)
    (all_at (λ (entry : ℕ × Slot). HasSpelling FIELDS entry.1) c.args.slots.now c.loop-entry.entry-index c.entry-item.result c.loop-entry-test.true c.requires.has.slots).within

pub overflow_add-used-in-loop-entry : goal.overflow_add-used-in-loop-entry
overflow_add-used-in-loop-entry c =
    let slots = c.args.slots.now in
    let i = c.loop-entry.entry-index in
    let more = used_more slots i c.entry-item.result c.loop-entry-test.true c.entry-item.is in
    let front = used_front slots (i + 1) in
    let fits = c.requires.has.fits in
    let so_far = c.loop-entry.invariant in
    let size = c.size.ensures.counted in
    omega (arith, more, front, fits, so_far, size)

pub loop-entry-preserved : goal.loop-entry-preserved
loop-entry-preserved c =
    let slots = c.args.slots.now in
    let i = c.loop-entry.entry-index in
    let more = used_more slots i c.entry-item.result c.loop-entry-test.true c.entry-item.is in
    let so_far = c.loop-entry.invariant in
    let size = c.size.ensures.counted in
    omega (arith, more, so_far, size)
