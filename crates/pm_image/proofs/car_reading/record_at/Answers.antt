use Rattle.std.proofs.Common.{◌≡◌, ◌+◌, ◌≤◌, ℕ, false, length, Result, arith, sym, subst, ◌∙◌}
use Rattle.pm_types.specs.declared.object.Slot.{Slot}
use Rattle.pm_layout.specs.declared.fault.LayoutFault.{LayoutFault}
use Rattle.pm_layout.specs.Reading.{Gives, slot_at}
use Rattle.pm_image.specs.CarPages.{is_short, fault_place}
use Rattle.pm_image.proofs.SlotFaults.{same_short, has_head, fault_inside}
use Rattle.pm_image.proofs.Records.{cut_record}
use Rattle.pm_image.proofs.car_reading.record_at.Goals as goal

pub returns-then-page-place-lt5-clause-exact : goal.returns-then-page-place-lt5-clause-exact
returns-then-page-place-lt5-clause-exact c = cut_record _ c.args.met.now c.args.least c.args.page.now c.args.place (omega arith)

pub u64_at-requires : goal.u64_at-requires
u64_at-requires c =
    let read = slot_at c.args.most c.args.page.now (c.args.place + 4) in
    let long : is_short read ≡ false = sym (same_short c.read_slot-read.result read c.read_slot-read.ensures.exact) ∙ sym c.is_short.ensures ∙ c.if-is_short.false in
    let head : c.args.place + 4 + 13 ≤ length c.args.page.now = has_head c.args.most c.args.page.now (c.args.place + 4) c.if-page-place-eq-LIVE.true long in
    omega arith

pub page_fault-requires : goal.page_fault-requires
page_fault-requires c =
    let given = subst (λ (r : Result (Slot × ℕ) LayoutFault). Gives r (slot_at c.args.most c.args.page.now (c.args.place + 4))) c.in-Err.is c.read_slot-read.ensures.exact in
    let inside : fault_place c.args.place c.in-Err.fault ≤ length c.args.page.now = fault_inside c.args.most c.args.page.now (c.args.place + 4) c.args.place c.in-Err.fault (omega arith) given in
    omega arith
