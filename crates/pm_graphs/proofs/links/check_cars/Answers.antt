use Rattle.std.proofs.Common.{◌≤◌, ℕ, List, sym, ap, ◌∙◌, arith, subst}
use Rattle.std.proofs.lemmas.Result.{err_from_is_err_and}
use Rattle.std.specs.List.{AllByRecursion}
use Rattle.pm_types.specs.declared.limits.TheConstants.{FIELDS, PAGE_BYTES, CAR_HEAD_BYTES}
use Rattle.pm_types.specs.declared.object.Slot.{Slot}
use Rattle.pm_layout.specs.Spelling.{IsWithinLimits}
use Rattle.pm_image.specs.CarPages.{car_used}
use Rattle.pm_graphs.specs.Reading.{IsMeasured}
use Rattle.pm_graphs.specs.Linking.{linked_by}
use Rattle.pm_image.specs.declared.settled.KeptPage.{KeptPage}
use Rattle.pm_image.specs.Graphs.{record_sites}
use Rattle.pm_graphs.proofs.Lists.{drop_here, all_at}
use Rattle.pm_graphs.proofs.Walks.{walk_on, walk_stop, walk_done, listed, listed_one, no_size, listed_step, listed_none, led_place}
use Rattle.pm_graphs.proofs.links.check_cars.Goals as goal

pub check_records-requires-clause-fits : goal.check_records-requires-clause-fits
check_records-requires-clause-fits c =
    let l = c.loop-kept in
    let is = all_at IsMeasured c.args.cars.now l.kept-index c.kept-item.result c.loop-kept-test.true c.kept-item.is c.requires in
    subst (λ (slots : List (ℕ × Slot)). car_used slots ≤ PAGE_BYTES) (sym c.as_slice.ensures) is.fits

pub check_records-requires-clause-within : goal.check_records-requires-clause-within
check_records-requires-clause-within c =
    let l = c.loop-kept in
    let is = all_at IsMeasured c.args.cars.now l.kept-index c.kept-item.result c.loop-kept-test.true c.kept-item.is c.requires in
    subst (AllByRecursion (λ (entry : ℕ × Slot). IsWithinLimits FIELDS entry.1)) (sym c.as_slice.ensures) is.within

pub returns-in_err-check_records : goal.returns-in_err-check_records
returns-in_err-check_records c =
    let l = c.loop-kept in
    let one = (λ (kept : KeptPage). record_sites kept.page CAR_HEAD_BYTES kept.image.slots) in
    let p = err_from_is_err_and c.from_residual.result c.from_residual.ensures.1 in
    rw (p.1, p.2) (sym (walk_stop c.args.leads.now (listed one) (listed_one one) no_size (listed_step one) (listed_none one) c.args.cars.now 0 0 l.kept-index l.invariant.so_far
    c.kept-item.result (led_place c.in_err-check_records.field-0.0) (drop_here c.args.cars.now l.kept-index c.kept-item.result c.loop-kept-test.true c.kept-item.is) (ap (λ (slots : List (ℕ × Slot)). linked_by c.args.leads.now (record_sites c.kept-item.result.page CAR_HEAD_BYTES slots)) (sym c.as_slice.ensures) ∙ sym c.in_err-check_records.ensures)))

pub loop-kept-preserved : goal.loop-kept-preserved
loop-kept-preserved c =
    let l = c.loop-kept in
    let one = (λ (kept : KeptPage). record_sites kept.page CAR_HEAD_BYTES kept.image.slots) in
    record {
      so_far = walk_on c.args.leads.now (listed one) (listed_one one) no_size (listed_step one) (listed_none one) c.args.cars.now 0 0 l.kept-index l.invariant.so_far
          c.kept-item.result (drop_here c.args.cars.now l.kept-index c.kept-item.result c.loop-kept-test.true c.kept-item.is) (ap (λ (slots : List (ℕ × Slot)). linked_by c.args.leads.now (record_sites c.kept-item.result.page CAR_HEAD_BYTES slots)) (sym c.as_slice.ensures) ∙ sym c.in_ok-check_records.ensures);
    }

pub returns : goal.returns
returns c =
    let l = c.loop-kept in
    let one = (λ (kept : KeptPage). record_sites kept.page CAR_HEAD_BYTES kept.image.slots) in
    let low = c.loop-kept-test.false in
    sym (walk_done c.args.leads.now (listed one) (listed_one one) no_size (listed_step one) (listed_none one) c.args.cars.now 0 0 l.kept-index l.invariant.so_far (omega arith))
