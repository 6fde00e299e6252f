use Rattle.std.proofs.Common.{◌≡◌, ◌+◌, ℕ, drop, sym, ap, ◌∙◌, arith}
use Rattle.std.proofs.lemmas.Result.{err_from_is_err_and}
use Rattle.pm_types.specs.declared.limits.TheConstants.{FIELDS, CAR_HEAD_BYTES}
use Rattle.pm_types.specs.declared.object.Slot.{Slot}
use Rattle.pm_layout.specs.Spelling.{IsWithinLimits}
use Rattle.pm_image.specs.CarPages.{car_used}
use Rattle.pm_image.specs.Graphs.{record_sites}
use Rattle.pm_graphs.specs.Linking.{linked_by}
use Rattle.pm_graphs.proofs.Lists.{drop_here, all_at}
use Rattle.pm_graphs.proofs.Walks.{walk_on, walk_stop, walk_done, record_at, record_size, record_step, record_none, used_records, led_place}
use Rattle.pm_graphs.proofs.links.check_records.Goals as goal

pub check_record-requires : goal.check_record-requires
check_record-requires c =
    let l = c.loop-listed in
    let slots = c.args.slots.now in
    let here = ap car_used (drop_here slots l.listed-index c.listed-item.result c.loop-listed-test.true c.listed-item.is) in
    let rest = used_records (drop (l.listed-index + 1) slots) in
    omega (arith, here, rest, l.invariant.place, c.requires.fits)

pub size-requires : goal.size-requires
size-requires c =
    let l = c.loop-listed in
    all_at (λ (entry : ℕ × Slot). IsWithinLimits FIELDS entry.1) c.args.slots.now l.listed-index c.listed-item.result c.loop-listed-test.true c.listed-item.is c.requires.within

pub returns-in_err-check_record : goal.returns-in_err-check_record
returns-in_err-check_record c =
    let l = c.loop-listed in
    let slots = c.args.slots.now in
    let p = err_from_is_err_and c.from_residual.result c.from_residual.ensures.1 in
    rw (p.1, p.2) (sym (walk_stop c.args.leads.now (record_sites c.args.page) (record_at c.args.page) record_size (record_step c.args.page) (record_none c.args.page) slots CAR_HEAD_BYTES l.at l.listed-index l.invariant.so_far
    c.listed-item.result (led_place c.in_err-check_record.field-0.0) (drop_here slots l.listed-index c.listed-item.result c.loop-listed-test.true c.listed-item.is) (sym c.in_err-check_record.ensures)))

pub loop-listed-preserved : goal.loop-listed-preserved
loop-listed-preserved c =
    let l = c.loop-listed in
    let slots = c.args.slots.now in
    let listed = c.listed-item.result in
    let here = drop_here slots l.listed-index listed c.loop-listed-test.true c.listed-item.is in
    let used = ap car_used here in
    let size = c.size.ensures.counted in
    let next : l.at + (4 + c.size.result) ≡ l.at + record_size listed = ap (λ (n : ℕ). l.at + (4 + n)) size in
    record {
      place = omega (arith, used, size, l.invariant.place);
      so_far = walk_on c.args.leads.now (record_sites c.args.page) (record_at c.args.page) record_size (record_step c.args.page) (record_none c.args.page) slots CAR_HEAD_BYTES l.at l.listed-index l.invariant.so_far listed here (sym c.in_ok-check_record.ensures)
          ∙ ap (λ (n : ℕ). linked_by c.args.leads.now (record_sites c.args.page n (drop (l.listed-index + 1) slots))) (sym next);
    }

pub returns : goal.returns
returns c =
    let l = c.loop-listed in
    let low = c.loop-listed-test.false in
    sym (walk_done c.args.leads.now (record_sites c.args.page) (record_at c.args.page) record_size (record_step c.args.page) (record_none c.args.page) c.args.slots.now CAR_HEAD_BYTES l.at l.listed-index l.invariant.so_far (omega arith))
