use Rattle.std.proofs.Common.{length, take, drop, ap, arith, length-append, length-drop}
use Rattle.std.specs.List.{flat_map}
use Rattle.pm_image.specs.CarPages.{record_spelling}
use Rattle.pm_image.proofs.CarWrites.{record_fits}
use Rattle.pm_image.proofs.car_writing.fill_records.Goals as goal

pub slice_bounds-fill_record-end : goal.slice_bounds-fill_record-end
slice_bounds-fill_record-end c =
    let records = c.args.records.now in
    let at = c.loop-record.at in
    let before = flat_map record_spelling (take c.loop-record.record-index records) in
    let fits = record_fits records c.loop-record.record-index c.record-item.result c.loop-record-test.true c.record-item.is in
    let counted = c.loop-record.invariant.counted in
    let whole = ap length c.loop-record.invariant.so_far in
    let room = c.requires.room in
    let size = c.size.ensures.spelled in
    omega (arith, fits, counted, whole, room, size, length-append before (drop at c.args.out.now), length-drop at c.args.out.now)
