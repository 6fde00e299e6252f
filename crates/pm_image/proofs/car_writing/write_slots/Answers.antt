use Rattle.std.proofs.Common.{ℕ, List, ◌++◌, length, drop, ap, ◌∙◌, arith}
use Rattle.std.specs.List.{flat_map}
use Rattle.pm_types.specs.declared.limits.TheConstants.{CAR_HEAD_BYTES}
use Rattle.pm_image.specs.declared.car.CarImage.{CarImage}
use Rattle.pm_image.specs.CarPages.{record_spelling}
use Rattle.pm_image.proofs.CarSizes.{few_slots, records_length}
use Rattle.pm_image.proofs.CarWrites.{all_written, whole_page}
use Rattle.pm_image.proofs.car_writing.write_slots.Goals as goal

pub overflow_cast-slots : goal.overflow_cast-slots
overflow_cast-slots c = omega (arith, few_slots c.args.slots.now c.requires.fits)

pub fill_records-requires-clause-room : goal.fill_records-requires-clause-room
fill_records-requires-clause-room c =
    let fits = c.requires.fits in
    let back = c.split_at_mut-head.ensures.back_len in
    let all = c.as_mut_slice.ensures.len in
    let page = c.in_ok-page.ensures.len in
    omega (arith, fits, back, all, page, records_length c.args.slots.now)

pub returns-clause-spelled : goal.returns-clause-spelled
returns-clause-spelled c =
    let car : CarImage = record { number = c.args.number; slots = c.args.slots.now } in
    let written = c.fill_head.new.out ++ c.fill_records.new.out in
    let records = flat_map record_spelling car.slots in
    let behind = c.split_at_mut-head.ensures.back ∙ ap (drop CAR_HEAD_BYTES) c.as_mut_slice.ensures.value in
    let text = c.fill_records.ensures ∙ ap (λ (t : List ℕ). records ++ drop (length records) t) behind in
    let is = all_written car c.fill_head.new.out c.fill_records.new.out c.in_ok-page.page.items c.fill_head.ensures c.in_ok-page.ensures.items text in
    whole_page car written c.in_ok-page.page.items c.in_ok-page.page.len is c.in_ok-page.ensures.len c.requires.fits
