use Rattle.std.proofs.Common.{◌≡◌, ◌-◌, ℕ, List, length, take, drop, sym, subst, ap, ◌∙◌}
use Rattle.std.specs.List.{flat_map}
use Rattle.pm_types.specs.declared.limits.TheConstants.{CAR_HEAD_BYTES}
use Rattle.pm_image.specs.declared.car.CarImage.{CarImage}
use Rattle.pm_image.specs.CarPages.{car_spelling, car_used, padded, record_spelling}
use Rattle.pm_graphs.specs.Settled.Packed.{IsPacked, unpacked}
use Rattle.pm_graphs.proofs.SettledLemmas.PackedLaws.{is_packed, page_records, under_none, unpacked_again}
use Rattle.pm_graphs.proofs.settled.car.PackedCar.pack.Goals as goal

pub know_records-requires : goal.know_records-requires
know_records-requires c = c.requires.has.slots

-- what was copied of a page
copied : (car : CarImage) (page items : List ℕ) (end : ℕ) → items ≡ take (end - CAR_HEAD_BYTES) (drop CAR_HEAD_BYTES page) → page ≡ padded (car_spelling car) → end ≡ car_used car.slots → items ≡ flat_map record_spelling car.slots
copied car page items end are spelled used =
    are ∙ ap (λ (page : List ℕ). take (end - CAR_HEAD_BYTES) (drop CAR_HEAD_BYTES page)) spelled
    ∙ ap (λ (end : ℕ). take (end - CAR_HEAD_BYTES) (drop CAR_HEAD_BYTES (padded (car_spelling car)))) used ∙ page_records car

pub invariant_of-result : goal.invariant_of-result
invariant_of-result c =
    let car : CarImage = record { number = c.args.number; slots = c.args.slots.now } in
    let items = copied car c.args.page.now c.in_ok-records.records.items c.used-end.result c.in_ok-records.ensures.items c.requires.page c.used-end.ensures.used in
    subst (IsPacked (length car.slots)) (sym items) (is_packed car.slots (under_none car c.requires.has) c.know_records.ensures)

pub returns : goal.returns
returns c =
    let car : CarImage = record { number = c.args.number; slots = c.args.slots.now } in
    let items = copied car c.args.page.now c.in_ok-records.records.items c.used-end.result c.in_ok-records.ensures.items c.requires.page c.used-end.ensures.used in
    let slots : unpacked (length car.slots) c.in_ok-records.records.items ≡ car.slots =
    ap (unpacked (length car.slots)) items ∙ unpacked_again car.slots (under_none car c.requires.has) c.know_records.ensures in
    λ i. record { number = car.number; slots = slots i }
