use Rattle.std.proofs.Common.{sym, ap, ◌∙◌, arith}
use Rattle.pm_image.specs.declared.settled.KeptPage.{KeptPage}
use Rattle.pm_ship.proofs.SameLemmas.{same_at, same_long}
use Rattle.pm_ship.proofs.same_lists.are_same_cars.Goals as goal

pub returns-then-not-is_same_car : goal.returns-then-not-is_same_car
returns-then-not-is_same_car c = (
  (λ no. absurd cc),
  λ same.
      let place = c.loop-place.place in
      let long = same_long c.args.cars.now c.args.settled.now same in
      let inside = c.loop-place-test.true in
      let within = c.loop-place-test.true in
      let is = c.is_same_car.ensures.1
      (ap (λ (kept : KeptPage). kept.image) c.index-cars-place.is ∙ same_at c.args.cars.now c.args.settled.now place c.index-cars-place.result c.index-settled-place.result inside (omega (arith, inside, long)) same
      ∙ ap (λ (kept : KeptPage). kept.image) (sym c.index-settled-place.is)) in
      let not = c.if-not-is_same_car.true in absurd (cc (is, not)),
)
