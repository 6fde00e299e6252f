use Rattle.std.proofs.Common.{◌≡◌, ℕ, ◌<◌, arith, sym, ap, ◌∙◌, length, take, get_or}
use Rattle.std.specs.List.{sum_by}
use Rattle.std.proofs.lemmas.List.Sums.{sum_by_more}
use Rattle.pm_trains.specs.Trains.{Train, empty_train}
use Rattle.pm_types.specs.Counts.{capped}
use Rattle.pm_space.proofs.CountingUp.{capped_more}
use Rattle.pm_inspect.proofs.Places.{at_place}
use Rattle.pm_inspect.proofs.counting.car_count.Goals as goal

pub loop-place-preserved : goal.loop-place-preserved
loop-place-preserved g c =
    let f : Train → ℕ = (λ t. length t.cars) in
    let ts = c.args.parts.now.trains.trains in
    let i = c.loop-place.place in
    let inside : i < length ts = omega (arith, c.loop-place-test.true, c.len-place-end.ensures.len) in
    c.saturating_add-sum.ensures
    ∙ capped_more (sum_by f (take i ts)) (f (get_or ts i (empty_train 0))) _ _ c.loop-place.invariant
    (at_place ts i c.nth-train.result (empty_train 0) (λ t. c.cars_in_train.result ≡ capped (f t)) c.sound.ensures.rising inside c.nth-train.ensures.train c.cars_in_train.ensures)
    ∙ ap capped (sym (sum_by_more f ts i (empty_train 0) inside))
