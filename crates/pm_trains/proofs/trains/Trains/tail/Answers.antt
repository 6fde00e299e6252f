use Rattle.std.proofs.Common.{ℕ, ◌-◌, List, length, ap, ◌∙◌}
use Rattle.std.specs.List.{slice_get}
use Rattle.pm_trains.proofs.Numbers.{cars_read}
use Rattle.pm_trains.proofs.Found.{answer_has, answer_home}
use Rattle.pm_trains.proofs.trains.Trains.tail.Goals as goal

pub returns-clause-car : goal.returns-clause-car
returns-clause-car c =
    rw (← c.self.view_is, cars_read 0 c.self.inside.trains.items c.args.train c.in_ok-place.place c.index.result.now c.self.invariant.sound.rising c.in_ok-place.ensures c.index.ensures)
    (c.copied.ensures ∙ c.last.ensures.value ∙ ap (λ (xs : List ℕ). slice_get xs (length xs - 1)) c.cars.ensures)

pub returns-clause-has : goal.returns-clause-has
returns-clause-has c =
    let at = cars_read 0 c.self.inside.trains.items c.args.train c.in_ok-place.place c.index.result.now c.self.invariant.sound.rising c.in_ok-place.ensures c.index.ensures in
    let is = c.copied.ensures ∙ c.last.ensures.value ∙ ap (λ (xs : List ℕ). slice_get xs (length xs - 1)) c.cars.ensures in
    rw (← c.self.view_is) (answer_has c.self.inside.trains.items c.args.train c.index.result.now.cars (length c.index.result.now.cars - 1) c.copied.result at is)

pub returns-clause-home : goal.returns-clause-home
returns-clause-home c =
    let at = cars_read 0 c.self.inside.trains.items c.args.train c.in_ok-place.place c.index.result.now c.self.invariant.sound.rising c.in_ok-place.ensures c.index.ensures in
    let is = c.copied.ensures ∙ c.last.ensures.value ∙ ap (λ (xs : List ℕ). slice_get xs (length xs - 1)) c.cars.ensures in
    rw (← c.self.view_is) (answer_home c.self.inside.trains.items c.args.train c.index.result.now.cars (length c.index.result.now.cars - 1) c.copied.result c.self.invariant.sound.single at is)
