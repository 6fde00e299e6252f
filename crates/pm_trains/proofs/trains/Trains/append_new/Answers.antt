use Rattle.std.proofs.Common.{◌+◌, ◌==◌, cond, Some, [], ◌∷◌, ◌++◌, List, ap, ◌∙◌}
use Rattle.std.specs.FinMap as map
use Rattle.pm_trains.specs.Trains.{Train, Trains, appended, rotated, youngest}
use Rattle.pm_trains.proofs.Kept.{opened_there, opened_sound, opened_housed}
use Rattle.pm_trains.proofs.trains.Trains.append_new.Goals as goal

pub invariant_of-self-2 : goal.invariant_of-self-2
invariant_of-self-2 c =
    let it = c.self.inside in
    let last = rw (← c.self.view_is) at (ap (λ n. n + 1) c.youngest-number.ensures.train) in
    let has = rw (← c.self.view_is) at c.requires.youngest in
    let none = rw (← c.self.view_is) at c.requires.car in
    let line = c.append.new.self in
    let is = c.in_ok-append.ensures.train ∙ ap (λ (t : Train). record t { cars = t.cars ++ c.args.car ∷ [] }) c.new-line.ensures in
    let pushed = c.push_back_reserved.ensures.items ∙ ap (λ (ts : List Train). ts ++ line ∷ []) c.in_ok-reserve.ensures.items in
    record {
      sound = opened_sound it.trains.items it.births (c.youngest-number.result + 1) c.args.car line c.push_back_reserved.new.self.items c.self.invariant.sound last is pushed none has;
      housed = opened_housed it.trains.items it.births (c.youngest-number.result + 1) c.args.car line c.push_back_reserved.new.self.items c.self.invariant.sound last is pushed none (map.get it.homes) (map.get c.append.new.homes) c.self.invariant.housed
          (λ q. c.in_ok-append.ensures.home q ∙ ap (λ (t : Train). cond (q == c.args.car) (Some t.number) (map.get it.homes q)) c.new-line.ensures);
    }

pub returns-clause-ok : goal.returns-clause-ok
returns-clause-ok c =
    let it = c.self.inside in
    let last = rw (← c.self.view_is) at (ap (λ n. n + 1) c.youngest-number.ensures.train) in
    let none = rw (← c.self.view_is) at c.requires.car in
    let line = c.append.new.self in
    let is = c.in_ok-append.ensures.train ∙ ap (λ (t : Train). record t { cars = t.cars ++ c.args.car ∷ [] }) c.new-line.ensures in
    let pushed = c.push_back_reserved.ensures.items ∙ ap (λ (ts : List Train). ts ++ line ∷ []) c.in_ok-reserve.ensures.items in
    let there = opened_there it.trains.items it.births (c.youngest-number.result + 1) c.args.car line c.push_back_reserved.new.self.items c.self.invariant.sound last is pushed none in
    (λ i. record { trains = there i; births = 0 }) ∙ ap (λ (v : Trains). record { trains = appended (youngest v.trains + 1) c.args.car (rotated v.trains); births = 0 }) c.self.view_is

pub returns-clause-sound : goal.returns-clause-sound
returns-clause-sound c =
    let it = c.self.inside in
    let last = rw (← c.self.view_is) at (ap (λ n. n + 1) c.youngest-number.ensures.train) in
    let has = rw (← c.self.view_is) at c.requires.youngest in
    let none = rw (← c.self.view_is) at c.requires.car in
    let line = c.append.new.self in
    let is = c.in_ok-append.ensures.train ∙ ap (λ (t : Train). record t { cars = t.cars ++ c.args.car ∷ [] }) c.new-line.ensures in
    let pushed = c.push_back_reserved.ensures.items ∙ ap (λ (ts : List Train). ts ++ line ∷ []) c.in_ok-reserve.ensures.items in
    opened_sound it.trains.items it.births (c.youngest-number.result + 1) c.args.car line c.push_back_reserved.new.self.items c.self.invariant.sound last is pushed none has
