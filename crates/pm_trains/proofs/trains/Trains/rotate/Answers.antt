use Rattle.std.specs.FinMap as map
use Rattle.pm_trains.proofs.Kept.{rotated_sound, rotated_housed}
use Rattle.pm_trains.proofs.trains.Trains.rotate.Goals as goal

pub invariant_of-self-2 : goal.invariant_of-self-2
invariant_of-self-2 c =
    let last = rw (← c.self.view_is) at c.youngest-number.ensures.train in
    let car = rw (← c.self.view_is) at c.requires.car in
    let it = c.self.inside in
    record {
      sound = rotated_sound it.trains.items it.births c.youngest-number.result c.new.result c.push_back.new.self.items c.self.invariant.sound last c.new.ensures c.in_ok-push_back.ensures.items car;
      housed = rotated_housed it.trains.items it.births c.youngest-number.result c.new.result c.push_back.new.self.items c.self.invariant.sound last c.new.ensures c.in_ok-push_back.ensures.items (map.get it.homes) c.self.invariant.housed;
    }

pub returns-clause-sound : goal.returns-clause-sound
returns-clause-sound c =
    let last = rw (← c.self.view_is) at c.youngest-number.ensures.train in
    let car = rw (← c.self.view_is) at c.requires.car in
    let it = c.self.inside in
    rotated_sound it.trains.items it.births c.youngest-number.result c.new.result c.push_back.new.self.items c.self.invariant.sound last c.new.ensures c.in_ok-push_back.ensures.items car
