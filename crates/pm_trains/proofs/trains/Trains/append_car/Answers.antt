use Rattle.std.proofs.Common.{ap, ◌∙◌}
use Rattle.std.specs.FinMap as map
use Rattle.pm_trains.specs.Trains.{Trains, appended}
use Rattle.pm_trains.proofs.Kept.{appended_there, appended_sound, appended_housed}
use Rattle.pm_trains.proofs.trains.Trains.append_car.Goals as goal

pub invariant_of-self-2 : goal.invariant_of-self-2
invariant_of-self-2 c =
    let it = c.self.inside in
    let at = c.in-Some.ensures in
    let none = rw (← c.self.view_is) at c.requires.car in
    let old = c.index_mut.result.now in
    let new = c.append.new.self in
    let sound = c.self.invariant.sound in
    record {
      sound = appended_sound it.trains.items it.births c.args.train c.args.car c.in-Some.place old new sound at c.index_mut.ensures.value c.in_ok-append.ensures.train none;
      housed = appended_housed it.trains.items it.births c.args.train c.args.car c.in-Some.place old new sound at c.index_mut.ensures.value c.in_ok-append.ensures.train none (map.get it.homes) (map.get c.append.new.homes) c.self.invariant.housed c.in_ok-append.ensures.home;
    }

pub returns-clause-ok : goal.returns-clause-ok
returns-clause-ok c =
    let it = c.self.inside in
    let at = c.in-Some.ensures in
    let there = appended_there it.trains.items it.births c.args.train c.args.car c.in-Some.place c.index_mut.result.now c.append.new.self c.self.invariant.sound at c.index_mut.ensures.value c.in_ok-append.ensures.train in
    (λ i. record { trains = there i; births = it.births }) ∙ ap (λ (v : Trains). record v { trains = appended c.args.train c.args.car v.trains }) c.self.view_is

pub returns-clause-sound : goal.returns-clause-sound
returns-clause-sound c =
    let it = c.self.inside in
    let at = c.in-Some.ensures in
    let none = rw (← c.self.view_is) at c.requires.car in
    appended_sound it.trains.items it.births c.args.train c.args.car c.in-Some.place c.index_mut.result.now c.append.new.self c.self.invariant.sound at c.index_mut.ensures.value c.in_ok-append.ensures.train none
