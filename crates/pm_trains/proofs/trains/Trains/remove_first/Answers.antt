use Rattle.std.proofs.Common.{ap, ◌∙◌}
use Rattle.std.specs.FinMap as map
use Rattle.pm_trains.specs.Trains.{Trains, without_first}
use Rattle.pm_trains.proofs.Numbers.{cars_read}
use Rattle.pm_trains.proofs.Homes.{forgotten}
use Rattle.pm_trains.proofs.Kept.{removed_there, removed_sound, removed_housed}
use Rattle.pm_trains.proofs.trains.Trains.remove_first.Goals as goal

pub take_first-car-requires : goal.take_first-car-requires
take_first-car-requires c =
    let at = c.in-Some.ensures in
    let has = rw (← c.self.view_is) at c.requires in
    let has = rw (cars_read 0 c.self.inside.trains.items c.args.train c.in-Some.place c.index_mut.result.now c.self.invariant.sound.rising at c.index_mut.ensures.value) at has in
    has

pub invariant_of-self : goal.invariant_of-self
invariant_of-self c =
    let it = c.self.inside in
    let at = c.in-Some.ensures in
    let old = c.index_mut.result.now in
    let taken = c.take_first-car in
    let sound = c.self.invariant.sound in
    let is = c.drop_empty.ensures ∙ removed_there it.trains.items it.births c.args.train taken.result c.in-Some.place old taken.new.self sound at c.index_mut.ensures.value taken.ensures.first taken.ensures.number in
    record {
      sound = removed_sound it.trains.items it.births c.args.train taken.result c.in-Some.place old taken.new.self sound at c.index_mut.ensures.value taken.ensures.first taken.ensures.number c.drop_empty.new.trains.items is;
      housed = removed_housed it.trains.items it.births c.args.train taken.result c.in-Some.place old taken.new.self sound at c.index_mut.ensures.value taken.ensures.first taken.ensures.number c.drop_empty.new.trains.items is
          (map.get it.homes) (map.get c.remove.new.self) c.self.invariant.housed (λ q. ap (λ m. map.get m q) c.remove.ensures.after ∙ forgotten it.homes taken.result q);
    }

pub returns-clause-after : goal.returns-clause-after
returns-clause-after c =
    let it = c.self.inside in
    let at = c.in-Some.ensures in
    let taken = c.take_first-car in
    let is = c.drop_empty.ensures ∙ removed_there it.trains.items it.births c.args.train taken.result c.in-Some.place c.index_mut.result.now taken.new.self c.self.invariant.sound at c.index_mut.ensures.value taken.ensures.first taken.ensures.number in
    (λ i. record { trains = is i; births = it.births }) ∙ ap (λ (v : Trains). record v { trains = without_first c.args.train v.trains }) c.self.view_is

pub returns-clause-sound : goal.returns-clause-sound
returns-clause-sound c =
    let it = c.self.inside in
    let at = c.in-Some.ensures in
    let taken = c.take_first-car in
    let is = c.drop_empty.ensures ∙ removed_there it.trains.items it.births c.args.train taken.result c.in-Some.place c.index_mut.result.now taken.new.self c.self.invariant.sound at c.index_mut.ensures.value taken.ensures.first taken.ensures.number in
    removed_sound it.trains.items it.births c.args.train taken.result c.in-Some.place c.index_mut.result.now taken.new.self c.self.invariant.sound at c.index_mut.ensures.value taken.ensures.first taken.ensures.number c.drop_empty.new.trains.items is
