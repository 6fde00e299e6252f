use Rattle.std.proofs.Common.{ap, sym, subst, ◌∙◌, IsSome, IfSome}
use Rattle.std.specs.FinMap.{get}
use Rattle.pm_view.specs.View.{SpaceView}
use Rattle.pm_space.specs.Shown.{view}
use Rattle.pm_space.specs.Places.{with_place, place_of}
use Rattle.pm_space.proofs.HeldCars.{held_there}
use Rattle.pm_space.proofs.OpenedCars.{lowest_vacant}
use Rattle.pm_evac.proofs.RelocateLemmas.Places.{room_opened}
use Rattle.pm_evac.proofs.relocate.placing.prepare_place.Goals as goal

pub make_room_for_birth-requires : goal.make_room_for_birth-requires
make_room_for_birth-requires g c = record {
  there = held_there c.args.parts.now.cars c.in-Some.car (subst (λ o. IfSome o (λ car. IsSome (get (view c.args.parts.now).cars car))) c.in-Some.is c.requires.tail);
}

pub returns-in_ok-make_room_for_birth-in-Some-clause-place : goal.returns-in_ok-make_room_for_birth-in-Some-clause-place
returns-in_ok-make_room_for_birth-in-Some-clause-place g c =
    let v = view c.args.parts.now in
    let number = c.vacant-number.result in
    record {
      number = number;
      vacant = lowest_vacant c.args.parts.now.cars number c.vacant-number.ensures;
      space = (λ i. record v { cars = c.in_ok-make_room_for_birth-in-Some.ensures.cars i }) ∙ ap (λ o. with_place v c.args.train o number) (sym c.in-Some.is);
      place = ap (λ o. place_of o number) (sym c.in-Some.is);
    }

pub returns-in_ok-car-in-None-clause-room : goal.returns-in_ok-car-in-None-clause-room
returns-in_ok-car-in-None-clause-room g c =
    room_opened c.args.parts.now.links c.open_car.new.parts.links c.in_ok-car-in-None.car c.args.room (ap (λ (v : SpaceView). v.sets) c.in_ok-car-in-None.ensures.ok) c.in_ok-car-in-None.ensures.kept
    c.in_ok-car-in-None.ensures.prepared.changes
