use Rattle.std.proofs.Common.{◌≡◌, ℕ, ◌+◌, true, refl, sym, ap, subst, ◌∙◌, List, Option, IsSomeAnd}
use Rattle.std.specs.FinMap.{get}
use Rattle.pm_types.specs.Mapped.{mapped}
use Rattle.pm_view.specs.View.{SpaceView}
use Rattle.pm_types.specs.declared.address.Addr.{Addr}
use Rattle.pm_space.specs.Linked.{HasRoom}
use Rattle.pm_snap.specs.Snapped.{is_ready}
use Rattle.pm_space.specs.Shown.{view, car_of, HasBirthRoom}
use Rattle.pm_space.specs.Places.{IsOpened}
use Rattle.pm_space.proofs.HeldCars.{has_car}
use Rattle.pm_evac.specs.Relocate.Named.{named_by, naming}
use Rattle.pm_evac.specs.Relocate.Moves.{MayCarry, carried}
use Rattle.pm_evac.proofs.RelocateLemmas.Naming.{named_in_both}
use Rattle.pm_evac.proofs.RelocateLemmas.Planning.{car_is, object_then, to_apart, may_carry, carried_moved, same_identity}
use Rattle.pm_evac.proofs.relocate.moving.relocate.Goals as goal

pub make_ready-requires : goal.make_ready-requires
make_ready-requires g c = record { there = has_car c.args.parts.now.cars c.args.from c.requires.live (get c.args.parts.now.cars.current c.args.from.car) refl }

pub carry-id-requires-clause-may : goal.carry-id-requires-clause-may
carry-id-requires-clause-may g c =
    let v = view c.args.parts.now in
    let w = view c.prepare_place.new.parts in
    let plan = c.in_ok-plan.plan in
    let is = c.in_ok-plan.ensures in
    let same : view (record c.args.parts.now { links = c.make_room_to_move.new.links; cars = c.make_ready.new.cars }) ≡ v =
    λ i. record v { cars = ap (mapped car_of) c.in_ok-make_ready.ensures.current i; sets = c.make_room_to_move.ensures.sets i; queues = c.make_room_to_move.ensures.queues i } in
    let opened : IsOpened v c.args.train plan.tail w c.in_ok-prepare_place.field-0 = subst (λ (u : SpaceView). IsOpened u c.args.train plan.tail w c.in_ok-prepare_place.field-0) same c.in_ok-prepare_place.ensures.place in
    let links = c.prepare_place.new.parts.links in
    let fields = is.object.fields in
    let room : (car : ℕ) → HasRoom links car (named_by fields car + named_by plan.fields.items car) = λ car.
    let made = subst (λ (new : List (Option Addr)). HasRoom c.make_room_to_move.new.links car (named_by fields car + named_by new car)) c.deref.ensures.value (c.in_ok-room.ensures.room is.object is.here car) in
    let most : c.in_ok-room.room ≡ naming fields + naming plan.fields.items = c.in_ok-room.ensures.many is.object is.here ∙ (λ i. naming fields + naming (c.deref.ensures.value i)) in
    c.in_ok-prepare_place.ensures.room car (named_by fields car + named_by plan.fields.items car) (named_in_both fields plan.fields.items car c.in_ok-room.room most) made in
    subst (λ o. IsSomeAnd o (λ object. MayCarry w links plan.to object plan.fields.items)) (sym (object_then v w c.args.from c.args.train plan c.requires.law c.requires.moving c.requires.train c.requires.apart is c.in_ok-prepare_place.field-0 opened))
    (may_carry v w c.args.from c.args.train plan c.requires.law c.requires.moving c.requires.train c.requires.apart is c.in_ok-prepare_place.field-0 opened links room)

pub carry-id-requires-clause-apart : goal.carry-id-requires-clause-apart
carry-id-requires-clause-apart g c =
    let v = view c.args.parts.now in
    let w = view c.prepare_place.new.parts in
    let plan = c.in_ok-plan.plan in
    let is = c.in_ok-plan.ensures in
    let same : view (record c.args.parts.now { links = c.make_room_to_move.new.links; cars = c.make_ready.new.cars }) ≡ v =
    λ i. record v { cars = ap (mapped car_of) c.in_ok-make_ready.ensures.current i; sets = c.make_room_to_move.ensures.sets i; queues = c.make_room_to_move.ensures.queues i } in
    let opened : IsOpened v c.args.train plan.tail w c.in_ok-prepare_place.field-0 = subst (λ (u : SpaceView). IsOpened u c.args.train plan.tail w c.in_ok-prepare_place.field-0) same c.in_ok-prepare_place.ensures.place in
    to_apart v w c.args.from c.args.train plan c.requires.law c.requires.moving c.requires.train c.requires.apart is c.in_ok-prepare_place.field-0 opened

pub carry-id-requires-clause-ready : goal.carry-id-requires-clause-ready
carry-id-requires-clause-ready g c =
    let v = view c.args.parts.now in
    let w = view c.prepare_place.new.parts in
    let plan = c.in_ok-plan.plan in
    let is = c.in_ok-plan.ensures in
    let same : view (record c.args.parts.now { links = c.make_room_to_move.new.links; cars = c.make_ready.new.cars }) ≡ v =
    λ i. record v { cars = ap (mapped car_of) c.in_ok-make_ready.ensures.current i; sets = c.make_room_to_move.ensures.sets i; queues = c.make_room_to_move.ensures.queues i } in
    let opened : IsOpened v c.args.train plan.tail w c.in_ok-prepare_place.field-0 = subst (λ (u : SpaceView). IsOpened u c.args.train plan.tail w c.in_ok-prepare_place.field-0) same c.in_ok-prepare_place.ensures.place in
    subst (λ n. is_ready c.prepare_place.new.parts.cars n ≡ true) (sym (car_is v w c.args.from c.args.train plan c.requires.law c.requires.moving c.requires.train c.requires.apart is c.in_ok-prepare_place.field-0 opened)) c.in_ok-prepare_place.ensures.ready

pub carry-id-requires-clause-birth : goal.carry-id-requires-clause-birth
carry-id-requires-clause-birth g c =
    let v = view c.args.parts.now in
    let w = view c.prepare_place.new.parts in
    let plan = c.in_ok-plan.plan in
    let is = c.in_ok-plan.ensures in
    let same : view (record c.args.parts.now { links = c.make_room_to_move.new.links; cars = c.make_ready.new.cars }) ≡ v =
    λ i. record v { cars = ap (mapped car_of) c.in_ok-make_ready.ensures.current i; sets = c.make_room_to_move.ensures.sets i; queues = c.make_room_to_move.ensures.queues i } in
    let opened : IsOpened v c.args.train plan.tail w c.in_ok-prepare_place.field-0 = subst (λ (u : SpaceView). IsOpened u c.args.train plan.tail w c.in_ok-prepare_place.field-0) same c.in_ok-prepare_place.ensures.place in
    subst (HasBirthRoom c.prepare_place.new.parts.cars) (sym (car_is v w c.args.from c.args.train plan c.requires.law c.requires.moving c.requires.train c.requires.apart is c.in_ok-prepare_place.field-0 opened)) c.in_ok-prepare_place.ensures.birth

pub returns-clause-ok : goal.returns-clause-ok
returns-clause-ok g c =
    let v = view c.args.parts.now in
    let w = view c.prepare_place.new.parts in
    let plan = c.in_ok-plan.plan in
    let is = c.in_ok-plan.ensures in
    let same : view (record c.args.parts.now { links = c.make_room_to_move.new.links; cars = c.make_ready.new.cars }) ≡ v =
    λ i. record v { cars = ap (mapped car_of) c.in_ok-make_ready.ensures.current i; sets = c.make_room_to_move.ensures.sets i; queues = c.make_room_to_move.ensures.queues i } in
    let opened : IsOpened v c.args.train plan.tail w c.in_ok-prepare_place.field-0 = subst (λ (u : SpaceView). IsOpened u c.args.train plan.tail w c.in_ok-prepare_place.field-0) same c.in_ok-prepare_place.ensures.place in
    let u = view c.carry-id.new.parts in
    record {
      number = opened.number;
      vacant = opened.vacant;
      after = subst (λ o. IsSomeAnd o (λ object. u ≡ carried w c.args.from plan.to object plan.fields.items)) (object_then v w c.args.from c.args.train plan c.requires.law c.requires.moving c.requires.train c.requires.apart is c.in_ok-prepare_place.field-0 opened) c.carry-id.ensures.view
          ∙ carried_moved v w c.args.from c.args.train plan c.requires.law c.requires.moving c.requires.train c.requires.apart is c.in_ok-prepare_place.field-0 opened;
    }

pub returns-clause-id : goal.returns-clause-id
returns-clause-id g c =
    let v = view c.args.parts.now in
    let w = view c.prepare_place.new.parts in
    let plan = c.in_ok-plan.plan in
    let is = c.in_ok-plan.ensures in
    let same : view (record c.args.parts.now { links = c.make_room_to_move.new.links; cars = c.make_ready.new.cars }) ≡ v =
    λ i. record v { cars = ap (mapped car_of) c.in_ok-make_ready.ensures.current i; sets = c.make_room_to_move.ensures.sets i; queues = c.make_room_to_move.ensures.queues i } in
    let opened : IsOpened v c.args.train plan.tail w c.in_ok-prepare_place.field-0 = subst (λ (u : SpaceView). IsOpened u c.args.train plan.tail w c.in_ok-prepare_place.field-0) same c.in_ok-prepare_place.ensures.place in
    c.carry-id.ensures.id ∙ same_identity v w c.args.from c.args.train plan c.requires.law c.requires.moving c.requires.train c.requires.apart is c.in_ok-prepare_place.field-0 opened
