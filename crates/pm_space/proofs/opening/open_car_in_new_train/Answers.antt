use Rattle.std.proofs.Common.{◌<◌, refl, sym, ap, subst, ◌∙◌, IsSome, IsSomeAnd}
use Rattle.std.specs.FinMap.{get}
use Rattle.pm_snap.specs.Snapped.{with_value, is_ready, without}
use Rattle.pm_trains.specs.Trains.{appended, rotated, youngest}
use Rattle.pm_space.specs.declared.held.Held.{Held}
use Rattle.pm_space.specs.Linked.{sets_of, queues_of}
use Rattle.pm_space.specs.Shown.{KeepsReady, view, cars_of, empty_held, in_new_train, IsLinked}
use Rattle.pm_space.proofs.Readiness.{kept_by_value, kept_by_taking}
use Rattle.pm_space.proofs.OpenedCars.{unlinked, not_some, free_car, lowest_vacant, given, has_birth, ready, cars_added, cars_undone, opened_view, same_view, kept_room, linked_opened, linked_in_new_train, new_train_stands}
use Rattle.pm_space.proofs.opening.open_car_in_new_train.Goals as goal

pub add_car-requires : goal.add_car-requires
add_car-requires g c = unlinked c.args.parts.now.cars c.args.parts.now.links c.requires.linked.sets

pub append_new-requires-clause-car : goal.append_new-requires-clause-car
append_new-requires-clause-car g c =
    not_some _ (c.requires.linked.trains c.in_ok-number.number ∙ free_car c.args.parts.now.cars c.in_ok-number.number c.in_ok-number.ensures.lowest.unused)

pub take_out-requires-clause-there : goal.take_out-requires-clause-there
take_out-requires-clause-there g c =
    subst (λ t. IsSome (get t.current c.in_ok-number.number)) (sym c.in_ok-number.ensures.cars) (subst IsSome (sym (given c.args.parts.now.cars c.in_ok-number.number (empty_held c.in_ok-number.number))) refl)

pub take_out-requires-clause-ready : goal.take_out-requires-clause-ready
take_out-requires-clause-ready g c =
    ap (λ t. is_ready t c.in_ok-number.number) c.in_ok-number.ensures.cars ∙ ready c.args.parts.now.cars c.in_ok-number.number (empty_held c.in_ok-number.number)

pub returns-in-Ok-clause-vacant : goal.returns-in-Ok-clause-vacant
returns-in-Ok-clause-vacant g c = lowest_vacant c.args.parts.now.cars c.in_ok-number.number c.in_ok-number.ensures.lowest

pub returns-in-Ok-clause-ok : goal.returns-in-Ok-clause-ok
returns-in-Ok-clause-ok g c =
    let opened = in_new_train (view c.args.parts.now) in
    let last = c.a_new_train_is_the_youngest.ensures.youngest c.args.parts.now.trains.trains in
    opened_view opened _ _ _ _ (youngest opened.trains.trains) c.in_ok-number.number
    (ap cars_of c.in_ok-number.ensures.cars ∙ cars_added c.args.parts.now.cars c.in_ok-number.number (empty_held c.in_ok-number.number))
    c.in_ok-number.ensures.sets c.in_ok-number.ensures.queues
    (c.in-Ok.ensures.ok ∙ ap (λ n. record { trains = appended n c.in_ok-number.number (rotated c.args.parts.now.trains.trains); births = 0 }) (sym last))

pub returns-in-Ok-clause-prepared : goal.returns-in-Ok-clause-prepared
returns-in-Ok-clause-prepared g c = record {
  ready = ap (λ t. is_ready t c.in_ok-number.number) c.in_ok-number.ensures.cars ∙ ready c.args.parts.now.cars c.in_ok-number.number (empty_held c.in_ok-number.number);
  birth = subst (λ t. IsSomeAnd (get t.current c.in_ok-number.number) (λ (held : Held). 0 < held.car.spare)) (sym c.in_ok-number.ensures.cars) (has_birth c.args.parts.now.cars c.in_ok-number.number);
  changes = c.in_ok-number.ensures.room;
}

pub returns-in-Ok-clause-kept : goal.returns-in-Ok-clause-kept
returns-in-Ok-clause-kept g c = kept_room c.args.parts.now.links c.add_car.new.links c.in_ok-number.number c.in_ok-number.ensures.others

pub returns-in-Err-clause-err : goal.returns-in-Err-clause-err
returns-in-Err-clause-err g c =
    let links = c.take_out.ensures.links ∙ c.in_ok-number.ensures.others in
    same_view (view c.args.parts.now) _ _ _ _
    (ap cars_of (c.take_out.ensures.cars ∙ ap (λ t. without t c.in_ok-number.number) c.in_ok-number.ensures.cars) ∙ cars_undone c.args.parts.now.cars c.in_ok-number.number (empty_held c.in_ok-number.number) c.in_ok-number.ensures.lowest.unused)
    (ap sets_of links) (ap queues_of links) c.in-Err.ensures.err

pub returns-in-Ok-clause-linked : goal.returns-in-Ok-clause-linked
returns-in-Ok-clause-linked g c =
    let v = view c.args.parts.now in
    let ts = c.args.parts.now.trains.trains in
    let last = c.a_new_train_is_the_youngest.ensures.youngest ts in
    subst IsLinked (sym (returns-in-Ok-clause-ok g c))
    (linked_opened (in_new_train v) (youngest (rotated ts)) c.in_ok-number.number
    (linked_in_new_train v c.requires.linked (c.a_new_train_is_the_youngest.ensures.home ts))
    (new_train_stands ts (youngest (rotated ts)) last (c.a_new_train_is_the_youngest.ensures.cars c.args.parts.now.trains (youngest (rotated ts)) c.sound.ensures))
    (returns-in-Ok-clause-vacant g c).vacant)

pub returns-in-Err-clause-linked : goal.returns-in-Err-clause-linked
returns-in-Err-clause-linked g c = subst IsLinked (sym (returns-in-Err-clause-err g c)) c.requires.linked

pub returns-in-Ok-clause-ready : goal.returns-in-Ok-clause-ready
returns-in-Ok-clause-ready g c =
    subst (KeepsReady c.args.parts.now.cars) (sym c.in_ok-number.ensures.cars) (kept_by_value c.args.parts.now.cars c.in_ok-number.number (empty_held c.in_ok-number.number))

pub returns-in-Err-clause-ready : goal.returns-in-Err-clause-ready
returns-in-Err-clause-ready g c =
    let added = with_value c.args.parts.now.cars c.in_ok-number.number (empty_held c.in_ok-number.number) in
    subst (KeepsReady c.args.parts.now.cars) (sym (c.take_out.ensures.cars ∙ ap (λ t. without t c.in_ok-number.number) c.in_ok-number.ensures.cars))
    (λ car is. kept_by_taking added c.in_ok-number.number car (kept_by_value c.args.parts.now.cars c.in_ok-number.number (empty_held c.in_ok-number.number) car is))
