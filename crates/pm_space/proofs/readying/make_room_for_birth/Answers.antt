use Rattle.std.proofs.Common.{◌≡◌, ℕ, refl, sym, ap, subst, ◌∙◌, IsOk, OnOk}
use Rattle.pm_snap.specs.Snapped.{with_value, is_ready}
use Rattle.pm_space.specs.Shown.{cars_of, HasBirthRoom, KeepsReady}
use Rattle.pm_space.proofs.OpenedCars.{ready}
use Rattle.pm_space.proofs.Readiness.{same_seen, kept_by_value, room_where, room_kept, reserved_car, reserved_room, reserved_grows, on_ok}
use Rattle.pm_space.proofs.readying.make_room_for_birth.Goals as goal

-- the table after the car was lent and given room
written : (c : goal.After-cars-2-1) → c.change.follows.lender (record { car = c.reserve.new.self }) ≡ with_value c.args.cars.now c.args.car (record { car = c.reserve.new.self })
written c = c.change.follows.holds (record { car = c.reserve.new.self }) (subst IsOk (sym c.in_ok-held.was) refl)

pub returns-clause-cars : goal.returns-clause-cars
returns-clause-cars c =
    ap cars_of (written c)
    ∙ same_seen c.args.cars.now c.args.car c.in_ok-held.held.now (record { car = c.reserve.new.self }) c.in_ok-held.ensures.value
    (reserved_car c.in_ok-held.held.now.car c.reserve.new.self c.reserve.result c.reserve.ensures.ok c.reserve.ensures.err)

pub returns-clause-ready : goal.returns-clause-ready
returns-clause-ready c =
    on_ok c.reserve.result (ap (λ t. is_ready t c.args.car) (written c) ∙ ready c.args.cars.now c.args.car (record { car = c.reserve.new.self }))

pub returns-clause-room : goal.returns-clause-room
returns-clause-room c =
    subst (λ t. OnOk c.reserve.result (HasBirthRoom t c.args.car)) (sym (written c))
    (room_where c.args.cars.now c.args.car (record { car = c.reserve.new.self }) c.reserve.result (reserved_room c.in_ok-held.held.now.car c.reserve.new.self c.reserve.result c.reserve.ensures.ok))

pub returns-clause-others : goal.returns-clause-others
returns-clause-others c =
    subst (KeepsReady c.args.cars.now) (sym (written c)) (kept_by_value c.args.cars.now c.args.car (record { car = c.reserve.new.self }))

pub returns-clause-births : goal.returns-clause-births
returns-clause-births c =
    subst (λ t. (other : ℕ) → HasBirthRoom c.args.cars.now other → HasBirthRoom t other) (sym (written c))
    (room_kept c.args.cars.now c.args.car c.in_ok-held.held.now (record { car = c.reserve.new.self }) c.in_ok-held.ensures.value
    (reserved_grows c.in_ok-held.held.now.car c.reserve.new.self c.reserve.result c.reserve.ensures.ok c.reserve.ensures.err))
