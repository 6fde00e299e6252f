use Rattle.std.proofs.Common.{refl, sym, ap, subst, ◌∙◌, IsOk}
use Rattle.pm_snap.specs.Snapped.{is_ready}
use Rattle.pm_space.specs.Shown.{KeepsReady}
use Rattle.pm_space.proofs.OpenedCars.{ready}
use Rattle.pm_space.proofs.Readiness.{same_cars, kept_by_value}
use Rattle.pm_space.proofs.readying.make_ready.Goals as goal

pub returns-clause-current : goal.returns-clause-current
returns-clause-current c =
    ap (λ t. t.current) (c.change.follows.holds c.in_ok-change.field-0.now (subst IsOk (sym c.in_ok-change.was) refl))
    ∙ same_cars c.args.cars.now c.args.car c.in_ok-change.field-0.now c.in_ok-change.ensures.value

pub returns-clause-ready : goal.returns-clause-ready
returns-clause-ready c =
    ap (λ t. is_ready t c.args.car) (c.change.follows.holds c.in_ok-change.field-0.now (subst IsOk (sym c.in_ok-change.was) refl))
    ∙ ready c.args.cars.now c.args.car c.in_ok-change.field-0.now

pub returns-clause-others : goal.returns-clause-others
returns-clause-others c =
    subst (KeepsReady c.args.cars.now) (sym (c.change.follows.holds c.in_ok-change.field-0.now (subst IsOk (sym c.in_ok-change.was) refl)))
    (kept_by_value c.args.cars.now c.args.car c.in_ok-change.field-0.now)
