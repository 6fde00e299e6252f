use Rattle.std.proofs.Common.{arith, sym, ap, subst}
use Rattle.pm_next.proofs.Skips.{ArePassed, rank, all_passed, next_beyond, passed_next, inside_is, rank_before}
use Rattle.pm_next.proofs.skipping.least_beyond.Goals as goal

pub returns-in_default : goal.returns-in_default
returns-in_default g c = all_passed c.args.parts.now.trains.trains c.args.train c.args.set.now c.loop-found.from c.loop-found.invariant c.in_default.ensures

pub returns-in_default-inside_car : goal.returns-in_default-inside_car
returns-in_default-inside_car g c =
    next_beyond c.args.parts.now.trains.trains c.args.train c.args.set.now c.loop-found.from c.loop-found.invariant c.in-Some.found c.in-Some.ensures c.in_default-inside_car.ensures

pub loop-found-preserved : goal.loop-found-preserved
loop-found-preserved g c =
    let ts = c.args.parts.now.trains.trains in
    let inside = inside_is ts c.args.train c.in-Some.found.0 c.in-Some-inside_car.inside c.in-Some-inside_car.ensures in
    subst (ArePassed ts c.args.train c.args.set.now) (sym c.first_field-from.ensures)
    (passed_next ts c.args.train c.args.set.now c.loop-found.from c.loop-found.invariant c.in-Some.found c.in-Some.ensures c.in-Some-inside_car.inside inside)

pub loop-found-smaller : goal.loop-found-smaller
loop-found-smaller g c =
    let ts = c.args.parts.now.trains.trains in
    let inside = inside_is ts c.args.train c.in-Some.found.0 c.in-Some-inside_car.inside c.in-Some-inside_car.ensures in
    let before = rank_before ts c.args.train c.args.set.now c.loop-found.from c.loop-found.invariant c.in-Some.found c.in-Some.ensures c.in-Some-inside_car.inside inside in
    let then = ap rank c.first_field-from.ensures in
    omega (arith, before, then)
