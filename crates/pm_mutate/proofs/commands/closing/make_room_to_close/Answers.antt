use Rattle.std.proofs.Common.{arith}
use Rattle.pm_types.specs.declared.limits.TheConstants.{REGISTERS}
use Rattle.pm_mutate.proofs.CommandsLemmas.Emptying.{counted_below, few_stored}
use Rattle.pm_mutate.proofs.commands.closing.make_room_to_close.Goals as goal

pub count_car-requires : goal.count_car-requires
count_car-requires c =
    let below =
    counted_below _ _ c.loop-register.register c.args.count REGISTERS (c.loop-register.invariant.counted c.in-Some.at.car)
    (few_stored c.args.handles.now c.args.client c.loop-register.register c.in-Some.at.car) c.loop-register-test.true c.requires.count in
    omega (arith, below)
