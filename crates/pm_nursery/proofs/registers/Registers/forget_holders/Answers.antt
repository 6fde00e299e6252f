use Rattle.std.proofs.Common.{◌<◌, sym, subst}
use Rattle.std.specs.FinMap.{len}
use Rattle.pm_model.specs.World.{Registers}
use Rattle.pm_nursery.proofs.Held.{fewer_held, freeing_goes_on}
use Rattle.pm_nursery.proofs.registers.Registers.forget_holders.Goals as goal

pub loop-client-smaller : goal.loop-client-smaller
loop-client-smaller c =
    subst (λ (r : Registers). len r < len c.loop-client.self) (sym c.forget.ensures) (fewer_held c.loop-client.self c.args.id (c.in-Some.client, c.in-Some.register) c.in-Some.ensures)

pub loop-client-preserved : goal.loop-client-preserved
loop-client-preserved c = freeing_goes_on c.args.self.now c.loop-client.self c.forget.new.self c.args.id (c.in-Some.client, c.in-Some.register) c.in-Some.ensures c.forget.ensures c.loop-client.invariant
