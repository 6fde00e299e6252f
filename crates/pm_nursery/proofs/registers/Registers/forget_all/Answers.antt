use Rattle.pm_nursery.proofs.Held.{freed_more}
use Rattle.pm_nursery.proofs.registers.Registers.forget_all.Goals as goal

pub loop-id-preserved : goal.loop-id-preserved
loop-id-preserved c = freed_more c.args.self.now c.loop-id.self c.forget_holders.new.self c.args.ids.now c.loop-id.id-index c.loop-id-test.true c.loop-id.invariant c.forget_holders.ensures
