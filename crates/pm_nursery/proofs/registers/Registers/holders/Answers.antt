use Rattle.std.proofs.Common.{List, subst}
use Rattle.std.specs.FinMap.{from_entries}
use Rattle.pm_model.specs.World.{Registers}
use Rattle.pm_nursery.specs.Turned.{AreOfId, Pair}
use Rattle.pm_nursery.specs.Holding.{AreHolders}
use Rattle.pm_nursery.proofs.Held.{are_holders}
use Rattle.pm_nursery.proofs.registers.Registers.holders.Goals as goal

pub returns : goal.returns
returns c =
    subst (λ (r : Registers). AreHolders r c.args.id c.of_id.result.now) c.self.view_is
    (are_holders (from_entries c.self.inside.held.items) c.self.inside.turned.items c.self.invariant.index c.args.id c.of_id.result.now (subst (λ (pairs : List Pair). AreOfId pairs c.args.id c.of_id.result.now) c.deref.ensures.value c.of_id.ensures))
