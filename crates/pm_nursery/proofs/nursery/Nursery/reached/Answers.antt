use Rattle.std.proofs.Common.{subst}
use Rattle.std.proofs.lemmas.Result.{IfOk-weaker}
use Rattle.pm_nursery.specs.Young.{NurseryView}
use Rattle.pm_nursery.specs.Sweeping.{AreReached}
use Rattle.pm_nursery.proofs.Reaches.{reached_met}
use Rattle.pm_nursery.proofs.nursery.Nursery.reached.Goals as goal

pub returns-clause-reached : goal.returns-clause-reached
returns-clause-reached c =
    let view : NurseryView = record { objects = c.self.inside.objects; registers = c.self.inside.registers } in
    IfOk-weaker c.walk.result _ _
    (λ ids met. subst (λ (n : NurseryView). AreReached n ids.items) c.self.view_is (reached_met view c.self.invariant c.new.result c.new.ensures.empty c.in_ok-held.held.items ids.items c.in_ok-held.ensures met))
    c.walk.ensures.met
