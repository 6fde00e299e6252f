use Rattle.std.proofs.Common.{sym, subst}
use Rattle.std.specs.Option.{IsSome}
use Rattle.std.specs.FinMap.{get}
use Rattle.pm_space.specs.Shown.{view}
use Rattle.pm_nursery.specs.Young.{NurseryView}
use Rattle.pm_nursery.proofs.Parts.{is_there}
use Rattle.pm_nursery.proofs.Sound.{here}
use Rattle.pm_young.proofs.Births.{born_all}
use Rattle.pm_young.proofs.birth.give_birth.Goals as goal

pub hold-requires-clause-there : goal.hold-requires-clause-there
hold-requires-clause-there g c =
    subst (λ (n : NurseryView). IsSome (get n.objects c.in-Some.id)) (sym c.in_ok-add.ensures.ok)
    (is_there _ c.in_ok-young.young (here c.args.nursery.now.objects c.in-Some.id c.in_ok-young.young))

pub returns-clause-born : goal.returns-clause-born
returns-clause-born g c =
    born_all c.args.client c.args.reg c.number.result c.in-Some.id c.in_ok-young.young _ (view c.args.space.now.parts) (view c.spend.new.space.parts) (view c.leave_all.new.space.parts) c.spend.result c.args.nursery.now c.add.new.self c.hold.new.self
    c.requires.left c.spend.ensures.row c.in-Some.is c.spend.ensures.worlds c.spend.ensures.objects c.in_ok-young.ensures c.in_ok-add.ensures.ok c.in_ok-hold.ensures.ok c.number.ensures.number
    c.in_ok-leave_all.ensures.worlds c.leave_all.ensures.objects c.leave_all.ensures.next
