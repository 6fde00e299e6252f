use Rattle.std.proofs.Common.{ap, ◌∙◌}
use Rattle.pm_space.specs.Linked.{sets_of, queues_of}
use Rattle.pm_space.specs.Shown.{view, cars_of}
use Rattle.pm_space.proofs.HeldCars.{held_there}
use Rattle.pm_evac.proofs.RelocateLemmas.Views.{is_without, cars_without, sets_without, queues_without}
use Rattle.pm_evac.proofs.relocate.freeing.take_out.Goals as goal

pub remove-requires : goal.remove-requires
remove-requires g c = held_there c.args.parts.now.cars c.args.car c.requires.there

pub returns-clause-ok : goal.returns-clause-ok
returns-clause-ok g c =
    let p = c.args.parts.now in
    is_without (view p) c.args.train c.args.car _ _ _ _
    (ap cars_of c.in_ok-remove.ensures.ok ∙ cars_without p.cars c.args.car)
    (ap sets_of c.remove-2.ensures ∙ sets_without p.links c.args.car)
    (ap queues_of c.remove-2.ensures ∙ queues_without p.links c.args.car)
    c.remove_first.ensures.after
