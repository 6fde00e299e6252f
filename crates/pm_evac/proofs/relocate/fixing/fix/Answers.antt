use Rattle.std.proofs.Common.{Some, None, refl, sym, ap, subst, ◌∙◌, IsSome}
use Rattle.std.specs.FinMap.{get}
use Rattle.pm_view.specs.Rows.{with_stored}
use Rattle.pm_view.specs.Barrier.{told, barrier}
use Rattle.pm_view.specs.Reading.{aside_in}
use Rattle.pm_space.specs.Linked.{sets_of, queues_of, without_source}
use Rattle.pm_space.specs.Shown.{view}
use Rattle.pm_space.proofs.OpenedCars.{same_view}
use Rattle.pm_evac.proofs.RelocateLemmas.Views.{is_fixed}
use Rattle.pm_evac.proofs.relocate.fixing.fix.Goals as goal

pub forget-requires : goal.forget-requires
forget-requires g c =
    subst (λ sets. IsSome (get sets c.args.car)) (sym (c.tell_all.ensures.sets ∙ ap sets_of c.set.ensures.links ∙ c.make_room.ensures.sets)) c.requires.car

pub returns-clause-ok : goal.returns-clause-ok
returns-clause-ok g c =
    let v = view c.args.parts.now in
    let same = same_view v _ _ _ _ refl c.make_room.ensures.sets c.make_room.ensures.queues refl in
    let queues_same = ap queues_of c.set.ensures.links ∙ c.make_room.ensures.queues in
    let phase_same = c.set.ensures.phase in
    let trains_same = ap (λ t. t.trains) c.set.ensures.trains in
    is_fixed v _ c.args.car c.args.source c.args.to _ _
    (c.in_ok-set.ensures.ok ∙ ap (λ v. with_stored v c.args.source (Some c.args.to)) same)
    (c.forget.ensures.sets ∙ ap (λ sets. without_source sets c.args.car c.args.source) (c.tell_all.ensures.sets ∙ ap sets_of c.set.ensures.links ∙ c.make_room.ensures.sets))
    (c.forget.ensures.queues ∙ c.tell_all.ensures.queues ∙ (λ i. told (queues_same i) (barrier (aside_in (phase_same i) (trains_same i)) c.args.source None (Some c.args.to))))
