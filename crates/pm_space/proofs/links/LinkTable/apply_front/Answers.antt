use Rattle.std.proofs.Common.{refl, ap, sym, subst, ◌∙◌, IsSome}
use Rattle.pm_types.proofs.Lent.{found_in, written_in}
use Rattle.pm_space.specs.declared.links.Links.{Links}
use Rattle.pm_space.specs.Linked.{sets_of, queues_of, with_front, without_front}
use Rattle.pm_space.proofs.Linking.{on_ok}
use Rattle.pm_space.proofs.Fronts.{sets_took, queues_lost, unwritten, none_waits, on_err}
use Rattle.pm_space.proofs.links.LinkTable.apply_front.Goals as goal

pub returns-clause-sets : goal.returns-clause-sets
returns-clause-sets c =
    let w : Links = record { set = c.take_front.new.set; queue = c.take_front.new.queue } in
    let found = found_in c.self.inside.links c.args.self.now c.self.view_is c.args.car _ c.in-Some.ensures.value in
    let new = written_in c.self.inside.links c.args.self.now c.self.view_is c.args.car c.get_mut.result (c.get_mut.follows.lender w) w (c.get_mut.follows.holds w) (subst IsSome (sym c.in-Some.is) refl) in
    on_ok c.take_front.result (λ took. ap sets_of new ∙ sets_took c.args.self.now c.args.car c.in-Some.links.now w (sym found) took) c.take_front.ensures.set

pub returns-clause-queues : goal.returns-clause-queues
returns-clause-queues c =
    let w : Links = record { set = c.take_front.new.set; queue = c.take_front.new.queue } in
    let found = found_in c.self.inside.links c.args.self.now c.self.view_is c.args.car _ c.in-Some.ensures.value in
    let new = written_in c.self.inside.links c.args.self.now c.self.view_is c.args.car c.get_mut.result (c.get_mut.follows.lender w) w (c.get_mut.follows.holds w) (subst IsSome (sym c.in-Some.is) refl) in
    on_ok c.take_front.result (λ lost. ap queues_of new ∙ queues_lost c.args.self.now c.args.car c.in-Some.links.now w (sym found) lost) c.take_front.ensures.queue

pub returns-clause-err : goal.returns-clause-err
returns-clause-err c =
    let w : Links = record { set = c.take_front.new.set; queue = c.take_front.new.queue } in
    let found = found_in c.self.inside.links c.args.self.now c.self.view_is c.args.car _ c.in-Some.ensures.value in
    let new = written_in c.self.inside.links c.args.self.now c.self.view_is c.args.car c.get_mut.result (c.get_mut.follows.lender w) w (c.get_mut.follows.holds w) (subst IsSome (sym c.in-Some.is) refl) in
    on_err c.take_front.result (λ set queue. new ∙ unwritten c.args.self.now c.args.car c.in-Some.links.now w (sym found) (λ i. record { set = set i; queue = queue i }))
    c.take_front.ensures.err_set c.take_front.ensures.err_queue

pub returns-in_default-clause-sets : goal.returns-in_default-clause-sets
returns-in_default-clause-sets c =
    let v = c.args.self.now in
    let none = found_in c.self.inside.links v c.self.view_is c.args.car _ c.in_default.ensures.value in
    let same = c.get_mut.follows.holds-at-none ∙ c.self.view_is in
    ap sets_of same ∙ sym (ap (with_front (sets_of v) c.args.car) (none_waits v c.args.car (sym none)))

pub returns-in_default-clause-queues : goal.returns-in_default-clause-queues
returns-in_default-clause-queues c =
    let v = c.args.self.now in
    let none = found_in c.self.inside.links v c.self.view_is c.args.car _ c.in_default.ensures.value in
    let same = c.get_mut.follows.holds-at-none ∙ c.self.view_is in
    ap queues_of same ∙ sym (ap (without_front (queues_of v) c.args.car) (none_waits v c.args.car (sym none)))
