use Rattle.std.proofs.Common.{refl, ap, sym, subst, ◌∙◌, IsSome}
use Rattle.pm_types.proofs.Lent.{found_in, written_in}
use Rattle.pm_view.specs.Barrier.{pushed}
use Rattle.pm_space.specs.declared.links.Links.{Links}
use Rattle.pm_space.specs.Linked.{queue_of, sets_of, queues_of, HasRoom}
use Rattle.pm_space.proofs.Linking.{sets_kept, queues_pushed, room_used, had_room, not_at_car}
use Rattle.pm_space.proofs.links.LinkTable.push.Goals as goal

pub push-requires : goal.push-requires
push-requires c =
    let found = found_in c.self.inside.links c.args.self.now c.self.view_is c.args.car _ c.in-Some.ensures.value in
    had_room c.args.self.now c.args.car c.in-Some.links.now c.in-Some.links.now (sym found) c.args.car 1 refl c.requires

pub returns-clause-sets : goal.returns-clause-sets
returns-clause-sets c =
    let w : Links = record { set = c.in-Some.links.now.set; queue = c.push.new.self } in
    let found = found_in c.self.inside.links c.args.self.now c.self.view_is c.args.car _ c.in-Some.ensures.value in
    let new = written_in c.self.inside.links c.args.self.now c.self.view_is c.args.car c.get_mut.result (c.get_mut.follows.lender w) w (c.get_mut.follows.holds w) (subst IsSome (sym c.in-Some.is) refl) in
    ap sets_of new ∙ sets_kept c.args.self.now c.args.car c.in-Some.links.now w (sym found) refl

pub returns-clause-queues : goal.returns-clause-queues
returns-clause-queues c =
    let w : Links = record { set = c.in-Some.links.now.set; queue = c.push.new.self } in
    let found = found_in c.self.inside.links c.args.self.now c.self.view_is c.args.car _ c.in-Some.ensures.value in
    let new = written_in c.self.inside.links c.args.self.now c.self.view_is c.args.car c.get_mut.result (c.get_mut.follows.lender w) w (c.get_mut.follows.holds w) (subst IsSome (sym c.in-Some.is) refl) in
    ap queues_of new ∙ queues_pushed c.args.self.now c.args.car c.in-Some.links.now w (sym found) c.args.change c.push.ensures.changes

pub returns-clause-room : goal.returns-clause-room
returns-clause-room c = λ other more room.
    let w : Links = record { set = c.in-Some.links.now.set; queue = c.push.new.self } in
    let found = found_in c.self.inside.links c.args.self.now c.self.view_is c.args.car _ c.in-Some.ensures.value in
    let new = written_in c.self.inside.links c.args.self.now c.self.view_is c.args.car c.get_mut.result (c.get_mut.follows.lender w) w (c.get_mut.follows.holds w) (subst IsSome (sym c.in-Some.is) refl) in
    subst (λ v. HasRoom v other more) (sym new) (room_used c.args.self.now c.args.car c.in-Some.links.now w (sym found) c.push.ensures.spare other more room)

pub returns-in_default-clause-queues : goal.returns-in_default-clause-queues
returns-in_default-clause-queues c =
    let v = c.args.self.now in
    let none = found_in c.self.inside.links v c.self.view_is c.args.car _ c.in_default.ensures.value in
    let same = c.get_mut.follows.holds-at-none ∙ c.self.view_is in
    ap queues_of same ∙ sym (ap (λ o. pushed (queues_of v) c.args.car o c.args.change) (not_at_car queue_of v c.args.car (sym none)))
