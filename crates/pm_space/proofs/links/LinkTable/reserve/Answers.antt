use Rattle.std.proofs.Common.{refl, ap, sym, subst, ◌∙◌, IsSome}
use Rattle.pm_types.proofs.Lent.{found_in, written_in}
use Rattle.pm_space.specs.declared.links.Links.{Links}
use Rattle.pm_space.specs.Linked.{sets_of, queues_of, HasRoomOf, HasRoom}
use Rattle.pm_space.proofs.Linking.{sets_kept, queues_kept, room_kept, room_there, on_ok}
use Rattle.pm_space.proofs.links.LinkTable.reserve.Goals as goal

pub returns-in_default-clause-room : goal.returns-in_default-clause-room
returns-in_default-clause-room c =
    let none = found_in c.self.inside.links c.args.self.now c.self.view_is c.args.car _ c.in_default.ensures.value in
    let same = c.get_mut.follows.holds-at-none ∙ c.self.view_is in
    subst (λ v. HasRoom v c.args.car c.args.count) (sym same) (subst (λ o. HasRoomOf o c.args.count) none tt)

pub returns-clause-sets : goal.returns-clause-sets
returns-clause-sets c =
    let w : Links = record { set = c.in-Some.links.now.set; queue = c.reserve.new.self } in
    let found = found_in c.self.inside.links c.args.self.now c.self.view_is c.args.car _ c.in-Some.ensures.value in
    let new = written_in c.self.inside.links c.args.self.now c.self.view_is c.args.car c.get_mut.result (c.get_mut.follows.lender w) w (c.get_mut.follows.holds w) (subst IsSome (sym c.in-Some.is) refl) in
    ap sets_of new ∙ sets_kept c.args.self.now c.args.car c.in-Some.links.now w (sym found) refl

pub returns-clause-queues : goal.returns-clause-queues
returns-clause-queues c =
    let w : Links = record { set = c.in-Some.links.now.set; queue = c.reserve.new.self } in
    let found = found_in c.self.inside.links c.args.self.now c.self.view_is c.args.car _ c.in-Some.ensures.value in
    let new = written_in c.self.inside.links c.args.self.now c.self.view_is c.args.car c.get_mut.result (c.get_mut.follows.lender w) w (c.get_mut.follows.holds w) (subst IsSome (sym c.in-Some.is) refl) in
    ap queues_of new ∙ queues_kept c.args.self.now c.args.car c.in-Some.links.now w (sym found) c.reserve.ensures.changes

pub returns-clause-room : goal.returns-clause-room
returns-clause-room c =
    let w : Links = record { set = c.in-Some.links.now.set; queue = c.reserve.new.self } in
    let found = found_in c.self.inside.links c.args.self.now c.self.view_is c.args.car _ c.in-Some.ensures.value in
    let new = written_in c.self.inside.links c.args.self.now c.self.view_is c.args.car c.get_mut.result (c.get_mut.follows.lender w) w (c.get_mut.follows.holds w) (subst IsSome (sym c.in-Some.is) refl) in
    on_ok c.reserve.result (λ fits. subst (λ v. HasRoom v c.args.car c.args.count) (sym new) (room_there c.args.self.now c.args.car c.in-Some.links.now w (sym found) c.args.count fits)) c.reserve.ensures.spare

pub returns-clause-kept : goal.returns-clause-kept
returns-clause-kept c = λ other more room.
    let w : Links = record { set = c.in-Some.links.now.set; queue = c.reserve.new.self } in
    let found = found_in c.self.inside.links c.args.self.now c.self.view_is c.args.car _ c.in-Some.ensures.value in
    let new = written_in c.self.inside.links c.args.self.now c.self.view_is c.args.car c.get_mut.result (c.get_mut.follows.lender w) w (c.get_mut.follows.holds w) (subst IsSome (sym c.in-Some.is) refl) in
    subst (λ v. HasRoom v other more) (sym new) (room_kept c.args.self.now c.args.car c.in-Some.links.now w (sym found) c.reserve.ensures.kept other more room)
