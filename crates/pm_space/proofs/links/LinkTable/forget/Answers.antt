use Rattle.std.proofs.Common.{refl, ap, sym, subst, ◌∙◌, IsSome, arith}
use Rattle.pm_types.proofs.Lent.{found_in, written_in}
use Rattle.pm_space.specs.declared.links.Links.{Links}
use Rattle.pm_space.specs.Linked.{sets_of, queues_of, HasRoom}
use Rattle.pm_space.proofs.Linking.{queues_kept, room_kept}
use Rattle.pm_space.proofs.Fronts.{sets_forgot, has_links}
use Rattle.pm_space.proofs.links.LinkTable.forget.Goals as goal

pub returns-in_default-clause-sets : goal.returns-in_default-clause-sets
returns-in_default-clause-sets c =
    let none = found_in c.self.inside.links c.args.self.now c.self.view_is c.args.car _ c.in_default.ensures.value in
    absurd (has_links c.args.self.now c.args.car c.requires (sym none))

pub returns-clause-sets : goal.returns-clause-sets
returns-clause-sets c =
    let w : Links = record { set = c.take.new.self; queue = c.in-Some.links.now.queue } in
    let found = found_in c.self.inside.links c.args.self.now c.self.view_is c.args.car _ c.in-Some.ensures.value in
    let new = written_in c.self.inside.links c.args.self.now c.self.view_is c.args.car c.get_mut.result (c.get_mut.follows.lender w) w (c.get_mut.follows.holds w) (subst IsSome (sym c.in-Some.is) refl) in
    ap sets_of new ∙ sets_forgot c.args.self.now c.args.car c.in-Some.links.now w (sym found) c.args.source c.take.ensures.after

pub returns-clause-queues : goal.returns-clause-queues
returns-clause-queues c =
    let w : Links = record { set = c.take.new.self; queue = c.in-Some.links.now.queue } in
    let found = found_in c.self.inside.links c.args.self.now c.self.view_is c.args.car _ c.in-Some.ensures.value in
    let new = written_in c.self.inside.links c.args.self.now c.self.view_is c.args.car c.get_mut.result (c.get_mut.follows.lender w) w (c.get_mut.follows.holds w) (subst IsSome (sym c.in-Some.is) refl) in
    ap queues_of new ∙ queues_kept c.args.self.now c.args.car c.in-Some.links.now w (sym found) refl

pub returns-clause-kept : goal.returns-clause-kept
returns-clause-kept c = λ other more room.
    let w : Links = record { set = c.take.new.self; queue = c.in-Some.links.now.queue } in
    let found = found_in c.self.inside.links c.args.self.now c.self.view_is c.args.car _ c.in-Some.ensures.value in
    let new = written_in c.self.inside.links c.args.self.now c.self.view_is c.args.car c.get_mut.result (c.get_mut.follows.lender w) w (c.get_mut.follows.holds w) (subst IsSome (sym c.in-Some.is) refl) in
    subst (λ v. HasRoom v other more) (sym new) (room_kept c.args.self.now c.args.car c.in-Some.links.now w (sym found) (omega arith) other more room)
