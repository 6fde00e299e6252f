use Rattle.std.proofs.Common.{ap, refl, subst, sym, ◌∙◌}
use Rattle.std.specs.FinMap.{insert, remove}
use Rattle.pm_space.specs.declared.links.Links.{Links}
use Rattle.pm_space.specs.Linked.{set_of, queue_of, sets_of, queues_of, HasRoom}
use Rattle.pm_space.proofs.Linking.{part_added, room_added, insert_undone}
use Rattle.pm_space.proofs.links.LinkTable.add.Goals as goal

pub returns-clause-sets : goal.returns-clause-sets
returns-clause-sets c =
    let w : Links = record { set = c.args.set; queue = c.reserve.new.self } in
    let new = c.in_ok-insert.ensures.ok ∙ ap (λ v. insert v c.args.car w) c.self.view_is in
    ap sets_of new ∙ part_added set_of c.args.self.now c.args.car w _ refl

pub returns-clause-queues : goal.returns-clause-queues
returns-clause-queues c =
    let w : Links = record { set = c.args.set; queue = c.reserve.new.self } in
    let new = c.in_ok-insert.ensures.ok ∙ ap (λ v. insert v c.args.car w) c.self.view_is in
    ap queues_of new ∙ part_added queue_of c.args.self.now c.args.car w _ (c.reserve.ensures.changes ∙ c.new-queue.ensures)

pub returns-clause-room : goal.returns-clause-room
returns-clause-room c =
    let w : Links = record { set = c.args.set; queue = c.reserve.new.self } in
    let new = c.in_ok-insert.ensures.ok ∙ ap (λ v. insert v c.args.car w) c.self.view_is in
    subst (λ v. HasRoom v c.args.car c.args.room) (sym new) (room_added c.args.self.now c.args.car w c.args.room c.in_ok-reserve.ensures.spare)

pub returns-clause-others : goal.returns-clause-others
returns-clause-others c =
    let w : Links = record { set = c.args.set; queue = c.reserve.new.self } in
    let new = c.in_ok-insert.ensures.ok ∙ ap (λ v. insert v c.args.car w) c.self.view_is in
    ap (λ v. remove v c.args.car) new ∙ insert_undone c.args.self.now c.args.car w c.requires
