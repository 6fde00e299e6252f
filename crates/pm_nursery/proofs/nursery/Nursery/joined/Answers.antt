use Rattle.std.proofs.Common.{◌≡◌, ℕ, [], ◌∷◌, ◌++◌, List, ap, sym, subst, ◌∙◌, rules}
use Rattle.std.specs.Option.{IsSome}
use Rattle.std.specs.FinMap.{get}
use Rattle.std.proofs.lemmas.Result.{IfOk-weaker}
use Rattle.pm_model.specs.Heap.{Heap}
use Rattle.pm_nursery.specs.Young.{NurseryView}
use Rattle.pm_nursery.specs.Joined.{AreJoined}
use Rattle.pm_nursery.specs.Sweeping.{IsDetached}
use Rattle.pm_nursery.specs.Escaping.{IsAscending}
use Rattle.pm_nursery.specs.Walking.{HoldsNothing}
use Rattle.pm_nursery.proofs.Joining.{alone_joined, joined_detached, one_ascends}
use Rattle.pm_nursery.proofs.Reaches.{joined_met}
use Rattle.pm_nursery.proofs.nursery.Nursery.joined.Goals as goal

pub returns-clause-joined : goal.returns-clause-joined
returns-clause-joined c =
    let same = ap (λ (n : NurseryView). n.objects) c.self.view_is in
    let one : c.push.new.self.items ≡ c.args.id ∷ [] = c.in_ok-push.ensures.items ∙ ap (λ (xs : List ℕ). xs ++ c.args.id ∷ []) c.new-pending.ensures.items in
    IfOk-weaker c.walk.result _ _
    (λ ids met. subst (λ (heap : Heap). AreJoined heap c.args.id ids.items) same
    (joined_met c.self.inside.objects c.in_ok-holders.holders c.in_ok-holders.ensures c.self.invariant.closed c.args.id c.push.new.self.items ids.items one (subst (λ (heap : Heap). IsSome (get heap c.args.id)) (sym same) c.requires) met))
    c.walk.ensures.met

pub returns-clause-detached : goal.returns-clause-detached
returns-clause-detached c =
    let same = ap (λ (n : NurseryView). n.objects) c.self.view_is in
    let one : c.push.new.self.items ≡ c.args.id ∷ [] = c.in_ok-push.ensures.items ∙ ap (λ (xs : List ℕ). xs ++ c.args.id ∷ []) c.new-pending.ensures.items in
    IfOk-weaker c.walk.result _ _
    (λ ids met. subst (λ (heap : Heap). IsDetached heap ids.items) same
    (joined_detached c.self.inside.objects c.args.id ids.items
    (joined_met c.self.inside.objects c.in_ok-holders.holders c.in_ok-holders.ensures c.self.invariant.closed c.args.id c.push.new.self.items ids.items one (subst (λ (heap : Heap). IsSome (get heap c.args.id)) (sym same) c.requires) met)))
    c.walk.ensures.met

pub returns-then-not-may_hold-clause-ascending : goal.returns-then-not-may_hold-clause-ascending
returns-then-not-may_hold-clause-ascending c =
    let one : c.push.new.self.items ≡ c.args.id ∷ [] = c.in_ok-push.ensures.items ∙ ap (λ (xs : List ℕ). xs ++ c.args.id ∷ []) c.new-pending.ensures.items in
    subst IsAscending (sym one) (one_ascends c.args.id)

pub returns-then-not-may_hold-clause-joined : goal.returns-then-not-may_hold-clause-joined
returns-then-not-may_hold-clause-joined c =
    let one : c.push.new.self.items ≡ c.args.id ∷ [] = c.in_ok-push.ensures.items ∙ ap (λ (xs : List ℕ). xs ++ c.args.id ∷ []) c.new-pending.ensures.items in
    let same = ap (λ (n : NurseryView). n.objects) c.self.view_is in
    subst (AreJoined c.args.self.now.objects c.args.id) (sym one) (alone_joined c.args.self.now.objects (subst HoldsNothing same (c.may_hold.ensures (search rules))) c.args.id)
