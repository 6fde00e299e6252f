use Rattle.std.proofs.Common.{◌≡◌, ◌++◌, Some, refl, sym, subst, ap, ◌∙◌, rules}
use Rattle.std.specs.List.{flat_map}
use Rattle.std.specs.Option.{IsSome}
use Rattle.std.specs.FinMap.{get}
use Rattle.pm_model.specs.Copying.{field_id}
use Rattle.pm_nursery.specs.Walking.{went}
use Rattle.pm_nursery.proofs.Walks.{on_ok_more, one_more_key, pushed_all, pushed_each}
use Rattle.pm_nursery.proofs.walk.meet.Goals as goal

pub returns : goal.returns
returns c =
    let is : get c.args.objects.now c.args.id ≡ Some c.in-Some.young.now = search rules in
    let held = c.in_ok-push_held.ensures ∙ ap (λ fields. c.args.pending.now.items ++ flat_map field_id fields) c.fields.ensures in
    on_ok_more c.push_holders.result c.push_holders.ensures (λ beside.
    went (subst IsSome (sym is) refl) c.in_ok-insert.ensures.updates.0 (one_more_key c.in_ok-insert.field-0 _ _ c.in_ok-insert.ensures.len c.if-not-branch.false) c.in_ok-insert.ensures.ordered
    (pushed_each c.args.objects.now c.args.holders.now c.args.id c.in-Some.young.now is c.args.pending.now.items c.push_held.new.pending.items c.push_holders.new.pending.items held beside)
    (pushed_all c.args.objects.now c.args.holders.now c.args.id c.in-Some.young.now is c.args.pending.now.items c.push_held.new.pending.items c.push_holders.new.pending.items held beside))
