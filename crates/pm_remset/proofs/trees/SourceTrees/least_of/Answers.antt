use Rattle.std.proofs.Common.{◌≡◌, None, Some, false, true, sym, rules}
use Rattle.std.specs.Map.Iter.{deref}
use Rattle.std.specs.BTreeMap as tree
use Rattle.std.proofs.lemmas.Map.Iter.{rest_more, rest_all}
use Rattle.pm_types.specs.contracts.source.RefSourceOrd.TheImpl.{ghosts}
use Rattle.pm_remset.proofs.Least.{no_group_from, later_group, group_there, least_in_group}
use Rattle.pm_remset.proofs.trees.SourceTrees.least_of.Goals as goal

pub returns-in_err-get-in-Some : goal.returns-in_err-get-in-Some
returns-in_err-get-in-Some c =
    let none : tree.get ghosts.cmp c.self.inside.groups c.in-Some.field-0.now.1 ≡ None = sym (search rules) in
    let named : false ≡ true = group_there c.self.inside.groups c.self.inside.index c.self.inside.count c.self.invariant c.args.self.now c.self.view_is c.args.slot c.range.result (c.range.ensures.in_range tt)
    c.in-Some.field-0.now c.next.new.self (rest_more deref _ _ _ c.in-Some.field-0 c.in-Some.is c.next.ensures.steps) c.if-found-slot.true None none in
    absurd cc

pub returns-in_ok-get-in-Some : goal.returns-in_ok-get-in-Some
returns-in_ok-get-in-Some c =
    let l = c.in_ok-get-in-Some.field-0.now in
    let is : tree.get ghosts.cmp c.self.inside.groups c.in-Some.field-0.now.1 ≡ Some l = sym (search rules) in
    least_in_group c.self.inside.groups c.self.inside.index c.self.inside.count c.self.invariant c.args.self.now c.self.view_is c.args.slot c.range.result (c.range.ensures.in_range tt)
    c.in-Some.field-0.now c.next.new.self (rest_more deref _ _ _ c.in-Some.field-0 c.in-Some.is c.next.ensures.steps) c.if-found-slot.true l is c.least_of.result c.least_of.ensures

pub returns-in-Some-2 : goal.returns-in-Some-2
returns-in-Some-2 c =
    later_group c.self.inside.groups c.self.inside.index c.self.inside.count c.self.invariant c.args.self.now c.self.view_is c.args.slot c.range.result (c.range.ensures.in_range tt)
    c.in-Some.field-0.now c.next.new.self (rest_more deref _ _ _ c.in-Some.field-0 c.in-Some.is c.next.ensures.steps) c.if-found-slot.false

pub returns-in-None : goal.returns-in-None
returns-in-None c =
    no_group_from c.self.inside.groups c.self.inside.index c.self.inside.count c.self.invariant c.args.self.now c.self.view_is c.args.slot c.range.result (c.range.ensures.in_range tt)
    (rest_all deref _ _ _ c.in-None.is c.next.ensures.steps)
