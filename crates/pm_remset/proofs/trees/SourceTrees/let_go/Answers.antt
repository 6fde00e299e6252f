use Rattle.std.proofs.Common.{◌≡◌, Some, sym, ◌∙◌, rules}
use Rattle.std.specs.FinMap.{len, empty_of_len}
use Rattle.std.specs.BTreeMap as tree
use Rattle.pm_types.specs.contracts.source.RefSourceOrd.TheImpl.{ghosts}
use Rattle.pm_remset.specs.Grouped.{joined}
use Rattle.pm_remset.proofs.Regrouped.{joined_left, grouped_left}
use Rattle.pm_remset.proofs.trees.SourceTrees.let_go.Goals as goal

pub invariant_of-self : goal.invariant_of-self
invariant_of-self c =
    let l = c.in-Some.list.now in
    let was : tree.get ghosts.cmp c.self.inside.groups c.args.group ≡ Some l = sym (search rules) in
    let none : len l ≡ 0 = search rules in
    grouped_left c.self.inside.groups c.remove.new.self c.self.invariant.ordered c.remove.ensures.ordered c.self.inside.index c.self.inside.count c.self.invariant c.args.group l was (empty_of_len l none) c.remove.ensures.updates

pub returns-then-len-eq0 : goal.returns-then-len-eq0
returns-then-len-eq0 c =
    let l = c.in-Some.list.now in
    let was : tree.get ghosts.cmp c.self.inside.groups c.args.group ≡ Some l = sym (search rules) in
    let none : len l ≡ 0 = search rules in
    let same : joined c.remove.new.self.entries ≡ c.args.self.now = joined_left c.self.inside.groups c.remove.new.self c.self.invariant.ordered c.remove.ensures.ordered c.self.inside.index c.self.inside.count c.self.invariant c.args.group l was (empty_of_len l none) c.remove.ensures.updates ∙ c.self.view_is in
    search (rules, same)
