use Rattle.std.proofs.Common.{rules, ◌≡◌, ◌≤◌, IfOk, length, ap, subst, ◌∙◌}
use Rattle.std.proofs.lemmas.List.{take_all}
use Rattle.pm_remset.specs.Gathered.{gathered}
use Rattle.pm_remset.proofs.Lists.{gathered_same}
use Rattle.pm_remset.proofs.list.SourceList.to_trees.Goals as goal

pub returns : goal.returns
returns c =
    let es = c.deref-entry-items.result.now in
    let all : length es ≤ c.loop-entry.entry-index = search rules in
    let copied = c.loop-entry.invariant ∙ take_all c.loop-entry.entry-index es all ∙ c.deref-entry-items.ensures.value in
    let same = ap gathered copied ∙ gathered_same c.self.inside.entries.items c.self.invariant ∙ c.self.view_is in
    subst (λ set. IfOk c.of_told.result (λ trees. trees ≡ set)) same c.of_told.ensures
