use Rattle.std.proofs.Common.{◌≡◌, ap, sym, ◌∙◌, rules}
use Rattle.std.specs.FinMap.{empty}
use Rattle.pm_types.proofs.Orders.{names_total, names_antisymmetric}
use Rattle.pm_types.proofs.Shown.{filled, all_filled}
use Rattle.pm_model.proofs.roots.Roots.copy.Goals as goal

pub returns : goal.returns
returns c =
    let given : c.into_iter-name-iterator.result ≡ c.self.inside.bound.entries = search rules in
    let whole = all_filled names_total names_antisymmetric c.self.inside.bound c.iter-name-items.ensures.ordered in
    ap (λ rest. filled names_total rest c.loop-name.copied) (sym c.in-None.ensures.steps.0)
    ∙ c.loop-name.invariant
    ∙ ap (λ all. filled names_total all empty) given
    ∙ whole ∙ c.self.view_is
