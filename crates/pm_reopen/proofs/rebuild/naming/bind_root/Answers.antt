use Rattle.std.proofs.Common.{ℕ, ◌+◌, ◌≤◌, sym, ap, subst, ◌∙◌}
use Rattle.std.specs.FinMap.{len}
use Rattle.pm_types.proofs.Mapped.{mapped-insert}
use Rattle.pm_types.specs.Orders.{name_cmp}
use Rattle.pm_types.proofs.Orders.{names_total, names_antisymmetric}
use Rattle.pm_types.specs.declared.address.Addr.{Addr}
use Rattle.pm_roots.specs.Bindings.{Bindings}
use Rattle.pm_reopen.specs.Rebuild.Naming.{addresses}
use Rattle.pm_reopen.proofs.RebuildLemmas.NameLaws.{one_more}
use Rattle.pm_reopen.proofs.rebuild.naming.bind_root.Goals as goal

pub returns-in-Ok-clause-bound : goal.returns-in-Ok-clause-bound
returns-in-Ok-clause-bound c =
    let number = c.in-Ok.field-0.0 in
    ap addresses c.in-Ok.ensures.names ∙ mapped-insert name_cmp (λ (bound : ℕ × Addr). bound.1) names_total names_antisymmetric c.args.roots.now c.args.name (number, c.args.at)

pub returns-in-Ok-clause-one : goal.returns-in-Ok-clause-one
returns-in-Ok-clause-one c = subst (λ (roots : Bindings). len roots ≤ len c.args.roots.now + 1) (sym c.in-Ok.ensures.names) (one_more c.args.roots.now c.args.name (c.in-Ok.field-0.0, c.args.at))
