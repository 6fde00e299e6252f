use Rattle.std.proofs.Common.{◌∙◌, List, ℕ, Some, sym, ap, subst}
use Rattle.pm_types.specs.Names.{IsName}
use Rattle.pm_dump.proofs.LineLaws.{name_again}
use Rattle.pm_dump.proofs.line.read_name.Goals as goal

pub returns-in-Ok-clause-ok : goal.returns-in-Ok-clause-ok
returns-in-Ok-clause-ok c =
    name_again c.args.word.now (subst IsName c.in-Ok.ensures.same c.in-Ok.ensures.named) ∙ ap (λ (n : List ℕ). Some n) (sym c.in-Ok.ensures.same)
