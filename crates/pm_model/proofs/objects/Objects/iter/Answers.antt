use Rattle.std.proofs.Common.{ap, sym, ◌∙◌}
use Rattle.std.specs.Cmp.{nat_cmp_total}
use Rattle.std.specs.FinMap.{entries, nat_cmp-IsAntisymmetric}
use Rattle.pm_types.proofs.Shown.{entries_shown}
use Rattle.pm_model.proofs.objects.Objects.iter.Goals as goal

pub returns : goal.returns
returns c =
    c.iter.ensures.rest ∙ sym (entries_shown nat_cmp_total nat_cmp-IsAntisymmetric c.self.inside.nodes c.iter.ensures.ordered) ∙ ap entries c.self.view_is
