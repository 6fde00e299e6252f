use Rattle.std.proofs.Common.{ap, ◌∙◌}
use Rattle.std.specs.Cmp.{nat_cmp_total}
use Rattle.std.specs.FinMap.{remove, nat_cmp-IsAntisymmetric}
use Rattle.pm_types.proofs.Shown.{remove_shown}
use Rattle.pm_model.proofs.objects.Objects.remove.Goals as goal

pub returns : goal.returns
returns c =
    remove_shown nat_cmp_total nat_cmp-IsAntisymmetric c.self.inside.nodes c.remove.new.self c.args.id c.remove.ensures.updates
    ∙ ap (λ m. remove m c.args.id) c.self.view_is
