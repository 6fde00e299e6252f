use Rattle.std.proofs.Common.{◌≡◌, length, sym, ap, ◌∙◌, rules}
use Rattle.std.specs.Cmp.{nat_cmp_total}
use Rattle.std.specs.FinMap.{len, nat_cmp-IsAntisymmetric}
use Rattle.pm_nursery.proofs.Rows.{counted}
use Rattle.pm_nursery.proofs.objects.Objects.len.Goals as goal

pub returns : goal.returns
returns c =
    let long : c.len.result ≡ length c.self.inside.young.items = search rules in
    long ∙ sym (counted nat_cmp_total nat_cmp-IsAntisymmetric c.self.inside.young.items c.self.invariant.rise) ∙ ap len c.self.view_is
