use Rattle.std.proofs.Common.{sym, ap, ◌∙◌, arith}
use Rattle.std.specs.FinMap.{len}
use Rattle.slab.specs.Slab as slab
use Rattle.pm_roots.proofs.Views.{len_shown}
use Rattle.pm_roots.proofs.roots.Roots.len.Goals as goal

pub returns : goal.returns
returns c =
    let counted = sym (len_shown c.self.inside.names.items (slab.get c.self.inside.addresses) c.self.invariant.sorted) ∙ ap len c.self.view_is in
    omega (arith, counted)
