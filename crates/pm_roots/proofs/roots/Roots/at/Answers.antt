use Rattle.std.proofs.Common.{◌∙◌, sym, ap}
use Rattle.slab.specs.Slab as slab
use Rattle.pm_roots.specs.Bindings.{address_at}
use Rattle.pm_roots.proofs.Views.{at_shown, bound_shown, free_shown}
use Rattle.pm_roots.proofs.roots.Roots.at.Goals as goal

pub returns-clause-value : goal.returns-clause-value
returns-clause-value c =
    c.copied.ensures ∙ c.get.ensures
    ∙ sym (at_shown c.self.inside.names.items (slab.get c.self.inside.addresses) c.self.invariant c.args.number)
    ∙ ap (λ m. address_at m c.args.number) c.self.view_is

pub returns-clause-bound : goal.returns-clause-bound
returns-clause-bound c =
    rw (← c.self.view_is) (bound_shown c.self.inside.names.items (slab.get c.self.inside.addresses) c.self.invariant c.args.number _ (c.copied.ensures ∙ c.get.ensures))

pub returns-clause-free : goal.returns-clause-free
returns-clause-free c =
    rw (← c.self.view_is) (free_shown c.self.inside.names.items (slab.get c.self.inside.addresses) c.self.invariant c.args.number _ (c.copied.ensures ∙ c.get.ensures))
