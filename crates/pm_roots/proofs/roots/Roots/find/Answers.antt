use Rattle.std.proofs.Common.{◌∙◌, sym, ap}
use Rattle.std.specs.FinMap.{get}
use Rattle.slab.specs.Slab as slab
use Rattle.pm_roots.proofs.Places.{owner, unowned}
use Rattle.pm_roots.proofs.Views.{get_bound, get_absent}
use Rattle.pm_roots.proofs.roots.Roots.find.Goals as goal

pub index-requires-in-Ok : goal.index-requires-in-Ok
index-requires-in-Ok c =
    let names = c.self.inside.names.items in
    c.self.invariant.addressed c.args.name.now _ (owner names c.self.invariant.sorted _ c.deref.ensures.value _ _ c.in-Ok.ensures.found _ c.index.ensures)

pub returns-in-Ok : goal.returns-in-Ok
returns-in-Ok c =
    let names = c.self.inside.names.items in
    let owned = owner names c.self.invariant.sorted _ c.deref.ensures.value _ _ c.in-Ok.ensures.found _ c.index.ensures in
    sym (get_bound names (slab.get c.self.inside.addresses) c.self.invariant c.args.name.now _ _ owned c.index-in-Ok.ensures)
    ∙ ap (λ m. get m c.args.name.now) c.self.view_is

pub returns-in-Err : goal.returns-in-Err
returns-in-Err c =
    let names = c.self.inside.names.items in
    let none = unowned names c.self.invariant.sorted _ c.deref.ensures.value _ _ c.in-Err.ensures.absent in
    sym (get_absent names (slab.get c.self.inside.addresses) c.self.invariant c.args.name.now none)
    ∙ ap (λ m. get m c.args.name.now) c.self.view_is
