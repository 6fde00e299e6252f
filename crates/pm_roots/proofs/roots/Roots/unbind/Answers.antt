use Rattle.std.proofs.Common.{◌∙◌, sym, ap, None}
use Rattle.std.specs.FinMap.{get}
use Rattle.slab.specs.Slab as slab
use Rattle.pm_roots.proofs.Places.{owner, unowned, removed_at}
use Rattle.pm_roots.proofs.Views.{get_bound, get_absent}
use Rattle.pm_roots.proofs.Edits.{kept_left, shown_left, numbers_after, removed_absent}
use Rattle.pm_roots.proofs.roots.Roots.unbind.Goals as goal

pub remove-requires : goal.remove-requires
remove-requires c =
    let names = c.self.inside.names.items in
    c.self.invariant.addressed c.args.name.now _ (owner names c.self.invariant.sorted _ c.deref.ensures.value _ _ c.in-Ok.ensures.found _ c.remove-number.ensures.value)

pub invariant_of-self : goal.invariant_of-self
invariant_of-self c =
    let names = c.self.inside.names.items in
    let g = slab.get c.self.inside.addresses in
    let owned = owner names c.self.invariant.sorted _ c.deref.ensures.value _ _ c.in-Ok.ensures.found _ c.remove-number.ensures.value in
    let update = c.remove.ensures.updates in
    rw (c.remove-number.ensures.items, removed_at names c.self.invariant.sorted _ c.deref.ensures.value _ _ c.in-Ok.ensures.found)
    (kept_left names g (slab.get c.remove.new.self) c.self.invariant c.args.name.now _ update.others update.changed owned)

pub returns-in-Ok-clause-value : goal.returns-in-Ok-clause-value
returns-in-Ok-clause-value c =
    let names = c.self.inside.names.items in
    let owned = owner names c.self.invariant.sorted _ c.deref.ensures.value _ _ c.in-Ok.ensures.found _ c.remove-number.ensures.value in
    sym (get_bound names (slab.get c.self.inside.addresses) c.self.invariant c.args.name.now _ _ owned c.remove.ensures.value) ∙ ap (λ m. get m c.args.name.now) c.self.view_is

pub returns-in-Ok-clause-names : goal.returns-in-Ok-clause-names
returns-in-Ok-clause-names c =
    let names = c.self.inside.names.items in
    let owned = owner names c.self.invariant.sorted _ c.deref.ensures.value _ _ c.in-Ok.ensures.found _ c.remove-number.ensures.value in
    let update = c.remove.ensures.updates in
    rw (c.remove-number.ensures.items, removed_at names c.self.invariant.sorted _ c.deref.ensures.value _ _ c.in-Ok.ensures.found, ← c.self.view_is)
    (shown_left names (slab.get c.self.inside.addresses) (slab.get c.remove.new.self) c.self.invariant c.args.name.now _ update.others update.changed owned)

pub returns-in-Ok-clause-numbers : goal.returns-in-Ok-clause-numbers
returns-in-Ok-clause-numbers c number =
    let names = c.self.inside.names.items in
    let g = slab.get c.self.inside.addresses in
    let owned = owner names c.self.invariant.sorted _ c.deref.ensures.value _ _ c.in-Ok.ensures.found _ c.remove-number.ensures.value in
    let update = c.remove.ensures.updates in
    let left = kept_left names g (slab.get c.remove.new.self) c.self.invariant c.args.name.now _ update.others update.changed owned in
    rw (c.remove-number.ensures.items, removed_at names c.self.invariant.sorted _ c.deref.ensures.value _ _ c.in-Ok.ensures.found, ← c.self.view_is)
    (numbers_after names _ g (slab.get c.remove.new.self) c.self.invariant left _ None update.changed update.others number)

pub returns-in-Err-clause-value : goal.returns-in-Err-clause-value
returns-in-Err-clause-value c =
    let names = c.self.inside.names.items in
    let none = unowned names c.self.invariant.sorted _ c.deref.ensures.value _ _ c.in-Err.ensures.absent in
    sym (get_absent names (slab.get c.self.inside.addresses) c.self.invariant c.args.name.now none) ∙ ap (λ m. get m c.args.name.now) c.self.view_is

pub returns-in-Err-clause-names : goal.returns-in-Err-clause-names
returns-in-Err-clause-names c =
    let names = c.self.inside.names.items in
    let none = unowned names c.self.invariant.sorted _ c.deref.ensures.value _ _ c.in-Err.ensures.absent in
    removed_absent c.args.self.now c.args.name.now (sym (ap (λ m. get m c.args.name.now) c.self.view_is) ∙ get_absent names (slab.get c.self.inside.addresses) c.self.invariant c.args.name.now none)
