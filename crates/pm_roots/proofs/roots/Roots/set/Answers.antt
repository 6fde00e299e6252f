use Rattle.std.proofs.Common.{◌∙◌, sym, ap, subst, refl, IsSome, Some}
use Rattle.std.specs.FinMap.{get}
use Rattle.slab.specs.Slab as slab
use Rattle.slab.proofs.SlabLemmas.{Updates-with_value}
use Rattle.pm_roots.specs.Bindings.{address_at, with_address}
use Rattle.pm_roots.proofs.Views.{at_shown}
use Rattle.pm_roots.proofs.Edits.{kept_readdressed, get_readdressed, numbers_after}
use Rattle.pm_roots.proofs.roots.Roots.set.Goals as goal

pub index_mut-requires : goal.index_mut-requires
index_mut-requires c =
    subst IsSome (ap (λ m. address_at m c.args.number) (sym c.self.view_is) ∙ at_shown c.self.inside.names.items (slab.get c.self.inside.addresses) c.self.invariant c.args.number) c.requires

pub invariant_of-self : goal.invariant_of-self
invariant_of-self c =
    let old = c.self.inside.addresses in
    let there = subst IsSome (sym c.index_mut.ensures.value) refl in
    let update = Updates-with_value old c.args.number c.args.at there in
    let owner = c.self.invariant.named c.args.number there in
    kept_readdressed c.self.inside.names.items (slab.get old) _ c.self.invariant owner.0 c.args.number update.others c.args.at update.changed owner.1

pub returns-clause-names : goal.returns-clause-names
returns-clause-names c name =
    let old = c.self.inside.addresses in
    let there = subst IsSome (sym c.index_mut.ensures.value) refl in
    let update = Updates-with_value old c.args.number c.args.at there in
    get_readdressed c.self.inside.names.items (slab.get old) _ c.self.invariant name c.args.number update.others c.args.at update.changed name
    ∙ ap (λ m. with_address c.args.number c.args.at (get m name)) c.self.view_is

pub returns-clause-numbers : goal.returns-clause-numbers
returns-clause-numbers c other =
    let old = c.self.inside.addresses in
    let there = subst IsSome (sym c.index_mut.ensures.value) refl in
    let update = Updates-with_value old c.args.number c.args.at there in
    let owner = c.self.invariant.named c.args.number there in
    let names = c.self.inside.names.items in
    let kept = kept_readdressed names (slab.get old) _ c.self.invariant owner.0 c.args.number update.others c.args.at update.changed owner.1 in
    rw (← c.self.view_is) (numbers_after names names (slab.get old) _ c.self.invariant kept c.args.number (Some c.args.at) update.changed update.others other)
