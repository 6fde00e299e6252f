use Rattle.std.proofs.Common.{ℕ, ◌∙◌, sym, ap, subst, refl, IsSome, Some, None, arith}
use Rattle.std.specs.FinMap.{insert}
use Rattle.std.specs.Option.{option_map}
use Rattle.pm_types.specs.declared.address.Addr.{Addr}
use Rattle.slab.specs.Slab as slab
use Rattle.slab.proofs.SlabLemmas.{Updates-with_value}
use Rattle.pm_roots.proofs.Places.{owner, unowned, inserted_at}
use Rattle.pm_roots.proofs.Views.{bound_now, absent_now, counted_now, free_shown, ok_is_no_err, some_is_no_none, none_is_not_some, memory_is_not_too_many}
use Rattle.pm_roots.proofs.Edits.{kept_readdressed, insert_readdressed, kept_added, shown_added, numbers_after}
use Rattle.pm_roots.proofs.roots.Roots.bind.Goals as goal

-- the name is bound
pub index_mut-requires : goal.index_mut-requires
index_mut-requires c =
    let names = c.self.inside.names.items in
    let old = c.self.inside.addresses in
    let owned = owner names c.self.invariant.sorted _ c.deref.ensures.value _ _ c.in-Ok.ensures.found _ c.index.ensures in
    c.self.invariant.addressed c.args.name _ owned

pub returns-in-Ok-clause-number : goal.returns-in-Ok-clause-number
returns-in-Ok-clause-number c =
    let names = c.self.inside.names.items in
    let old = c.self.inside.addresses in
    let owned = owner names c.self.invariant.sorted _ c.deref.ensures.value _ _ c.in-Ok.ensures.found _ c.index.ensures in
    let bound = bound_now names (slab.get old) c.self.invariant _ c.self.view_is c.args.name _ _ owned c.index_mut.ensures.value in
    rw bound refl

pub returns-in-Ok-clause-old_address : goal.returns-in-Ok-clause-old_address
returns-in-Ok-clause-old_address c =
    let names = c.self.inside.names.items in
    let old = c.self.inside.addresses in
    let owned = owner names c.self.invariant.sorted _ c.deref.ensures.value _ _ c.in-Ok.ensures.found _ c.index.ensures in
    let bound = bound_now names (slab.get old) c.self.invariant _ c.self.view_is c.args.name _ _ owned c.index_mut.ensures.value in
    ap Some c.replace-old.ensures.value ∙ sym (ap (option_map (λ (b : ℕ × Addr). b.1)) bound)

pub returns-in-Ok-clause-names : goal.returns-in-Ok-clause-names
returns-in-Ok-clause-names c =
    let names = c.self.inside.names.items in
    let old = c.self.inside.addresses in
    let owned = owner names c.self.invariant.sorted _ c.deref.ensures.value _ _ c.in-Ok.ensures.found _ c.index.ensures in
    let update = Updates-with_value old _ c.replace-old.new.dest (subst IsSome (sym c.index_mut.ensures.value) refl) in
    let here = update.changed ∙ ap Some c.replace-old.ensures.after in
    insert_readdressed names (slab.get old) _ c.self.invariant c.args.name _ update.others c.args.at here owned
    ∙ ap (λ m. insert m c.args.name (c.index.result.now.1, c.args.at)) c.self.view_is

pub returns-in-Ok-clause-numbers : goal.returns-in-Ok-clause-numbers
returns-in-Ok-clause-numbers c number =
    let names = c.self.inside.names.items in
    let old = c.self.inside.addresses in
    let owned = owner names c.self.invariant.sorted _ c.deref.ensures.value _ _ c.in-Ok.ensures.found _ c.index.ensures in
    let update = Updates-with_value old _ c.replace-old.new.dest (subst IsSome (sym c.index_mut.ensures.value) refl) in
    let here = update.changed ∙ ap Some c.replace-old.ensures.after in
    let kept = kept_readdressed names (slab.get old) _ c.self.invariant c.args.name _ update.others c.args.at here owned in
    rw (← c.self.view_is) (numbers_after names names (slab.get old) _ c.self.invariant kept _ (Some c.args.at) here update.others number)

pub returns-in-Ok-clause-too_many : goal.returns-in-Ok-clause-too_many
returns-in-Ok-clause-too_many c =
    let names = c.self.inside.names.items in
    let old = c.self.inside.addresses in
    let owned = owner names c.self.invariant.sorted _ c.deref.ensures.value _ _ c.in-Ok.ensures.found _ c.index.ensures in
    let bound = bound_now names (slab.get old) c.self.invariant _ c.self.view_is c.args.name _ _ owned c.index_mut.ensures.value in
    (λ is. absurd (ok_is_no_err is), λ h. absurd (some_is_no_none (sym bound ∙ h.0)))

-- too many are
pub returns-then-len-ge-ROOTS-clause-too_many : goal.returns-then-len-ge-ROOTS-clause-too_many
returns-then-len-ge-ROOTS-clause-too_many c =
    let names = c.self.inside.names.items in
    let g = slab.get c.self.inside.addresses in
    let none = unowned names c.self.invariant.sorted _ c.deref.ensures.value _ _ c.in-Err.ensures.absent in
    let absent = absent_now names g c.self.invariant _ c.self.view_is c.args.name none in
    let counted = counted_now names g c.self.invariant _ c.self.view_is in
    (λ is. (absent, omega (arith, counted)), λ h. refl)

pub returns-then-len-ge-ROOTS-clause-bound_again : goal.returns-then-len-ge-ROOTS-clause-bound_again
returns-then-len-ge-ROOTS-clause-bound_again c there =
    let names = c.self.inside.names.items in
    let g = slab.get c.self.inside.addresses in
    let none = unowned names c.self.invariant.sorted _ c.deref.ensures.value _ _ c.in-Err.ensures.absent in
    let absent = absent_now names g c.self.invariant _ c.self.view_is c.args.name none in
    absurd (none_is_not_some absent there)

-- memory ran out
pub returns-in-Err-added-clause-too_many : goal.returns-in-Err-added-clause-too_many
returns-in-Err-added-clause-too_many c =
    let names = c.self.inside.names.items in
    let g = slab.get c.self.inside.addresses in
    let none = unowned names c.self.invariant.sorted _ c.deref.ensures.value _ _ c.in-Err.ensures.absent in
    let absent = absent_now names g c.self.invariant _ c.self.view_is c.args.name none in
    let counted = counted_now names g c.self.invariant _ c.self.view_is in
    (λ is. absurd (memory_is_not_too_many is), λ h. absurd (let many = h.1 in omega (arith, counted, many)))

pub returns-in-Err-added-clause-bound_again : goal.returns-in-Err-added-clause-bound_again
returns-in-Err-added-clause-bound_again c there =
    let names = c.self.inside.names.items in
    let g = slab.get c.self.inside.addresses in
    let none = unowned names c.self.invariant.sorted _ c.deref.ensures.value _ _ c.in-Err.ensures.absent in
    let absent = absent_now names g c.self.invariant _ c.self.view_is c.args.name none in
    absurd (none_is_not_some absent there)

-- the name gets the next number
pub invariant_of-self-in-Err : goal.invariant_of-self-in-Err
invariant_of-self-in-Err c =
    let names = c.self.inside.names.items in
    let g = slab.get c.self.inside.addresses in
    let none = unowned names c.self.invariant.sorted _ c.deref.ensures.value _ _ c.in-Err.ensures.absent in
    let absent = absent_now names g c.self.invariant _ c.self.view_is c.args.name none in
    let added = c.in-Ok-added.ensures.addresses in
    let put = c.in-Ok-added.ensures.names ∙ inserted_at names _ c.deref.ensures.value c.args.name _ c.in-Err.ensures.absent c.in-Ok-added.number in
    let counted = counted_now names g c.self.invariant _ c.self.view_is in
    let kept = kept_added names g (slab.get c.add-added.new.addresses) c.self.invariant c.args.name c.in-Ok-added.number added.others c.args.at added.here none added.vacant (omega arith) in
    rw put kept

pub returns-in-Ok-added-clause-number : goal.returns-in-Ok-added-clause-number
returns-in-Ok-added-clause-number c =
    let names = c.self.inside.names.items in
    let g = slab.get c.self.inside.addresses in
    let none = unowned names c.self.invariant.sorted _ c.deref.ensures.value _ _ c.in-Err.ensures.absent in
    let absent = absent_now names g c.self.invariant _ c.self.view_is c.args.name none in
    let added = c.in-Ok-added.ensures.addresses in
    let put = c.in-Ok-added.ensures.names ∙ inserted_at names _ c.deref.ensures.value c.args.name _ c.in-Err.ensures.absent c.in-Ok-added.number in
    rw (absent, ← c.self.view_is) (free_shown names g c.self.invariant c.in-Ok-added.number None (sym added.vacant))

pub returns-in-Ok-added-clause-old_address : goal.returns-in-Ok-added-clause-old_address
returns-in-Ok-added-clause-old_address c =
    let names = c.self.inside.names.items in
    let g = slab.get c.self.inside.addresses in
    let none = unowned names c.self.invariant.sorted _ c.deref.ensures.value _ _ c.in-Err.ensures.absent in
    let absent = absent_now names g c.self.invariant _ c.self.view_is c.args.name none in
    sym (ap (option_map (λ (b : ℕ × Addr). b.1)) absent)

pub returns-in-Ok-added-clause-names : goal.returns-in-Ok-added-clause-names
returns-in-Ok-added-clause-names c =
    let names = c.self.inside.names.items in
    let g = slab.get c.self.inside.addresses in
    let none = unowned names c.self.invariant.sorted _ c.deref.ensures.value _ _ c.in-Err.ensures.absent in
    let absent = absent_now names g c.self.invariant _ c.self.view_is c.args.name none in
    let added = c.in-Ok-added.ensures.addresses in
    let put = c.in-Ok-added.ensures.names ∙ inserted_at names _ c.deref.ensures.value c.args.name _ c.in-Err.ensures.absent c.in-Ok-added.number in
    rw (put, ← c.self.view_is) (shown_added names g (slab.get c.add-added.new.addresses) c.self.invariant c.args.name c.in-Ok-added.number added.others c.args.at added.here none added.vacant)

pub returns-in-Ok-added-clause-numbers : goal.returns-in-Ok-added-clause-numbers
returns-in-Ok-added-clause-numbers c number =
    let names = c.self.inside.names.items in
    let g = slab.get c.self.inside.addresses in
    let none = unowned names c.self.invariant.sorted _ c.deref.ensures.value _ _ c.in-Err.ensures.absent in
    let absent = absent_now names g c.self.invariant _ c.self.view_is c.args.name none in
    let added = c.in-Ok-added.ensures.addresses in
    let put = c.in-Ok-added.ensures.names ∙ inserted_at names _ c.deref.ensures.value c.args.name _ c.in-Err.ensures.absent c.in-Ok-added.number in
    let counted = counted_now names g c.self.invariant _ c.self.view_is in
    let kept = kept_added names g (slab.get c.add-added.new.addresses) c.self.invariant c.args.name c.in-Ok-added.number added.others c.args.at added.here none added.vacant (omega arith) in
    rw (put, ← c.self.view_is) (numbers_after names _ g (slab.get c.add-added.new.addresses) c.self.invariant kept c.in-Ok-added.number (Some c.args.at) added.here added.others number)

pub returns-in-Ok-added-clause-too_many : goal.returns-in-Ok-added-clause-too_many
returns-in-Ok-added-clause-too_many c =
    let names = c.self.inside.names.items in
    let g = slab.get c.self.inside.addresses in
    let none = unowned names c.self.invariant.sorted _ c.deref.ensures.value _ _ c.in-Err.ensures.absent in
    let absent = absent_now names g c.self.invariant _ c.self.view_is c.args.name none in
    let counted = counted_now names g c.self.invariant _ c.self.view_is in
    (λ is. absurd (ok_is_no_err is), λ h. absurd (let many = h.1 in omega (arith, counted, many)))
