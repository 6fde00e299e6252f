use Rattle.std.proofs.Common.{ℕ, List, ◌∙◌, sym, ap, arith, slice_get, Some}
use Rattle.std.specs.FinMap.{len, entries}
use Rattle.slab.specs.Slab as slab
use Rattle.pm_types.proofs.Orders.{names_total}
use Rattle.pm_roots.proofs.Views.{len_shown, entries_shown, row_at}
use Rattle.pm_roots.proofs.Sorted.{find_at}
use Rattle.pm_roots.proofs.roots.Roots.nth.Goals as goal

pub index-requires : goal.index-requires
index-requires c =
    let counted = sym (len_shown c.self.inside.names.items (slab.get c.self.inside.addresses) c.self.invariant.sorted) ∙ ap len c.self.view_is in
    omega (arith, counted)

pub returns : goal.returns
returns c =
    let names = c.self.inside.names.items in
    let g = slab.get c.self.inside.addresses in
    let counted = sym (len_shown names g c.self.invariant.sorted) ∙ ap len c.self.view_is in
    ap (λ m. slice_get (entries m) c.args.place) (sym c.self.view_is)
    ∙ ap (λ es. slice_get es c.args.place) (entries_shown names g c.self.invariant.sorted)
    ∙ row_at names g c.args.place _ _ (omega (arith, counted)) c.index.ensures c.index-2.ensures

pub index-requires-2 : goal.index-requires-2
index-requires-2 c =
    let names = c.self.inside.names.items in
    let counted = sym (len_shown names (slab.get c.self.inside.addresses) c.self.invariant.sorted) ∙ ap len c.self.view_is in
    c.self.invariant.addressed _ _ (find_at names_total names c.self.invariant.sorted _ c.args.place c.index.result.now (omega (arith, counted)) (ap (λ (x : List ℕ × ℕ). x.0) (sym c.index.ensures)) ∙ ap (λ (x : List ℕ × ℕ). Some x.1) (sym c.index.ensures))
