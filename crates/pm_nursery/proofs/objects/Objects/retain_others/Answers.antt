use Rattle.std.proofs.Common.{ℕ, List, not, nat_eq, sym, ap, subst, ◌∙◌, refl, rules}
use Rattle.std.specs.List.{list_any}
use Rattle.std.specs.List.Sorted.{IsStrictlySortedBy}
use Rattle.std.specs.Map.{keys_of}
use Rattle.std.specs.Cmp.{nat_cmp_total}
use Rattle.std.specs.Ordering.{nat_cmp}
use Rattle.std.specs.FinMap as map
use Rattle.std.specs.FinMap.{nat_cmp-IsAntisymmetric}
use Rattle.std.proofs.lemmas.Fn.{filter_same}
use Rattle.pm_model.specs.Heap.{Object, Heap}
use Rattle.pm_nursery.proofs.Alone.{gone_alone}
use Rattle.pm_nursery.proofs.Changed.{others_left}
use Rattle.pm_nursery.proofs.Rows.{sorted_left}
use Rattle.pm_nursery.proofs.objects.Objects.retain_others.Goals as goal

pub invariant_of-self : goal.invariant_of-self
invariant_of-self c =
    let es = c.self.inside.young.items in
    let left = filter_same _ (λ (e : ℕ × Object). not (list_any (λ other. nat_eq other e.0) c.args.ids.now)) _ (λ k b f' t. search rules) _ _ c.retain.ensures.filtered in
    record {
      rise = subst (λ (xs : List (ℕ × Object)). IsStrictlySortedBy nat_cmp (keys_of xs)) (sym left) (sorted_left nat_cmp_total nat_cmp-IsAntisymmetric (λ (e : ℕ × Object). not (list_any (λ other. nat_eq other e.0) c.args.ids.now)) es c.self.invariant.rise);
      alone = λ no. gone_alone (map.from_entries es) (map.from_entries c.retain.new.self.items) c.args.ids.now (others_left es c.retain.new.self.items (map.from_entries es) c.args.ids.now refl left) (c.self.invariant.alone no);
    }

pub returns : goal.returns
returns c = λ id.
    let left = filter_same _ (λ (e : ℕ × Object). not (list_any (λ other. nat_eq other e.0) c.args.ids.now)) _ (λ k b f' t. search rules) _ _ c.retain.ensures.filtered in
    ap (λ (heap : Heap). map.get heap id) c.note_empty.ensures ∙ others_left c.self.inside.young.items c.retain.new.self.items c.args.self.now c.args.ids.now c.self.view_is left id
