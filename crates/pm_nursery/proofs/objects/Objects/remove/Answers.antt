use Rattle.std.proofs.Common.{ℕ, List, sym, ap, subst, ◌∙◌}
use Rattle.std.specs.Cmp.{nat_cmp_total}
use Rattle.std.specs.Ordering.{nat_cmp}
use Rattle.std.specs.Map.{keys_of}
use Rattle.std.specs.FinMap as map
use Rattle.std.specs.FinMap.{nat_cmp-IsAntisymmetric}
use Rattle.pm_model.specs.Heap.{Object, Heap}
use Rattle.pm_nursery.specs.Rows.{IsAt, IsGap}
use Rattle.pm_nursery.specs.Walking.{AreListed, HoldsNothing}
use Rattle.pm_nursery.proofs.Alone.{taken_alone}
use Rattle.pm_nursery.proofs.Rows.{missed, none_taken, sorted_taken, taken}
use Rattle.pm_nursery.proofs.objects.Objects.remove.Goals as goal

pub invariant_of-self : goal.invariant_of-self
invariant_of-self c =
    let es = c.self.inside.young.items in
    let is : IsAt (keys_of es) c.args.id c.in-Ok.at = subst (λ (xs : List (ℕ × Object)). IsAt (keys_of xs) c.args.id c.in-Ok.at) c.deref.ensures.value c.in-Ok.ensures.found in
    subst (λ (xs : List (ℕ × Object)). AreListed xs c.self.inside.may_hold) (sym c.remove.ensures.items)
    (record {
      rise = sorted_taken nat_cmp_total nat_cmp-IsAntisymmetric es c.in-Ok.at c.self.invariant.rise;
      alone = λ no. subst HoldsNothing (sym (taken nat_cmp_total nat_cmp-IsAntisymmetric es c.self.invariant.rise c.args.id c.in-Ok.at c.remove.result is)) (taken_alone (map.from_entries es) c.args.id (c.self.invariant.alone no));
    })

pub returns-in-Ok : goal.returns-in-Ok
returns-in-Ok c =
    let es = c.self.inside.young.items in
    let is : IsAt (keys_of es) c.args.id c.in-Ok.at = subst (λ (xs : List (ℕ × Object)). IsAt (keys_of xs) c.args.id c.in-Ok.at) c.deref.ensures.value c.in-Ok.ensures.found in
    c.note_empty.ensures ∙ ap (map.from_entries {R = nat_cmp}) c.remove.ensures.items ∙ taken nat_cmp_total nat_cmp-IsAntisymmetric es c.self.invariant.rise c.args.id c.in-Ok.at c.remove.result is ∙ ap (λ (heap : Heap). map.remove heap c.args.id) c.self.view_is

pub returns-in_default : goal.returns-in_default
returns-in_default c =
    let es = c.self.inside.young.items in
    let gap : IsGap nat_cmp (keys_of es) c.args.id c.in_default.field-0 = subst (λ (xs : List (ℕ × Object)). IsGap nat_cmp (keys_of xs) c.args.id c.in_default.field-0) c.deref.ensures.value c.in_default.ensures.absent in
    none_taken nat_cmp_total nat_cmp-IsAntisymmetric c.args.self.now c.args.id (ap (λ (heap : Heap). map.get heap c.args.id) (sym c.self.view_is) ∙ missed nat_cmp_total nat_cmp-IsAntisymmetric es c.self.invariant.rise c.args.id c.in_default.field-0 gap)
