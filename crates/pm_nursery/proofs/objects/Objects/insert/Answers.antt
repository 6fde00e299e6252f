use Rattle.std.proofs.Common.{◌≡◌, ℕ, List, get_or, sym, ap, subst, ◌∙◌, rules}
use Rattle.std.specs.Cmp.{nat_cmp_total}
use Rattle.std.specs.Ordering.{nat_cmp}
use Rattle.std.specs.Map.{keys_of}
use Rattle.std.specs.FinMap as map
use Rattle.std.specs.FinMap.{nat_cmp-IsAntisymmetric}
use Rattle.pm_model.specs.Heap.{Object, Heap}
use Rattle.pm_nursery.specs.Rows.{IsAt, IsGap}
use Rattle.pm_nursery.specs.Walking.{AreListed, HoldsNothing}
use Rattle.pm_nursery.proofs.Alone.{born_alone, kept_listed}
use Rattle.pm_nursery.proofs.Changed.{written}
use Rattle.pm_nursery.proofs.Rows.{put_new, sorted_new}
use Rattle.pm_nursery.proofs.objects.Objects.insert.Goals as goal

pub invariant_of-self : goal.invariant_of-self
invariant_of-self c =
    let es = c.self.inside.young.items in
    let is : IsAt (keys_of es) c.args.id c.in-Ok.at = subst (λ (xs : List (ℕ × Object)). IsAt (keys_of xs) c.args.id c.in-Ok.at) c.deref.ensures.value c.in-Ok.ensures.found in
    let e : ℕ × Object = c.index_mut.result.now in
    let read : e ≡ get_or es c.in-Ok.at e = search rules in
    kept_listed es c.args.self.now c.self.view_is c.args.id c.in-Ok.at e is read c.self.inside.may_hold c.self.invariant c.args.young (λ there alone. born_alone c.args.self.now c.args.id c.args.young alone c.requires)

pub invariant_of-self-in-Err : goal.invariant_of-self-in-Err
invariant_of-self-in-Err c =
    let es = c.self.inside.young.items in
    let gap : IsGap nat_cmp (keys_of es) c.args.id c.in-Err.at = subst (λ (xs : List (ℕ × Object)). IsGap nat_cmp (keys_of xs) c.args.id c.in-Err.at) c.deref.ensures.value c.in-Err.ensures.absent in
    subst (λ (xs : List (ℕ × Object)). AreListed xs c.self.inside.may_hold) (sym c.in_ok-insert-in-Err.ensures.items)
    (record {
      rise = sorted_new nat_cmp_total nat_cmp-IsAntisymmetric es c.self.invariant.rise c.args.id c.in-Err.at c.args.young gap;
      alone = λ no. subst HoldsNothing (sym (put_new nat_cmp_total nat_cmp-IsAntisymmetric es c.self.invariant.rise c.args.id c.in-Err.at c.args.young gap))
          (born_alone (map.from_entries es) c.args.id c.args.young (c.self.invariant.alone no) c.requires);
    })

pub returns-in-Ok-clause-ok : goal.returns-in-Ok-clause-ok
returns-in-Ok-clause-ok c =
    let es = c.self.inside.young.items in
    let is : IsAt (keys_of es) c.args.id c.in-Ok.at = subst (λ (xs : List (ℕ × Object)). IsAt (keys_of xs) c.args.id c.in-Ok.at) c.deref.ensures.value c.in-Ok.ensures.found in
    let e : ℕ × Object = c.index_mut.result.now in
    let read : e ≡ get_or es c.in-Ok.at e = search rules in
    written es c.args.self.now c.self.view_is c.self.invariant.rise c.args.id c.in-Ok.at e is read c.args.young

pub returns-in_ok-insert-in-Err-clause-ok : goal.returns-in_ok-insert-in-Err-clause-ok
returns-in_ok-insert-in-Err-clause-ok c =
    let es = c.self.inside.young.items in
    let gap : IsGap nat_cmp (keys_of es) c.args.id c.in-Err.at = subst (λ (xs : List (ℕ × Object)). IsGap nat_cmp (keys_of xs) c.args.id c.in-Err.at) c.deref.ensures.value c.in-Err.ensures.absent in
    ap (map.from_entries {R = nat_cmp}) c.in_ok-insert-in-Err.ensures.items
    ∙ put_new nat_cmp_total nat_cmp-IsAntisymmetric es c.self.invariant.rise c.args.id c.in-Err.at c.args.young gap
    ∙ ap (λ (heap : Heap). map.insert heap c.args.id c.args.young) c.self.view_is
