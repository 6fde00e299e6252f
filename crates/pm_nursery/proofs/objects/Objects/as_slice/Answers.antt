use Rattle.std.proofs.Common.{List, ℕ, sym, subst, ap, ◌∙◌}
use Rattle.std.specs.List.{Contains}
use Rattle.std.specs.Cmp.{nat_cmp_total}
use Rattle.std.specs.FinMap.{get, nat_cmp-IsAntisymmetric}
use Rattle.pm_model.specs.Heap.{Object, Heap}
use Rattle.pm_nursery.proofs.Rows.{listed}
use Rattle.pm_nursery.proofs.objects.Objects.as_slice.Goals as goal

pub returns : goal.returns
returns c = λ id object.
    let it = listed nat_cmp_total nat_cmp-IsAntisymmetric c.self.inside.young.items c.self.invariant.rise id object in
    let shown = ap (λ (heap : Heap). get heap id) c.self.view_is in (
      (λ there. subst (λ (es : List (ℕ × Object)). Contains es (id, object)) (sym c.as_slice.ensures.value) (it.0 (shown ∙ there))),
      (λ within. sym shown ∙ it.1 (subst (λ (es : List (ℕ × Object)). Contains es (id, object)) c.as_slice.ensures.value within)),
    )
