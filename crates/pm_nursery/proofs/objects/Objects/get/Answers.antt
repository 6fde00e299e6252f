use Rattle.std.proofs.Common.{◌≡◌, ℕ, Some, get_or, sym, ap, ◌∙◌, rules}
use Rattle.std.specs.Cmp.{nat_cmp_total}
use Rattle.std.specs.Ordering.{nat_cmp}
use Rattle.std.specs.Map.{keys_of}
use Rattle.std.specs.FinMap.{get, nat_cmp-IsAntisymmetric}
use Rattle.pm_model.specs.Heap.{Object, Heap}
use Rattle.pm_nursery.specs.Rows.{IsAt, IsGap}
use Rattle.pm_nursery.proofs.Rows.{found, missed}
use Rattle.pm_nursery.proofs.objects.Objects.get.Goals as goal

pub returns-in-Ok : goal.returns-in-Ok
returns-in-Ok c =
    let es = c.self.inside.young.items in
    let is : IsAt (keys_of es) c.args.id c.in-Ok.at = search rules in
    let e : ℕ × Object = c.index.result.now in
    let was : e ≡ get_or es c.in-Ok.at e = search rules in
    ap (λ (x : ℕ × Object). Some x.1) was ∙ sym (found nat_cmp_total nat_cmp-IsAntisymmetric es c.self.invariant.rise c.args.id c.in-Ok.at e is) ∙ ap (λ (heap : Heap). get heap c.args.id) c.self.view_is

pub returns-in-Err : goal.returns-in-Err
returns-in-Err c =
    let es = c.self.inside.young.items in
    let gap : IsGap nat_cmp (keys_of es) c.args.id c.in-Err.field-0 = search rules in
    sym (missed nat_cmp_total nat_cmp-IsAntisymmetric es c.self.invariant.rise c.args.id c.in-Err.field-0 gap) ∙ ap (λ (heap : Heap). get heap c.args.id) c.self.view_is
