use Rattle.std.proofs.Common.{List, [], ◌∷◌, ◌++◌, sym, ap, subst, ◌∙◌}
use Rattle.std.specs.List.{AllZip}
use Rattle.pm_image.specs.declared.settled.KeptPage.{KeptPage}
use Rattle.pm_graphs.proofs.MadeLaws.{zip_more}
use Rattle.pm_graphs.proofs.read_cars.ReadList.push_car.Goals as goal

pub invariant_of-self-2 : goal.invariant_of-self-2
invariant_of-self-2 g c =
    let Is = g.P.FromPage.is_of in
    let made = c.car.inside.made in
    let kept = c.car.inside.kept in
    let before = c.self.inside in
    let cars_are = c.push_reserved.ensures.items ∙ ap (λ (cars : List KeptPage). cars ++ kept ∷ []) c.reserve.ensures.items in
    let made_are = c.push_reserved-2.ensures.items ∙ ap (λ all. all ++ made ∷ []) c.reserve-2.ensures.items in
    subst (λ (cars : List KeptPage). AllZip Is c.push_reserved-2.new.self.items cars) (sym {A = List KeptPage} cars_are)
    (subst (λ all. AllZip Is all (before.cars.items ++ kept ∷ [])) (sym made_are)
    (zip_more Is before.made.items before.cars.items made kept c.self.invariant c.car.invariant))
