use Rattle.std.proofs.Common.{◌≡◌, ◌++◌, Option, sym, subst, ap, ◌∙◌}
use Rattle.std.specs.Prelude.{OnOk}
use Rattle.std.proofs.lemmas.List.{append-nil}
use Rattle.pm_cars.specs.Cars.{Car}
use Rattle.pm_space.specs.Shown.{view}
use Rattle.pm_space.proofs.HeldCars.{get_car}
use Rattle.pm_inspect.specs.Report.{line_of_car}
use Rattle.pm_inspect.proofs.reporting.append_car.Goals as goal

pub returns-in-Some : goal.returns-in-Some
returns-in-Some g c =
    subst (λ (o : Option Car). OnOk c.append_standing.result (c.append_standing.new.out.items ≡ c.args.out.now.items ++ line_of_car (view c.args.parts.now) c.args.number o))
    (sym (get_car c.args.parts.now.cars c.args.number _ c.in-Some.ensures)) c.append_standing.ensures

pub returns-in-None : goal.returns-in-None
returns-in-None g c =
    sym (append-nil c.args.out.now.items)
    ∙ ap (λ (o : Option Car). c.args.out.now.items ++ line_of_car (view c.args.parts.now) c.args.number o) (sym (get_car c.args.parts.now.cars c.args.number _ c.in-None.ensures))
