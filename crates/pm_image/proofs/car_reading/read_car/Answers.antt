use Rattle.std.proofs.Common.{arith, refl, subst}
use Rattle.pm_image.specs.Answers.{Gives}
use Rattle.pm_image.specs.CarPages.{Numbers, car_at, one_car}
use Rattle.pm_image.proofs.CarLaws.{each_ok, answer_takes, answer_again}
use Rattle.pm_image.proofs.car_reading.read_car.Goals as goal

pub returns-clause-found : goal.returns-clause-found
returns-clause-found c = each_ok c.car_at.result (λ car is. is.spelled) (answer_takes (one_car c.args.most) c.new.result c.args.page.now c.car_at.result c.requires.whole (λ i. omega (arith, c.type_inv.page i)) c.car_at.ensures.exact)

pub returns-clause-fits : goal.returns-clause-fits
returns-clause-fits c =
    let exact = subst (λ (met : Numbers). Gives c.car_at.result (car_at (one_car c.args.most) met c.args.page.now)) c.new.ensures c.car_at.ensures.exact in
    each_ok c.car_at.result (λ car is. is.has) (answer_takes (one_car c.args.most) _ c.args.page.now c.car_at.result c.requires.whole (λ i. omega (arith, c.type_inv.page i)) exact)

pub returns-clause-only : goal.returns-clause-only
returns-clause-only c = λ car has range spelled.
    let exact = subst (λ (met : Numbers). Gives c.car_at.result (car_at (one_car c.args.most) met c.args.page.now)) c.new.ensures c.car_at.ensures.exact in
    answer_again (one_car c.args.most) _ c.args.page.now c.car_at.result car (omega arith) has range refl spelled exact
