use Rattle.std.proofs.Common.{arith}
use Rattle.std.specs.Prelude.{Some}
use Rattle.std.proofs.lemmas.Bool.{eqb-true, eq-eqb}
use Rattle.pm_image.specs.CarAnswers.{a_car}
use Rattle.pm_image.proofs.CarLaws.{each_ok, answer_takes, answer_again}
use Rattle.pm_image.proofs.car_reading.read_car_in.Goals as goal

pub returns-clause-found : goal.returns-clause-found
returns-clause-found c = each_ok c.car_at.result (λ car is. is.spelled) (answer_takes (a_car c.args.most c.args.next (Some c.args.number)) c.args.met.now c.args.page.now c.car_at.result c.requires.whole (λ i. omega (arith, c.type_inv.page i)) c.car_at.ensures.exact)

pub returns-clause-fits : goal.returns-clause-fits
returns-clause-fits c = each_ok c.car_at.result (λ car is. is.has) (answer_takes (a_car c.args.most c.args.next (Some c.args.number)) c.args.met.now c.args.page.now c.car_at.result c.requires.whole (λ i. omega (arith, c.type_inv.page i)) c.car_at.ensures.exact)

pub returns-clause-named : goal.returns-clause-named
returns-clause-named c = each_ok c.car_at.result (λ car is. eqb-true _ _ is.named) (answer_takes (a_car c.args.most c.args.next (Some c.args.number)) c.args.met.now c.args.page.now c.car_at.result c.requires.whole (λ i. omega (arith, c.type_inv.page i)) c.car_at.ensures.exact)

pub returns-clause-only : goal.returns-clause-only
returns-clause-only c = λ car has range named spelled.
    answer_again (a_car c.args.most c.args.next (Some c.args.number)) c.args.met.now c.args.page.now c.car_at.result car (omega arith) has range (eq-eqb _ _ named) spelled c.car_at.ensures.exact
