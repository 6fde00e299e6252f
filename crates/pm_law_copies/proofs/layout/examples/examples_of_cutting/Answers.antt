use Rattle.std.proofs.Common.{refl, arith}
use Rattle.pm_law_copies.proofs.LayoutLemmas.Edges.{only_cars, one_car_more, then_root, with_root}
use Rattle.pm_law_copies.proofs.layout.examples.examples_of_cutting.Goals as goal

pub returns-clause-none : goal.returns-clause-none
returns-clause-none c = refl

pub returns-clause-cars : goal.returns-clause-cars
returns-clause-cars c = only_cars 286 (omega arith)

pub returns-clause-more_cars : goal.returns-clause-more_cars
returns-clause-more_cars c = one_car_more 286 (omega arith) (omega arith)

pub returns-clause-full : goal.returns-clause-full
returns-clause-full c = with_root 286 22 (omega arith)

pub returns-clause-over : goal.returns-clause-over
returns-clause-over c = then_root 286 23 (omega arith) (omega arith) (omega arith)
