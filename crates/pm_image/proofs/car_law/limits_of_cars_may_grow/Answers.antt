use Rattle.pm_image.proofs.CarWider.{car_more}
use Rattle.pm_image.proofs.car_law.limits_of_cars_may_grow.Goals as goal

pub returns : goal.returns
returns c = λ scope more met page car le is. car_more scope more met page car le is
