use Rattle.std.proofs.Common.{refl}
use Rattle.pm_image.specs.CarPages.{car_spelling, padded}
use Rattle.pm_image.proofs.CarTakes.{car_takes}
use Rattle.pm_image.proofs.CarAgain.{car_again}
use Rattle.pm_image.proofs.car_law.car_pages_are_read_again.Goals as goal

pub returns-clause-again : goal.returns-clause-again
returns-clause-again c = λ scope met car small has range named. car_again scope met (padded (car_spelling car)) car small has range named refl

pub returns-clause-found : goal.returns-clause-found
returns-clause-found c = λ scope met page car len fits read. (car_takes scope met page car len fits read).spelled

pub returns-clause-fits : goal.returns-clause-fits
returns-clause-fits c = λ scope met page car len fits read. (car_takes scope met page car len fits read).has

pub returns-clause-named : goal.returns-clause-named
returns-clause-named c = λ scope met page car len fits read. (car_takes scope met page car len fits read).named
