-- The laws of cars' pages, and what readers answer by them.
use Rattle.std.proofs.Common.{◌≡◌, ℕ, ◌<◌, true, List, length, Result, Ok, Err, subst}
use Rattle.std.specs.Prelude.{IfOk}
use Rattle.pm_types.specs.declared.limits.TheConstants.{PAGE_BYTES}
use Rattle.pm_layout.proofs.Numbers.{IsBytes}
use Rattle.pm_image.specs.declared.car.CarImage.{CarImage}
use Rattle.pm_image.specs.declared.fault.PageFault.{PageFault}
use Rattle.pm_image.specs.Answers.{Gives}
use Rattle.pm_image.specs.CarPages.{CarScope, Numbers, HasCarPage, car_at, car_spelling, is_named, padded}
use Rattle.pm_image.specs.CarAnswers.{IsCarInRange}
use Rattle.pm_image.proofs.CarTakes.{IsCar, car_takes}
use Rattle.pm_image.proofs.CarAgain.{car_again}

-- what holds of each value that is Ok, and what follows from it
pub each_ok : {A E : Type 0} {P Q : A → Type 0} (answered : Result A E) → ((x : A) → P x → Q x) → IfOk answered P → IfOk answered Q
each_ok (Ok x) f h = f x h
each_ok (Err e) f h = tt

-- what was answered is spelled so
pub answer_takes : (scope : CarScope) (met : Numbers) (page : List ℕ) (answered : Result CarImage PageFault) → length page ≡ PAGE_BYTES → IsBytes page → Gives answered (car_at scope met page) → IfOk answered (λ car. IsCar scope met page car)
answer_takes scope met page (Ok car) len fits given = car_takes scope met page car len fits given
answer_takes scope met page (Err e) len fits given = tt

-- what is spelled so is answered, unless memory ran out
pub answer_again : (scope : CarScope) (met : Numbers) (page : List ℕ) (answered : Result CarImage PageFault) (car : CarImage) → scope.most < 65536 → HasCarPage scope met car → IsCarInRange car → is_named scope.number car.number ≡ true → page ≡ padded (car_spelling car)
    → Gives answered (car_at scope met page) → Gives answered (Ok car)
answer_again scope met page answered car small has range named spelled given = subst (λ (read : Result CarImage ℕ). Gives answered read) (car_again scope met page car small has range named spelled) given
