-- Reading a car's page, step by step.
use Rattle.std.proofs.Common.{◌≡◌, ℕ, List, Option, None, Result, Ok, ap}
use Rattle.pm_types.specs.declared.limits.TheConstants.{CAR_HEAD_BYTES}
use Rattle.pm_types.specs.declared.object.Slot.{Slot}
use Rattle.pm_layout.specs.Reading.{number_from}
use Rattle.pm_image.specs.declared.car.CarImage.{CarImage}
use Rattle.pm_image.specs.Steps.{tested, magic_at, rest_at}
use Rattle.pm_types.specs.Results.{◌>>=◌}
use Rattle.pm_image.specs.CarPages.{Numbers, car_magic, is_named, records_at, car_at}
use Rattle.pm_image.specs.CarAnswers.{a_car}
use Rattle.pm_image.proofs.Records.{any_numbers}

-- a car, once its records were read
abbrev pub with_rest : List ℕ → List (ℕ × Slot) × ℕ → Result CarImage ℕ
with_rest page records = rest_at page records.1 >>= λ is_all. Ok (record { number = number_from 8 page 4; slots = records.0 })

-- a car whose magic and number are right is read as its records are
pub car_begins : (most next : ℕ) (expected : Option ℕ) (met : Numbers) (page : List ℕ) (a b : Unit {0}) → magic_at car_magic page ≡ Ok a → tested {E = ℕ} (is_named expected (number_from 8 page 4)) 4 ≡ Ok b
    → car_at (a_car most next expected) met page ≡ (records_at (a_car most next None) met 0 page (number_from 2 page 12) CAR_HEAD_BYTES >>= with_rest page)
unfolding car_at
car_begins most next expected met page a b magic named =
    rw (magic, named) (ap (λ (read : Result (List (ℕ × Slot) × ℕ) ℕ). read >>= with_rest page) (any_numbers most next expected None page (number_from 2 page 12) met 0 CAR_HEAD_BYTES))

-- a car is read once the rest of its page is zeros
pub rest_of : (page : List ℕ) (read : Result (List (ℕ × Slot) × ℕ) ℕ) (records : List (ℕ × Slot) × ℕ) → read ≡ Ok records → (read >>= with_rest page) ≡ with_rest page records
rest_of page read records is = ap (λ (r : Result (List (ℕ × Slot) × ℕ) ℕ). r >>= with_rest page) is
