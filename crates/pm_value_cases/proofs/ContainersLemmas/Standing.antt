-- Where a car stands among trains.
use Rattle.std.proofs.Common.{◌≡◌, ℕ, ◌<◌, false, List, [], ◌∷◌, length, map, get_or, slice_index, zero, suc, None, Some, refl, sym, ◌∙◌, arith}
use Rattle.pm_trains.specs.Trains.{Train, cars_at, is_among, train_of}
use Rattle.pm_trains.specs.Sound.{Rise}
use Rattle.pm_trains.proofs.Numbers.{cars_there}

-- a car that no train has stands in none
pub free_of : (car : ℕ) (ts : List Train) (d : Train) → ((q : ℕ) → q < length ts → is_among car (get_or ts q d).cars ≡ false) → train_of ts car ≡ None
free_of car [] d none = refl
free_of car (t ∷ ts) d none = rw (none 0 (omega arith)) (free_of car ts d (λ q lt. none (suc q) (omega (arith, lt))))

-- the number of the train at a place
number_at : (ts : List Train) (place : ℕ) (d : Train) → place < length ts → slice_index (map (λ (t : Train). t.number) ts) place ≡ (get_or ts place d).number
number_at [] place d inside = absurd (omega (arith, inside))
number_at (t ∷ ts) zero d inside = refl
number_at (t ∷ ts) (suc place) d inside = number_at ts place d (omega (arith, inside))

-- the cars of the train at a place are those that its number has
pub cars_of : (ts : List Train) (place number : ℕ) (d : Train) → Rise 0 ts → place < length ts → number ≡ slice_index (map (λ (t : Train). t.number) ts) place → cars_at ts number ≡ Some (get_or ts place d).cars
cars_of ts place number d rise inside is =
    cars_there 0 ts number place d rise (record { inside = inside; named = λ e. sym (is ∙ number_at ts place e inside) })
