-- How what was met is stored.
use Rattle.std.specs.Prelude.{ℕ, List, Option, refl}
use Rattle.std.specs.Coded.{Coded, code_by, coded×, coded_ℕ, coded_list, coded_option}
use Rattle.std.specs.FinSet as set
use Rattle.pm_image.specs.CarPages.{Numbers}
use Rattle.pm_image.specs.CatalogPages.{Met}

-- what was met is stored as the tuple of its parts
abbrev pub met_code : Coded Met
met_code =
    code_by (Numbers × (Numbers × (ℕ × (Option (List ℕ) × ℕ)))) (coded× (set.code coded_ℕ) (coded× (set.code coded_ℕ) (coded× coded_ℕ (coded× (coded_option (coded_list coded_ℕ)) coded_ℕ))))
    (λ m. (m.cars, (m.pages, (m.train, (m.name, m.roots))))) (λ p. record { cars = p.0; pages = p.1.0; train = p.1.1.0; name = p.1.1.1.0; roots = p.1.1.1.1 }) (λ _. refl)

-- what was met, of its parts
abbrev pub met_of : Numbers → Numbers → ℕ → Option (List ℕ) → ℕ → Met
met_of cars pages train name roots = record { cars = cars; pages = pages; train = train; name = name; roots = roots }
