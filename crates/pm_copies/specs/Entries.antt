-- What the entries of a whole catalog list, and how they are ordered.
use Rattle.std.specs.Prelude.{◌≡◌, ℕ, ◌<◌, ◌≤◌, List, [], ◌∷◌, length, map, true}
use Rattle.std.specs.List.{AllByRecursion}
use Rattle.std.specs.Ordering.{is_lt}
use Rattle.pm_types.specs.declared.address.Addr.{Addr}
use Rattle.pm_types.specs.declared.limits.TheConstants.{ROOTS}
use Rattle.pm_types.specs.Names.{IsName}
use Rattle.pm_types.specs.Orders.{name_cmp}
use Rattle.pm_image.specs.declared.catalog.CatEntry.{CatEntry}
use Rattle.pm_image.specs.declared.catalog.CatEntry.TheVariants.{Car, Root}
use Rattle.pm_copies.specs.Apart.{AreApart, Neighbours}

-- a car that is listed: its number, the page where it stands, and the digest of that page
pub record ListedCar : Type 0 where
  pub number : ℕ
  pub page : ℕ
  pub digest : List ℕ

-- the cars that entries list, in order
abbrev pub listed_cars : List CatEntry → List ListedCar
listed_cars [] = []
listed_cars (Car car train page digest ∷ entries) =
    record { number = car; page = page; digest = digest } ∷ listed_cars entries
listed_cars (Root name at ∷ entries) = listed_cars entries

-- the numbers of the cars
abbrev pub listed_numbers : List CatEntry → List ℕ
listed_numbers entries = map (λ (car : ListedCar). car.number) (listed_cars entries)

-- the pages of the cars
abbrev pub listed_pages : List CatEntry → List ℕ
listed_pages entries = map (λ (car : ListedCar). car.page) (listed_cars entries)

-- the trains of the cars, in the order of these
abbrev pub listed_trains : List CatEntry → List ℕ
listed_trains [] = []
listed_trains (Car car train page digest ∷ entries) = train ∷ listed_trains entries
listed_trains (Root name at ∷ entries) = listed_trains entries

-- the names of the roots that entries list, in order
abbrev pub listed_names : List CatEntry → List (List ℕ)
listed_names [] = []
listed_names (Car car train page digest ∷ entries) = listed_names entries
listed_names (Root name at ∷ entries) = name ∷ listed_names entries

-- the addresses of the roots, in the order of their names
abbrev pub listed_addresses : List CatEntry → List Addr
listed_addresses [] = []
listed_addresses (Car car train page digest ∷ entries) = listed_addresses entries
listed_addresses (Root name at ∷ entries) = at ∷ listed_addresses entries

-- no car comes after a root
abbrev pub CarsComeFirst : List CatEntry → Type 0
CarsComeFirst [] = Unit {0}
CarsComeFirst (Car car train page digest ∷ entries) = CarsComeFirst entries
CarsComeFirst (Root name at ∷ entries) = listed_cars entries ≡ []

-- one train is no younger than the other: its number is not above that one's
abbrev pub IsNoYounger : ℕ → ℕ → Type 0
IsNoYounger first second = first ≤ second

-- one name comes before the other
abbrev pub ComesBefore : List ℕ → List ℕ → Type 0
ComesBefore first second = is_lt (name_cmp first second) ≡ true

-- The entries of a whole catalog are in order: the cars first, each with a number of its own from 1 on, their trains
-- never falling; then the roots, each with a name, in ascending order of these, no more than the limit, and each with
-- an address that has a car.
pub record AreInOrder (entries : List CatEntry) : Type 0 where
  pub cars_first : CarsComeFirst entries
  pub numbered : AllByRecursion (λ (number : ℕ). 0 < number) (listed_numbers entries)
  pub numbers_apart : AreApart (listed_numbers entries)
  pub trains : Neighbours IsNoYounger (listed_trains entries)
  pub names : AllByRecursion IsName (listed_names entries)
  pub ascending : Neighbours ComesBefore (listed_names entries)
  pub few : length (listed_names entries) ≤ ROOTS
  pub have_cars : AllByRecursion (λ (at : Addr). 0 < at.car) (listed_addresses entries)
