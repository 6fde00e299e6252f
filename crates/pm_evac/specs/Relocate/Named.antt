-- The cars that the fields of an object name.
use Rattle.std.specs.Prelude.{ℕ, Bool, List, Option, is_some}
use Rattle.std.specs.List.{sum_by, count_by}
use Rattle.pm_types.specs.declared.address.Addr.{Addr}
use Rattle.pm_types.specs.declared.source.Change.{Change}
use Rattle.pm_types.specs.declared.source.RefSource.TheVariants.{Field}
use Rattle.pm_view.specs.Barrier.{left}
use Rattle.pm_view.specs.Collecting.{field_news}
use Rattle.pm_space.specs.Linked.{told_by}

-- how many of these fields name the car
abbrev pub named_by : List (Option Addr) → ℕ → ℕ
named_by fields car = sum_by (told_by car) fields

-- how many of these fields name a car
abbrev pub naming : List (Option Addr) → ℕ
naming fields = count_by is_some fields

-- what cars hear of the fields of an object at an address, each of which becomes null
abbrev pub withdrawals : (ℕ → Bool) → Addr → List (Option Addr) → List (ℕ × Change)
withdrawals aside at fields = field_news (λ index field. left aside (Field at index) field) 0 fields
