-- Entries in a row, as they are seen: a list, and for how many entries there is memory.
use Rattle.std.specs.Prelude.{ℕ, List}
use Rattle.pm_cars.specs.Entries.{Entry}

-- the entries, and for how many there is memory, those that stand among them
pub record Row : Type 0 where
  pub items : List Entry
  pub capacity : ℕ
