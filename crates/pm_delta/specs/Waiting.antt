-- The changes that wait for a remembered set.
use Rattle.std.specs.Prelude.{ℕ, ◌+◌, List, length}
use Rattle.pm_types.specs.declared.source.Change.{Change}

-- the changes, the one that waits longest first, and how many more can be pushed without taking memory
pub record Waiting : Type 0 where
  pub changes : List Change
  pub spare : ℕ

-- how many changes have room, those that wait and the spare ones
abbrev pub room : Waiting → ℕ
room waiting = length waiting.changes + waiting.spare
