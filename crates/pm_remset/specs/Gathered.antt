-- What is remembered where sources are told one after another, each with the slot that it names.
use Rattle.std.specs.Prelude.{ℕ, List}
use Rattle.std.specs.List.{fold}
use Rattle.std.specs.FinMap.{empty, insert}
use Rattle.pm_types.specs.declared.source.RefSource.{RefSource}
use Rattle.pm_remset.specs.Remembered.{Remembered}

-- a set that was told of a source, in place of what it had been told of it
abbrev pub with_told : Remembered → RefSource × ℕ → Remembered
with_told set told = insert set told.0 told.1

-- the set that was told of these, the first one first
abbrev pub gathered : List (RefSource × ℕ) → Remembered
gathered told = fold with_told empty told
