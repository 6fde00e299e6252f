-- What a table is after the value at a key was written through what `change` lent.
use Rattle.std.specs.Prelude.{◌≡◌, ℕ, Result}
use Rattle.std.specs.Borrow.{LendsSoOk, Fml, RattleType, MutBor}
use Rattle.pm_types.specs.declared.no_memory.NoMemory.{NoMemory}
use Rattle.pm_snap.specs.Snapped.{Snapped, with_value}
use Rattle.pm_snap.specs.contracts.table.Table.{the_row}

-- the key has the last value that was written and is ready, and nothing else changed; after want of memory all is as it was
abbrev pub lends_value : (T : RattleType) → MutBor (Snapped T.Denot) → ℕ → Result (MutBor T.Denot) NoMemory → Fml
lends_value T table key result = LendsSoOk (the_row T) T table result (λ after value. after ≡ with_value table.now key value) (λ after. after ≡ table.now)
