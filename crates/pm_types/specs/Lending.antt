-- What the values are after one was written through what `get_mut` lent.
use Rattle.std.specs.Prelude.{◌≡◌, ℕ, Option}
use Rattle.std.specs.Option.{OnSome}
use Rattle.std.specs.Ordering.{nat_cmp}
use Rattle.std.specs.FinMap.{FinMap, insert}
use Rattle.std.specs.Borrow.{LendsSo, Fml, RattleType, MutBor}
use Rattle.pm_types.specs.contracts.numbered.Numbered.{the_row}

-- the number has the last value that was written, and nothing else changed; where it had none, all is as it was
abbrev pub lends_value : (T : RattleType) → MutBor (FinMap nat_cmp T.Denot) → ℕ → Option (MutBor T.Denot) → Fml
lends_value T values number result = LendsSo (the_row T) T values result (λ after value. OnSome result (after ≡ insert values.now number value)) (λ after. after ≡ values.now)
