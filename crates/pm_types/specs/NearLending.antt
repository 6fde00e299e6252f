-- What a list of places is after a value was written through what `get_mut` lent. No public clause cites this module.
use Rattle.std.specs.Prelude.{◌≡◌, ℕ, slice_set, Option, Some}
use Rattle.std.specs.Option.{OnSome}
use Rattle.std.specs.Borrow.{LendsSo, Fml, RattleType, MutBor}
use Rattle.pm_types.specs.declared.near.Near.{Near}
use Rattle.pm_types.specs.contracts.near.Near.{the_row}

-- the place of this number has the last value that was written, and no other place changed; where it had none, nothing did
abbrev pub lends_near : (T : RattleType) → MutBor (Near T.Denot) → ℕ → Option (MutBor T.Denot) → Fml
lends_near T near number result =
    LendsSo (the_row T) T near result (λ after value. OnSome result (after.places.items ≡ slice_set near.now.places.items number (Some value))) (λ after. after.places.items ≡ near.now.places.items)
