-- The place of a train in the list.
use Rattle.std.specs.Prelude.{◌≡◌, ℕ, ◌+◌, ◌<◌, ◌==◌, ◌&&◌, nat_lt, Bool, List, length, slice_index_or}
use Rattle.std.specs.List.{HoldsAt}
use Rattle.pm_trains.specs.Trains.{Train, empty_train}

-- the train at this place has this number
pub record IsAt (ts : List Train) (number place : ℕ) : Type 0 where
  pub inside : place < length ts
  pub named : HoldsAt (λ t. t.number ≡ number) ts place

-- the train at this place has no car and is not the last
abbrev pub is_left_empty : List Train → ℕ → Bool
is_left_empty ts place = nat_lt (place + 1) (length ts) && (length (slice_index_or ts place (empty_train 0)).cars == 0)
