-- Keys in a row, each below those behind it.
use Rattle.std.specs.Prelude.{◌≡◌, ℕ, ◌<◌, ◌≤◌, List, length, slice_index_or}
use Rattle.std.specs.declared.cmp.Ordering.{Ordering}
use Rattle.std.specs.declared.cmp.Ordering.TheVariants.{Less, Greater}
use Rattle.std.specs.List.{AllWithin}

-- the key at this place is this one
pub record IsAt {K : Type 0} (keys : List K) (key : K) (at : ℕ) : Type 0 where
  pub within : at < length keys
  pub here : (other : K) → slice_index_or keys at other ≡ key

-- no key is this one, and this is the place for it: behind those that are below it, and before those above
pub record IsGap {K : Type 0} (cmp : K → K → Ordering) (keys : List K) (key : K) (at : ℕ) : Type 0 where
  pub within : at ≤ length keys
  pub below : AllWithin (λ other. cmp other key ≡ Less) keys 0 at
  pub above : AllWithin (λ other. cmp other key ≡ Greater) keys at (length keys)
