-- How the names and the numbers are kept. No public clause cites this module.
use Rattle.std.specs.Prelude.{◌≡◌, ◌≢◌, ℕ, ◌<◌, ◌≤◌, List, length, map, slice_index_or, Option, Some, None, IsSome, T}
use Rattle.std.specs.declared.cmp.Ordering.TheVariants.{Less, Greater}
use Rattle.std.specs.Option.{unwrap_or}
use Rattle.std.specs.FinMap.{find, is_sorted, from_sorted}
use Rattle.pm_types.specs.declared.address.Addr.{Addr}
use Rattle.pm_types.specs.Orders.{name_cmp}
use Rattle.pm_roots.specs.Bindings.{Bindings}
use Rattle.pm_types.specs.declared.limits.TheConstants.{ROOTS}

-- names with their numbers
abbrev pub Numbered : Type 0
Numbered = List (List ℕ × ℕ)

-- the entry at the place has the name
pub record IsAt (names : Numbered) (name : List ℕ) (place : ℕ) : Type 0 where
  pub in_range : place < length names
  pub has_name : (d : List ℕ × ℕ) → (slice_index_or names place d).0 ≡ name

-- the name would stand at the place: lesser names before it, and greater names from it on
pub record IsGap (names : Numbered) (name : List ℕ) (place : ℕ) : Type 0 where
  pub in_range : place ≤ length names
  pub before : (k : ℕ) (d : List ℕ × ℕ) → k < place → name_cmp (slice_index_or names k d).0 name ≡ Less
  pub after : (k : ℕ) (d : List ℕ × ℕ) → place ≤ k → k < length names → name_cmp (slice_index_or names k d).0 name ≡ Greater

-- the address of a number that has one
abbrev pub address_of : (ℕ → Option Addr) → ℕ → Addr
address_of addresses number = unwrap_or (addresses number) (record { car = 0; slot = 0 })

-- what names with their numbers, and addresses by number, are seen as
abbrev pub rows : (ℕ → Option Addr) → Numbered → List (List ℕ × (ℕ × Addr))
rows addresses names = map (λ e. (e.0, (e.1, address_of addresses e.1))) names

abbrev pub shown : Numbered → (ℕ → Option Addr) → Bindings
shown names addresses = from_sorted (rows addresses names)

-- the names rise, their numbers differ, and just their numbers have addresses
pub record IsKept (names : Numbered) (addresses : ℕ → Option Addr) : Type 0 where
  pub sorted : T (is_sorted name_cmp names)
  pub few : length names ≤ ROOTS
  pub addressed : (p : List ℕ) (number : ℕ) → find name_cmp p names ≡ Some number → IsSome (addresses number)
  pub named : (number : ℕ) → IsSome (addresses number) → (p : List ℕ) × (find name_cmp p names ≡ Some number)
  pub differ : (p q : List ℕ) (number : ℕ) → find name_cmp p names ≡ Some number → find name_cmp q names ≡ Some number → p ≡ q

-- addresses by number after the one under a number was set or taken away
abbrev pub Changes : (ℕ → Option Addr) → (ℕ → Option Addr) → ℕ → Type 0
Changes old new number = (other : ℕ) → other ≢ number → new other ≡ old other

-- a number that was free got the address, and another number keeps its own
pub record Adds (old new : ℕ → Option Addr) (number : ℕ) (at : Addr) : Type 0 where
  pub vacant : old number ≡ None
  pub here : new number ≡ Some at
  pub others : Changes old new number
