-- Registers that hold an identity, and the index of who holds which.
use Rattle.std.specs.Prelude.{◌≡◌, ℕ, Bool, false, nat_eq, List, Option, Some, None, Contains}
use Rattle.std.specs.List.Sorted.{IsStrictlySortedBy}
use Rattle.std.specs.Map.{keys_of}
use Rattle.std.specs.FinMap.{get, from_entries}
use Rattle.pm_types.specs.Orders.{place_cmp}
use Rattle.pm_model.specs.World.{Registers}
use Rattle.pm_nursery.specs.Young.{IsRegister}
use Rattle.pm_nursery.specs.Sweeping.{left_held}
use Rattle.pm_nursery.specs.Turned.{Pair, Rise, has, holder_cmp}

-- these are the registers that hold the identity, each behind it, ascending
pub record AreHolders (registers : Registers) (id : ℕ) (holders : List (ℕ × (ℕ × ℕ))) : Type 0 where
  pub ascending : IsStrictlySortedBy holder_cmp holders
  pub each : (holder : ℕ × (ℕ × ℕ)) → Contains holders holder → (holder.0 ≡ id) × (get registers holder.1 ≡ Some id)
  pub all : (place : ℕ × ℕ) → get registers place ≡ Some id → Contains holders (id, place)

-- these are the identities that a register holds
pub record AreHeld (registers : Registers) (ids : List ℕ) : Type 0 where
  pub each : (id : ℕ) → Contains ids id → (place : ℕ × ℕ) × (get registers place ≡ Some id)
  pub all : (place : ℕ × ℕ) (id : ℕ) → get registers place ≡ Some id → Contains ids id

-- the registers without those that hold one of the identities
abbrev pub AreFree : Registers → List ℕ → Registers → Type 0
AreFree registers ids after = (place : ℕ × ℕ) → get after place ≡ left_held ids (get registers place)

-- whether this identity was found
abbrev pub is_id : Option ℕ → ℕ → Bool
is_id None id = false
is_id (Some found) id = nat_eq found id

-- The index has an identity and a register just where the register holds the identity, in ascending order; and each
-- register is one that a client has.
pub record IsTurned (registers : Registers) (turned : List Pair) : Type 0 where
  pub rise : Rise turned
  pub same : (id : ℕ) (place : ℕ × ℕ) → has turned (id, place) ≡ is_id (get registers place) id
  pub places : (place : ℕ × ℕ) (id : ℕ) → get registers place ≡ Some id → IsRegister place

-- entries of registers ascend, and the index is that of what they hold
pub record AreIndexed (held : List ((ℕ × ℕ) × ℕ)) (turned : List Pair) : Type 0 where
  pub rise : IsStrictlySortedBy place_cmp (keys_of held)
  pub index : IsTurned (from_entries held) turned
