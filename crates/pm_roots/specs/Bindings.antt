-- Names, each bound to a number of its own and to an address.
use Rattle.std.specs.Prelude.{◌≡◌, ℕ, ◌==◌, cond, List, [], ◌∷◌, Option, Some, None}
use Rattle.std.specs.FinMap.{FinMap, get, entries}
use Rattle.pm_types.specs.declared.address.Addr.{Addr}
use Rattle.pm_types.specs.Orders.{name_cmp}

-- the number and the address of each bound name
abbrev pub Bindings : Type 0
Bindings = FinMap name_cmp (ℕ × Addr)

-- the address of the first binding in the list that has the number
abbrev pub address_in : ℕ → List (List ℕ × (ℕ × Addr)) → Option Addr
address_in number [] = None
address_in number (e ∷ es) = cond (e.1.0 == number) (Some e.1.1) (address_in number es)

-- the address under a number
abbrev pub address_at : Bindings → ℕ → Option Addr
address_at bindings number = address_in number (entries bindings)

-- some name is bound to the number and the address
pub record IsBound (bindings : Bindings) (number : ℕ) (at : Addr) : Type 0 where
  pub name : List ℕ
  pub bound : get bindings name ≡ Some (number, at)

-- no name is bound to the number
abbrev pub IsFree : Bindings → ℕ → Type 0
IsFree bindings number = (name : List ℕ) (at : Addr) → get bindings name ≡ Some (number, at) → ⊥

-- no two names are bound to one number
abbrev pub AllNumbersDiffer : Bindings → Type 0
AllNumbersDiffer bindings = (p q : List ℕ) (number : ℕ) (a b : Addr) → get bindings p ≡ Some (number, a) → get bindings q ≡ Some (number, b) → p ≡ q

-- the number for a name: its own where it is bound, and else one that no name has
abbrev pub IsNumberFor : Option (ℕ × Addr) → Bindings → ℕ → Type 0
IsNumberFor None bindings number = IsFree bindings number
IsNumberFor (Some bound) bindings number = number ≡ bound.0

-- a binding in which this number has this address; another number keeps its own
abbrev pub with_address : ℕ → Addr → Option (ℕ × Addr) → Option (ℕ × Addr)
with_address number at None = None
with_address number at (Some bound) = Some (bound.0, cond (bound.0 == number) at bound.1)
