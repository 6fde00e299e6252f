-- The roots of a space while they are bound one after another.
use Rattle.std.specs.Prelude.{ℕ, List, [], ◌∷◌}
use Rattle.std.specs.FinMap.{FinMap, insert}
use Rattle.pm_types.specs.Mapped.{mapped}
use Rattle.pm_types.specs.declared.address.Addr.{Addr}
use Rattle.pm_types.specs.Orders.{name_cmp}
use Rattle.pm_roots.specs.Bindings.{Bindings}

-- the address of each name
abbrev pub Addresses : Type 0
Addresses = FinMap name_cmp Addr

-- those of names that are bound
abbrev pub addresses : Bindings → Addresses
addresses roots = mapped (λ (bound : ℕ × Addr). bound.1) roots

-- addresses with those of these roots put over them, in order
abbrev pub with_named : Addresses → List (List ℕ × Addr) → Addresses
with_named names [] = names
with_named names (root ∷ others) = with_named (insert names root.0 root.1) others
