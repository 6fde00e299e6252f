-- The nursery after one step: an object or a register of it is another, and all else is the same.
use Rattle.std.specs.Prelude.{ℕ, not, nat_eq, Contains, Some, IsSome}
use Rattle.std.specs.FinMap.{get, insert, remove, retain_keys}
use Rattle.pm_model.specs.Heap.{Object, Heap}
use Rattle.pm_nursery.specs.Young.{NurseryView}

-- this identity has another object
abbrev pub young_changing : NurseryView → ℕ → Object → NurseryView
young_changing nursery id object = record nursery { objects = insert nursery.objects id object }

-- this register of a client holds the identity
abbrev pub young_holding : NurseryView → ℕ → ℕ → ℕ → NurseryView
young_holding nursery client reg id = record nursery { registers = insert nursery.registers (client, reg) id }

-- this register is not the nursery's
abbrev pub young_forgetting : NurseryView → ℕ → ℕ → NurseryView
young_forgetting nursery client reg = record nursery { registers = remove nursery.registers (client, reg) }

-- no register of the client is
abbrev pub young_closing : NurseryView → ℕ → NurseryView
young_closing nursery client =
    record nursery { registers = retain_keys nursery.registers (λ place. not (nat_eq place.0 client)) }

-- what the fields of an object name is there
abbrev pub Names : Heap → Object → Type 0
Names heap object = (to : ℕ) → Contains object.fields (Some to) → IsSome (get heap to)
