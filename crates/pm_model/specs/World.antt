-- The world that clients see: an object graph, its names and registers, and what was saved of it.
use Rattle.std.specs.Prelude.{◌≡◌, ◌≤◌, ℕ, ◌+◌, List, Option, Some, None, IfSome, nat_eq, not, refl}
use Rattle.std.specs.FinMap.{FinMap, get, insert, remove, retain_keys, empty, code}
use Rattle.std.specs.Coded.{Coded, code_by, coded×, coded_ℕ, coded_list, coded_option}
use Rattle.pm_types.specs.declared.limits.TheConstants.{LAST_COPY}
use Rattle.pm_types.specs.Orders.{name_cmp, place_cmp}
use Rattle.pm_model.specs.Heap.{Object, Heap, object_code}

-- the identity that each bound name stands for
abbrev pub Roots : Type 0
Roots = FinMap name_cmp ℕ

-- the identity that each register holds, at (client, register); an empty register has none
abbrev pub Registers : Type 0
Registers = FinMap place_cmp ℕ

-- what a checkpoint keeps: a heap, its roots, and the next identity
pub record Copy : Type 0 where
  pub heap : Heap
  pub roots : Roots
  pub next : ℕ

-- a copy with its number, or none
abbrev pub Saving : Type 0
Saving = Option (ℕ × Copy)

-- a copy is stored as the tuple of its parts
abbrev pub copy_code : Coded Copy
copy_code =
    code_by (Heap × (Roots × ℕ)) (coded× (code coded_ℕ object_code) (coded× (code (coded_list coded_ℕ) coded_ℕ) coded_ℕ))
    (λ c. (c.heap, (c.roots, c.next))) (λ p. record { heap = p.0; roots = p.1.0; next = p.1.1 }) (λ _. refl)

-- the copy of nothing
abbrev pub empty_copy : Copy
empty_copy = record { heap = empty; roots = empty; next = 1 }

-- A world: every object that was ever made, since none is ever taken away, the roots, the registers, the
-- next identity, the number and copy that settled last, those in progress, and how many watches are set.
pub record World : Type 0 where
  pub heap : Heap
  pub roots : Roots
  pub registers : Registers
  pub next : ℕ
  pub settled : ℕ
  pub settled_copy : Copy
  pub saving : Saving
  pub watches : ℕ

-- a world is stored as the tuple of its parts
abbrev pub world_code : Coded World
world_code =
    code_by (Heap × (Roots × (Registers × (ℕ × (ℕ × (Copy × (Option (ℕ × Copy) × ℕ)))))))
    (coded× (code coded_ℕ object_code) (coded× (code (coded_list coded_ℕ) coded_ℕ) (coded× (code (coded× coded_ℕ coded_ℕ) coded_ℕ)
    (coded× coded_ℕ (coded× coded_ℕ (coded× copy_code (coded× (coded_option (coded× coded_ℕ copy_code)) coded_ℕ)))))))
    (λ w. (w.heap, (w.roots, (w.registers, (w.next, (w.settled, (w.settled_copy, (w.saving, w.watches))))))))
    (λ p. record { heap = p.0; roots = p.1.0; registers = p.1.1.0; next = p.1.1.1.0; settled = p.1.1.1.1.0; settled_copy = p.1.1.1.1.1.0; saving = p.1.1.1.1.1.1.0; watches = p.1.1.1.1.1.1.1 })
    (λ _. refl)

-- the world in which a copy with this number has just been opened
abbrev pub begin : ℕ → Copy → World
begin number copy =
    record { heap = copy.heap; roots = copy.roots; registers = empty; next = copy.next; settled = number; settled_copy = copy; saving = None; watches = 0 }

-- the world in which nothing was ever made
abbrev pub empty_world : World
empty_world = begin 0 empty_copy

-- what a register of a client holds
abbrev pub held : World → ℕ → ℕ → Option ℕ
held world client reg = get world.registers (client, reg)

-- the world in which a register of a client holds this identity, and all else is the same
abbrev pub holding : World → ℕ → ℕ → ℕ → World
holding world client reg id = record world { registers = insert world.registers (client, reg) id }

-- the world in which a register of a client is empty, and all else is the same
abbrev pub emptying : World → ℕ → ℕ → World
emptying world client reg = record world { registers = remove world.registers (client, reg) }

-- the world in which all registers of a client are empty, and all else is the same
abbrev pub closing : World → ℕ → World
closing world client = record world { registers = retain_keys world.registers (λ place. not (nat_eq place.0 client)) }

-- the world in which this object has the next identity, and all else is the same
abbrev pub with_object : World → Object → World
with_object world object = record world { heap = insert world.heap world.next object; next = world.next + 1 }

-- the world in which this identity has another object, and all else is the same
abbrev pub changing : World → ℕ → Object → World
changing world id object = record world { heap = insert world.heap id object }

-- the world in which the name stands for this identity, and all else is the same
abbrev pub naming : World → List ℕ → ℕ → World
naming world name id = record world { roots = insert world.roots name id }

-- the world in which the name stands for nothing, and all else is the same
abbrev pub unbinding : World → List ℕ → World
unbinding world name = record world { roots = remove world.roots name }

-- the world in which this copy was begun under this number, and all else is the same
abbrev pub beginning : World → ℕ → Copy → World
beginning world number copy = record world { saving = Some (number, copy) }

-- the world in which this copy settled under this number, none is begun, and all else is the same
abbrev pub settling : World → ℕ → Copy → World
settling world number copy = record world { settled = number; settled_copy = copy; saving = None }

-- the world in which no copy is in progress, and all else is the same
abbrev pub dropping : World → World
dropping world = record world { saving = None }

-- the world in which one more watch is set, and all else is the same
abbrev pub watching : World → World
watching world = record world { watches = world.watches + 1 }

-- no number of a copy is over the last one, and the copy in progress has the number after the one that settled last
abbrev pub IsNumbered : World → Type 0
IsNumbered world = (world.settled ≤ LAST_COPY) × IfSome world.saving (λ begun. (begun.0 ≡ world.settled + 1) × (begun.0 ≤ LAST_COPY))
