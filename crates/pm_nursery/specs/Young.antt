-- Young worlds: what a world within and a nursery stand for together.
use Rattle.std.specs.Prelude.{◌≡◌, ◌<◌, ◌≤◌, ℕ, if◌then◌else◌, List, length, Option, Some, None, IsSome, is_some, refl}
use Rattle.std.specs.FinMap.{get, len, empty, code}
use Rattle.std.specs.Coded.{Coded, code_by, coded×, coded_ℕ}
use Rattle.pm_types.specs.declared.limits.TheConstants.{CLIENTS, REGISTERS, FIELDS, OBJECT_BYTES}
use Rattle.pm_model.specs.Heap.{Object, Heap, Holds, object_code}
use Rattle.pm_model.specs.World.{World, Registers}
use Rattle.pm_nursery.specs.declared.limits.TheConstants.{YOUNG}

-- young objects, and the registers that hold one
pub record NurseryView : Type 0 where
  pub objects : Heap
  pub registers : Registers

-- a nursery is stored as the pair of its parts
abbrev pub nursery_code : Coded NurseryView
nursery_code = code_by (Heap × Registers) (coded× (code coded_ℕ object_code) (code (coded× coded_ℕ coded_ℕ) coded_ℕ))
    (λ n. (n.objects, n.registers)) (λ p. record { objects = p.0; registers = p.1 }) (λ _. refl)

-- the nursery of nothing
abbrev pub no_nursery : NurseryView
no_nursery = record { objects = empty; registers = empty }

-- one of its registers holds the identity
abbrev pub IsHeldYoung : NurseryView → ℕ → Type 0
IsHeldYoung nursery id = (place : ℕ × ℕ) × (get nursery.registers place ≡ Some id)

-- an object is within the limits
abbrev pub IsSmall : Object → Type 0
IsSmall object = (length object.fields ≤ FIELDS) × (length object.bytes ≤ OBJECT_BYTES)

-- this is the place of a register of a client
abbrev pub IsRegister : ℕ × ℕ → Type 0
IsRegister place = (place.0 < CLIENTS) × (place.1 < REGISTERS)

-- There are few young objects, each within the limits, and what a field or a register names is one of them. Each
-- register is one that a client has.
pub record IsNursery (nursery : NurseryView) : Type 0 where
  pub few : len nursery.objects ≤ YOUNG
  pub small : (id : ℕ) (object : Object) → get nursery.objects id ≡ Some object → IsSmall object
  pub closed : (from to : ℕ) → Holds nursery.objects from to → IsSome (get nursery.objects to)
  pub places : (place : ℕ × ℕ) (id : ℕ) → get nursery.registers place ≡ Some id → IsRegister place
  pub held : (id : ℕ) → IsHeldYoung nursery id → IsSome (get nursery.objects id)

-- the first, or else the second
abbrev pub or_else : Option ℕ → Option ℕ → Option ℕ
or_else None other = other
or_else (Some id) other = Some id

-- A world within, the one for which a space stands, and a nursery stand together for a world. All but heap and
-- registers is the same. A register holds what it holds in the nursery, or else within, and one that the nursery has is
-- empty within. Each object within and each young one is the world's, and no identity is both. What a root, a register
-- or a field within names is an object within.
pub record IsYoung (within : World) (nursery : NurseryView) (world : World) : Type 0 where
  pub rest : within ≡ record world { heap = within.heap; registers = within.registers }
  pub registers : (place : ℕ × ℕ)
      → get world.registers place ≡ or_else (get nursery.registers place) (get within.registers place)
  pub vacant : (place : ℕ × ℕ) (id : ℕ) → get nursery.registers place ≡ Some id → get within.registers place ≡ None
  pub inside : (id : ℕ) (object : Object) → get within.heap id ≡ Some object → get world.heap id ≡ Some object
  pub young : (id : ℕ) (object : Object) → get nursery.objects id ≡ Some object → get world.heap id ≡ Some object
  pub apart : (id : ℕ) → IsSome (get nursery.objects id) → get within.heap id ≡ None
  pub roots : (name : List ℕ) (id : ℕ) → get within.roots name ≡ Some id → IsSome (get within.heap id)
  pub held : (place : ℕ × ℕ) (id : ℕ) → get within.registers place ≡ Some id → IsSome (get within.heap id)
  pub fields : (from to : ℕ) → Holds within.heap from to → IsSome (get within.heap to)

-- what a register holds that holds a young object, and none else
abbrev pub if_young : Heap → Option ℕ → Option ℕ
if_young objects None = None
if_young objects (Some id) = if is_some (get objects id) then Some id else None
