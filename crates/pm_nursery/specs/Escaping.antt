-- Which young objects escape at a command, and which identities are young after it.
use Rattle.std.specs.Prelude.{◌≡◌, ℕ, Bool, true, false, not, ◌&&◌, ◌||◌, nat_eq, nat_le, List, Option, Some, None}
use Rattle.std.specs.Prelude.{IsTrue, is_some}
use Rattle.std.specs.FinMap.{get, insert, len}
use Rattle.std.specs.List.Sorted.{IsStrictlySortedBy}
use Rattle.std.specs.Ordering.{nat_cmp}
use Rattle.pm_types.specs.declared.command.Cmd.{Cmd}
use Rattle.pm_types.specs.declared.command.Cmd.TheVariants.{New, Store, Swap, Bind}
use Rattle.pm_model.specs.Heap.{Object, Heap, with_field}
use Rattle.pm_model.specs.World.{World, held}
use Rattle.pm_model.specs.Reachability.{IsReachable}
use Rattle.pm_model.specs.Answer.{answer, is_refusal}
use Rattle.pm_model.specs.Frames.{makes_object}
use Rattle.pm_nursery.specs.Young.{NurseryView, IsHeldYoung}
use Rattle.pm_nursery.specs.Sweeping.{among}
use Rattle.pm_nursery.specs.Joined.{IsJoined}
use Rattle.pm_nursery.specs.declared.limits.TheConstants.{YOUNG}

-- the identities ascend, each once
abbrev pub IsAscending : List ℕ → Type 0
IsAscending ids = IsStrictlySortedBy nat_cmp ids

-- the nursery has as many objects as it can have
abbrev pub is_full : NurseryView → Bool
is_full nursery = nat_le YOUNG (len nursery.objects)

-- these objects, where the field of this one is null
abbrev pub nulled : Heap → ℕ → ℕ → Option Object → Heap
nulled objects id index None = objects
nulled objects id index (Some object) = insert objects id (with_field object index None)

-- What escapes where a field of an object gets a value, by whether the one and the other is young. Where the value
-- alone is young it is what is joined to it. Where the object alone is, it is what is joined to that where the field is
-- null: the field's old value does not count.
abbrev pub SetEscapes : Heap → ℕ → ℕ → ℕ → Bool → Bool → ℕ → Type 0
SetEscapes objects object index value false false id = ⊥
SetEscapes objects object index value false true id = IsJoined objects value id
SetEscapes objects object index value true false id =
    IsJoined (nulled objects object index (get objects object)) object id
SetEscapes objects object index value true true id = ⊥

-- what escapes where a field of the object that one register holds gets what the other holds
abbrev pub StoreEscapes : Heap → ℕ → Option ℕ → Option ℕ → ℕ → Type 0
StoreEscapes objects index None value id = ⊥
StoreEscapes objects index (Some object) None id = ⊥
StoreEscapes objects index (Some object) (Some value) id =
    SetEscapes objects object index value (is_some (get objects object)) (is_some (get objects value)) id

-- what escapes where a name is bound to what the register holds
abbrev pub BindEscapes : Heap → Option ℕ → ℕ → Type 0
BindEscapes objects None id = ⊥
BindEscapes objects (Some object) id = IsTrue (is_some (get objects object)) × IsJoined objects object id

-- the command sets a field of the object that the first register holds to what the second holds
abbrev pub SetsField : Cmd → ℕ → ℕ → ℕ → Type 0
SetsField (Store reg index value) one place other = (reg ≡ one) × (index ≡ place) × (value ≡ other)
SetsField (Swap reg index old value) one place other = (reg ≡ one) × (index ≡ place) × (value ≡ other)
SetsField cmd one place other = ⊥

-- what the command lets escape, where it is not refused
abbrev pub LetsEscape : World → NurseryView → ℕ → Cmd → ℕ → Type 0
LetsEscape world nursery client (Store reg index value) id =
    StoreEscapes nursery.objects index (held world client reg) (held world client value) id
LetsEscape world nursery client (Swap reg index old value) id =
    StoreEscapes nursery.objects index (held world client reg) (held world client value) id
LetsEscape world nursery client (Bind name reg) id = BindEscapes nursery.objects (held world client reg) id
LetsEscape world nursery client (New reg count bytes) id =
    IsTrue (is_full nursery) × IsReachable nursery.objects (IsHeldYoung nursery) id
LetsEscape world nursery client cmd id = ⊥

-- the young object escapes at the command
abbrev pub Escapes : World → NurseryView → ℕ → Cmd → ℕ → Type 0
Escapes world nursery client cmd id =
    (is_refusal cmd (answer world client cmd).0 ≡ false) × LetsEscape world nursery client cmd id

-- these are the identities that escape at the command, ascending
pub record AreEscaping (world : World) (nursery : NurseryView) (client : ℕ) (cmd : Cmd) (ids : List ℕ) : Type 0 where
  pub ascending : IsAscending ids
  pub each : (id : ℕ) → among ids id ≡ true → Escapes world nursery client cmd id
  pub all : (id : ℕ) → Escapes world nursery client cmd id → among ids id ≡ true

-- the command makes an object
abbrev pub bears : World → ℕ → Cmd → Bool
bears world client cmd = makes_object cmd && not (is_refusal cmd (answer world client cmd).0)

-- it does so in a full nursery, which is swept first
abbrev pub sweeps : World → NurseryView → ℕ → Cmd → Bool
sweeps world nursery client cmd = bears world client cmd && is_full nursery

-- the identity is young before the command, and stays so: it does not escape, and nothing is swept
abbrev pub stays_young : World → NurseryView → ℕ → Cmd → List ℕ → ℕ → Bool
stays_young world nursery client cmd escaped id =
    not (sweeps world nursery client cmd) && (is_some (get nursery.objects id) && not (among escaped id))

-- the identity is young after the command, at which these escape: it stays so, or is born
abbrev pub young_then : World → NurseryView → ℕ → Cmd → List ℕ → ℕ → Bool
young_then world nursery client cmd escaped id =
    stays_young world nursery client cmd escaped id || (bears world client cmd && nat_eq id world.next)
