-- The part of a young world that answers a command: the world within, or the young objects alone.
use Rattle.std.specs.Prelude.{ℕ, Bool, true, false, not, ◌&&◌, ◌||◌, nat_eq, if◌then◌else◌, Option, Some, None}
use Rattle.std.specs.FinMap.{get, retain_keys}
use Rattle.pm_types.specs.declared.command.Cmd.{Cmd}
use Rattle.pm_types.specs.declared.command.Cmd.TheVariants.{New, Load, Store, Clear, Show, Put, Copy, IdOf, Forget}
use Rattle.pm_types.specs.declared.command.Cmd.TheVariants.{Bind, Close, Swap}
use Rattle.pm_types.specs.declared.reply.Reply.{Reply}
use Rattle.pm_model.specs.Heap.{Object}
use Rattle.pm_model.specs.World.{World, Registers}
use Rattle.pm_model.specs.Answer.{is_refusal}
use Rattle.pm_model.specs.Frames.{sets_register}
use Rattle.pm_nursery.specs.Young.{NurseryView, or_else}

-- the command reads what this register of its client holds
abbrev pub reads_register : Cmd → ℕ → Bool
reads_register (Load to reg index) register = nat_eq reg register
reads_register (Store reg index value) register = nat_eq reg register || nat_eq value register
reads_register (Clear reg index) register = nat_eq reg register
reads_register (Show reg) register = nat_eq reg register
reads_register (Put reg at bytes) register = nat_eq reg register
reads_register (Copy to reg) register = nat_eq reg register
reads_register (IdOf reg) register = nat_eq reg register
reads_register (Forget reg) register = nat_eq reg register
reads_register (Bind name reg) register = nat_eq reg register
reads_register (Swap reg index old value) register =
    nat_eq reg register || (nat_eq old register || nat_eq value register)
reads_register cmd register = false

-- the command needs no more than registers and objects: it reads, sets or empties them, or makes one
abbrev pub is_of_objects : Cmd → Bool
is_of_objects (New reg count bytes) = true
is_of_objects (Load to reg index) = true
is_of_objects (Store reg index value) = true
is_of_objects (Clear reg index) = true
is_of_objects (Show reg) = true
is_of_objects (Put reg at bytes) = true
is_of_objects (Copy to reg) = true
is_of_objects (IdOf reg) = true
is_of_objects (Forget reg) = true
is_of_objects Close = true
is_of_objects (Swap reg index old value) = true
is_of_objects cmd = false

-- the registers without those of the client that the command sets, unless the reply refuses it
abbrev pub unset : Registers → ℕ → Cmd → Reply → Registers
unset registers client cmd reply =
    if is_refusal cmd reply then registers
    else retain_keys registers (λ place. not (sets_register cmd place.1 && nat_eq place.0 client))

-- the world of the young objects and of the nursery's registers alone
abbrev pub young_alone : World → NurseryView → World
young_alone world nursery = record world { heap = nursery.objects; registers = nursery.registers }

-- the objects and the registers of a world
abbrev pub nursery_of : World → NurseryView
nursery_of world = record { objects = world.heap; registers = world.registers }

-- what the register holds in the nursery, or else within
abbrev pub held_in_either : World → NurseryView → ℕ → ℕ → Option ℕ
held_in_either within nursery client reg =
    or_else (get nursery.registers (client, reg)) (get within.registers (client, reg))

-- the first, or else the second
abbrev pub object_or_else : Option Object → Option Object → Option Object
object_or_else None other = other
object_or_else (Some object) other = Some object

-- the object of the identity, which is young or else within
abbrev pub object_in_either : World → NurseryView → ℕ → Option Object
object_in_either within nursery id = object_or_else (get nursery.objects id) (get within.heap id)
