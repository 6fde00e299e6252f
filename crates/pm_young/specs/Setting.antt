-- The registers that a command sets, and what is left of a part where they are not its own any more.
use Rattle.std.specs.Prelude.{◌≡◌, ℕ, Bool, true, false, nat_eq, not, if◌then◌else◌, IsSome, None}
use Rattle.std.specs.FinMap.{get, remove, retain_keys}
use Rattle.pm_types.specs.declared.command.Cmd.{Cmd}
use Rattle.pm_types.specs.declared.command.Cmd.TheVariants.{New, Load, Copy, Forget, Find, Close}
use Rattle.pm_types.specs.declared.reply.Reply.{Reply}
use Rattle.pm_model.specs.World.{World, Registers}
use Rattle.pm_model.specs.Answer.{is_refusal}
use Rattle.pm_view.specs.View.{SpaceView}
use Rattle.pm_view.specs.Represents.{Represents}
use Rattle.pm_nursery.specs.Young.{NurseryView}
use Rattle.pm_nursery.specs.Answering.{reads_register, unset}
use Rattle.pm_young.specs.declared.setting.Sets.{Sets}
use Rattle.pm_young.specs.declared.setting.Sets.TheVariants.{Nothing, One, All}

-- the registers that the command sets or empties
abbrev pub sets_of : Cmd → Sets
sets_of (New reg count bytes) = One reg
sets_of (Load to reg index) = One to
sets_of (Copy to reg) = One to
sets_of (Forget reg) = One reg
sets_of (Find to name) = One to
sets_of Close = All
sets_of cmd = Nothing

-- registers of clients without these of one client
abbrev pub without_set : Sets → ℕ → Registers → Registers
without_set Nothing client registers = registers
without_set (One reg) client registers = remove registers (client, reg)
without_set All client registers = retain_keys registers (λ place. not (nat_eq place.0 client))

-- the reply refuses every command but `swap`; null refuses that alone
abbrev pub refuses : Reply → Bool
refuses reply = is_refusal Close reply

-- each register that the command reads holds a young object
abbrev pub ReadsYoung : NurseryView → ℕ → Cmd → Type 0
ReadsYoung nursery client cmd =
    (register : ℕ) → reads_register cmd register ≡ true → IsSome (get nursery.registers (client, register))

-- none of them does
abbrev pub ReadsNone : NurseryView → ℕ → Cmd → Type 0
ReadsNone nursery client cmd =
    (register : ℕ) → reads_register cmd register ≡ true → get nursery.registers (client, register) ≡ None

-- the nursery without these registers of the client
abbrev pub nursery_without : NurseryView → Sets → ℕ → NurseryView
nursery_without nursery sets client = record nursery { registers = without_set sets client nursery.registers }

-- each world for which the space stands is without them
abbrev pub LeavesWithout : SpaceView → Sets → ℕ → SpaceView → Type 0
LeavesWithout view sets client after =
    (within : World) → Represents view within
    → Represents after (record within { registers = without_set sets client within.registers })

-- what the command leaves of the nursery's registers, where its reply is this
abbrev pub nursery_unset : NurseryView → ℕ → Cmd → Reply → NurseryView
nursery_unset nursery client cmd reply = record nursery { registers = unset nursery.registers client cmd reply }

-- each world for which the space stands is without the registers that the command sets, unless its reply refuses it
abbrev pub LeavesUnset : SpaceView → ℕ → Cmd → Reply → SpaceView → Type 0
LeavesUnset view client cmd reply after =
    (within : World) → Represents view within
    → Represents after (record within { registers = unset within.registers client cmd reply })
