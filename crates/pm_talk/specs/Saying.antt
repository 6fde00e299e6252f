-- What is told of an answer that a conversation has ready.
use Rattle.std.specs.Prelude.{◌≡◌, ℕ, ◌<◌, ◌≤◌, List, [], ◌∷◌, ◌++◌, length, take, Option, Some, None, Result}
use Rattle.pm_types.specs.declared.command.Cmd.{Cmd}
use Rattle.pm_types.specs.declared.entry.Entry.{Entry}
use Rattle.pm_types.specs.declared.fault.EngineFault.{EngineFault}
use Rattle.pm_types.specs.declared.fault.EngineFault.TheVariants.{Memory, Disk, Reopen}
use Rattle.pm_types.specs.declared.limits.TheConstants.{CLIENTS, REGISTERS}
use Rattle.pm_types.specs.declared.reply.Reply.{Reply}
use Rattle.pm_types.specs.Replies.{IsShortReply}
use Rattle.pm_disk.specs.declared.disk.Disk.{Ghosts}
use Rattle.pm_script.specs.declared.fault.Cause.{Cause}
use Rattle.pm_script.specs.declared.line.Line.TheVariants.{Client}
use Rattle.pm_peer.specs.declared.asked.Asked.{Asked}
use Rattle.pm_peer.specs.declared.asked.Asked.TheVariants.{Line, Look}
use Rattle.pm_saving.specs.Serving.{Serving}
use Rattle.pm_saving.specs.Events.{Serves}
use Rattle.pm_engine.specs.declared.engine.Engine.{Engine}
use Rattle.pm_engine.specs.declared.events.stop.Stop.{Stop}
use Rattle.pm_engine.specs.declared.events.stop.Stop.TheVariants.{Device}
use Rattle.pm_engine.specs.Shown.{recent, serving}
use Rattle.pm_engine.specs.Works.Acting.{ChangesSpace}
use Rattle.pm_talk.specs.declared.answer.Saying.{Saying}
use Rattle.pm_talk.specs.declared.answer.Saying.TheVariants.{Reply as Replied, Short, Text}
use Rattle.pm_talk.specs.Replies.{FailsDisk, Says}
use Rattle.pm_talk.specs.Texts.{no_memory_line}

-- the line that is told, where these bytes are in the buffer of reply lines
abbrev pub told_by : List ℕ → Saying → List ℕ
told_by buffer (Replied bytes due) = take bytes buffer
told_by buffer (Short line) = line.items
told_by buffer (Text line) = line.items

-- how many events of the collector are due behind it
abbrev pub due_by : Saying → ℕ
due_by (Replied bytes due) = due
due_by saying = 0

-- a reply line is within the buffer
abbrev pub IsWithin : List ℕ → Saying → Type 0
IsWithin buffer (Replied bytes due) = bytes ≤ length buffer
IsWithin buffer saying = Unit {0}

-- This line is told, whatever is in the buffer, and nothing is due behind it.
pub record Tells (line : List ℕ) (saying : Saying) : Type 0 where
  pub told : (buffer : List ℕ) → told_by buffer saying ≡ line
  pub none : due_by saying ≡ 0
  pub within : (buffer : List ℕ) → IsWithin buffer saying

-- the answer to what a line asks, and the engine then
pub record SaysBy (events : ℕ) (asked : Result Asked Cause) (old new : Serving) (buffer : List ℕ) (saying : Saying) : Type 0 where
  pub says : Says events asked old new (told_by buffer saying) (due_by saying)
  pub within : IsWithin buffer saying

-- an answer is ready; or the disk failed, and there is none
abbrev pub IsReady : ℕ → Result Asked Cause → Serving → Serving → List ℕ → Option Saying → Type 0
IsReady events asked old new buffer None = FailsDisk asked old new
IsReady events asked old new buffer (Some saying) = SaysBy events asked old new buffer saying

-- what is said of a fault of the engine: that memory ran out; or nothing, since the disk failed
abbrev pub SaysFault : EngineFault → Option Saying → Type 0
SaysFault (Memory _) (Some (Short line)) = line.items ≡ no_memory_line
SaysFault (Disk before after) None = Unit {0}
SaysFault (Reopen count) None = Unit {0}
SaysFault fault saying = ⊥

-- the conversation stops where there is none
abbrev pub stop_by : Option Saying → Option Stop
stop_by None = Some Device
stop_by (Some saying) = None

module _ {D : Type 0} {F : Type 0} {g : Ghosts D} where
  -- A command was answered, and its entry is the last of those that are kept.
  pub record AddsLast (client : ℕ) (cmd : Cmd) (old new : Engine D F g) : Type 0 where
    pub reply : Reply
    pub serves : Serves client cmd (serving old) (serving new) reply
    pub space : ChangesSpace client cmd (serving old).view (serving new).view reply
    pub short : IsShortReply reply
    pub entries : List Entry
    pub last : recent new ≡ entries ++ record { client = client; cmd = cmd; reply = reply } ∷ []

-- the numbers of what is asked are those of clients and of registers
abbrev pub IsAskable : Asked → Type 0
IsAskable (Line (Client client cmd)) = client < CLIENTS
IsAskable (Look client reg) = (client < CLIENTS) × (reg < REGISTERS)
IsAskable asked = Unit {0}
