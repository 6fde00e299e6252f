-- Replies that show bytes.
use Rattle.std.specs.Prelude.{◌≤◌, Bool, true, false, length}
use Rattle.pm_types.specs.declared.limits.TheConstants.{OBJECT_BYTES}
use Rattle.pm_types.specs.declared.reply.Reply.{Reply}
use Rattle.pm_types.specs.declared.reply.Reply.TheVariants.{Shown}

-- the bytes that a reply shows are those of an object
abbrev pub IsShortReply : Reply → Type 0
IsShortReply (Shown bytes) = length bytes ≤ OBJECT_BYTES
IsShortReply reply = Unit {0}

-- the reply shows bytes
abbrev pub is_shown : Reply → Bool
is_shown (Shown bytes) = true
is_shown reply = false
