-- Which number a reply shows.
use Rattle.std.specs.Prelude.{ℕ}
use Rattle.pm_types.specs.declared.reply.Reply.{Reply}
use Rattle.pm_types.specs.declared.reply.Reply.TheVariants.{Ident, Begun, Saved, Watching, Busy, Dropped, Held}

-- the number of an object, a copy or a watch, or 0
abbrev pub number_of : Reply → ℕ
number_of (Ident number) = number
number_of (Begun number) = number
number_of (Saved number) = number
number_of (Watching number) = number
number_of (Busy number) = number
number_of (Dropped number) = number
number_of (Held number) = number
number_of reply = 0
