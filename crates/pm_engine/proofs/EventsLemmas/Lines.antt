-- Entries whose text is a line: those of a journal with one more, and that there is one proof of it at most.
use Rattle.std.proofs.Common.{◌<◌, ◌≤◌, ℕ, List, [], ◌∷◌, ◌++◌}
use Rattle.std.specs.List.{AllByRecursion, AllByRecursion-prop}
use Rattle.std.proofs.Props.{props}
use Rattle.pm_types.specs.declared.limits.TheConstants.{CLIENTS}
use Rattle.pm_types.specs.declared.entry.Entry.{Entry}
use Rattle.pm_types.specs.declared.reply.Reply.{Reply}
use Rattle.pm_types.specs.declared.reply.Reply.TheVariants.{Shown}
use Rattle.pm_types.specs.Replies.{IsShortReply}
use Rattle.pm_engine.specs.Events.Events.{FitsLine}

-- each entry's text is a line, also that of one more
pub told_more : (journal : List Entry) (entry : Entry) → AllByRecursion FitsLine journal → FitsLine entry → AllByRecursion FitsLine (journal ++ entry ∷ [])
told_more [] entry told fits = (fits, tt)
told_more (first ∷ journal) entry told fits = (told.0, told_more journal entry told.1 fits)

within_once : (a b : ℕ) → IsProp (a ≤ b)
within_once a b = hlevel props

below_once : (a b : ℕ) → IsProp (a < b)
below_once a b = hlevel props

short_once : (reply : Reply) → IsProp (IsShortReply reply)
short_once (Shown bytes) = within_once _ _
short_once reply = hlevel props

fits_once : (entry : Entry) → IsProp (FitsLine entry)
fits_once entry = let below = below_once entry.client CLIENTS in let short = short_once entry.reply in hlevel (props, below, short)

pub told_once : (journal : List Entry) → IsProp (AllByRecursion FitsLine journal)
told_once journal = AllByRecursion-prop FitsLine fits_once journal
