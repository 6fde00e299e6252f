-- What is written of a journal.
use Rattle.std.specs.Prelude.{ℕ, List, [], ◌∷◌, ◌++◌, codes, decimal}
use Rattle.std.specs.List.{flat_map}
use Rattle.hex.specs.Hex.{encode_lower}
use Rattle.pm_types.specs.declared.entry.Entry.{Entry}
use Rattle.pm_types.specs.declared.event.WatchLine.{WatchLine}
use Rattle.pm_types.specs.declared.reply.Reply.{Reply}
use Rattle.pm_types.specs.declared.reply.Reply.TheVariants.{Done, Ident, Null, Shown, Begun, Saved, Watching, TooLarge, IdsSpent, NoHandle, NoField, OutOfRange, TooManyRoots, NoRoot, Busy, SavesSpent, Idle, TooManyWatches, Dropped, Held}

-- bytes as pairs of lower-case hexadecimal digits, or a dash for none
abbrev pub pairs : List ℕ → List ℕ
pairs [] = codes "-"
pairs (byte ∷ bytes) = encode_lower (byte ∷ bytes)

-- a reply in words
abbrev pub reply_words : Reply → List ℕ
reply_words Done = codes "ok"
reply_words (Ident id) = codes "ok " ++ decimal id
reply_words Null = codes "null"
reply_words (Shown bytes) = pairs bytes
reply_words (Begun number) = codes "begun " ++ decimal number
reply_words (Saved number) = codes "saved " ++ decimal number
reply_words (Watching number) = codes "watching " ++ decimal number
reply_words TooLarge = codes "too-large"
reply_words IdsSpent = codes "ids-spent"
reply_words NoHandle = codes "no-handle"
reply_words NoField = codes "no-field"
reply_words OutOfRange = codes "out-of-range"
reply_words TooManyRoots = codes "too-many-roots"
reply_words NoRoot = codes "no-root"
reply_words (Busy number) = codes "busy " ++ decimal number
reply_words SavesSpent = codes "saves-spent"
reply_words Idle = codes "idle"
reply_words TooManyWatches = codes "too-many-watches"
reply_words (Dropped number) = codes "dropped " ++ decimal number
reply_words (Held id) = codes "held " ++ decimal id

-- the line of an entry: the client, a space, the reply, a newline
abbrev pub reply_line : Entry → List ℕ
reply_line entry = decimal entry.client ++ codes " " ++ reply_words entry.reply ++ codes "\n"

-- the text of a journal: the line of each entry, in order
abbrev pub text : List Entry → List ℕ
text journal = flat_map reply_line journal

-- the line at the end of a run: how many events of the collector were made, how many collections were completed, and how
-- many objects stand
abbrev pub end_line : ℕ → ℕ → ℕ → List ℕ
end_line steps completed standing = codes "end " ++ decimal steps ++ codes " " ++ decimal completed ++ codes " " ++ decimal standing ++ codes "\n"

-- the line of a watch
abbrev pub watch_line : WatchLine → List ℕ
watch_line line = codes "watch " ++ decimal line.number ++ codes " bound " ++ decimal line.bound ++ codes " done " ++ decimal line.done ++ codes " old " ++ decimal line.old ++ codes "\n"

-- the lines behind the replies: the end line, and that of each watch, in order
abbrev pub tail : ℕ → ℕ → ℕ → List WatchLine → List ℕ
tail steps completed standing lines = end_line steps completed standing ++ flat_map watch_line lines
