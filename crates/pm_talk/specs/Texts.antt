-- The lines that are told.
use Rattle.std.specs.Prelude.{ℕ, List, [], ◌∷◌, ◌++◌, Option, Some, None, option_map, codes, decimal, map, nat_eq, slice_get, if◌then◌else◌}
use Rattle.std.specs.FinMap.{entries, get}
use Rattle.std.specs.Option.{option_and_then}
use Rattle.pm_types.specs.declared.event.WatchLine.{WatchLine}
use Rattle.pm_script.specs.declared.fault.Cause.{Cause}
use Rattle.pm_script.specs.declared.fault.Cause.TheVariants as cause
use Rattle.pm_model.specs.Text.{end_line, watch_line}
use Rattle.pm_model.specs.World.{World, held}
use Rattle.pm_dump.specs.Dump.{line_text, ObjectLine, RootLine}
use Rattle.pm_engine.specs.Shown.{Total}

-- the greeting, with the number of the copy that was opened
abbrev pub greeting : ℕ → List ℕ
greeting number = codes "pmos talk 1 " ++ decimal number ++ codes "\n"

-- the word for what is wrong with a line
abbrev pub cause_word : Cause → List ℕ
cause_word cause.LineTooLong = codes "too-long"
cause_word cause.Client = codes "client"
cause_word cause.Word = codes "word"
cause_word cause.Count = codes "count"
cause_word cause.Number = codes "number"
cause_word cause.Hex = codes "hex"
cause_word cause.Name = codes "name"

abbrev pub fault_line : Cause → List ℕ
fault_line cause = codes "? " ++ cause_word cause ++ codes "\n"

abbrev pub no_memory_line : List ℕ
no_memory_line = codes "? no-memory\n"

abbrev pub disk_fault_line : List ℕ
disk_fault_line = codes "? disk-fault\n"

abbrev pub cut_line : List ℕ
cut_line = codes "? cut\n"

-- so many collections were completed
abbrev pub gc_line : ℕ → List ℕ
gc_line completed = codes "! gc " ++ decimal completed ++ codes "\n"

-- so many pages were written
abbrev pub flush_line : ℕ → List ℕ
flush_line wrote = codes "! flush " ++ decimal wrote ++ codes "\n"

-- the line behind an exclamation mark
abbrev pub marked : List ℕ → List ℕ
marked line = codes "! " ++ line

-- the line of a dump for what a register of a client holds in a world, if it holds anything
abbrev pub held_line : World → ℕ → ℕ → Option (List ℕ)
held_line world client reg = option_and_then (λ id. option_map (λ object. line_text (ObjectLine id object)) (get world.heap id)) (held world client reg)

-- the line of a dump for the name at this place, from 0, in ascending order of bytes, if there are as many
abbrev pub named_line : World → ℕ → Option (List ℕ)
named_line world place = option_map (λ root. line_text (RootLine root.0 root.1)) (slice_get (entries world.roots) place)

-- the object's line, or that there is none
abbrev pub look_line : Option (List ℕ) → List ℕ
look_line None = codes "! no-handle\n"
look_line (Some line) = marked line

-- the name's line, or that there is none
abbrev pub name_line : Option (List ℕ) → List ℕ
name_line None = codes "! no-root\n"
name_line (Some line) = marked line

-- the watch's line, or that there is none
abbrev pub watch_told : Option WatchLine → List ℕ
watch_told None = codes "! no-watch\n"
watch_told (Some line) = marked (watch_line line)

-- the line of the watch of this number, if there is one
abbrev pub line_numbered : ℕ → List WatchLine → Option WatchLine
line_numbered number [] = None
line_numbered number (line ∷ lines) = if nat_eq line.number number then Some line else line_numbered number lines

-- the end line of what an engine came to
abbrev pub end_of : Total → List ℕ
end_of total = end_line total.steps total.completed total.standing

-- the lines at the end: the end line, and one for each watch
abbrev pub last_lines : Total → List (List ℕ)
last_lines total = end_of total ∷ map watch_line total.lines
