-- Dumps: what stands in one, the dump of a copy, and the lines of a dump with their text.
use Rattle.std.specs.Prelude.{ℕ, List, [], ◌∷◌, ◌++◌, map, length, Option, Some, None, codes, decimal}
use Rattle.std.specs.List.{flat_map, join_with_byte}
use Rattle.std.specs.FinMap.{entries, from_sorted}
use Rattle.pm_model.specs.Heap.{Object}
use Rattle.pm_model.specs.World.{Copy}
use Rattle.pm_model.specs.Text.{pairs}
use Rattle.pm_script.specs.Lines.{ended}

-- a dump: the next identity, objects with their identities, and names with the identities that they stand for
pub record Dump : Type 0 where
  pub next : ℕ
  pub objects : List (ℕ × Object)
  pub roots : List (List ℕ × ℕ)

-- the dump of a copy: its objects in ascending order of their identities, and its names in ascending order of their bytes
abbrev pub dump_of : Copy → Dump
dump_of copy = record { next = copy.next; objects = entries copy.heap; roots = entries copy.roots }

-- the copy with what stands in a dump, whose identities and names ascend
abbrev pub copy_of_dump : Dump → Copy
copy_of_dump dump = record { heap = from_sorted dump.objects; roots = from_sorted dump.roots; next = dump.next }

-- a line of a dump: the first one with the next identity, an object, a name with its identity, or the last one
pub data DumpLine : Type 0 where
  HeadLine : ℕ → DumpLine
  ObjectLine : ℕ → Object → DumpLine
  RootLine : List ℕ → ℕ → DumpLine
  EndLine : DumpLine

-- the lines of objects
abbrev pub object_lines : List (ℕ × Object) → List DumpLine
object_lines objects = map (λ e. ObjectLine e.0 e.1) objects

-- the lines of names
abbrev pub root_lines : List (List ℕ × ℕ) → List DumpLine
root_lines roots = map (λ e. RootLine e.0 e.1) roots

-- the lines of a dump, in order
abbrev pub dump_lines : Dump → List DumpLine
dump_lines dump = HeadLine dump.next ∷ (object_lines dump.objects ++ (root_lines dump.roots ++ EndLine ∷ []))

-- the word that is written for a field: 0 for null, or the identity
abbrev pub field_word : Option ℕ → List ℕ
field_word None = codes "0"
field_word (Some id) = decimal id

-- the words that are written for a line
abbrev pub line_words : DumpLine → List (List ℕ)
line_words (HeadLine next) = codes "pmos" ∷ codes "dump" ∷ codes "1" ∷ decimal next ∷ []
line_words (ObjectLine id object) = codes "object" ∷ decimal id ∷ decimal (length object.fields) ∷ pairs object.bytes ∷ map field_word object.fields
line_words (RootLine name id) = codes "root" ∷ name ∷ decimal id ∷ []
line_words EndLine = codes "end" ∷ []

-- what is written for a line: its words with one space between each two, and a newline
abbrev pub line_text : DumpLine → List ℕ
line_text line = ended (join_with_byte 32 (line_words line))

-- the text of a dump: that of each line, in order
abbrev pub dump_text_of : Dump → List ℕ
dump_text_of dump = flat_map line_text (dump_lines dump)
