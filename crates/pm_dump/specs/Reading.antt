-- Reading words and lines, as functions on lists: the value that is spelled, or nothing.
use Rattle.std.specs.Prelude.{ℕ, ◌==◌, ◌&&◌, List, [], ◌∷◌, length, Option, Some, None, codes, nat_lt, if◌then◌else◌}
use Rattle.std.specs.Option.{option_map}
use Rattle.std.specs.Cmp.Lexicographic.{pointwise}
use Rattle.std.specs.Str.Parse.{digits_value}
use Rattle.pm_types.specs.Options.{◌>>=◌}
use Rattle.pm_script.specs.Values.{is_numeral, hex_of, name_of}
use Rattle.pm_dump.specs.Dump.{DumpLine, HeadLine, ObjectLine, RootLine, EndLine}

-- the number that a word spells
abbrev pub numeral_at : List ℕ → Option ℕ
numeral_at word = if is_numeral word then Some (digits_value 10 word) else None

-- a number that is not 0
abbrev pub some_number : ℕ → Option ℕ
some_number number = if nat_lt 0 number then Some number else None

-- the identity that a word spells
abbrev pub id_at : List ℕ → Option ℕ
id_at word = numeral_at word >>= some_number

-- what a word says of a field
abbrev pub field_at : List ℕ → Option (Option ℕ)
field_at word = option_map some_number (numeral_at word)

-- what words say of fields
abbrev pub fields_at : List (List ℕ) → Option (List (Option ℕ))
fields_at [] = Some []
fields_at (word ∷ words) = field_at word >>= λ field. fields_at words >>= λ fields. Some (field ∷ fields)

-- an object of these fields and bytes, where there are as many fields as was said
abbrev pub counted_object : ℕ → ℕ → List ℕ → List (Option ℕ) → Option DumpLine
counted_object id count bytes fields = if length fields == count then Some (ObjectLine id (record { fields = fields; bytes = bytes })) else None

-- the words behind `object`
unfoldable pub object_at : List (List ℕ) → Option DumpLine
object_at (number ∷ count ∷ hex ∷ words) = id_at number >>= λ id. numeral_at count >>= λ count. hex_of hex >>= λ bytes. fields_at words >>= counted_object id count bytes
object_at words = None

-- the words behind `root`
unfoldable pub root_at : List (List ℕ) → Option DumpLine
root_at (word ∷ number ∷ []) = name_of word >>= λ name. id_at number >>= λ id. Some (RootLine name id)
root_at words = None

-- the words behind `end`
unfoldable pub end_at : List (List ℕ) → Option DumpLine
end_at [] = Some EndLine
end_at words = None

-- the words behind `pmos`
unfoldable pub head_at : List (List ℕ) → Option DumpLine
head_at (word ∷ version ∷ number ∷ []) =
    if pointwise ◌==◌ word (codes "dump") && pointwise ◌==◌ version (codes "1") then option_map HeadLine (id_at number) else None
head_at words = None

-- the line that words spell
unfoldable pub line_at : List (List ℕ) → Option DumpLine
line_at [] = None
line_at (word ∷ words) =
    if pointwise ◌==◌ word (codes "object") then object_at words
    else if pointwise ◌==◌ word (codes "root") then root_at words
    else if pointwise ◌==◌ word (codes "end") then end_at words
    else if pointwise ◌==◌ word (codes "pmos") then head_at words else None
