-- Which words and lines spell what, with numbers that have no limit. Nothing here says which line may stand where.
use Rattle.std.specs.Prelude.{◌≡◌, ℕ, ◌≤◌, true, List, [], ◌∷◌, length, nat_eq, Option, Some, None, codes}
use Rattle.std.specs.List.{slice_split}
use Rattle.std.specs.Str.Parse.{digits_value}
use Rattle.pm_types.specs.Names.{IsName}
use Rattle.pm_model.specs.Heap.{Object}
use Rattle.pm_script.specs.Lines.{words_of}
use Rattle.pm_script.specs.Values.{is_numeral}
use Rattle.pm_script.specs.Words.{IsHexWord}
use Rattle.pm_dump.specs.Dump.{Dump, DumpLine, HeadLine, ObjectLine, RootLine, EndLine, dump_lines}

-- the word spells the number: decimal digits with no leading zero
pub record IsNumeralOf (number : ℕ) (word : List ℕ) : Type 0 where
  pub digits : is_numeral word ≡ true
  pub value : digits_value 10 word ≡ number

-- the word spells what a field holds: 0 for null, or an identity, which is not 0
abbrev pub IsFieldWord : Option ℕ → List ℕ → Type 0
IsFieldWord None word = IsNumeralOf 0 word
IsFieldWord (Some id) word = (1 ≤ id) × IsNumeralOf id word

-- as many words as fields, each of which spells the field in its place
abbrev pub AreFieldWords : List (Option ℕ) → List (List ℕ) → Type 0
AreFieldWords [] [] = Unit {0}
AreFieldWords (field ∷ fields) (word ∷ words) = IsFieldWord field word × AreFieldWords fields words
AreFieldWords fields words = ⊥

-- `pmos dump 1 NEXT`, where NEXT is not 0
pub record AreHeadWords (next : ℕ) (words : List (List ℕ)) : Type 0 where
  pub number : List ℕ
  pub whole : words ≡ codes "pmos" ∷ codes "dump" ∷ codes "1" ∷ number ∷ []
  pub some : 1 ≤ next
  pub spelled : IsNumeralOf next number

-- `object ID N HEX` and N words, one for each field, where ID is not 0
pub record AreObjectWords (id : ℕ) (object : Object) (words : List (List ℕ)) : Type 0 where
  pub number : List ℕ
  pub count : List ℕ
  pub hex : List ℕ
  pub fields : List (List ℕ)
  pub whole : words ≡ codes "object" ∷ number ∷ count ∷ hex ∷ fields
  pub some : 1 ≤ id
  pub spelled : IsNumeralOf id number
  pub counted : IsNumeralOf (length object.fields) count
  pub bytes : IsHexWord hex object.bytes
  pub each : AreFieldWords object.fields fields

-- `root NAME ID`, where ID is not 0
pub record AreRootWords (name : List ℕ) (id : ℕ) (words : List (List ℕ)) : Type 0 where
  pub number : List ℕ
  pub whole : words ≡ codes "root" ∷ name ∷ number ∷ []
  pub named : IsName name
  pub some : 1 ≤ id
  pub spelled : IsNumeralOf id number

-- the words spell the line
abbrev pub AreLineWords : DumpLine → List (List ℕ) → Type 0
AreLineWords (HeadLine next) words = AreHeadWords next words
AreLineWords (ObjectLine id object) words = AreObjectWords id object words
AreLineWords (RootLine name id) words = AreRootWords name id words
AreLineWords EndLine words = words ≡ codes "end" ∷ []

-- the bytes spell the line: its words, with one space between each two
abbrev pub IsSpelledLine : DumpLine → List ℕ → Type 0
IsSpelledLine line body = AreLineWords line (words_of body)

-- what stands between each two newlines of the bytes, before the first one and behind the last one
abbrev pub pieces_of : List ℕ → List (List ℕ)
pieces_of bytes = slice_split (λ b. nat_eq b 10) bytes

-- each piece spells the line in its place, and the last piece is empty: each line ends with a newline
abbrev pub AreLinePieces : List DumpLine → List (List ℕ) → Type 0
AreLinePieces [] (piece ∷ []) = piece ≡ []
AreLinePieces (line ∷ lines) (piece ∷ pieces) = IsSpelledLine line piece × AreLinePieces lines pieces
AreLinePieces lines pieces = ⊥

-- the bytes spell these lines
abbrev pub SpellsLines : List ℕ → List DumpLine → Type 0
SpellsLines bytes lines = AreLinePieces lines (pieces_of bytes)

-- the bytes spell the dump
abbrev pub Spells : List ℕ → Dump → Type 0
Spells bytes dump = SpellsLines bytes (dump_lines dump)
