-- What single words stand for: nothing, where they stand for none.
use Rattle.std.specs.Prelude.{ℕ, ◌^◌, ◌&&◌, ◌||◌, ◌==◌, Bool, not, List, [], ◌∷◌, length, Option, Some, None, Result, Ok, Err, nat_eq, nat_le, nat_lt, slice_index, codes, if◌then◌else◌}
use Rattle.std.specs.List.{list_all, find, filter}
use Rattle.std.specs.Option.{option_map}
use Rattle.std.specs.Cmp.Lexicographic.{pointwise}
use Rattle.std.specs.Str.Parse.{digits_value}
use Rattle.hex.specs.Hex.{decode_of}
use Rattle.hex.specs.declared.error.FromHexError.{FromHexError}
use Rattle.pm_types.specs.Options.{◌>>=◌}
use Rattle.pm_types.specs.declared.limits.TheConstants.{CLIENTS, NAME_BYTES}
use Rattle.pm_types.specs.Names.{is_name_byte}
use Rattle.pm_script.specs.declared.verb.Dialect.{Dialect}
use Rattle.pm_script.specs.declared.verb.Verb.{Verb}
use Rattle.pm_script.specs.declared.verb.First.{First}
use Rattle.pm_script.specs.declared.verb.First.TheVariants as first
use Rattle.pm_script.specs.Words.{word_of, verbs, belongs}

-- a decimal digit
abbrev pub is_digit : ℕ → Bool
is_digit b = nat_le 48 b && nat_le b 57

-- at least one digit, and no leading zero
abbrev pub is_numeral : List ℕ → Bool
is_numeral word = list_all is_digit word && nat_lt 0 (length word) && (not (slice_index word 0 == 48) || length word == 1)

-- a number below 2 ^ 32
abbrev pub number_of : List ℕ → Option ℕ
number_of word = if is_numeral word && nat_lt (digits_value 10 word) (2 ^ 32) then Some (digits_value 10 word) else None

-- a number below a limit
unfoldable pub number_below : ℕ → List ℕ → Option ℕ
number_below limit word = number_of word >>= λ number. if nat_lt number limit then Some number else None

-- the bytes of a name
abbrev pub is_name : List ℕ → Bool
is_name word = nat_lt 0 (length word) && nat_le (length word) NAME_BYTES && list_all is_name_byte word

abbrev pub name_of : List ℕ → Option (List ℕ)
name_of word = if is_name word then Some word else None

-- at least one byte
abbrev pub some_bytes : Result (List ℕ) FromHexError → Option (List ℕ)
some_bytes (Ok []) = None
some_bytes (Ok (byte ∷ bytes)) = Some (byte ∷ bytes)
some_bytes (Err fault) = None

-- the bytes that a word spells: a dash for none, or pairs of digits
abbrev pub hex_of : List ℕ → Option (List ℕ)
hex_of word = if pointwise ◌==◌ word (codes "-") then Some [] else some_bytes (decode_of word)

-- the word that a line begins with: an exclamation mark, or a client from 0 to 7
unfoldable pub first_at : List ℕ → Option First
first_at word = if pointwise ◌==◌ word (codes "!") then Some first.Bang else option_map (λ client. first.Client client) (number_below CLIENTS word)

-- what is named by a word of so many bytes
abbrev pub verbs_of : ℕ → List Verb
verbs_of bytes = filter (λ verb. nat_eq (length (word_of verb)) bytes) verbs

-- what the word names, of what may be asked after that first word in a dialect
unfoldable pub verb_at : Dialect → First → List ℕ → Option Verb
verb_at dialect first word = find (λ verb. pointwise ◌==◌ word (word_of verb) && belongs dialect first verb) verbs
