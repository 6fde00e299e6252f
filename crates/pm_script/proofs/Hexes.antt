-- Words that spell bytes.
use Rattle.std.proofs.Common.{◌≡◌, ℕ, ◌==◌, Bool, true, false, List, [], ◌∷◌, Some, Result, Ok, Err, refl, ap, sym, subst, ◌∙◌, arith, nat_lt, codes, if◌then◌else◌}
use Rattle.std.proofs.lemmas.Bool.Decides.{nat_tests}
use Rattle.std.proofs.lemmas.List.Elements.{recursion_from_All}
use Rattle.std.specs.Cmp.Lexicographic.{pointwise, bytes_decides}
use Rattle.std.specs.List.{list_all, AllByRecursion}
use Rattle.hex.specs.Hex.{decode_of, is_hex_digit}
use Rattle.hex.specs.declared.error.FromHexError.{FromHexError}
use Rattle.hex.specs.declared.error.FromHexError.TheVariants.{OddLength}
use Rattle.hex.proofs.HexLemmas.{decode_of-ok}
use Rattle.pm_script.specs.Words.{IsHexWord}
use Rattle.pm_script.specs.Values.{some_bytes, hex_of}
use Rattle.pm_script.proofs.HexDigits.{spelled_by_digits, decoded_by_digits}
use Rattle.pm_script.proofs.NameTests.{each_passes}

decoded : (word bytes : List ℕ) (read : Result (List ℕ) FromHexError) → decode_of word ≡ read → some_bytes read ≡ Some bytes → IsHexWord word bytes
decoded word bytes (Ok []) is some = cc some
decoded word bytes (Ok (b ∷ others)) is some = let same : b ∷ others ≡ bytes = cc some in subst (IsHexWord word) same (spelled_by_digits word (b ∷ others) is)
decoded word bytes (Err fault) is some = cc some

chosen : (word bytes : List ℕ) (test : Bool) → pointwise ◌==◌ word (codes "-") ≡ test → (if test then Some [] else some_bytes (decode_of word)) ≡ Some bytes → IsHexWord word bytes
chosen word bytes true dash is = let none : [] ≡ bytes = cc is in subst (IsHexWord word) none ((bytes_decides word (codes "-")).0 dash)
chosen word bytes false dash is = decoded word bytes (decode_of word) refl is

-- what is read of a word is what it spells
pub hex_spelled : (word bytes : List ℕ) → hex_of word ≡ Some bytes → IsHexWord word bytes
hex_spelled word bytes is = chosen word bytes (pointwise ◌==◌ word (codes "-")) refl is

dash_decodes : decode_of (codes "-") ≡ Err OddLength
dash_decodes = refl

apart : (word : List ℕ) (byte : ℕ) (bytes : List ℕ) (test : Bool) → pointwise ◌==◌ word (codes "-") ≡ test → decode_of word ≡ Ok (byte ∷ bytes) → (if test then Some [] else some_bytes (decode_of word)) ≡ Some (byte ∷ bytes)
apart word byte bytes true dash is =
    let bad : ◌≡◌ {A = Result (List ℕ) FromHexError} (Err OddLength) (Ok (byte ∷ bytes)) = sym dash_decodes ∙ sym (ap decode_of ((bytes_decides word (codes "-")).0 dash)) ∙ is in
    cc bad
apart word byte bytes false dash is = ap some_bytes is

-- what a word spells is read of it
pub hex_read : (word bytes : List ℕ) → IsHexWord word bytes → hex_of word ≡ Some bytes
hex_read word [] dash = ap hex_of dash
hex_read word (byte ∷ bytes) is = apart word byte bytes (pointwise ◌==◌ word (codes "-")) refl (decoded_by_digits word (byte ∷ bytes) is)

hex_digit_plain : (b : ℕ) → is_hex_digit b ≡ true → nat_lt 32 b ≡ true
hex_digit_plain b is = grind (arith, nat_tests)

digits_plain : (word : List ℕ) → AllByRecursion (λ b. is_hex_digit b ≡ true) word → AllByRecursion (λ b. nat_lt 32 b ≡ true) word
digits_plain [] each = tt
digits_plain (b ∷ word) each = (hex_digit_plain b each.0, digits_plain word each.1)

-- each byte of such a word is above the space
pub hex_plain : (word bytes : List ℕ) → IsHexWord word bytes → list_all (λ b. nat_lt 32 b) word ≡ true
hex_plain word [] dash = ap (list_all (λ b. nat_lt 32 b)) dash
hex_plain word (byte ∷ bytes) is =
    each_passes (λ b. nat_lt 32 b) word (digits_plain word (recursion_from_All (λ b. is_hex_digit b ≡ true) word (decode_of-ok word (byte ∷ bytes) (decoded_by_digits word (byte ∷ bytes) is)).1))
