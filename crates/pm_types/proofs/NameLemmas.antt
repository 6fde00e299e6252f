-- Bytes in which no bad byte is found are those of a name.
use Rattle.std.proofs.Common.{◌≡◌, ℕ, ◌+◌, ◌<◌, ◌≤◌, Bool, true, false, not, cond, List, [], ◌∷◌, length, position, Option, Some, None, IsTrue, refl, sym, ◌∙◌}
use Rattle.std.proofs.lemmas.Iterator.Adapters.{position_from-zero}
use Rattle.std.specs.List.{AllByRecursion, position_from}
use Rattle.pm_types.specs.Names.{is_name_byte, IsName}

-- a search that goes on past an element has found that it passes, and finds none after it
goes_on : (b : Bool) (i : ℕ) (rest : Option ℕ) → cond (not b) (Some i) rest ≡ None → IsTrue b × (rest ≡ None)
goes_on true i rest none = (refl, none)
goes_on false i rest none = cc

-- where no element fails a test, each passes it
all_pass : (p : ℕ → Bool) (i : ℕ) (xs : List ℕ) → position_from (λ x. not (p x)) i xs ≡ None → AllByRecursion (λ x. IsTrue (p x)) xs
all_pass p i [] none = tt
all_pass p i (x ∷ xs) none = let here = goes_on (p x) i _ none in (here.0, all_pass p (i + 1) xs here.1)

pub name_from_bytes : (bytes : List ℕ) → 0 < length bytes → length bytes ≤ 64 → position (λ b. not (is_name_byte b)) bytes ≡ None → IsName bytes
name_from_bytes bytes some short none =
    record { some = some; short = short; each = all_pass is_name_byte 0 bytes (sym (position_from-zero (λ b. not (is_name_byte b)) bytes) ∙ none) }
