-- The test of a name passes just where the bytes are a name.
use Rattle.std.proofs.Common.{◌≡◌, ℕ, ◌+◌, ◌<◌, Bool, true, false, ◌&&◌, cond, not, List, [], ◌∷◌, length, nat_lt, nat_le, Option, Some, refl, sym, ap, ◌∙◌, arith, IsTrue}
use Rattle.std.proofs.lemmas.Bool.{lt-ltb, le-leb}
use Rattle.std.proofs.lemmas.Bool.Decides.{nat_tests}
use Rattle.std.proofs.lemmas.Iterator.Adapters.{position_from-zero}
use Rattle.std.specs.List.{AllByRecursion, list_all, position_from}
use Rattle.pm_types.specs.Memory.{no_memory}
use Rattle.pm_types.specs.Names.{is_name_byte, IsName}
use Rattle.pm_types.specs.NameFaults.{IsFirstFault}
use Rattle.pm_types.specs.declared.name.NameFault.{NameFault}
use Rattle.pm_types.specs.declared.name.NameFault.TheVariants.{Empty, TooLong, BadByte, Memory}
use Rattle.pm_script.specs.Values.{is_name}

lt-leb_false : (m n : ℕ) → n < m → nat_le m n ≡ false
lt-leb_false m n lt = grind (arith, nat_tests)

-- where each passes, all do
pub each_passes : (p : ℕ → Bool) (xs : List ℕ) → AllByRecursion (λ x. IsTrue (p x)) xs → list_all p xs ≡ true
each_passes p [] each = refl
each_passes p (x ∷ xs) each = ap (λ b. b && list_all p xs) each.0 ∙ each_passes p xs each.1

one_fails : (b rest : Bool) (i place : ℕ) (later : Option ℕ) → cond (not b) (Some i) later ≡ Some place → (later ≡ Some place → rest ≡ false) → (b && rest) ≡ false
one_fails true rest i place later found more = more found
one_fails false rest i place later found more = refl

some_fails : (p : ℕ → Bool) (i place : ℕ) (xs : List ℕ) → position_from (λ x. not (p x)) i xs ≡ Some place → list_all p xs ≡ false
some_fails p i place [] found = cc
some_fails p i place (x ∷ xs) found = one_fails (p x) (list_all p xs) i place _ found (some_fails p (i + 1) place xs)

tests : (few short all : Bool) → few ≡ true → short ≡ true → all ≡ true → (few && short && all) ≡ true
tests few short all a b c = (λ i. a i && b i && c i)

second_fails : (few short all : Bool) → short ≡ false → (few && short && all) ≡ false
second_fails true true all is = cc
second_fails true false all is = refl
second_fails false short all is = refl

third_fails : (few short all : Bool) → all ≡ false → (few && short && all) ≡ false
third_fails true true all is = is
third_fails true false all is = refl
third_fails false short all is = refl

pub name_passes : (word : List ℕ) → IsName word → is_name word ≡ true
name_passes word named =
    let some : nat_lt 0 (length word) ≡ true = lt-ltb _ _ named.some in
    let short : nat_le (length word) 64 ≡ true = le-leb _ _ named.short in
    tests (nat_lt 0 (length word)) (nat_le (length word) 64) (list_all is_name_byte word) some short (each_passes is_name_byte word named.each)

pub fault_fails : (fault : NameFault) (word : List ℕ) → IsFirstFault fault word → (fault ≡ Memory no_memory → ⊥) → is_name word ≡ false
fault_fails Empty word fault other = ap is_name fault
fault_fails (TooLong len) word fault other = second_fails (nat_lt 0 (length word)) (nat_le (length word) 64) (list_all is_name_byte word) (lt-leb_false _ _ fault.0)
fault_fails (BadByte place) word fault other = third_fails (nat_lt 0 (length word)) (nat_le (length word) 64) (list_all is_name_byte word) (some_fails is_name_byte 0 place word (sym (position_from-zero (λ b. not (is_name_byte b)) word) ∙ fault.1))
fault_fails (Memory _) word fault other = absurd (other refl)
