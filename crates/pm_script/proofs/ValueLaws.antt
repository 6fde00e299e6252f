-- What a word stands for is what spells it.
use Rattle.std.proofs.Common.{◌≡◌, ℕ, ◌<◌, ◌^◌, Bool, true, ◌&&◌, List, [], ◌∷◌, length, Option, Some, None, refl, ap, sym, subst, ◌∙◌, arith, nat_lt, nat_le, decimal, IsTrue, if◌then◌else◌}
use Rattle.std.proofs.lemmas.Bool.{ltb-true, leb-true, lt-ltb}
use Rattle.std.specs.List.{AllByRecursion, list_all}
use Rattle.pm_types.specs.Options.{◌>>=◌}
use Rattle.pm_types.specs.Names.{is_name_byte, IsName}
use Rattle.pm_script.specs.declared.verb.Kind.{Kind}
use Rattle.pm_script.specs.declared.verb.Kind.TheVariants as kind
use Rattle.pm_script.specs.Words.{Value, Register, Number, Hex, Name, kind_of, IsSpelled}
use Rattle.pm_script.specs.Values.{number_of, number_below, is_name, name_of, hex_of}
use Rattle.pm_script.proofs.Both.{first_true, second_true}
use Rattle.pm_script.proofs.Steps.{both, guarded, passed}
use Rattle.pm_script.proofs.Hexes.{hex_spelled, hex_read}
use Rattle.pm_script.proofs.Numerals.{numeral_spelled, number_of_decimal}
use Rattle.pm_script.proofs.NameTests.{name_passes}

number_found : (word : List ℕ) (n : ℕ) → number_of word ≡ Some n → (n < 2 ^ 32) × (word ≡ decimal n)
number_found word n is =
    let here = guarded _ _ _ is in
    (subst (λ m. m < 2 ^ 32) here.1 (ltb-true _ _ (second_true _ _ here.0)), sym (numeral_spelled word (first_true _ _ here.0) (ltb-true _ _ (second_true _ _ here.0))) ∙ ap decimal here.1)

pub below_found : (limit : ℕ) (word : List ℕ) (n : ℕ) → number_below limit word ≡ Some n → (n < limit) × (word ≡ decimal n)
unfolding number_below
below_found limit word n is =
    let number = both _ _ _ is in
    let small = guarded _ _ _ number.2 in
    (subst (λ m. m < limit) small.1 (ltb-true _ _ small.0), (number_found word number.0 number.1).1 ∙ ap decimal small.1)

pub below_again : (limit n : ℕ) → limit < 2 ^ 32 → n < limit → number_below limit (decimal n) ≡ Some n
unfolding number_below
below_again limit n few small =
    ap (λ (o : Option ℕ). o >>= λ number. if nat_lt number limit then Some number else None) (number_of_decimal n (omega arith))
    ∙ passed (nat_lt n limit) n (lt-ltb n limit small)

each_of : (p : ℕ → Bool) (xs : List ℕ) → list_all p xs ≡ true → AllByRecursion (λ x. IsTrue (p x)) xs
each_of p [] is = tt
each_of p (x ∷ xs) is = (first_true (p x) (list_all p xs) is, each_of p xs (second_true (p x) (list_all p xs) is))

is_name_found : (word : List ℕ) → is_name word ≡ true → IsName word
is_name_found word is =
    let outer = first_true (nat_lt 0 (length word) && nat_le (length word) 64) (list_all is_name_byte word) is in
    record {
      some = ltb-true 0 (length word) (first_true (nat_lt 0 (length word)) (nat_le (length word) 64) outer);
      short = leb-true (length word) 64 (second_true (nat_lt 0 (length word)) (nat_le (length word) 64) outer);
      each = each_of is_name_byte word (second_true (nat_lt 0 (length word) && nat_le (length word) 64) (list_all is_name_byte word) is);
    }

name_found : (word name : List ℕ) → name_of word ≡ Some name → IsName name × (word ≡ name)
name_found word name is = let here = guarded (is_name word) word name is in (subst IsName here.1 (is_name_found word here.0), here.1)

-- what reads the words of a kind: it gives the value that a word spells, and nothing where it spells none
pub record IsReader {A : Type 0} (read : List ℕ → Option A) (as_value : A → Value) (kind : Kind) : Type 0 where
  pub kinds : (x : A) → kind_of (as_value x) ≡ kind
  pub only : (v : Value) → kind_of v ≡ kind → (x : A) × (v ≡ as_value x)
  pub found : (word : List ℕ) (x : A) → read word ≡ Some x → IsSpelled (as_value x) word
  pub again : (x : A) (word : List ℕ) → IsSpelled (as_value x) word → read word ≡ Some x

register_only : (v : Value) → kind_of v ≡ kind.Register → (register : ℕ) × (v ≡ Register register)
register_only (Register register) is = (register, refl)
register_only v is = absurd cc

number_only : (v : Value) → kind_of v ≡ kind.Number → (number : ℕ) × (v ≡ Number number)
number_only (Number number) is = (number, refl)
number_only v is = absurd cc

hex_only : (v : Value) → kind_of v ≡ kind.Hex → (bytes : List ℕ) × (v ≡ Hex bytes)
hex_only (Hex bytes) is = (bytes, refl)
hex_only v is = absurd cc

name_only : (v : Value) → kind_of v ≡ kind.Name → (name : List ℕ) × (v ≡ Name name)
name_only (Name name) is = (name, refl)
name_only v is = absurd cc

pub registers : IsReader (number_below 1024) (λ register. Register register) kind.Register
registers = record {
  kinds = λ register. refl;
  only = register_only;
  found = below_found 1024;
  again = λ register word has. ap (number_below 1024) has.1 ∙ below_again 1024 register (omega arith) has.0;
}

pub numbers : IsReader number_of (λ number. Number number) kind.Number
numbers = record { kinds = λ number. refl; only = number_only; found = number_found; again = λ number word has. ap number_of has.1 ∙ number_of_decimal number has.0 }

pub hexes : IsReader hex_of (λ bytes. Hex bytes) kind.Hex
hexes = record { kinds = λ bytes. refl; only = hex_only; found = hex_spelled; again = λ bytes word has. hex_read word bytes has }

pub names : IsReader name_of (λ name. Name name) kind.Name
names = record { kinds = λ name. refl; only = name_only; found = name_found; again = λ name word has. ap name_of has.1 ∙ passed (is_name name) name (name_passes name has.0) }
