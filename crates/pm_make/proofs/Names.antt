-- The name of a number is read as one.
use Rattle.std.proofs.Common.{◌≡◌, ℕ, ◌+◌, ◌<◌, Bool, true, false, not, cond, List, [], ◌∷◌, length, Option, Some, IsTrue, refl, sym, subst, ◌∙◌, arith}
use Rattle.std.proofs.lemmas.Iterator.Adapters.{position_from-zero}
use Rattle.std.specs.List.{AllByRecursion, position_from}
use Rattle.pm_types.specs.Memory.{no_memory}
use Rattle.pm_types.specs.Names.{is_name_byte, IsName}
use Rattle.pm_types.specs.NameFaults.{IsFirstFault}
use Rattle.pm_types.specs.declared.name.NameFault.{NameFault}
use Rattle.pm_types.specs.declared.name.NameFault.TheVariants.{Empty, TooLong, BadByte, Memory}
use Rattle.pm_make.specs.Made.{name_of}
use Rattle.pm_make.proofs.Short.{name_named}

-- a search goes on past an element that passes
goes_on : (b : Bool) (i place : ℕ) (rest : Option ℕ) → IsTrue b → cond (not b) (Some i) rest ≡ Some place → rest ≡ Some place
goes_on true i place rest passes is = is
goes_on false i place rest passes is = absurd (cc passes)

-- where each element passes, none is found that fails
none_fails : (p : ℕ → Bool) (i place : ℕ) (xs : List ℕ) → AllByRecursion (λ x. IsTrue (p x)) xs → position_from (λ x. not (p x)) i xs ≡ Some place → ⊥
none_fails p i place [] pass is = absurd (cc is)
none_fails p i place (x ∷ xs) pass is = none_fails p (i + 1) place xs pass.1 (goes_on (p x) i place _ pass.0 is)

-- a name has no fault
named : (fault : NameFault) (word : List ℕ) → IsName word → IsFirstFault fault word → (fault ≡ Memory no_memory → ⊥) → ⊥
named Empty word is fault other = let some = subst (λ (w : List ℕ). 0 < length w) fault is.some in omega (arith, some)
named (TooLong len) word is fault other = let short = is.short in let long = fault.0 in omega (arith, short, long)
named (BadByte place) word is fault other = none_fails is_name_byte 0 place word is.each (sym (position_from-zero (λ b. not (is_name_byte b)) word) ∙ fault.1)
named (Memory _) word is fault other = other refl

-- and so none has that of a number
pub no_fault : (number : ℕ) (fault : NameFault) (word : List ℕ) → word ≡ name_of number → number < 16 → IsFirstFault fault word → (fault ≡ Memory no_memory → ⊥) → ⊥
no_fault number fault word is small bad other = named fault word (subst IsName (sym is) (name_named number small)) bad other
