-- What a crash may leave of a file, over a few calls.
use Rattle.std.proofs.Common.{◌≡◌, ◌⊎◌, inl, inr, ℕ, zero, suc, Bool, true, false, List, [], Option, Some, length, nat_eq, refl, arith}
use Rattle.pm_disk.specs.Disk.{SameImages, IfTold}
use Rattle.pm_file.specs.Calls.{Ticks}

pub chain : {a b c : List ℕ → Type 0} → SameImages a b → SameImages b c → SameImages a c
chain first second = record { no_more = λ image is. first.no_more image (second.no_more image is); no_fewer = λ image is. second.no_fewer image (first.no_fewer image is) }

either : {P Q R : Type 0} → (P → R) → (Q → R) → P ⊎ Q → R
either left right (inl is) = left is
either left right (inr is) = right is

-- One call after a file was opened, a crash since any call still leaves what lay there.
pub fresh_ticks : {lying images : List ℕ → Type 0} {past since : ℕ → List ℕ → Type 0} → ((calls : ℕ) → SameImages lying (past calls)) → SameImages lying images → Ticks past since images
    → ((bytes : List ℕ) → since 0 bytes → images bytes) → ((calls : ℕ) (bytes : List ℕ) → images bytes → since calls bytes) → (calls : ℕ) → SameImages lying (since calls)
fresh_ticks fresh same ticks only counts zero =
    record { no_more = λ image is. same.no_more image (only image is); no_fewer = λ image is. counts 0 image (same.no_fewer image is) }
fresh_ticks fresh same ticks only counts (suc calls) =
    record { no_more = λ image is. either ((fresh calls).no_more image) (same.no_more image) (ticks.nothing_else calls image is); no_fewer = λ image is. counts (suc calls) image (same.no_fewer image is) }

-- A file that is not empty, and of which only an empty one may lose its name, does not lose its name.
pub named_unless_empty : (named : Bool) (n : ℕ) (contents : Option (List ℕ)) → (named ≡ false → contents ≡ Some []) → IfTold contents (λ bytes. n ≡ length bytes) → nat_eq n 0 ≡ false → named ≡ true
named_unless_empty true n contents empty len some = refl
named_unless_empty false n contents empty len some = named_of n (len [] (empty refl)) some
  where
    named_of : (n : ℕ) → n ≡ 0 → nat_eq n 0 ≡ false → false ≡ true
    named_of n is some = grind (arith, is, some)
