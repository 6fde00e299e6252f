-- What is said of an answer that is there, and for callers what `Numbered` lent.
use Rattle.std.proofs.Common.{◌≡◌, ℕ, refl, ap, ◌∙◌, arith, Option, Some, None, IsSome, Result, Ok, Err}
use Rattle.std.specs.FinMap.{FinMap, get, insert}
use Rattle.std.specs.Option.{OnSome}
use Rattle.std.specs.Ordering.{nat_cmp}
use Rattle.std.specs.Result.{OnErr}

pub on_some : {A : Type 0} {P : Type 0} (o : Option A) → (IsSome o → P) → OnSome o P
on_some None then = tt
on_some (Some x) then = then refl

pub from_some : {A : Type 0} {P : Type 0} (o : Option A) → OnSome o P → IsSome o → P
from_some None holds there = absurd (grind (arith, there))
from_some (Some x) holds there = holds

pub on_err : {A E : Type 0} {P : Type 0} (r : Result A E) → P → OnErr r P
on_err (Ok x) holds = tt
on_err (Err e) holds = holds

-- the values m are those that the caller's are seen as
module _ {X : Type 0} (m v : FinMap nat_cmp X) (is : m ≡ v) (k : ℕ) where
  -- what was found at a number
  pub found_in : (found : Option X) → found ≡ get m k → found ≡ get v k
  found_in found here = here ∙ ap (λ (t : FinMap nat_cmp X). get t k) is

  -- what they are once the value that was lent was written
  pub written_in : {A : Type 0} (lent : Option A) (n : FinMap nat_cmp X) (w : X) → OnSome lent (n ≡ insert m k w) → IsSome lent → n ≡ insert v k w
  written_in lent n w holds there = from_some lent holds there ∙ ap (λ (t : FinMap nat_cmp X). insert t k w) is
