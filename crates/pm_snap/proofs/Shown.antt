-- What is there, and what is not.
use Rattle.std.proofs.Common.{◌≡◌, IsSome, arith, Option, None}
use Rattle.std.proofs.lemmas.Grind.{common_steps}

-- what is none is not there
pub none_is_not_some : {A : Type 0} (found : Option A) → found ≡ None → IsSome found → ⊥
none_is_not_some found none there = grind (arith, common_steps)
