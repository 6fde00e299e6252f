-- Answers of steps, and of those that come after them.
use Rattle.std.proofs.Common.{◌≡◌, ℕ, Result, Ok, Err, refl, sym, subst, ap}
use Rattle.pm_image.specs.declared.fault.PageFault.{PageFault}
use Rattle.pm_image.specs.declared.fault.PageFault.TheVariants.{Malformed, Memory}
use Rattle.pm_types.specs.Results.{◌>>=◌}
use Rattle.pm_image.specs.Answers.{answer, Gives}

exact_gives : {X : Type 0} (read : Result X ℕ) → Gives (answer read) read
exact_gives (Ok x) = refl
exact_gives (Err at) = refl

-- an exact answer is what reading gives
pub answer_gives : {X : Type 0} (answered : Result X PageFault) (read : Result X ℕ) → answered ≡ answer read → Gives answered read
answer_gives answered read exact = subst (λ (r : Result _ PageFault). Gives r read) (sym exact) (exact_gives read)

-- a fault of the first step is that of both
pub fails_too : {A B : Type 0} (fault : PageFault) (read : Result A ℕ) (f : A → Result B ℕ) → Gives (Err fault) read → Gives (Err fault) (read >>= f)
fails_too (Malformed at) read f is = ap (λ (r : Result _ ℕ). r >>= f) is
fails_too (Memory _) read f is = tt
