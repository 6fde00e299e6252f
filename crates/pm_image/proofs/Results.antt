-- Steps of reading that end well.
use Rattle.std.proofs.Common.{◌≡◌, Bool, true, false, not, ◌&&◌, Ok, refl, ap}
use Rattle.pm_image.specs.Steps.{tested}

-- the test holds
pub tested_ok : {E : Type 0} (b : Bool) (e : E) (u : Unit {0}) → tested b e ≡ Ok u → b ≡ true
tested_ok true e u is = refl
tested_ok false e u is = cc

pub passed : {E : Type 0} (b : Bool) (e : E) → b ≡ true → tested b e ≡ Ok tt
passed b e is = ap (λ b. tested b e) is

pub both_true : (a b : Bool) → (a && b) ≡ true → (a ≡ true) × (b ≡ true)
both_true true b is = (refl, is)
both_true false b is = cc

pub not_false : (b : Bool) → not b ≡ false → b ≡ true
not_false true is = refl
not_false false is = cc

pub true_not : (b : Bool) → b ≡ true → not b ≡ false
true_not b is = ap not is
