-- Steps that may give nothing, one after another.
use Rattle.std.proofs.Common.{◌≡◌, Bool, true, false, Option, Some, None, refl, if◌then◌else◌}
use Rattle.std.specs.Option.{option_map}
use Rattle.pm_types.specs.Options.{◌>>=◌}

-- where two steps gave something, each did
pub both : {A B : Type 0} (first : Option A) (second : A → Option B) (y : B) → (first >>= second) ≡ Some y → (x : A) × (first ≡ Some x) × (second x ≡ Some y)
both None second y is = cc
both (Some x) second y is = (x, refl, is)

-- where a test guards what is given, it passed
pub guarded : {A : Type 0} (test : Bool) (x y : A) → (if test then Some x else None) ≡ Some y → (test ≡ true) × (x ≡ y)
guarded true x y is = (refl, cc)
guarded false x y is = cc

pub passed : {A : Type 0} (test : Bool) (x : A) → test ≡ true → (if test then Some x else None) ≡ Some x
passed true x is = refl
passed false x is = cc

-- what was made of something
pub mapped : {A B : Type 0} (f : A → B) (o : Option A) (y : B) → option_map f o ≡ Some y → (x : A) × (o ≡ Some x) × (f x ≡ y)
mapped f None y is = cc
mapped f (Some x) y is = (x, refl, cc)
