-- Steps that may end in a fault, one after another.
use Rattle.std.proofs.Common.{◌≡◌, Option, Some, None, Result, Ok, Err, refl, ap}
use Rattle.std.specs.Option.{ok_or}
use Rattle.pm_types.specs.Results.{◌>>=◌}

-- where something was there, it is what was given
pub some_ok : {A E : Type 0} (o : Option A) (e : E) (x : A) → ok_or o e ≡ Ok x → o ≡ Some x
some_ok (Some y) e x is = cc
some_ok None e x is = absurd cc

-- where nothing was there, that is the fault
pub none_err : {A E : Type 0} (o : Option A) (d e : E) → ok_or o d ≡ Err e → (o ≡ None) × (d ≡ e)
none_err None d e is = (refl, cc is)
none_err (Some x) d e is = absurd (let bad : Ok x ≡ Err e = is in cc bad)

-- where the second step can not fail, the first did
pub first_err : {A B E : Type 0} (first : Result A E) (f : A → B) (e : E) → (first >>= λ x. Ok (f x)) ≡ Err e → first ≡ Err e
first_err (Ok x) f e is = absurd cc
first_err (Err d) f e is = let same : d ≡ e = cc is in ap Err same
