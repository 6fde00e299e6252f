-- Lists that are read one entry after the other, as a loop does.
use Rattle.std.proofs.Common.{◌≡◌, List, [], ◌∷◌, ◌++◌, Result, Ok, Err, refl, sym, ap, append_assoc}
use Rattle.pm_types.specs.Results.{◌>>=◌}

-- what was read before, and what is still read
abbrev pub with_front : {A E : Type 0} → List A → Result (List A) E → Result (List A) E
with_front front read = read >>= λ xs. Ok (front ++ xs)

-- the same of a list that is read with something beside it, as the place of its end
abbrev pub with_front_of : {A B E : Type 0} → List A → Result (List A × B) E → Result (List A × B) E
with_front_of front read = read >>= λ x. Ok (front ++ x.0, x.1)

-- the first of those that are still read goes to the front
pub regroup : {A E : Type 0} (front : List A) (a : A) (read : Result (List A) E) → with_front front (read >>= λ xs. Ok (a ∷ xs)) ≡ with_front (front ++ a ∷ []) read
regroup front a (Ok xs) = ap Ok (sym (append_assoc front (a ∷ []) xs))
regroup front a (Err e) = refl

pub regroup_of : {A B E : Type 0} (front : List A) (a : A) (read : Result (List A × B) E) → with_front_of front (read >>= λ x. Ok (a ∷ x.0, x.1)) ≡ with_front_of (front ++ a ∷ []) read
regroup_of front a (Ok x) = ap (λ xs. Ok (xs, x.1)) (sym (append_assoc front (a ∷ []) x.0))
regroup_of front a (Err e) = refl
