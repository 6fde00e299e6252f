-- Bytes stand for one copy, or are refused.
use Rattle.std.proofs.Common.{◌≡◌, ◌⊎◌, ℕ, List, Some, Result, Ok, Err, refl, sym, ap, ◌∙◌, inl, inr}
use Rattle.pm_types.specs.declared.fault.OpenFault.{OpenFault}
use Rattle.pm_model.specs.World.{Copy}
use Rattle.pm_types.proofs.Results.{ok_same}
use Rattle.pm_image.specs.Stands.{Opened, opened, copy_in, StandsForCopy, fault_of, refusal}

same_found : (bytes : List ℕ) (a b : Opened) → opened bytes ≡ Ok a → opened bytes ≡ Ok b → a ≡ b
same_found bytes a b is too = ok_same a b (sym is ∙ too)

-- bytes stand for at most one copy, under one number
pub one_copy : (bytes : List ℕ) (number other : ℕ) (copy else_ : Copy) → StandsForCopy bytes number copy → StandsForCopy bytes other else_ → (number ≡ other) × (copy ≡ else_)
one_copy bytes number other copy else_ a b =
    let same = same_found bytes a.found b.found a.is_found b.is_found in
    (a.is_number ∙ ap (λ (o : Opened). o.current.header.epoch) same ∙ sym b.is_number, a.is_copy ∙ ap copy_in same ∙ sym b.is_copy)

either_of : (bytes : List ℕ) (found : Result Opened OpenFault) → opened bytes ≡ found
    → ((fault : OpenFault) × (refusal bytes ≡ Some fault)) ⊎ ((number : ℕ) × (copy : Copy) × StandsForCopy bytes number copy)
either_of bytes (Ok o) is = inr (o.current.header.epoch, copy_in o, record { found = o; is_found = is; is_number = refl; is_copy = refl })
either_of bytes (Err fault) is = inl (fault, ap fault_of is)

-- a rule refuses the bytes, or they stand for a copy
pub refused_or_stands : (bytes : List ℕ) → ((fault : OpenFault) × (refusal bytes ≡ Some fault)) ⊎ ((number : ℕ) × (copy : Copy) × StandsForCopy bytes number copy)
refused_or_stands bytes = either_of bytes (opened bytes) refl
