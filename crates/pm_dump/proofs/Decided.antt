-- Facts of which each holds or does not.
use Rattle.std.proofs.Common.{◌≡◌, ◌⊎◌, inl, inr, ℕ, ◌<◌, ◌≤◌, List, [], ◌∷◌, Option, Some, None, IfSome, refl, arith}
use Rattle.std.specs.List.{AllByRecursion}
use Rattle.std.specs.Option.{IsSome}
use Rattle.std.specs.declared.cmp.Ordering.{Ordering}
use Rattle.std.specs.declared.cmp.Ordering.TheVariants.{Less, Equal, Greater}

-- the fact holds, or it does not
abbrev pub Decided : Type 0 → Type 0
Decided P = P ⊎ (P → ⊥)

pub both_decided : {P Q : Type 0} → Decided P → Decided Q → Decided (P × Q)
both_decided (inl p) (inl q) = inl (p, q)
both_decided (inl p) (inr never) = inr (λ both. never both.1)
both_decided (inr never) q = inr (λ both. never both.0)

pub each_decided : {A : Type 0} (P : A → Type 0) → ((x : A) → Decided (P x)) → (xs : List A) → Decided (AllByRecursion P xs)
each_decided P decide [] = inl tt
each_decided P decide (x ∷ xs) = both_decided (decide x) (each_decided P decide xs)

pub held_decided : {A : Type 0} (P : A → Type 0) → ((x : A) → Decided (P x)) → (o : Option A) → Decided (IfSome o P)
held_decided P decide None = inl tt
held_decided P decide (Some x) = decide x

pub lt_decided : (m n : ℕ) → Decided (m < n)
lt_decided m n = grind arith

pub le_decided : (m n : ℕ) → Decided (m ≤ n)
le_decided m n = grind arith

pub less_decided : (r : Ordering) → Decided (r ≡ Less)
less_decided Less = inl (λ i. Less)
less_decided Equal = inr (λ is. cc is)
less_decided Greater = inr (λ is. cc is)

pub some_decided : {A : Type 0} (o : Option A) → Decided (IsSome o)
some_decided None = inr (λ is. cc is)
some_decided (Some x) = inl refl
