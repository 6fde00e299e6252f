-- A closure that is called again and again, and keeps what it captured.
use Rattle.std.proofs.Common.{List, [], ◌∷◌}
use Rattle.std.specs.Fn.{Mut, Called, ReturnsEach, AlwaysReturns}

module _ {F X R : Type 0} (g : Mut F X R) (P : X → R → Type 0) (Keeps : F → Type 0) (step : (f : F) (a : X) (r : R) (f' : F) → Keeps f → Called g f a r f' → P a r × Keeps f') where
  each : (f : F) → Keeps f → (xs : List X) → ReturnsEach g P f xs
  each f keeps [] = tt
  each f keeps (a ∷ xs) = λ r f' called. ((step f a r f' keeps called).0, each f' (step f a r f' keeps called).1 xs)

  -- what holds of each call holds of any number of calls
  pub answers_each : (f : F) → Keeps f → AlwaysReturns g P f
  answers_each f keeps = record { at = each f keeps }
