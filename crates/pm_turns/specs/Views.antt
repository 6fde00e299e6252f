-- What seats know of the value that they share.
use Rattle.std.specs.Prelude.{◌≡◌, ℕ, List, Some, None}
use mathlib.Core.Option.{some}
use lib.ListN.{get_elem?}
use Rattle.pm_turns.specs.declared.rule.View.{View}

module _ {T : Type 0} where
  -- a seat that knows the tie
  abbrev pub seated : T → View T
  seated tie = record { tie = Some tie }

  -- a seat that was taken in by another, and knows nothing
  abbrev pub spent : View T
  spent = record { tie = None }

  -- the seat knows a tie
  abbrev pub Speaks : View T → Type 0
  Speaks view = (tie : T) × (view.tie ≡ Some tie)

  -- every view that knows a tie knows this one
  abbrev pub AllKnow : T → List (View T) → Type 0
  AllKnow tie views = (seat : ℕ) (view : View T) → get_elem? views seat ≡ some view
      → (known : T) → view.tie ≡ Some known → known ≡ tie
