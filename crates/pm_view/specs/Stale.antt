-- The one slot that a stale source of the car that is emptied can name.
use Rattle.std.specs.Prelude.{◌≡◌, ℕ, true, Option, Some, None}
use Rattle.std.specs.FinMap.{get}
use Rattle.std.proofs.Props.{props}
use Rattle.pm_types.specs.declared.source.RefSource.{RefSource}
use Rattle.pm_view.specs.declared.phase.Phase.TheVariants.{Moving}
use Rattle.pm_view.specs.View.{SpaceView}
use Rattle.pm_view.specs.Reading.{slot_at}
use Rattle.pm_view.specs.Candidates.{set_of}
use Rattle.pm_view.specs.Events.{went, has_gone}

-- while a car is emptied, each source that it remembers and that names a slot whose object moved away names this slot
abbrev pub NamesOnly : SpaceView → ℕ → Type 0
NamesOnly view slot =
    (car : ℕ) → view.phase ≡ Moving car → (source : RefSource) (at : ℕ) → get (set_of view car) source ≡ Some at → has_gone (went (slot_at view.cars (record { car = car; slot = at }))) ≡ true → at ≡ slot

-- so of the slot that is given; where none is given nothing is said
abbrev pub IsSole : SpaceView → Option ℕ → Type 0
IsSole view None = Unit {0}
IsSole view (Some slot) = NamesOnly view slot

-- it does so in one way
pub IsSole-prop : (view : SpaceView) (slot : Option ℕ) → IsProp (IsSole view slot)
IsSole-prop view None = hlevel props
IsSole-prop view (Some slot) = hlevel props
