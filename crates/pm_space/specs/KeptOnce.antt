-- A space keeps the heap law in one way.
use Rattle.std.specs.Prelude.{◌≡◌, ℕ, List, [], ◌∷◌, Option, Some, None, IsSomeAnd}
use Rattle.std.proofs.Props.{props}
use Rattle.pm_types.specs.declared.address.Addr.{Addr}
use Rattle.pm_cars.specs.declared.look.Look.{Look}
use Rattle.pm_cars.specs.declared.look.Look.TheVariants.{Live, Moved, Gone}
use Rattle.pm_trains.specs.Trains.{Train, oldest, first_car}
use Rattle.pm_trains.specs.Sound.{Rise, Filled}
use Rattle.pm_view.specs.declared.phase.Phase.{Phase}
use Rattle.pm_view.specs.declared.phase.Phase.TheVariants.{Idle, Draining, Moving, Sweeping, Doomed}
use Rattle.pm_view.specs.View.{SpaceView}
use Rattle.pm_view.specs.Seen.{Seen, Leads}
use Rattle.pm_view.specs.Law.{HeapLaw, IsPhaseOf, IsFront, IsOldest}

Rise-prop : (low : ℕ) (ts : List Train) → IsProp (Rise low ts)
Rise-prop low [] = hlevel props
Rise-prop low (t ∷ ts) = hlevel (props, Rise-prop t.number ts)

Filled-prop : (ts : List Train) → IsProp (Filled ts)
Filled-prop [] = hlevel props
Filled-prop (t ∷ ts) = hlevel (props, Filled-prop ts)

Leads-prop : (s : Seen) (a : Addr) (p : Look) → IsProp (Leads s a p)
Leads-prop s a Live = hlevel props
Leads-prop s a (Moved b) = hlevel props
Leads-prop s a Gone = hlevel props

IsSomeAnd-prop : {A : Type 0} (o : Option A) (P : A → Type 0) → ((x : A) → IsProp (P x)) → IsProp (IsSomeAnd o P)
IsSomeAnd-prop None P each = hlevel props
IsSomeAnd-prop (Some x) P each = hlevel (props, each)

IsFront-prop : (ts : List Train) (car : ℕ) → IsProp (IsFront ts car)
IsFront-prop ts car = IsSomeAnd-prop (oldest ts) (λ train. IsOldest ts train × (first_car ts train ≡ Some car)) (λ train. hlevel props)

IsAt-prop : (phase : Phase) (ts : List Train) (anchor : Option (Addr × ℕ)) → IsProp (IsPhaseOf phase ts anchor)
IsAt-prop Idle ts anchor = hlevel props
IsAt-prop (Draining train) ts anchor = hlevel props
IsAt-prop (Moving car) ts anchor = IsFront-prop ts car
IsAt-prop (Sweeping car) ts anchor = IsFront-prop ts car
IsAt-prop (Doomed train) ts anchor = hlevel props

pub HeapLaw-prop : (view : SpaceView) → IsProp (HeapLaw view)
HeapLaw-prop view = hlevel (props, Rise-prop, Filled-prop, Leads-prop, IsAt-prop)
