-- The slot that stale sources can name, once an event was made.
use Rattle.std.proofs.Common.{◌≡◌, ℕ, Option, Some, None, sym, ap, subst, ◌∙◌, IsSome}
use Rattle.std.specs.FinMap.{get}
use Rattle.std.proofs.lemmas.Bool.{true≢false}
use Rattle.pm_types.specs.declared.event.Step.{Step}
use Rattle.pm_view.specs.View.{SpaceView}
use Rattle.pm_view.specs.Law.{HeapLaw}
use Rattle.pm_view.specs.Reading.{slot_at, object_at}
use Rattle.pm_view.specs.Candidates.{set_of}
use Rattle.pm_view.specs.Events.{Row, after, next_row, MayPick, MayPlace}
use Rattle.pm_view.specs.Stale.{IsSole, NamesOnly}
use Rattle.pm_law_collect.proofs.PhasesLemmas.Comes.{IsEmptied}
use Rattle.pm_law_collect.proofs.MovesLemmas.MoveRows.{remembered_live}
use Rattle.pm_law_collect.proofs.WorkLemmas.StaleLooks.{stands_here}
use Rattle.pm_evac.specs.Steps.{IsEvent}

-- what the row that came next leaves
pub sole_after : (old new : SpaceView) (step : Step) (row : Row) (slot : Option ℕ) → next_row old ≡ row → ((picked number : ℕ) → MayPick old picked row → MayPlace old number row → IsSole (after old picked number row) slot) → IsEvent old new step
    → IsSole new slot
sole_after old new step row slot next leaves event =
    subst (λ (v : SpaceView). IsSole v slot) (sym (event.after ∙ ap (after old event.picked event.number) next))
    (leaves event.picked event.number (subst (MayPick old event.picked) next event.may_pick) (subst (MayPlace old event.number) next event.may_place))

-- where no source is to be fixed none names a slot whose object moved away, so it may be said of any slot
pub none_stale : (v : SpaceView) (car slot : ℕ) → HeapLaw v → IsEmptied v car None → NamesOnly v slot
none_stale v car slot law is e moving x at held gone =
    let home : e ≡ car = cc (sym moving ∙ is.moving) in
    let live : IsSome (object_at v.cars (record { car = car; slot = at })) = remembered_live v car law is x at (subst (λ e. get (set_of v e) x ≡ Some at) home held) in
    absurd (true≢false (sym gone ∙ stands_here (slot_at v.cars (record { car = e; slot = at })) (subst (λ e. IsSome (object_at v.cars (record { car = e; slot = at }))) (sym home) live)))
