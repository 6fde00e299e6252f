-- After a move only the slot of the object that moved can be named by a stale source.
use Rattle.std.proofs.Common.{◌≡◌, ℕ, Bool, true, false, refl, ap, sym, subst, ◌∙◌, Option, Some, None}
use Rattle.std.specs.Option.{IsSome}
use Rattle.std.specs.FinMap.{get}
use Rattle.std.proofs.lemmas.Bool.{true≢false}
use Rattle.pm_types.specs.declared.address.Addr.{Addr}
use Rattle.pm_types.specs.declared.object.Slot.{Slot}
use Rattle.pm_types.specs.declared.source.RefSource.{RefSource}
use Rattle.pm_cars.specs.Cars.{object_of}
use Rattle.pm_view.specs.Sources.{same_address}
use Rattle.pm_view.specs.View.{Sources, SpaceView}
use Rattle.pm_view.specs.Reading.{slot_at, object_at}
use Rattle.pm_view.specs.Law.{HeapLaw}
use Rattle.pm_view.specs.Candidates.{set_of}
use Rattle.pm_view.specs.Events.{Row, nothing, select, apply, doom, start, fix, move_anchor, move_out, move_on, finish, sweep, free, free_doomed, went, has_gone, next_row, after, MayPick, MayPlace, MovesTo}
use Rattle.pm_law_commands.proofs.RowLemmas.SameSource.{same_address-true}
use Rattle.pm_law_collect.proofs.PhasesLemmas.Comes.{IsEmptied, comes_where}
use Rattle.pm_law_collect.specs.Moves.Moved.{HasMoved}
use Rattle.pm_law_collect.proofs.MovesLemmas.MoveRow.{IsLighter}
use Rattle.pm_law_collect.proofs.MovesLemmas.MoveRows.{remembered_live, anchor_car, anchor_moves, object_moves_out, object_moves_on}
use Rattle.pm_view.specs.Stale.{NamesOnly}
use Rattle.pm_law_collect.proofs.WorkLemmas.StaleLooks.{gone_same, stands_here}

module _ (view t : SpaceView) (a : Addr) (car : ℕ) (law : HeapLaw view) (is : IsEmptied view car None) (own : a.car ≡ car) (lighter : IsLighter view a t) (moved : HasMoved view t a) where
  -- what the car remembered was an object
  was_live : (x : RefSource) (at : ℕ) → get (set_of view a.car) x ≡ Some at → IsSome (object_at view.cars (record { car = a.car; slot = at }))
  was_live x at held =
      subst (λ c. IsSome (object_at view.cars (record { car = c; slot = at }))) (sym own)
      (remembered_live view car law is x at (subst (λ c. get (set_of view c) x ≡ Some at) own held))

  -- and it did not move away, but the one that moves
  by_place : (at : ℕ) (b d : Bool) → same_address a (record { car = a.car; slot = at }) ≡ b → same_address moved.to (record { car = a.car; slot = at }) ≡ d → IsSome (object_at view.cars (record { car = a.car; slot = at }))
      → has_gone (went (slot_at t.cars (record { car = a.car; slot = at }))) ≡ true → at ≡ a.slot
  by_place at true d here there live gone = sym (ap (λ (p : Addr). p.slot) (same_address-true a (record { car = a.car; slot = at }) here))
  by_place at false true here there live gone =
      let none : slot_at view.cars (record { car = a.car; slot = at }) ≡ None = ap (slot_at view.cars) (sym (same_address-true moved.to (record { car = a.car; slot = at }) there)) ∙ moved.none in
      absurd (true≢false (sym (subst (λ (o : Option Slot). IsSome (object_of o)) none live)))
  by_place at false false here there live gone =
      absurd (true≢false (sym gone ∙ gone_same _ _ (moved.looks (record { car = a.car; slot = at }) here there) ∙ stands_here (slot_at view.cars (record { car = a.car; slot = at })) live))

  moved_names : NamesOnly t a.slot
  moved_names e moving x at held gone =
      let back : e ≡ car = cc (sym is.moving ∙ (sym lighter.phase ∙ moving)) in
      let home : e ≡ a.car = back ∙ sym own in
      let there = subst (λ e. get (set_of t e) x ≡ Some at) home held in
      let went_there = subst (λ e. has_gone (went (slot_at t.cars (record { car = e; slot = at }))) ≡ true) home gone in
      by_place at _ _ refl refl (was_live x at (ap (λ (s : Sources). get s x) (sym lighter.set) ∙ there)) went_there

pub only_moved : (view : SpaceView) (row : Row) (picked number train : ℕ) (b : Addr) → HeapLaw view → next_row view ≡ row → MayPick view picked row → MayPlace view number row → MovesTo picked row b train → NamesOnly (after view picked number row) b.slot
only_moved view nothing picked number train b law next may vacant moves = absurd moves
only_moved view (select n) picked number train b law next may vacant moves = absurd moves
only_moved view (apply car) picked number train b law next may vacant moves = absurd moves
only_moved view (doom n) picked number train b law next may vacant moves = absurd moves
only_moved view (start car a) picked number train b law next may vacant moves = absurd moves
only_moved view (fix car source to) picked number train b law next may vacant moves = absurd moves
only_moved view (move_anchor a to) picked number train b law next may vacant moves =
    let is = comes_where view (move_anchor a to) next in
    let goes = anchor_moves view a to number law is vacant in
    subst (λ (c : Addr). NamesOnly (after view picked number (move_anchor a to)) c.slot) (sym moves.0)
    (moved_names view (after view picked number (move_anchor a to)) a is.car law is.emptied (anchor_car view a to number law is vacant) goes.3 goes.4)
only_moved view (move_out a) picked number train b law next may vacant moves =
    let is = comes_where view (move_out a) next in
    let goes = object_moves_out view a picked number law is may vacant in
    subst (λ (c : Addr). NamesOnly (after view picked number (move_out a)) c.slot) (sym moves.0)
    (moved_names view (after view picked number (move_out a)) a is.car law is.emptied (ap (λ (a : Addr). a.car) is.here) goes.3 goes.4)
only_moved view (move_on a n) picked number train b law next may vacant moves =
    let is = comes_where view (move_on a n) next in
    let goes = object_moves_on view a n number law is vacant in
    subst (λ (c : Addr). NamesOnly (after view picked number (move_on a n)) c.slot) (sym moves.0)
    (moved_names view (after view picked number (move_on a n)) a is.car law is.emptied (ap (λ (a : Addr). a.car) is.here) goes.3 goes.4)
only_moved view (finish car) picked number train b law next may vacant moves = absurd moves
only_moved view (sweep a) picked number train b law next may vacant moves = absurd moves
only_moved view (free car) picked number train b law next may vacant moves = absurd moves
only_moved view (free_doomed n car) picked number train b law next may vacant moves = absurd moves
