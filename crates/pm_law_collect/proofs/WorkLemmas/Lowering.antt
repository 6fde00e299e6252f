-- Each event in a collection that does not complete it lowers the work that is left.
use Rattle.std.proofs.Common.{◌≡◌, ℕ, ◌+◌, ◌≤◌, false, ap, sym, ◌∙◌, arith}
use Rattle.std.proofs.lemmas.Bool.{true≢false}
use Rattle.pm_types.specs.declared.address.Addr.{Addr}
use Rattle.pm_view.specs.declared.phase.Phase.TheVariants.{Idle, Moving}
use Rattle.pm_view.specs.View.{SpaceView}
use Rattle.pm_view.specs.Law.{HeapLaw}
use Rattle.pm_view.specs.Candidates.{queue_of}
use Rattle.pm_view.specs.Work.{work, lowers}
use Rattle.pm_view.specs.Events.{Row, nothing, select, apply, doom, start, fix, move_anchor, move_out, move_on, finish, sweep, free, free_doomed, next_row, after, completes, MayPick, MayPlace}
use Rattle.pm_law_collect.proofs.PhasesLemmas.Comes.{comes_where}
use Rattle.pm_law_collect.proofs.MovesLemmas.MoveRows.{anchor_car, anchor_moves, object_moves_out, object_moves_on}
use Rattle.pm_law_collect.proofs.WorkLemmas.WorkRows.{applied_lowers, doomed_lowers, started_lowers, finished_lowers, fixed_lowers, moved_lowers}
use Rattle.pm_law_collect.proofs.WorkLemmas.WorkEnds.{swept_lowers, freed_lowers}

pub event_lowers : (view : SpaceView) (picked number : ℕ) (row : Row) → HeapLaw view → next_row view ≡ row → MayPick view picked row → MayPlace view number row
    → (view.phase ≡ Idle → ⊥) → completes view row ≡ false → work (after view picked number row) + lowers row ≤ work view
event_lowers view picked number nothing law next may vacant busy goes = omega arith
event_lowers view picked number (select train) law next may vacant busy goes = absurd (busy (comes_where view (select train) next).idle)
event_lowers view picked number (apply car) law next may vacant busy goes = applied_lowers view car (comes_where view (apply car) next)
event_lowers view picked number (doom train) law next may vacant busy goes = doomed_lowers view train (comes_where view (doom train) next)
event_lowers view picked number (start car a) law next may vacant busy goes = started_lowers view car picked a (comes_where view (start car a) next)
event_lowers view picked number (fix car source to) law next may vacant busy goes = fixed_lowers view car source to law (comes_where view (fix car source to) next)
event_lowers view picked number (move_anchor a to) law next may vacant busy goes =
    let is = comes_where view (move_anchor a to) next in
    let own = anchor_car view a to number law is vacant in
    let goes = (anchor_moves view a to number law is vacant).3 in
    moved_lowers view (after view picked number (move_anchor a to)) a (is.emptied.moving ∙ ap Moving (sym own)) (ap (queue_of view) own ∙ is.emptied.applied) goes
event_lowers view picked number (move_out a) law next may vacant busy goes =
    let is = comes_where view (move_out a) next in
    let own : a.car ≡ is.car = ap (λ (a : Addr). a.car) is.here in
    moved_lowers view (after view picked number (move_out a)) a (is.emptied.moving ∙ ap Moving (sym own)) (ap (queue_of view) own ∙ is.emptied.applied) (object_moves_out view a picked number law is may vacant).3
event_lowers view picked number (move_on a train) law next may vacant busy goes =
    let is = comes_where view (move_on a train) next in
    let own : a.car ≡ is.car = ap (λ (a : Addr). a.car) is.here in
    moved_lowers view (after view picked number (move_on a train)) a (is.emptied.moving ∙ ap Moving (sym own)) (ap (queue_of view) own ∙ is.emptied.applied) (object_moves_on view a train number law is vacant).3
event_lowers view picked number (finish car) law next may vacant busy goes = finished_lowers view car (comes_where view (finish car) next)
event_lowers view picked number (sweep a) law next may vacant busy goes = swept_lowers view a (comes_where view (sweep a) next)
event_lowers view picked number (free car) law next may vacant busy goes = absurd (true≢false goes)
event_lowers view picked number (free_doomed train car) law next may vacant busy goes = freed_lowers view train car law (comes_where view (free_doomed train car) next) goes
