-- Which places change where an object moves.
use Rattle.std.proofs.Common.{◌≡◌, ℕ, sym, subst}
use Rattle.pm_types.specs.declared.address.Addr.{Addr}
use Rattle.pm_view.specs.View.{SpaceView}
use Rattle.pm_view.specs.Law.{HeapLaw}
use Rattle.pm_view.specs.Events.{Row, nothing, select, apply, doom, start, fix, move_anchor, move_out, move_on, finish, sweep, free, free_doomed, next_row, after, MayPick, MayPlace, MovesTo}
use Rattle.pm_law_collect.proofs.PhasesLemmas.Comes.{comes_where}
use Rattle.pm_law_collect.specs.Moves.Moved.{HasMoved}
use Rattle.pm_law_collect.proofs.MovesLemmas.MoveRows.{anchor_moves, object_moves_out, object_moves_on}

pub once_moved : (view : SpaceView) (picked number : ℕ) (row : Row) → HeapLaw view → next_row view ≡ row → MayPick view picked row → MayPlace view number row → (a : Addr) (train : ℕ) → MovesTo picked row a train → HasMoved view (after view picked number row) a
once_moved view picked number nothing law next may vacant a train moves = absurd moves
once_moved view picked number (select n) law next may vacant a train moves = absurd moves
once_moved view picked number (apply car) law next may vacant a train moves = absurd moves
once_moved view picked number (doom n) law next may vacant a train moves = absurd moves
once_moved view picked number (start car b) law next may vacant a train moves = absurd moves
once_moved view picked number (fix car source b) law next may vacant a train moves = absurd moves
once_moved view picked number (move_anchor b to) law next may vacant a train moves = subst (HasMoved view (after view picked number (move_anchor b to))) (sym moves.0) (anchor_moves view b to number law (comes_where view (move_anchor b to) next) vacant).4
once_moved view picked number (move_out b) law next may vacant a train moves = subst (HasMoved view (after view picked number (move_out b))) (sym moves.0) (object_moves_out view b picked number law (comes_where view (move_out b) next) may vacant).4
once_moved view picked number (move_on b n) law next may vacant a train moves = subst (HasMoved view (after view picked number (move_on b n))) (sym moves.0) (object_moves_on view b n number law (comes_where view (move_on b n) next) vacant).4
once_moved view picked number (finish car) law next may vacant a train moves = absurd moves
once_moved view picked number (sweep b) law next may vacant a train moves = absurd moves
once_moved view picked number (free car) law next may vacant a train moves = absurd moves
once_moved view picked number (free_doomed n car) law next may vacant a train moves = absurd moves
