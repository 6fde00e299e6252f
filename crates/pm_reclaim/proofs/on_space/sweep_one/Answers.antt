use Rattle.pm_view.specs.Events.{Row, start, move_out, next_row}
use Rattle.pm_space.specs.Shown.{view}
use Rattle.pm_evac.specs.Steps.{IsSweep, IsPicking}
use Rattle.pm_reclaim.proofs.on_space.sweep_one.Goals as goal

-- where an object is swept no train is picked
none_picked : (row : Row) → IsSweep row → IsPicking row → ⊥
none_picked (start car a) is picks = is
none_picked (move_out a) is picks = is
none_picked row is picks = picks

pub make_next-requires : goal.make_next-requires
make_next-requires g c = λ picks. absurd (none_picked (next_row (view c.args.space.now.parts)) c.requires picks)
