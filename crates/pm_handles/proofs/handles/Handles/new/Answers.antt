use Rattle.std.proofs.Common.{rules}
use Rattle.pm_handles.proofs.Held.{nothing_held}
use Rattle.pm_handles.proofs.handles.Handles.new.Goals as goal

pub returns : goal.returns
returns c = nothing_held c.in_ok-vec.field-0.items 8192 (c.in_ok-vec.ensures.items_if_clones_equal (search rules))
