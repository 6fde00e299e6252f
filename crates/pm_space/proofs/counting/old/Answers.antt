use Rattle.std.proofs.Common.{◌<◌, arith, sym, ap, ◌∙◌, length, take, get_or, cond, nat_le}
use Rattle.pm_trains.specs.Trains.{empty_train}
use Rattle.pm_view.specs.Counts.{standing_in, standing_of, old_in}
use Rattle.pm_types.specs.Counts.{capped}
use Rattle.pm_space.specs.Shown.{view}
use Rattle.pm_space.proofs.CountingUp.{capped_more, counted_if_old, old_more}
use Rattle.pm_space.proofs.counting.old.Goals as goal

pub loop-place-preserved : goal.loop-place-preserved
loop-place-preserved g c =
    let v = view c.args.parts.now in
    let ts = c.args.parts.now.trains.trains in
    let i = c.loop-place.place in
    let inside : i < length ts = omega (arith, c.loop-place-test.true, c.len-place-end.ensures.len) in
    c.saturating_add-sum.ensures
    ∙ capped_more (old_in v c.args.youngest (take i ts)) (cond (nat_le (get_or ts i (empty_train 0)).number c.args.youngest) (standing_of v (get_or ts i (empty_train 0))) 0) _ _ c.loop-place.invariant
    (counted_if_old ts i c.nth-train.result c.args.youngest (empty_train 0) (standing_in v) _ c.sound.ensures.rising inside c.nth-train.ensures.train c.in_old_train.ensures)
    ∙ ap capped (sym (old_more v c.args.youngest ts i (empty_train 0) inside))
