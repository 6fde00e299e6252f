use Rattle.std.proofs.Common.{◌<◌, arith, sym, ap, ◌∙◌, length, take, get_or}
use Rattle.std.specs.List.{sum_by}
use Rattle.std.proofs.lemmas.List.Sums.{sum_by_more}
use Rattle.pm_trains.specs.Trains.{empty_train}
use Rattle.pm_view.specs.Counts.{standing_in, standing_of}
use Rattle.pm_types.specs.Counts.{capped}
use Rattle.pm_space.specs.Shown.{view}
use Rattle.pm_space.proofs.CountingUp.{capped_more, counted_there}
use Rattle.pm_space.proofs.counting.standing.Goals as goal

pub loop-place-preserved : goal.loop-place-preserved
loop-place-preserved g c =
    let v = view c.args.parts.now in
    let ts = c.args.parts.now.trains.trains in
    let i = c.loop-place.place in
    let inside : i < length ts = omega (arith, c.loop-place-test.true, c.len-place-end.ensures.len) in
    c.saturating_add-sum.ensures
    ∙ capped_more (sum_by (standing_of v) (take i ts)) (standing_of v (get_or ts i (empty_train 0))) _ _ c.loop-place.invariant
    (counted_there ts i c.nth-train.result (empty_train 0) (standing_in v) _ c.sound.ensures.rising inside c.nth-train.ensures.train c.in_train.ensures)
    ∙ ap capped (sym (sum_by_more (standing_of v) ts i (empty_train 0) inside))
