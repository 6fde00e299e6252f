use Rattle.std.proofs.Common.{◌≡◌, ℕ, ◌<◌, ◌++◌, arith, ap, ◌∙◌, List, length, get_or}
use Rattle.pm_trains.specs.Trains.{empty_train}
use Rattle.pm_space.specs.Shown.{view}
use Rattle.pm_inspect.specs.Report.{train_text}
use Rattle.pm_inspect.proofs.Places.{at_place, text_more}
use Rattle.pm_inspect.proofs.reporting.append_trains.Goals as goal

pub loop-place-preserved : goal.loop-place-preserved
loop-place-preserved g c =
    let v = view c.args.parts.now in
    let ts = c.args.parts.now.trains.trains in
    let i = c.loop-place.place in
    let d = empty_train 0 in
    let inside : i < length ts = omega (arith, c.loop-place-test.true, c.len-place-end.ensures.len) in
    at_place ts i c.nth-train.result d (λ t. c.append_train.new.out.items ≡ c.loop-place.out.items ++ train_text v t) c.sound.ensures.rising inside c.nth-train.ensures.train c.in_ok-append_train.ensures
    ∙ ap (λ (b : List ℕ). b ++ train_text v (get_or ts i d)) c.loop-place.invariant
    ∙ text_more (train_text v) c.args.out.now.items ts i d inside
