use Rattle.std.proofs.Common.{◌≤◌, ◌<◌, arith, length}
use Rattle.pm_space.specs.Shown.{view}
use Rattle.pm_walk.proofs.Steps.{none_done, one_more_done, all_done, begun_grows}
use Rattle.pm_walk.proofs.walk.walk_space.Goals as goal

pub loop-place-init : goal.loop-place-init
loop-place-init g c =
    let v = view c.args.space.now.parts in
    let walk = c.in_ok-walk.walk in
    record { sound = c.in_ok-walk.ensures.sound; begun = c.in_ok-walk.ensures.begun; done = none_done v walk }

pub loop-place-preserved : goal.loop-place-preserved
loop-place-preserved g c =
    let v = view c.args.space.now.parts in
    let old = c.loop-place.walk in
    let new = c.look.new.walk in
    let kept = c.loop-place.invariant in
    let step = c.in_ok-look.ensures in
    let within : c.loop-place.place < length old.found.items = omega (arith, c.if-place-len.false, c.len.ensures) in
    record { sound = step.sound; begun = begun_grows v old new step.grows kept.begun; done = one_more_done v old new c.loop-place.place within step.grows kept.done step.done }

pub returns-then-place-len-clause-whole : goal.returns-then-place-len-clause-whole
returns-then-place-len-clause-whole g c =
    let v = view c.args.space.now.parts in
    let walk = c.loop-place.walk in
    let all : length walk.found.items ≤ c.loop-place.place = omega (arith, c.if-place-len.true, c.len.ensures) in
    record { begun = c.loop-place.invariant.begun; done = all_done v walk c.loop-place.place all c.loop-place.invariant.done }

pub returns-clause-whole : goal.returns-clause-whole
returns-clause-whole g c =
    let v = view c.args.space.now.parts in
    let walk = c.loop-place.walk in
    let all : length walk.found.items ≤ c.loop-place.place = omega (arith, c.loop-place-test.false, walk.found.small) in
    record { begun = c.loop-place.invariant.begun; done = all_done v walk c.loop-place.place all c.loop-place.invariant.done }
