use Rattle.std.proofs.Common.{◌≤◌, ◌<◌, arith, length}
use Rattle.pm_space.specs.Shown.{view}
use Rattle.pm_walk.proofs.Steps.{none_done, one_more_done, all_done, begun_grows}
use Rattle.pm_walk.proofs.Broad.{begun_turns, begun_broad, none_passed, more_turns, more_broad, more_passed, not_found}
use Rattle.pm_walk.proofs.walk.walk_until.Goals as goal

pub loop-place-init : goal.loop-place-init
loop-place-init g c =
    let v = view c.args.space.now.parts in
    let walk = c.in_ok-walk.walk in
    let begun = c.in_ok-walk.ensures in
    record {
      sound = begun.sound;
      begun = begun.begun;
      done = none_done v walk;
      broad = begun_broad v walk begun.sound begun.begun begun.by;
      turns = begun_turns v walk begun.sound begun.begun begun.by;
      passed = none_passed walk c.args.id;
    }

pub loop-place-preserved : goal.loop-place-preserved
loop-place-preserved g c =
    let v = view c.args.space.now.parts in
    let old = c.loop-place.walk in
    let new = c.look.new.walk in
    let kept = c.loop-place.invariant in
    let step = c.in_ok-look.ensures in
    let within : c.loop-place.place < length old.found.items = omega (arith, c.if-place-len.false, c.len.ensures) in
    record {
      sound = step.sound;
      begun = begun_grows v old new step.grows kept.begun;
      done = one_more_done v old new c.loop-place.place within step.grows kept.done step.done;
      broad = more_broad v old new c.loop-place.place within step.sound step.grows step.done step.by kept.turns kept.broad;
      turns = more_turns v old new c.loop-place.place within step.sound step.grows step.done step.by kept.turns;
      passed = more_passed v old new c.loop-place.place within step.sound step.grows step.done step.by kept.turns c.args.id (c.is_at.ensures.no c.if-is_at.false) kept.passed;
    }

pub returns-then-is_at-clause-found : goal.returns-then-is_at-clause-found
returns-then-is_at-clause-found g c = c.is_at.ensures.yes c.if-is_at.true

pub returns-then-place-len-clause-none : goal.returns-then-place-len-clause-none
returns-then-place-len-clause-none g c =
    let v = view c.args.space.now.parts in
    let walk = c.loop-place.walk in
    let kept = c.loop-place.invariant in
    let all : length walk.found.items ≤ c.loop-place.place = omega (arith, c.if-place-len.true, c.len.ensures) in
    not_found v c.args.space.now.kept walk kept.sound (record { begun = kept.begun; done = all_done v walk c.loop-place.place all kept.done }) c.args.id c.loop-place.place all kept.passed

pub returns-clause-none : goal.returns-clause-none
returns-clause-none g c =
    let v = view c.args.space.now.parts in
    let walk = c.loop-place.walk in
    let kept = c.loop-place.invariant in
    let all : length walk.found.items ≤ c.loop-place.place = omega (arith, c.loop-place-test.false, walk.found.small) in
    not_found v c.args.space.now.kept walk kept.sound (record { begun = kept.begun; done = all_done v walk c.loop-place.place all kept.done }) c.args.id c.loop-place.place all kept.passed
