use Rattle.std.proofs.Common.{◌≡◌, ◌+◌, take, sym, ◌∙◌, ap, subst, arith, rules}
use Rattle.pm_disk.specs.Replay.{Held, is_listed, after, held_after}
use Rattle.pm_disk.specs.Crash.{Follows}
use Rattle.pm_disk.proofs.CrashLemmas.{held_more}
use Rattle.pm_disk.proofs.crash.image_after.Goals as goal

pub loop-place-preserved : goal.loop-place-preserved
loop-place-preserved c =
    let place = c.loop-place.place in
    let calls = c.args.calls.now in
    let call = c.index-calls-place.result in
    let held = held_after c.args.start.now c.args.fails.now (take place calls) in
    let flag : c.contains-fails_here.result ≡ is_listed c.args.fails.now (place + 1) = c.contains-fails_here.ensures.value in
    let is : held_after c.args.start.now c.args.fails.now (take (place + 1) calls) ≡ after c.contains-fails_here.result call held =
    held_more c.args.start.now c.args.fails.now calls place call (search rules) (sym c.index-calls-place.is) ∙ ap (λ b. after b call held) (sym flag) in
    record {
      follows = subst (λ (h : Held). Follows c.args.pick h c.call.new.self) (sym is) (c.in_ok-call.ensures.follows held c.loop-place.invariant.follows);
      few = omega (arith, c.in_ok-call.ensures.few);
    }
