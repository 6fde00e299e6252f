use Rattle.std.proofs.Common.{◌∙◌, arith, rules}
use Rattle.pm_io.proofs.TriesLemmas.{none_interrupted, one_failed, one_interrupted, only_interrupted, too_often}
use Rattle.pm_io.proofs.std_source.give_once.Goals as goal

pub returns-in-Ok-clause-taken : goal.returns-in-Ok-clause-taken
returns-in-Ok-clause-taken g c = λ bytes told. c.in-Ok.ensures.taken bytes (c.loop-turn.invariant.kept bytes told)

pub returns-in-Ok-clause-end : goal.returns-in-Ok-clause-end
returns-in-Ok-clause-end g c = λ bytes told none some.
    c.in-Ok.ensures.end bytes (c.loop-turn.invariant.kept bytes told) none (omega (arith, some, c.loop-turn.auto.into))

pub returns-in-Ok-clause-none_failed : goal.returns-in-Ok-clause-none_failed
returns-in-Ok-clause-none_failed g c = only_interrupted _ _ _ (c.in-Ok.ensures.done ∙ c.loop-turn.invariant.interrupted)

pub returns-then-ne-clause-kept : goal.returns-then-ne-clause-kept
returns-then-ne-clause-kept g c = λ bytes told. c.in-Err.ensures.kept bytes (c.loop-turn.invariant.kept bytes told)

pub returns-then-ne-clause-shown : goal.returns-then-ne-clause-shown
returns-then-ne-clause-shown g c = one_failed _ _ _ _ c.loop-turn.invariant.interrupted (c.in-Err.ensures.failed (search rules))

pub returns-clause-kept : goal.returns-clause-kept
returns-clause-kept g c = λ bytes told. c.loop-turn.invariant.kept bytes told

pub returns-clause-shown : goal.returns-clause-shown
returns-clause-shown g c = too_often _ _ _ c.loop-turn-test.false c.loop-turn.invariant.interrupted

pub loop-turn-preserved : goal.loop-turn-preserved
loop-turn-preserved g c = record {
  kept = λ bytes told. c.in-Err.ensures.kept bytes (c.loop-turn.invariant.kept bytes told);
  interrupted = one_interrupted _ _ _ _ c.loop-turn.invariant.interrupted (c.in-Err.ensures.interrupted (search rules));
}

pub loop-turn-init : goal.loop-turn-init
loop-turn-init g c = record { kept = λ bytes told. told; interrupted = none_interrupted _ }
