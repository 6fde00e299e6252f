use Rattle.std.proofs.Common.{◌∙◌, rules}
use Rattle.pm_io.proofs.TriesLemmas.{none_interrupted, one_failed, one_interrupted, only_interrupted, too_often}
use Rattle.pm_io.proofs.WrittenSoFar.{none_written}
use Rattle.pm_io.proofs.std_sink.write_once.Goals as goal

pub returns-in-Ok-eq0-clause-err : goal.returns-in-Ok-eq0-clause-err
returns-in-Ok-eq0-clause-err g c = λ bytes told.
    none_written bytes c.args.from.now _ _ c.in-Ok-eq0.field-0-test (c.in-Ok-eq0.ensures.appended bytes (c.loop-turn.invariant.kept bytes told))

pub returns-in-Ok-eq0-clause-flush_stays : goal.returns-in-Ok-eq0-clause-flush_stays
returns-in-Ok-eq0-clause-flush_stays g c = c.accept.ensures.flush_stays ∙ c.loop-turn.invariant.flush_stays

pub returns-in-Ok-eq0-clause-shown : goal.returns-in-Ok-eq0-clause-shown
returns-in-Ok-eq0-clause-shown g c = one_failed _ _ _ _ c.loop-turn.invariant.interrupted (c.in-Ok-eq0.ensures.stuck c.in-Ok-eq0.field-0-test)

pub returns-in-Ok-clause-ok : goal.returns-in-Ok-clause-ok
returns-in-Ok-clause-ok g c = λ bytes told. c.in-Ok.ensures.appended bytes (c.loop-turn.invariant.kept bytes told)

pub returns-in-Ok-clause-flush_stays : goal.returns-in-Ok-clause-flush_stays
returns-in-Ok-clause-flush_stays g c = c.accept.ensures.flush_stays ∙ c.loop-turn.invariant.flush_stays

pub returns-in-Ok-clause-none_failed : goal.returns-in-Ok-clause-none_failed
returns-in-Ok-clause-none_failed g c = only_interrupted _ _ _ (c.in-Ok.ensures.done (search rules) ∙ c.loop-turn.invariant.interrupted)

pub returns-then-ne-clause-err : goal.returns-then-ne-clause-err
returns-then-ne-clause-err g c = λ bytes told. c.in-Err.ensures.kept bytes (c.loop-turn.invariant.kept bytes told)

pub returns-then-ne-clause-flush_stays : goal.returns-then-ne-clause-flush_stays
returns-then-ne-clause-flush_stays g c = c.accept.ensures.flush_stays ∙ c.loop-turn.invariant.flush_stays

pub returns-then-ne-clause-shown : goal.returns-then-ne-clause-shown
returns-then-ne-clause-shown g c = one_failed _ _ _ _ c.loop-turn.invariant.interrupted (c.in-Err.ensures.failed (search rules))

pub returns-clause-err : goal.returns-clause-err
returns-clause-err g c = λ bytes told. c.loop-turn.invariant.kept bytes told

pub returns-clause-flush_stays : goal.returns-clause-flush_stays
returns-clause-flush_stays g c = c.loop-turn.invariant.flush_stays

pub returns-clause-shown : goal.returns-clause-shown
returns-clause-shown g c = too_often _ _ _ c.loop-turn-test.false c.loop-turn.invariant.interrupted

pub loop-turn-init : goal.loop-turn-init
loop-turn-init g c = record { kept = λ bytes told. told; flush_stays = search rules; interrupted = none_interrupted _ }

pub loop-turn-preserved : goal.loop-turn-preserved
loop-turn-preserved g c = record {
  kept = λ bytes told. c.in-Err.ensures.kept bytes (c.loop-turn.invariant.kept bytes told);
  flush_stays = c.accept.ensures.flush_stays ∙ c.loop-turn.invariant.flush_stays;
  interrupted = one_interrupted _ _ _ _ c.loop-turn.invariant.interrupted (c.in-Err.ensures.interrupted (search rules));
}
