use Rattle.std.proofs.Common.{◌∙◌, rules}
use Rattle.pm_io.proofs.TriesLemmas.{none_interrupted, one_failed, one_interrupted, only_interrupted, too_often}
use Rattle.pm_io.proofs.std_sink.flush_once.Goals as goal

pub returns-in-Ok-clause-bytes_stay : goal.returns-in-Ok-clause-bytes_stay
returns-in-Ok-clause-bytes_stay g c = λ bytes told. c.flush_all.ensures.bytes_stay bytes (c.loop-turn.invariant.kept bytes told)

pub returns-in-Ok-clause-all_flushed : goal.returns-in-Ok-clause-all_flushed
returns-in-Ok-clause-all_flushed g c = λ bytes told. c.in-Ok.ensures.all_flushed bytes (c.loop-turn.invariant.kept bytes told)

pub returns-in-Ok-clause-none_failed : goal.returns-in-Ok-clause-none_failed
returns-in-Ok-clause-none_failed g c = only_interrupted _ _ _ (c.in-Ok.ensures.done ∙ c.loop-turn.invariant.interrupted)

pub returns-then-ne-clause-bytes_stay : goal.returns-then-ne-clause-bytes_stay
returns-then-ne-clause-bytes_stay g c = λ bytes told. c.flush_all.ensures.bytes_stay bytes (c.loop-turn.invariant.kept bytes told)

pub returns-then-ne-clause-flush_stays : goal.returns-then-ne-clause-flush_stays
returns-then-ne-clause-flush_stays g c = c.in-Err.ensures.flush_stays ∙ c.loop-turn.invariant.flush_stays

pub returns-then-ne-clause-shown : goal.returns-then-ne-clause-shown
returns-then-ne-clause-shown g c = one_failed _ _ _ _ c.loop-turn.invariant.interrupted (c.in-Err.ensures.failed (search rules))

pub returns-clause-bytes_stay : goal.returns-clause-bytes_stay
returns-clause-bytes_stay g c = λ bytes told. c.loop-turn.invariant.kept bytes told

pub returns-clause-flush_stays : goal.returns-clause-flush_stays
returns-clause-flush_stays g c = c.loop-turn.invariant.flush_stays

pub returns-clause-shown : goal.returns-clause-shown
returns-clause-shown g c = too_often _ _ _ c.loop-turn-test.false c.loop-turn.invariant.interrupted

pub loop-turn-init : goal.loop-turn-init
loop-turn-init g c = record { kept = λ bytes told. told; flush_stays = search rules; interrupted = none_interrupted _ }

pub loop-turn-preserved : goal.loop-turn-preserved
loop-turn-preserved g c = record {
  kept = λ bytes told. c.flush_all.ensures.bytes_stay bytes (c.loop-turn.invariant.kept bytes told);
  flush_stays = c.in-Err.ensures.flush_stays ∙ c.loop-turn.invariant.flush_stays;
  interrupted = one_interrupted _ _ _ _ c.loop-turn.invariant.interrupted (c.in-Err.ensures.interrupted (search rules));
}
