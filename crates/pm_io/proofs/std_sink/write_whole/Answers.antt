use Rattle.std.proofs.Common.{arith}
use Rattle.std.proofs.lemmas.Grind.{common_steps}
use Rattle.pm_io.proofs.TriesLemmas.{none_failed_more, shown_behind}
use Rattle.pm_io.proofs.WrittenSoFar.{written_more}
use Rattle.pm_io.proofs.std_sink.write_whole.Goals as goal

pub loop-done-preserved : goal.loop-done-preserved
loop-done-preserved g c = record {
  within = grind (arith, common_steps, c.in_ok-done.ensures.fits);
  written = λ bytes told.
      written_more bytes c.args.from.now c.loop-done.done c.in_ok-done.field-0 _ _ c.loop-done.invariant.within (c.loop-done.invariant.written bytes told) c.in_ok-done.ensures.ok;
  flush_stays = grind (arith, common_steps, c.loop-done.invariant.flush_stays, c.in_ok-done.ensures.flush_stays);
  none_failed = none_failed_more _ _ _ c.loop-done.invariant.none_failed c.in_ok-done.ensures.none_failed;
}

pub returns-in_err-done-clause-shown : goal.returns-in_err-done-clause-shown
returns-in_err-done-clause-shown g c =
    let shown = shown_behind _ _ _ c.loop-done.invariant.none_failed c.in_err-done.ensures.shown in
    grind (arith, common_steps, shown, c.from_residual.ensures)
