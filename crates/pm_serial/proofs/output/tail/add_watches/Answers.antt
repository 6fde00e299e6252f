use Rattle.std.proofs.Common.{◌∙◌}
use Rattle.std.proofs.lemmas.Result.{err_from_is_err_and}
use Rattle.pm_serial.proofs.OutputLemmas.WatchLines.{goes_all, goes_more, part_so_far}
use Rattle.pm_serial.proofs.output.tail.add_watches.Goals as goal

pub returns-in_err-add_line-clause-part : goal.returns-in_err-add_line-clause-part
returns-in_err-add_line-clause-part g c =
    let p = err_from_is_err_and c.from_residual.result c.from_residual.ensures.1 in
    rw p.1 (part_so_far c.args.lines.now c.loop-watch.watch-index _ _ _ _ _ c.loop-watch.invariant.adds c.in_err-add_line.ensures.part)

pub loop-watch-preserved : goal.loop-watch-preserved
loop-watch-preserved g c =
    let was = c.loop-watch.invariant in
    let more = c.in_ok-add_line.ensures in
    record {
      adds = goes_more c.args.lines.now c.loop-watch.watch-index _ c.as_slice.result.now _ _ _ _ _ _ c.loop-watch-test.true (c.as_slice.ensures.value ∙ c.watch_line.ensures) was.adds more.adds;
      finish_stays = more.finish_stays ∙ was.finish_stays;
      counted = more.counted ∙ was.counted;
    }

pub returns-clause-adds : goal.returns-clause-adds
returns-clause-adds g c = goes_all c.args.lines.now c.loop-watch.watch-index _ _ _ _ c.loop-watch-test.false c.loop-watch.invariant.adds
