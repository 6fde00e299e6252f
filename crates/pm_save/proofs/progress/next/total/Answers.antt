use Rattle.std.proofs.Common.{rules, arith}
use Rattle.std.proofs.lemmas.Grind.{common_steps}
use Rattle.std.proofs.lemmas.List.Sums.{sum_by_more_le}
use Rattle.pm_save.proofs.progress.next.total.Goals as goal

pub overflow_add-total : goal.overflow_add-total
overflow_add-total c = let le = sum_by_more_le (λ n. n) c.args.counts.now c.loop-count.count-index 0 (search rules) in grind (arith, common_steps)
