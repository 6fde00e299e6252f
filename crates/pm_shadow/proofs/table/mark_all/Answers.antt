use Rattle.std.proofs.Common.{arith}
use Rattle.pm_shadow.proofs.table.mark_all.Goals as goal

pub index_mut-requires : goal.index_mut-requires
index_mut-requires c =
    let k = c.loop-page.page-index in
    let low = c.requires.from_2 k 0 c.loop-page-test.true in
    let high = c.requires.within k 0 c.loop-page-test.true in
    omega (arith, low, high, c.loop-page.invariant.len, c.loop-page.uses.ok.0)
