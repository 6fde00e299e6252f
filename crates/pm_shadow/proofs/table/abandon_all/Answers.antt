use Rattle.pm_shadow.specs.Uses.{abandoned}
use Rattle.pm_shadow.specs.declared.page_use.PageUse.TheVariants.{Free}
use Rattle.pm_shadow.proofs.TableLemmas.{map_step}
use Rattle.pm_shadow.proofs.table.abandon_all.Goals as goal

pub loop-page_use-preserved : goal.loop-page_use-preserved
loop-page_use-preserved c =
    map_step abandoned c.loop-page_use.uses c.args.uses.now c.loop-page_use.page_use-index c.abandoned.result Free c.loop-page_use.invariant c.loop-page_use-test.true c.abandoned.ensures
