use Rattle.std.proofs.Common.{◌∙◌}
use Rattle.pm_young.proofs.Whole.{all_kept}
use Rattle.pm_young.proofs.engine.YoungEngine.journal.Goals as goal

pub returns : goal.returns
returns g c = let it = c.args.self.now in c.as_slice.ensures.value ∙ all_kept it.works it.whole
