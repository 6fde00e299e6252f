use Rattle.std.proofs.Common.{rules}
use Rattle.pm_young.proofs.Whole.{all_kept, tally_whole}
use Rattle.pm_young.proofs.engine.YoungEngine.into_parts.Goals as goal

pub invariant_of-works : goal.invariant_of-works
invariant_of-works g c = record { kept = c.args.self.works.saver.writer.kept }

pub returns-clause-journal : goal.returns-clause-journal
returns-clause-journal g c = all_kept c.args.self.works c.args.self.whole

pub returns-clause-tally : goal.returns-clause-tally
returns-clause-tally g c = tally_whole c.args.self _ (search rules)
