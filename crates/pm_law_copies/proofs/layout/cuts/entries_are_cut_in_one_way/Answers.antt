use Rattle.pm_law_copies.proofs.LayoutLemmas.Cutting.{is_cut, one_cut}
use Rattle.pm_law_copies.proofs.LayoutLemmas.Sizes.{planned_cut}
use Rattle.pm_law_copies.proofs.layout.cuts.entries_are_cut_in_one_way.Goals as goal

pub returns-clause-some : goal.returns-clause-some
returns-clause-some c = is_cut

pub returns-clause-one : goal.returns-clause-one
returns-clause-one c = one_cut

pub returns-clause-planned : goal.returns-clause-planned
returns-clause-planned c = planned_cut
