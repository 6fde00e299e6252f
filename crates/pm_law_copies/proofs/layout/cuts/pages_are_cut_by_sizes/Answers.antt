use Rattle.pm_law_copies.proofs.LayoutLemmas.Sizes.{count_by_sizes, lengths_by_sizes, planned_sizes, same_count}
use Rattle.pm_law_copies.proofs.layout.cuts.pages_are_cut_by_sizes.Goals as goal

pub returns-clause-sizes : goal.returns-clause-sizes
returns-clause-sizes c = lengths_by_sizes

pub returns-clause-count : goal.returns-clause-count
returns-clause-count c = count_by_sizes

pub returns-clause-planned : goal.returns-clause-planned
returns-clause-planned c = planned_sizes

pub returns-clause-plans : goal.returns-clause-plans
returns-clause-plans c = same_count
