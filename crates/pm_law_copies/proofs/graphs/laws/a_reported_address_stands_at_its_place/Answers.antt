use Rattle.pm_law_copies.proofs.GraphsLemmas.Sites.{all_stand, astray_stands, graph_astray}
use Rattle.pm_law_copies.proofs.graphs.laws.a_reported_address_stands_at_its_place.Goals as goal

pub returns-clause-sites : goal.returns-clause-sites
returns-clause-sites c = all_stand

pub returns-clause-fault : goal.returns-clause-fault
returns-clause-fault c = astray_stands

pub returns-clause-graph : goal.returns-clause-graph
returns-clause-graph c = graph_astray
