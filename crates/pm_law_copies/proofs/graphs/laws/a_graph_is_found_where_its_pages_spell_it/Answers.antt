use Rattle.pm_law_copies.proofs.GraphsLemmas.Found.{graph_found, graph_spelled, one_graph, opened_spelled, spelled_opened}
use Rattle.pm_law_copies.proofs.graphs.laws.a_graph_is_found_where_its_pages_spell_it.Goals as goal

pub returns-clause-found : goal.returns-clause-found
returns-clause-found c = graph_spelled

pub returns-clause-again : goal.returns-clause-again
returns-clause-again c = graph_found

pub returns-clause-one : goal.returns-clause-one
returns-clause-one c = one_graph

pub returns-clause-opened : goal.returns-clause-opened
returns-clause-opened c = opened_spelled

pub returns-clause-opens : goal.returns-clause-opens
returns-clause-opens c = spelled_opened
