use Rattle.pm_walk.proofs.PathsLemmas.Graph.{path_of_copy, path_reached, path_kept, reached_path, kept_reached}
use Rattle.pm_walk.proofs.paths.laws.a_path_is_one_of_the_graph.Goals as goal

pub returns-clause-copy : goal.returns-clause-copy
returns-clause-copy c = λ view id path law. path_of_copy view law id path

pub returns-clause-reached : goal.returns-clause-reached
returns-clause-reached c = λ view id path law. path_reached view law id path

pub returns-clause-kept : goal.returns-clause-kept
returns-clause-kept c = λ view id path law. path_kept view law id path

pub returns-clause-path : goal.returns-clause-path
returns-clause-path c = λ view id law. reached_path view law id

pub returns-clause-path_of_kept : goal.returns-clause-path_of_kept
returns-clause-path_of_kept c = λ view id law some. reached_path view law id (kept_reached view law id some)
