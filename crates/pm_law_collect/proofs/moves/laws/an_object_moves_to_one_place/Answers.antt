use Rattle.pm_law_collect.proofs.MovesLemmas.Once.{once_moved}
use Rattle.pm_law_collect.proofs.moves.laws.an_object_moves_to_one_place.Goals as goal

pub returns : goal.returns
returns c = λ view row picked number train a law next may vacant moves. once_moved view picked number row law next may vacant a train moves
