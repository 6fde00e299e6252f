use Rattle.pm_law_collect.proofs.WaysOut.{ways_are, ways_ascend}
use Rattle.pm_law_collect.proofs.laws.an_object_may_go_where_it_is_named.Goals as goal

pub returns-clause-among : goal.returns-clause-among
returns-clause-among c = λ view a train law. ways_are view a law train

pub returns-clause-ascend : goal.returns-clause-ascend
returns-clause-ascend c = λ view a law. ways_ascend view a law
