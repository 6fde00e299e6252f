use Rattle.pm_law_collect.proofs.WorkLemmas.StaleFixes.{applied_sole, fixed_sole}
use Rattle.pm_law_collect.proofs.WorkLemmas.StaleMoves.{only_moved}
use Rattle.pm_law_collect.proofs.work.stale.only_the_slot_that_moved_last_is_named.Goals as goal

pub returns-clause-moves : goal.returns-clause-moves
returns-clause-moves c = λ view row picked number train a law next may vacant moves. only_moved view row picked number train a law next may vacant moves

pub returns-clause-fixes : goal.returns-clause-fixes
returns-clause-fixes c = λ view car picked number source to slot law next sole. fixed_sole view car source to slot law next sole

pub returns-clause-applies : goal.returns-clause-applies
returns-clause-applies c = λ view car picked number slot none sole. applied_sole view car slot none sole
