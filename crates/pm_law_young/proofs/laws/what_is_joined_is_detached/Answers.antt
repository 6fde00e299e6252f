use Rattle.std.proofs.Common.{[], IsTrue, refl}
use Rattle.pm_law_young.proofs.laws.what_is_joined_is_detached.Goals as goal
use Rattle.pm_nursery.proofs.Joining.{along, joined_back, joined_detached, joined_next}

pub returns-clause-itself : goal.returns-clause-itself
returns-clause-itself c = λ objects id. ([], refl)

pub returns-clause-next : goal.returns-clause-next
returns-clause-next c = λ objects id from to joined touches. joined_next objects id from to joined touches

pub returns-clause-least : goal.returns-clause-least
returns-clause-least c = λ objects id other inside here keeps joined. along objects (λ x. IsTrue (inside x)) keeps id joined.0 other here joined.1

pub returns-clause-back : goal.returns-clause-back
returns-clause-back c = λ objects from to joined. joined_back objects from to joined

pub returns-clause-detached : goal.returns-clause-detached
returns-clause-detached c = λ objects id ids are. joined_detached objects id ids are
