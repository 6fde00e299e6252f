use Rattle.pm_law_young.proofs.commands.a_command_is_answered_young.Goals as goal
use Rattle.pm_law_young.proofs.Alone.{answered_young}

pub returns-clause-reply : goal.returns-clause-reply
returns-clause-reply c = λ within world nursery client cmd is sound of none reads. (answered_young within world nursery is sound client cmd of none reads).reply

pub returns-clause-world : goal.returns-clause-world
returns-clause-world c = λ within world nursery client cmd is sound of none reads. (answered_young within world nursery is sound client cmd of none reads).world
