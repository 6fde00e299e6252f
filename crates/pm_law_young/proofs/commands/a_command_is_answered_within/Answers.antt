use Rattle.pm_law_young.proofs.commands.a_command_is_answered_within.Goals as goal
use Rattle.pm_law_young.proofs.Within.{answered_within}

pub returns-clause-reply : goal.returns-clause-reply
returns-clause-reply c = λ within world nursery client cmd is none reads. (answered_within within world nursery is client cmd none reads).reply

pub returns-clause-world : goal.returns-clause-world
returns-clause-world c = λ within world nursery client cmd is none reads. (answered_within within world nursery is client cmd none reads).world
