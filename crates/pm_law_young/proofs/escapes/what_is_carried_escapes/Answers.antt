use Rattle.std.proofs.Common.{None}
use Rattle.pm_law_young.proofs.escapes.what_is_carried_escapes.Goals as goal
use Rattle.pm_types.specs.declared.command.Cmd.TheVariants.{Bind, New}
use Rattle.pm_model.specs.Heap.{with_field}
use Rattle.pm_model.specs.Reachability.{IsReachable}
use Rattle.pm_nursery.specs.Young.{IsHeldYoung}
use Rattle.pm_nursery.specs.Joined.{IsJoined}
use Rattle.pm_nursery.specs.Moving.{young_changing}
use Rattle.pm_law_young.proofs.Escaped.{are_escaping, name_back, name_to, none_escaping, object_back, object_to, value_back, value_to}

pub returns-clause-value : goal.returns-clause-value
returns-clause-value c = λ world nursery client cmd reg index value object other ids sets done one two old young ascending are.
    are_escaping world nursery client cmd ids (IsJoined nursery.objects other) done
    (value_to world nursery client cmd reg index value object other sets one two old young)
    (value_back world nursery client cmd reg index value object other sets one two old young) ascending are.each are.all

pub returns-clause-object : goal.returns-clause-object
returns-clause-object c = λ world nursery client cmd reg index value object other known ids sets done one two here old ascending are.
    are_escaping world nursery client cmd ids (IsJoined (young_changing nursery object (with_field known index None)).objects object) done
    (object_to world nursery client cmd reg index value object other sets one two known here old)
    (object_back world nursery client cmd reg index value object other sets one two known here old) ascending are.each are.all

pub returns-clause-name : goal.returns-clause-name
returns-clause-name c = λ world nursery client name reg object ids done here young ascending are.
    are_escaping world nursery client (Bind name reg) ids (IsJoined nursery.objects object) done
    (name_to world nursery client name reg object here) (name_back world nursery client name reg object here young) ascending are.each are.all

pub returns-clause-sweep : goal.returns-clause-sweep
returns-clause-sweep c = λ world nursery client reg count bytes ids done full ascending are.
    are_escaping world nursery client (New reg count bytes) ids (IsReachable nursery.objects (IsHeldYoung nursery)) done (λ id lets. lets.1) (λ id reached. (full, reached)) ascending are.each are.all

pub returns-clause-none : goal.returns-clause-none
returns-clause-none c = λ world nursery client cmd none. none_escaping world nursery client cmd none
