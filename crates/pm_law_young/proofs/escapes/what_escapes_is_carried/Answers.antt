use Rattle.std.proofs.Common.{None}
use Rattle.pm_law_young.proofs.escapes.what_escapes_is_carried.Goals as goal
use Rattle.pm_types.specs.declared.command.Cmd.TheVariants.{Bind, New}
use Rattle.pm_model.specs.Heap.{with_field}
use Rattle.pm_model.specs.Reachability.{IsReachable}
use Rattle.pm_nursery.specs.Young.{IsHeldYoung}
use Rattle.pm_nursery.specs.Joined.{IsJoined}
use Rattle.pm_nursery.specs.Moving.{young_changing}
use Rattle.pm_law_young.proofs.Escaped.{all_carried, each_carried, lets_none, name_back, name_to, object_back, object_to, refused_none, same_side, value_back, value_to}

pub returns-clause-value : goal.returns-clause-value
returns-clause-value c = λ world nursery client cmd reg index value object other ids sets done one two old young are.
    let to = value_to world nursery client cmd reg index value object other sets one two old young in
    let back = value_back world nursery client cmd reg index value object other sets one two old young in
    record {
      each = each_carried world nursery client cmd ids (IsJoined nursery.objects other) done to back are;
      all = all_carried world nursery client cmd ids (IsJoined nursery.objects other) done to back are;
    }

pub returns-clause-object : goal.returns-clause-object
returns-clause-object c = λ world nursery client cmd reg index value object other known ids sets done one two here old are.
    let to = object_to world nursery client cmd reg index value object other sets one two known here old in
    let back = object_back world nursery client cmd reg index value object other sets one two known here old in
    record {
      each = each_carried world nursery client cmd ids (IsJoined (young_changing nursery object (with_field known index None)).objects object) done to back are;
      all = all_carried world nursery client cmd ids (IsJoined (young_changing nursery object (with_field known index None)).objects object) done to back are;
    }

pub returns-clause-name : goal.returns-clause-name
returns-clause-name c = λ world nursery client name reg object ids done here young are.
    let to = name_to world nursery client name reg object here in
    let back = name_back world nursery client name reg object here young in
    record {
      each = each_carried world nursery client (Bind name reg) ids (IsJoined nursery.objects object) done to back are;
      all = all_carried world nursery client (Bind name reg) ids (IsJoined nursery.objects object) done to back are;
    }

pub returns-clause-sweep : goal.returns-clause-sweep
returns-clause-sweep c = λ world nursery client reg count bytes ids done full are.
    record {
      each = each_carried world nursery client (New reg count bytes) ids (IsReachable nursery.objects (IsHeldYoung nursery)) done (λ id lets. lets.1) (λ id reached. (full, reached)) are;
      all = all_carried world nursery client (New reg count bytes) ids (IsReachable nursery.objects (IsHeldYoung nursery)) done (λ id lets. lets.1) (λ id reached. (full, reached)) are;
    }

pub returns-clause-refused : goal.returns-clause-refused
returns-clause-refused c = λ world nursery client cmd ids refused are. refused_none world nursery client cmd ids refused are

pub returns-clause-one_side : goal.returns-clause-one_side
returns-clause-one_side c = λ world nursery client cmd reg index value object other ids sets one two same are.
    lets_none world nursery client cmd ids (same_side world nursery client cmd reg index value object other sets one two same) are
