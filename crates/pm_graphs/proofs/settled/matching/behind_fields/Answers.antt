use Rattle.std.proofs.Common.{None}
use Rattle.pm_layout.specs.Spelling.{HasCar, field}
use Rattle.pm_graphs.proofs.SettledLemmas.BehindLaws.{no_more}
use Rattle.pm_graphs.proofs.settled.matching.behind_fields.Goals as goal

pub returns-in_default-clause-behind : goal.returns-in_default-clause-behind
returns-in_default-clause-behind c =
    no_more field HasCar c.args.bytes.now c.loop-reference.rest.now c.args.fields.now c.loop-reference.reference-index None c.loop-reference-test.true c.loop-reference.invariant.behind c.in_default.ensures.behind
