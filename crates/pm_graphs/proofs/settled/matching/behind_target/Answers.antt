use Rattle.std.proofs.Common.{◌<◌, arith}
use Rattle.std.specs.Prelude.{option_map}
use Rattle.pm_layout.specs.Spelling.{address}
use Rattle.pm_graphs.proofs.SettledLemmas.BehindLaws.{behind_of}
use Rattle.pm_graphs.proofs.settled.matching.behind_target.Goals as goal

pub returns-clause-behind : goal.returns-clause-behind
returns-clause-behind c =
    behind_of (0 < c.args.to.car) c.args.bytes.now (address c.args.to) (option_map (λ rest. rest.now) c.behind_address.result) (let not = c.if-to-eq0.false in omega (arith, not)) c.behind_address.ensures
