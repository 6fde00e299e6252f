use Rattle.std.proofs.Common.{◌<◌, true, false, arith}
use Rattle.pm_runs.specs.declared.ends.ended.Detail.{Detail}
use Rattle.pm_runs.specs.declared.ends.ended.Detail.TheVariants.{Fine, Usage, Script, Dump as BadDump, Reading, Writing, Device, NotEmpty, Refused, Standby, Ahead, Foreign, OtherDevice, Memory}
use Rattle.pm_runs.specs.Ends.Stages.{behind, unreached}
use Rattle.pm_top.proofs.laws.ends_lie_between_stages.Goals as goal

between : (detail : Detail) → behind detail < unreached detail
between Fine = omega arith
between Usage = omega arith
between (Script fault) = omega arith
between (BadDump fault) = omega arith
between (Reading before after) = omega arith
between (Writing before after) = omega arith
between (Device before after false) = omega arith
between (Device before after true) = omega arith
between (NotEmpty bytes) = omega arith
between (Standby fault) = omega arith
between (Ahead to from) = omega arith
between (Foreign number) = omega arith
between (OtherDevice before after) = omega arith
between (Refused fault) = omega arith
between (Memory false _) = omega arith
between (Memory true _) = omega arith

pub returns : goal.returns
returns c = between
