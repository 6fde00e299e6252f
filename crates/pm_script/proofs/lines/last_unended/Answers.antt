use Rattle.std.proofs.Common.{refl}
use Rattle.pm_script.proofs.ReadLines.{before_last}
use Rattle.pm_script.proofs.lines.last_unended.Goals as goal

pub returns : goal.returns
returns c = before_last c.args.bytes.now c.args.bytes c.unwrap_or.result c.strip_suffix.result c.requires refl c.strip_suffix.ensures.cases c.unwrap_or.ensures
