use Rattle.pm_make.proofs.Counts.{made_count}
use Rattle.pm_make.proofs.script_lines.most_lines.Goals as goal

pub returns : goal.returns
returns c seed = made_count seed c.args.turns
