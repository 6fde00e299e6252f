use Rattle.pm_make.proofs.Texts.{last_text}
use Rattle.pm_make.proofs.lines.append_last.Goals as goal

pub returns : goal.returns
returns c = rw (c.in_ok-append_checkpoint.ensures, last_text c.args.out.now.items) at c.append.ensures
