use Rattle.pm_make.proofs.Texts.{checkpoint_text}
use Rattle.pm_make.proofs.lines.append_checkpoint.Goals as goal

pub returns : goal.returns
returns c = rw checkpoint_text at c.append.ensures
