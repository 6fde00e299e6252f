use Rattle.pm_walk.proofs.Texts.{head_text}
use Rattle.pm_walk.proofs.text.append_head.Goals as goal

pub returns : goal.returns
returns c = rw (c.in_ok-append_number.ensures, c.in_ok-append.ensures, head_text c.args.out.now.items c.args.next) at c.append-2.ensures
