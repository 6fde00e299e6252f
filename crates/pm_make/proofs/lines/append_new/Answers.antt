use Rattle.pm_make.proofs.Texts.{after_new}
use Rattle.pm_make.proofs.lines.append_new.Goals as goal

pub returns : goal.returns
returns c = rw (c.in_ok-append_pairs.ensures, c.in_ok-append-2.ensures, c.in_ok-append_number.ensures, c.in_ok-append.ensures, after_new c.args.out.now.items c.args.turn.now) at c.append-3.ensures
