use Rattle.pm_make.proofs.Texts.{after_turn}
use Rattle.pm_make.proofs.lines.append_turn.Goals as goal

pub returns : goal.returns
returns c = rw (c.in_ok-append_root.ensures, c.in_ok-append_store.ensures, c.in_ok-append_new.ensures, after_turn c.args.out.now.items c.args.turn.now) at c.append.ensures
