use Rattle.pm_make.proofs.Texts.{after_store}
use Rattle.pm_make.proofs.lines.append_store.Goals as goal

pub returns : goal.returns
returns c = rw (c.in_ok-append_number-3.ensures, c.in_ok-append-3.ensures, c.in_ok-append_number-2.ensures, c.in_ok-append-2.ensures, c.in_ok-append_number.ensures, c.in_ok-append.ensures, after_store c.args.out.now.items c.args.turn.now) at c.append-4.ensures
