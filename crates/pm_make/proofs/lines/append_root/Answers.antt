use Rattle.pm_make.proofs.Texts.{after_root}
use Rattle.pm_make.proofs.lines.append_root.Goals as goal

pub returns : goal.returns
returns c = rw (c.in_ok-append_number-2.ensures, c.in_ok-append-2.ensures, c.in_ok-append_number.ensures, c.in_ok-append.ensures, after_root c.args.out.now.items c.args.name c.in-Some.name c.args.register c.in-Some.is) at c.append-3.ensures
