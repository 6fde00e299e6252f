use Rattle.std.proofs.Common.{subst, length, take, drop, ◌-◌}
use Rattle.memchr.specs.Find.{IsFirstByte, is_byte}
use Rattle.pm_peer.proofs.Newlines.{none_behind, one_behind}
use Rattle.pm_peer.proofs.buffer.newline_behind.Goals as goal

pub returns-in-Some : goal.returns-in-Some
returns-in-Some c =
    one_behind c.args.text.now c.args.searched c.in-Some.at c.requires.quiet (subst (λ r. IsFirstByte (is_byte 10) (take (length c.args.text.now - c.args.searched) (drop c.args.searched c.args.text.now)) r) c.in-Some.is c.memchr.ensures)

pub returns-in-None : goal.returns-in-None
returns-in-None c =
    none_behind c.args.text.now c.args.searched c.requires.quiet (subst (λ r. IsFirstByte (is_byte 10) (take (length c.args.text.now - c.args.searched) (drop c.args.searched c.args.text.now)) r) c.in-None.is c.memchr.ensures)
