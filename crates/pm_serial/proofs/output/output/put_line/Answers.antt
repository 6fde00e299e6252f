use Rattle.std.proofs.Common.{arith, refl}
use Rattle.pm_serial.proofs.OutputLemmas.Gathering.{gathered_on}
use Rattle.pm_serial.proofs.output.output.put_line.Goals as goal

pub returns-clause-text : goal.returns-clause-text
returns-clause-text c = let room = c.requires.room in gathered_on _ _ _ _ _ _ _ refl (omega (arith, room)) c.reply_into.ensures.text c.reply_into.ensures.len
