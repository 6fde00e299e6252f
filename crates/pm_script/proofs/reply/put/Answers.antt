use Rattle.std.proofs.Common.{refl, arith}
use Rattle.pm_script.proofs.TextLemmas.{puts_mid}
use Rattle.pm_script.proofs.reply.put.Goals as goal

pub returns : goal.returns
returns c = puts_mid c.args.at _ _ c.args.out.now c.args.words.now c.copy_from_slice.new.self (omega arith) refl c.requires c.copy_from_slice.ensures.after
