use Rattle.std.proofs.Common.{rules, subst, ◌<◌, ◌^◌, ℕ}
use Rattle.pm_serial.proofs.OutputLemmas.ReplyLines.{line_short}
use Rattle.pm_serial.proofs.telling.reply_lines_are_short.Goals as goal

pub returns : goal.returns
returns c = line_short c.args.entry.now c.requires.client (subst (λ (n : ℕ). n < 2 ^ 32) c.number_of-number.ensures (search rules)) c.requires.short
