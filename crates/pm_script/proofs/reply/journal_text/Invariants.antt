use Rattle.std.proofs.Common.{◌≡◌, take}
use Rattle.pm_model.specs.Text.{text}
use Rattle.pm_script.proofs.reply.journal_text.Given as goal

abbrev pub invariant-loop-entry : goal.invariant-loop-entry
invariant-loop-entry l = l.out.items ≡ text (take l.entry-index l.entries)
