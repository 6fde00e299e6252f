use Rattle.std.proofs.Common.{length}
use Rattle.pm_dump.specs.Read.{words_in}
use Rattle.pm_dump.proofs.Pushing.{Pushed}
use Rattle.pm_dump.proofs.line.push_fields.Given as goal

abbrev pub invariant-loop-word : goal.invariant-loop-word
invariant-loop-word l = Pushed l.fn.fields.items l.fields.items l.fn.next (words_in l.fn.words) (words_in l.left)

abbrev pub decreases-loop-word : goal.decreases-loop-word
decreases-loop-word l = length (words_in l.left)
