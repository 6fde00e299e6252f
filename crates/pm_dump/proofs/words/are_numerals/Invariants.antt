use Rattle.std.proofs.Common.{◌≡◌, length}
use Rattle.std.specs.List.{list_all}
use Rattle.pm_script.specs.Values.{is_numeral}
use Rattle.pm_dump.specs.Read.{words_in}
use Rattle.pm_dump.proofs.words.are_numerals.Given as goal

abbrev pub invariant-loop-word : goal.invariant-loop-word
invariant-loop-word l = list_all is_numeral (words_in l.left) ≡ list_all is_numeral (words_in l.fn.words)

abbrev pub decreases-loop-word : goal.decreases-loop-word
decreases-loop-word l = length (words_in l.left)
