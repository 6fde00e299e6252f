use Rattle.pm_script.proofs.Numerals.{too_long}
use Rattle.pm_script.proofs.value.number_of.Goals as goal

pub returns-then-word-gt-NUMBER_DIGITS : goal.returns-then-word-gt-NUMBER_DIGITS
returns-then-word-gt-NUMBER_DIGITS c = too_long c.args.word.now c.if-word-gt-NUMBER_DIGITS.true
