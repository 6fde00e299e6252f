use Rattle.std.proofs.Common.{inl, inr, ap, arith}
use Rattle.std.specs.Option.{ok_or}
use Rattle.pm_script.specs.declared.fault.Cause.TheVariants as causes
use Rattle.pm_script.proofs.DigitPairs.{no_pairs}
use Rattle.pm_script.proofs.value.pairs.Goals as goal
use Rattle.pm_script.proofs.value.pairs.Goals.{then-is_empty-via-then-is_empty, then-is_empty-via-else-is_empty+then-word-ne0}

pub returns-then-is_empty : goal.returns-then-is_empty
returns-then-is_empty c = elim c.then-is_empty.branch [
  | then-is_empty-via-then-is_empty w ↦ ap (λ found. ok_or found causes.Hex) (no_pairs c.args.word.now (inl (grind (arith, c.is_empty.ensures, w.if-is_empty.true))))
  | then-is_empty-via-else-is_empty+then-word-ne0 w ↦ ap (λ found. ok_or found causes.Hex) (no_pairs c.args.word.now (inr w.if-word-ne0.true))
]
