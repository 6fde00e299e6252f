use Rattle.std.proofs.Common.{ap, length, nat_eq, arith}
use Rattle.std.proofs.lemmas.List.Splits.{length-slice_split}
use Rattle.pm_script.proofs.parts.count_byte.Goals as goal

pub returns : goal.returns
returns c = omega (arith, ap length c.in_default.ensures.parts, c.loop-after.invariant.counted, length-slice_split (λ b. nat_eq b c.args.mark) c.args.text.now)
