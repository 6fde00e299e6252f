use Rattle.std.proofs.Common.{◌≡◌, ◌+◌, ◌≤◌, length, nat_eq}
use Rattle.std.specs.List.{slice_split}
use Rattle.pm_script.proofs.parts.count_byte.Given as goal

abbrev pub invariant-loop-after : goal.invariant-loop-after
invariant-loop-after l = record {
  counted : l.count + length (slice_split (λ b. nat_eq b l.mark) l.rest) ≡ length (slice_split (λ b. nat_eq b l.mark) l.text);
  within : l.count + length l.rest ≤ length l.text;
}

abbrev pub decreases-loop-after : goal.decreases-loop-after
decreases-loop-after l = length l.rest
