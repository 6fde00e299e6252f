use Rattle.std.proofs.Common.{◌≡◌, take, nat_eq, count_by}
use Rattle.pm_script.proofs.parts.count_in_few.Given as goal

abbrev pub invariant-loop-byte : goal.invariant-loop-byte
invariant-loop-byte l = l.count ≡ count_by (λ b. nat_eq b l.mark) (take l.byte-index l.text)
