-- How calls are counted, one behind another, and that reads within what a disk tells count for nothing.
use Rattle.std.proofs.Common.{◌≡◌, ℕ, ◌+◌, ◌≤◌, false, List, length, Option, Some, None, refl, ap, arith, if◌then◌else◌}
use Rattle.std.proofs.lemmas.Bool.Decides.{nat_tests}
use Rattle.pm_disk.specs.Disk.{IfTold}
use Rattle.pm_disk.specs.Reads.{reads_past}
use Rattle.pm_disk.specs.Made.{Made, MadeMore, with_past, with_read, with_write}

pub within_counts : (told : Option (List ℕ)) (at n : ℕ) (made : Made) → IfTold told (λ bytes. at + n ≤ length bytes) → with_read told at n made ≡ made
within_counts None at n made within = refl
within_counts (Some bytes) at n made within =
    let le = within bytes refl in
    let is : reads_past at n bytes ≡ false = grind (arith, nat_tests) in
    ap (λ b. if b then with_past made else made) is

-- one write
pub write_more : (before after : Made) → after ≡ with_write before → MadeMore 1 0 0 before after
write_more before after is = record {
  writes = ap (λ (it : Made). it.writes) is;
  syncs = let same : after.syncs ≡ before.syncs = ap (λ (it : Made). it.syncs) is in omega (arith, same);
  past = let same : after.past ≡ before.past = ap (λ (it : Made). it.past) is in omega (arith, same);
}

-- some calls, and others behind them
pub more_then : (a b c d e f : ℕ) (before mid after : Made) → MadeMore a b c before mid → MadeMore d e f mid after → MadeMore (a + d) (b + e) (c + f) before after
more_then a b c d e f before mid after one two = record {
  writes = let first = one.writes in let second = two.writes in omega (arith, first, second);
  syncs = let first = one.syncs in let second = two.syncs in omega (arith, first, second);
  past = let first = one.past in let second = two.past in omega (arith, first, second);
}
