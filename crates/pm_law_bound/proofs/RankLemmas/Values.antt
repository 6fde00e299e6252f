-- How the values of ranks compare, and what trains hold.
use Rattle.std.proofs.Common.{◌≡◌, ◌⊎◌, inl, inr, ⊎_elim, ℕ, ◌+◌, ◌-◌, ◌*◌, ◌≤◌, ◌<◌, ◌==◌, nat_le, cond, if◌then◌else◌, suc, arith}
use Rattle.std.proofs.Math.Nat.{mul-le-mul_right}
use Rattle.std.proofs.lemmas.Bool.Decides.{nat_tests}
use Rattle.pm_view.specs.Ranking.{value}

-- where no part rises it does not, and it falls by as much as the way; or by one where the objects are fewer, if the way
-- is no longer than they may be, and one
pub lower : (o e j n p k m q : ℕ) → j ≤ k → n ≤ m → p ≤ o + 1 → (p + e ≤ q) ⊎ ((e ≤ 1) × (n + 1 ≤ m)) → value o j n p + e ≤ value o k m q
lower o e j n p k m q trains many far which =
    let one = mul-le-mul_right ((o + 2) * (o + 2)) trains in
    ⊎_elim
    (λ (shorter : p + e ≤ q). let two = mul-le-mul_right (o + 2) many in omega (arith, one, two, shorter))
    (λ (fewer : (e ≤ 1) × (n + 1 ≤ m)).
    let two : (n + 1) * (o + 2) ≤ m * (o + 2) = mul-le-mul_right (o + 2) fewer.1 in
    let more : (n + 1) * (o + 2) ≡ n * (o + 2) + (o + 2) = omega arith in
    omega (arith, one, two, more, far, fewer.0))
    which

-- it is below that of one train more
pub below_next : (o j n p : ℕ) → n ≤ o → p ≤ o + 1 → value o j n p + 1 ≤ suc j * ((o + 2) * (o + 2))
below_next o j n p many far = let less = lower o 1 j n p j (o + 1) 0 (omega arith) (omega (arith, many)) far (inr (omega arith, omega (arith, many))) in omega (arith, less)

-- no more is held up to a train that was given where so many are born in the open train, which takes them, or one is
-- opened; so many more stand there, and none in the trains that are not open
pub held : (most y z b c e n was now : ℕ) → n ≤ y → (z ≡ y + 1) ⊎ ((z ≡ y) × (c ≡ b + e) × (e ≤ most - b)) → now ≤ was + e → (n < z → now ≤ was) → now + cond (n == z) (most - c) 0 ≤ was + cond (n == y) (most - b) 0
held most y z b c e n was now given (inl up) more older = grind (arith, nat_tests)
held most y z b c e n was now given (inr same) more older = grind (arith, nat_tests)

-- with a birth one is opened where the open train is full
pub one_born : (most y z b c : ℕ) → z ≡ (if nat_le most b then y + 1 else y) → c ≡ (if nat_le most b then 1 else b + 1) → (z ≡ y + 1) ⊎ ((z ≡ y) × (c ≡ b + 1) × (1 ≤ most - b))
one_born most y z b c up births = grind (arith, nat_tests, up, births)
