-- Which numbers a set has in which those that are marked stand beside others.
use Rattle.std.proofs.Common.{◌≡◌, ℕ, ◌+◌, ◌-◌, ◌<◌, suc, Bool, true, false, cond, ◌||◌, ◌&&◌, sym, ap, ◌∙◌, arith, List, [], ◌∷◌, get_or, set, length, nat_eq, nat_lt}
use Rattle.std.specs.Ordering.{nat_cmp}
use Rattle.std.specs.Cmp.{nat_cmp_total}
use Rattle.std.specs.FinSet.{FinSet, contains, insert, contains-insert, same_set, nat_cmp-IsAntisymmetric}
use Rattle.std.proofs.lemmas.Bool.Decides.{nat_tests}
use Rattle.std.proofs.lemmas.Grind.{common_steps}
use Rattle.pm_image.specs.Marked.{is_marked, with_marked}

has_one : (b : Bool) (s : FinSet nat_cmp) (n q : ℕ) → contains (cond b (insert s n) s) q ≡ ((b && nat_eq q n) || contains s q)
has_one true s n q = contains-insert nat_cmp_total s n q ∙ grind (arith, common_steps, nat_tests)
has_one false s n q = grind (arith, common_steps, nat_tests)

later : (bs : List Bool) (b : Bool) (n q : ℕ) → n < q → get_or (b ∷ bs) (q - n) false ≡ get_or bs (q - (n + 1)) false
later bs b n q below = let one : q - n ≡ suc (q - (n + 1)) = omega arith in ap (λ k. get_or (b ∷ bs) k false) one

has_from : (bs : List Bool) (n : ℕ) (far : FinSet nat_cmp) (q : ℕ) → contains (with_marked bs n far) q ≡ cond (nat_lt q n) (contains far q) (get_or bs (q - n) false || contains far q)
has_from [] n far q = grind (arith, common_steps, nat_tests)
has_from (b ∷ bs) n far q =
    let rest = has_from bs (n + 1) far q in
    let here = has_one b (with_marked bs (n + 1) far) n q in
    let further = later bs b n q in
    grind (arith, common_steps, nat_tests, rest, here, further)

-- the set has a number that is marked, and what is beside
pub has_marked : (bs : List Bool) (far : FinSet nat_cmp) (q : ℕ) → contains (with_marked bs 0 far) q ≡ (is_marked bs q || contains far q)
has_marked bs far q = let from = has_from bs 0 far q in grind (arith, common_steps, nat_tests, from)

-- a set that has the same numbers is the one that it is seen as
seen_as : (bs : List Bool) (far s : FinSet nat_cmp) → ((q : ℕ) → (is_marked bs q || contains far q) ≡ contains s q) → with_marked bs 0 far ≡ s
seen_as bs far s same = same_set nat_cmp_total nat_cmp-IsAntisymmetric _ _ (λ q. has_marked bs far q ∙ same q)

module _ (bs : List Bool) (far s : FinSet nat_cmp) (is : with_marked bs 0 far ≡ s) where
  -- what the set that it is seen as has
  pub has_seen : (q : ℕ) → contains s q ≡ (is_marked bs q || contains far q)
  has_seen q = sym (ap (λ t. contains t q) is) ∙ has_marked bs far q

  -- a number that has a place was marked
  pub marked_more : (n : ℕ) → n < length bs → with_marked (set bs n true) 0 far ≡ insert s n
  marked_more n fits = seen_as (set bs n true) far (insert s n) (λ q. let seen = has_seen q in let now = contains-insert nat_cmp_total s n q in grind (arith, common_steps, nat_tests, seen, now, fits))

  -- a number came beside those that are marked
  pub beside_more : (n : ℕ) → with_marked bs 0 (insert far n) ≡ insert s n
  beside_more n = seen_as bs (insert far n) (insert s n) (λ q. let seen = has_seen q in let now = contains-insert nat_cmp_total s n q in let there = contains-insert nat_cmp_total far n q in grind (arith, common_steps, nat_tests, seen, now, there))

  -- no number was marked or lost its mark
  pub marked_nothing : (cs : List Bool) → ((n : ℕ) → is_marked cs n ≡ is_marked bs n) → with_marked cs 0 far ≡ s
  marked_nothing cs same = seen_as cs far s (λ q. ap (λ b. b || contains far q) (same q) ∙ sym (has_seen q))
