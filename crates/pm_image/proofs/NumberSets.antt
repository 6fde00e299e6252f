-- A hash set of numbers that is seen as a finite set: what its calls ensure, said of the set.
use Rattle.std.proofs.Common.{◌≡◌, ℕ, Bool, true, false, cond, ◌||◌, refl, sym, ◌∙◌, arith, nat_eq}
use Rattle.std.specs.Ordering.{nat_cmp, eq_by_cmp}
use Rattle.std.specs.Cmp.{nat_cmp_total}
use Rattle.std.specs.List.{list_any}
use Rattle.std.specs.FinSet.{contains, insert, from_list, contains-from_list, contains-insert, same_set, nat_cmp-IsAntisymmetric}
use Rattle.std.specs.HashSet.{HashSet, Updates}
use Rattle.std.specs.HashSet as hash
use Rattle.std.proofs.lemmas.Bool.Decides.{nat_tests}

chosen_or : (a b : Bool) → cond a true b ≡ (a || b)
chosen_or true b = refl
chosen_or false b = refl

-- the comparison's equality is that of numbers
tied : (q k : ℕ) → eq_by_cmp nat_cmp q k ≡ nat_eq q k
tied q k = grind (arith, nat_tests)

turned : (k q : ℕ) → nat_eq k q ≡ eq_by_cmp nat_cmp q k
turned k q = grind (arith, nat_tests)

module _ {S : Type 0} where
  pub contains_shown : (s : HashSet ℕ S) (q : ℕ) → contains (from_list {R = nat_cmp} s.keys) q ≡ hash.contains nat_eq s q
  contains_shown s q = contains-from_list nat_cmp_total s.keys q ∙ (λ i. list_any (λ k. tied q k i) s.keys)

  -- what it is once it has a number more
  pub insert_shown : (s n : HashSet ℕ S) (k : ℕ) → Updates nat_eq s n k true → from_list {R = nat_cmp} n.keys ≡ insert (from_list s.keys) k
  insert_shown s n k u =
      same_set nat_cmp_total nat_cmp-IsAntisymmetric _ _ (λ q. contains_shown n q ∙ u.0 q ∙ chosen_or (nat_eq k q) (hash.contains nat_eq s q)
      ∙ sym (contains-insert nat_cmp_total (from_list s.keys) k q ∙ (λ i. sym (turned k q) i || contains_shown s q i)))
