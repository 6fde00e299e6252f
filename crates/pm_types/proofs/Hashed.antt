-- A hash map with keys that are numbers, seen as a finite map: what its calls ensure, said of that map.
use Rattle.std.proofs.Common.{◌≡◌, ℕ, cond, refl, sym, ap, ◌∙◌, arith, List, [], ◌∷◌, Option, Some, None, nat_eq}
use Rattle.std.specs.Ordering.{nat_cmp, is_eq, eq_by_cmp}
use Rattle.std.specs.Cmp.{nat_cmp_total}
use Rattle.std.specs.Map.{lookup}
use Rattle.std.specs.FinMap.{FinMap, find, from_entries, get, get-from_entries, get-insert, get-remove, insert, remove, same_map, nat_cmp-IsAntisymmetric}
use Rattle.std.specs.HashMap.{HashMap, UpdatesBy}
use Rattle.std.specs.HashMap as hash
use Rattle.std.proofs.lemmas.Bool.Decides.{nat_tests}

-- the comparison's equality is that of numbers
tied : (q k : ℕ) → is_eq (nat_cmp q k) ≡ nat_eq q k
tied q k = grind (arith, nat_tests)

turned : (k q : ℕ) → nat_eq k q ≡ eq_by_cmp nat_cmp q k
turned k q = grind (arith, nat_tests)

found_by : {X : Type 0} (q : ℕ) (es : List (ℕ × X)) → find nat_cmp q es ≡ lookup (nat_eq q) es
found_by q [] = refl
found_by q (e ∷ es) = (λ i. cond (tied q e.0 i) (Some e.1) (found_by q es i))

module _ {X S : Type 0} where
  -- what a map answers at a key
  pub get_hashed : (m : HashMap ℕ X S) (q : ℕ) → get (from_entries {R = nat_cmp} m.entries) q ≡ hash.get nat_eq m q
  get_hashed m q = get-from_entries nat_cmp_total m.entries q ∙ found_by q m.entries

  -- the same of the value v that the map is seen as
  pub gotten : (m : HashMap ℕ X S) (v : FinMap nat_cmp X) → from_entries {R = nat_cmp} m.entries ≡ v → (k : ℕ) (found : Option X) → found ≡ hash.get nat_eq m k → found ≡ get v k
  gotten m v e k found is = is ∙ sym (get_hashed m k) ∙ ap (λ (m : FinMap nat_cmp X). get m k) e

  -- two maps that answer alike are seen as one
  pub alike : (m n : HashMap ℕ X S) → ((q : ℕ) → hash.get nat_eq m q ≡ hash.get nat_eq n q) → from_entries {R = nat_cmp} m.entries ≡ from_entries {R = nat_cmp} n.entries
  alike m n same = same_map nat_cmp_total nat_cmp-IsAntisymmetric _ _ (λ q. get_hashed m q ∙ same q ∙ sym (get_hashed n q))

  -- what it is once a key was given a value
  pub inserted : (m n : HashMap ℕ X S) (v : FinMap nat_cmp X) → from_entries {R = nat_cmp} m.entries ≡ v → (k : ℕ) (w : X) → UpdatesBy nat_eq (nat_eq k) m n (Some w)
      → from_entries {R = nat_cmp} n.entries ≡ insert v k w
  inserted m n v is k w u =
      same_map nat_cmp_total nat_cmp-IsAntisymmetric _ _ (λ q.
      get_hashed n q ∙ u.0 q ∙ (λ i. cond (turned k q i) (Some w) (gotten m v is q (hash.get nat_eq m q) refl i)) ∙ sym (get-insert nat_cmp_total v k w q))

  -- what it is once a key was taken away
  pub removed : (m n : HashMap ℕ X S) (v : FinMap nat_cmp X) → from_entries {R = nat_cmp} m.entries ≡ v → (k : ℕ) → UpdatesBy nat_eq (nat_eq k) m n None
      → from_entries {R = nat_cmp} n.entries ≡ remove v k
  removed m n v is k u =
      same_map nat_cmp_total nat_cmp-IsAntisymmetric _ _ (λ q.
      get_hashed n q ∙ u.0 q ∙ (λ i. cond (turned k q i) None (gotten m v is q (hash.get nat_eq m q) refl i)) ∙ sym (get-remove nat_cmp_total v k q))
