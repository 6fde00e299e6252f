-- What a map answers in which the values of a list stand in place of its own.
use Rattle.std.proofs.Common.{◌≡◌, ℕ, ◌+◌, ◌-◌, ◌<◌, suc, zero, cond, sym, ap, ◌∙◌, arith, List, [], ◌∷◌, Option, Some, None, get_or, set, length, nat_eq, nat_lt, is_some, true}
use Rattle.std.specs.Ordering.{nat_cmp}
use Rattle.std.specs.Option.{option_or}
use Rattle.std.specs.Cmp.{nat_cmp_total}
use Rattle.std.specs.FinMap.{FinMap, get, insert, remove, get-insert, get-remove, same_map, nat_cmp-IsAntisymmetric}
use Rattle.std.proofs.lemmas.Bool.Decides.{nat_tests}
use Rattle.std.proofs.lemmas.Grind.{common_steps}
use Rattle.pm_types.specs.Near.{near_at, with_near, filled}

module _ {T : Type 0} where
  -- the value where the key is this number, and else what the map has
  get_with : (m : FinMap nat_cmp T) (n : ℕ) (x : Option T) (q : ℕ) → get (with_near m n x) q ≡ cond (nat_eq q n) (option_or x (get m q)) (get m q)
  get_with m n None q = grind (arith, common_steps, nat_tests)
  get_with m n (Some v) q = get-insert nat_cmp_total m n v q ∙ grind (arith, common_steps, nat_tests)

  later : (xs : List (Option T)) (x : Option T) (n q : ℕ) → n < q → get_or (x ∷ xs) (q - n) None ≡ get_or xs (q - (n + 1)) None
  later xs x n q below = let one : q - n ≡ suc (q - (n + 1)) = omega arith in ap (λ k. get_or (x ∷ xs) k None) one

  get_from : (xs : List (Option T)) (n : ℕ) (far : FinMap nat_cmp T) (q : ℕ) → get (filled xs n far) q ≡ cond (nat_lt q n) (get far q) (option_or (get_or xs (q - n) None) (get far q))
  get_from [] n far q = grind (arith, common_steps, nat_tests)
  get_from (x ∷ xs) n far q =
      let rest = get_from xs (n + 1) far q in
      let here = get_with (filled xs (n + 1) far) n x q in
      let further = later xs x n q in
      grind (arith, common_steps, nat_tests, rest, here, further)

  -- a place that has a value is one of the list
  pub has_place : (xs : List (Option T)) (n : ℕ) → is_some (near_at xs n) ≡ true → n < length xs
  has_place [] n there = absurd (grind (arith, there))
  has_place (x ∷ xs) zero there = omega arith
  has_place (x ∷ xs) (suc n) there = let below = has_place xs n there in omega arith

  -- the value of the list, or else that of the map
  pub get_filled : (xs : List (Option T)) (far : FinMap nat_cmp T) (q : ℕ) → get (filled xs 0 far) q ≡ option_or (near_at xs q) (get far q)
  get_filled xs far q = let from = get_from xs 0 far q in grind (arith, common_steps, nat_tests, from)

  -- the same of the value v that the map is seen as
  pub get_seen : (xs : List (Option T)) (far v : FinMap nat_cmp T) → filled xs 0 far ≡ v → (q : ℕ) → get v q ≡ option_or (near_at xs q) (get far q)
  get_seen xs far v is q = sym (ap (λ (m : FinMap nat_cmp T). get m q) is) ∙ get_filled xs far q

  -- a map that answers so is the one that it is seen as
  pub seen_as : (xs : List (Option T)) (far v : FinMap nat_cmp T) → ((q : ℕ) → option_or (near_at xs q) (get far q) ≡ get v q) → filled xs 0 far ≡ v
  seen_as xs far v same = same_map nat_cmp_total nat_cmp-IsAntisymmetric _ _ (λ q. get_filled xs far q ∙ same q)

  module _ (xs : List (Option T)) (far v : FinMap nat_cmp T) (is : filled xs 0 far ≡ v) where
    -- a number that has a place got a value
    pub put_near : (n : ℕ) (w : T) → n < length xs → filled (set xs n (Some w)) 0 far ≡ insert v n w
    put_near n w fits = seen_as (set xs n (Some w)) far (insert v n w) (λ q. let seen = get_seen xs far v is q in let now = get-insert nat_cmp_total v n w q in grind (arith, common_steps, nat_tests, seen, now, fits))

    -- a number that has no value in the list got one in the map
    pub put_far : (n : ℕ) (w : T) → near_at xs n ≡ None → filled xs 0 (insert far n w) ≡ insert v n w
    put_far n w none = seen_as xs (insert far n w) (insert v n w) (λ q. let seen = get_seen xs far v is q in let now = get-insert nat_cmp_total v n w q in let there = get-insert nat_cmp_total far n w q in grind (arith, common_steps, nat_tests, seen, now, there, none))

    -- a number lost its value
    pub taken : (n : ℕ) → filled (set xs n None) 0 (remove far n) ≡ remove v n
    taken n = seen_as (set xs n None) (remove far n) (remove v n) (λ q. let seen = get_seen xs far v is q in let now = get-remove nat_cmp_total v n q in let there = get-remove nat_cmp_total far n q in grind (arith, common_steps, nat_tests, seen, now, there))

    -- no number got a value or lost one
    pub added_nothing : (ys : List (Option T)) → ((n : ℕ) → near_at ys n ≡ near_at xs n) → filled ys 0 far ≡ v
    added_nothing ys same = seen_as ys far v (λ q. ap (λ x. option_or x (get far q)) (same q) ∙ sym (get_seen xs far v is q))
