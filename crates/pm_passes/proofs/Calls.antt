-- The entries of one caller in a log, and in what the log begins with.
use Rattle.std.proofs.Common.{◌≡◌, ◌≢◌, ℕ, ◌≤◌, List, [], ◌∷◌, ◌++◌, length, map, nat_eq, refl, sym, ap, ◌∙◌, arith}
use Rattle.std.proofs.Common.{append_assoc, append-nil}
use Rattle.std.proofs.lemmas.List.{map-append}
use Rattle.std.proofs.lemmas.List.Elements.{filter-append}
use Rattle.std.proofs.lemmas.Bool.Decides.{nat_tests}
use Rattle.pm_passes.specs.Views.{StartsWith, calls_by}

module _ {X : Type 0} where
  abbrev tail_of : List X → List X
  tail_of [] = []
  tail_of (z ∷ zs) = zs

  abbrev head_or : X → List X → X
  head_or d [] = d
  head_or d (z ∷ zs) = z

  -- of two beginnings of one list the shorter begins the longer
  pub of_two : (all xs ys r s : List X) → all ≡ xs ++ r → all ≡ ys ++ s → length xs ≤ length ys → (rest : List X) × (ys ≡ xs ++ rest)
  of_two all [] ys r s p q le = (ys, refl)
  of_two all (x ∷ xs) [] r s p q le = absurd (omega arith)
  of_two all (x ∷ xs) (y ∷ ys) r s p q le =
      let t = of_two (tail_of all) xs ys r s (ap tail_of p) (ap tail_of q) (omega arith) in
      (t.0, ap (λ z. z ∷ ys) (sym (ap (head_or x) q) ∙ ap (head_or x) p) ∙ ap (λ l. x ∷ l) t.1)

  no_more : (xs ys : List X) → xs ≡ xs ++ ys → ys ≡ []
  no_more [] ys e = sym e
  no_more (x ∷ xs) ys e = no_more xs ys (ap tail_of e)

  empty_front : (xs ys : List X) → xs ++ ys ≡ [] → xs ≡ []
  empty_front [] ys e = refl
  empty_front (x ∷ xs) ys e = absurd (let l = ap length e in omega arith)

module _ {E : Type 0} where
  pub longer : (log first : List (ℕ × E)) (x : ℕ × E) → StartsWith log first → StartsWith (log ++ x ∷ []) first
  longer log first x s = (s.0 ++ x ∷ [], ap (λ l. l ++ x ∷ []) s.1 ∙ append_assoc first s.0 (x ∷ []))

  pub calls_more : (number : ℕ) (xs ys : List (ℕ × E)) → calls_by number (xs ++ ys) ≡ calls_by number xs ++ calls_by number ys
  calls_more number xs ys = ap (map (λ (x : ℕ × E). x.1)) (filter-append (λ (x : ℕ × E). nat_eq x.0 number) xs ys) ∙ map-append (λ (x : ℕ × E). x.1) _ _

  calls_first : (x : ℕ × E) (rest : List (ℕ × E)) → calls_by x.0 (x ∷ rest) ≡ x.1 ∷ calls_by x.0 rest
  calls_first x rest = grind (arith, nat_tests)

  pub calls_mine : (number : ℕ) (log : List (ℕ × E)) (e : E) → calls_by number (log ++ (number, e) ∷ []) ≡ calls_by number log ++ e ∷ []
  calls_mine number log e = calls_more number log ((number, e) ∷ []) ∙ ap (λ l. calls_by number log ++ l) (calls_first (number, e) [])

  pub calls_other : (number by : ℕ) (log : List (ℕ × E)) (e : E) → number ≢ by → calls_by by (log ++ (number, e) ∷ []) ≡ calls_by by log
  calls_other number by log e apart = calls_more by log ((number, e) ∷ []) ∙ ap (λ l. calls_by by log ++ l) none_of ∙ append-nil (calls_by by log)
    where
      none_of : calls_by by ((number, e) ∷ []) ≡ []
      none_of = grind (arith, nat_tests, apart)

  -- what has all calls of a number goes on with none
  none_then : (number : ℕ) (log front rest : List (ℕ × E)) → log ≡ front ++ rest → calls_by number log ≡ calls_by number front → calls_by number rest ≡ []
  none_then number log front rest is same =
      no_more (calls_by number front) (calls_by number rest) (sym same ∙ ap (calls_by number) is ∙ calls_more number front rest)

  -- between a front with all calls of a number and the log all of them are there
  pub between : (number : ℕ) (front mid log : List (ℕ × E)) → calls_by number log ≡ calls_by number front → StartsWith mid front → StartsWith log mid → calls_by number mid ≡ calls_by number front
  between number front mid log same a b =
      let whole : log ≡ front ++ (a.0 ++ b.0) = b.1 ∙ ap (λ z. z ++ b.0) a.1 ∙ append_assoc front a.0 b.0 in
      let rest : calls_by number a.0 ++ calls_by number b.0 ≡ [] = sym (calls_more number a.0 b.0) ∙ none_then number log front (a.0 ++ b.0) whole same in
      let none_between : calls_by number a.0 ≡ [] = empty_front (calls_by number a.0) (calls_by number b.0) rest in
      ap (calls_by number) a.1 ∙ calls_more number front a.0 ∙ ap (λ z. calls_by number front ++ z) none_between ∙ append-nil (calls_by number front)

  -- a front that has all calls of every number is the log
  pub all_there : (log front rest : List (ℕ × E)) → log ≡ front ++ rest → ((n : ℕ) → calls_by n log ≡ calls_by n front) → front ≡ log
  all_there log front [] is same = sym (is ∙ append-nil front)
  all_there log front (x ∷ rest) is same =
      let none_of : x.1 ∷ calls_by x.0 rest ≡ [] = sym (calls_first x rest) ∙ none_then x.0 log front (x ∷ rest) is (same x.0) in
      absurd (let l = ap length none_of in omega arith)

  -- what begins a log that has no call of a number has none
  pub none_first : (number : ℕ) (log front : List (ℕ × E)) → StartsWith log front → calls_by number log ≡ [] → calls_by number front ≡ []
  none_first number log front s none_of = empty_front (calls_by number front) (calls_by number s.0) (sym (calls_more number front s.0) ∙ sym (ap (calls_by number) s.1) ∙ none_of)
