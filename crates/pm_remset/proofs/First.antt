-- The first entry that passes a test is the least one.
use Rattle.std.proofs.Common.{◌≡◌, ℕ, inl, inr, Bool, true, false, T, ◌&&◌, cond, refl, sym, ap, subst, ◌∙◌, List, [], ◌∷◌, Option, Some, None}
use Rattle.std.specs.declared.cmp.Ordering.{Ordering}
use Rattle.std.specs.declared.cmp.Ordering.TheVariants.{Less, Equal, Greater}
use Rattle.std.specs.Ordering.{is_lt, ordering_reverse}
use Rattle.std.specs.List.{AllByRecursion, find}
use Rattle.std.specs.List.Sorted.{IsStrictlySortedBy}
use Rattle.std.specs.Map.{lookup, keys_of}
use Rattle.std.specs.BTreeMap.{is_at}
use Rattle.std.specs.FinMap.{is_sorted, entries, entries_sorted, get, get-entries}
use Rattle.std.specs.FinMap.Entries.{below_all}
use Rattle.std.proofs.lemmas.Bool.{cases_Bool}
use Rattle.pm_types.specs.declared.source.RefSource.{RefSource}
use Rattle.pm_types.specs.Orders.{source_cmp}
use Rattle.pm_types.proofs.Orders.{sources_total, sources_antisymmetric}
use Rattle.pm_remset.specs.Remembered.{Remembered, FindsFirstThat, first_that}
use Rattle.pm_types.proofs.Shown.{find-lookup}
use Rattle.pm_remset.proofs.Nexts.{Searched, search_goes_on, search_finds, search_ends}

parts : (a b : Bool) → T (a && b) → T a × T b
parts true b h = (tt, h)
parts false b h = absurd h

less : (o : Ordering) → T (is_lt o) → o ≡ Less
less Less h = refl
less Equal h = absurd h
less Greater h = absurd h

below : (x : RefSource) (es : List (RefSource × ℕ)) → T (below_all source_cmp x es) → AllByRecursion (λ k. source_cmp x k ≡ Less) (keys_of es)
below x [] h = tt
below x (e ∷ es) h = let both = parts (is_lt (source_cmp x e.0)) (below_all source_cmp x es) h in (less (source_cmp x e.0) both.0, below x es both.1)

rises : (es : List (RefSource × ℕ)) → T (is_sorted source_cmp es) → IsStrictlySortedBy source_cmp (keys_of es)
unfolding IsStrictlySortedBy
rises [] h = tt
rises (e ∷ es) h = let both = parts (below_all source_cmp e.0 es) (is_sorted source_cmp es) h in (below e.0 es both.0, rises es both.1)

module _ (test : RefSource → ℕ → Bool) (set : Remembered) where
  begins : Searched set (λ source slot. test source slot ≡ false) (entries set)
  begins =
      let got : (q : RefSource) → get set q ≡ lookup (is_at (source_cmp q)) (entries set) = λ q. get-entries set q ∙ find-lookup sources_total q (entries set) in
      record {
        ordered = rises (entries set) (entries_sorted set);
        left_there = λ q at is. got q ∙ is;
        others_failed = λ q at is. inr (sym (got q) ∙ is);
      }

  run : (left : List (RefSource × ℕ)) → Searched set (λ source slot. test source slot ≡ false) left → FindsFirstThat test set (find (λ e. test e.0 e.1) left)
  run [] s = search_ends set (λ source slot. test source slot ≡ false) [] refl s
  run (e ∷ rest) s =
      elim (cases_Bool (test e.0 e.1)) [
        | inl passes ↦ subst (FindsFirstThat test set) (ap (λ b. cond b (Some e) (find (λ e. test e.0 e.1) rest)) (sym passes))
            (search_finds set (λ source slot. test source slot ≡ false) (e ∷ rest) e rest refl s (λ source slot. test source slot ≡ true) passes)
        | inr failed ↦ subst (FindsFirstThat test set) (ap (λ b. cond b (Some e) (find (λ e. test e.0 e.1) rest)) (sym failed))
            (run rest (search_goes_on set (λ source slot. test source slot ≡ false) (e ∷ rest) e rest refl s failed))
      ]

  -- the first one is found
  pub first_found : FindsFirstThat test set (first_that test set)
  first_found = run (entries set) begins

  one_there : (e f : RefSource × ℕ) → get set e.0 ≡ Some e.1 → get set f.0 ≡ Some f.1 → e.0 ≡ f.0 → ◌≡◌ {A = Option (RefSource × ℕ)} (Some e) (Some f)
  one_there e f here there same =
      let slots : Some e.1 ≡ Some f.1 = sym here ∙ ap (get set) same ∙ there in
      let slot : e.1 ≡ f.1 = cc in
      λ i. Some (same i, slot i)

  same_found : (e f : RefSource × ℕ) → FindsFirstThat test set (Some e) → FindsFirstThat test set (Some f) → ◌≡◌ {A = Option (RefSource × ℕ)} (Some e) (Some f)
  same_found e f one two =
      elim (source_cmp e.0 f.0) as (λ o. source_cmp e.0 f.0 ≡ o → ◌≡◌ {A = Option (RefSource × ℕ)} (Some e) (Some f)) [
        | Less ↦ λ lower. (let failed = two.lower_failed e.0 e.1 one.there lower in let passes = one.passed in absurd cc)
        | Equal ↦ λ tie. one_there e f one.there two.there (sources_antisymmetric e.0 f.0 tie)
        | Greater ↦ λ above. (let failed = one.lower_failed f.0 f.1 two.there (sources_total.antisymm f.0 e.0 ∙ ap ordering_reverse above) in let passes = two.passed in absurd cc)
      ] refl

  -- and nothing else is
  pub found_once : (one two : Option (RefSource × ℕ)) → FindsFirstThat test set one → FindsFirstThat test set two → one ≡ two
  found_once None None a b = refl
  found_once None (Some f) a b = let failed = a f.0 f.1 b.there in let passes = b.passed in absurd cc
  found_once (Some e) None a b = let failed = b e.0 e.1 a.there in let passes = a.passed in absurd cc
  found_once (Some e) (Some f) a b = same_found e f a b
