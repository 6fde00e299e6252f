-- A search through the entries in order: what was tried fails, and what is left is to be tried.
use Rattle.std.proofs.Common.{◌≡◌, ℕ, ◌⊎◌, inl, inr, true, false, cond, refl, sym, ap, subst, ◌∙◌, List, [], ◌∷◌, Some, None}
use Rattle.std.specs.declared.cmp.Ordering.TheVariants.{Less}
use Rattle.std.specs.Ordering.{is_eq}
use Rattle.std.specs.Cmp.{tied_itself, Equal-is}
use Rattle.std.specs.List.{AllByRecursion}
use Rattle.std.specs.List.Sorted.{IsStrictlySortedBy}
use Rattle.std.specs.Map.{lookup, keys_of}
use Rattle.std.specs.FinMap.{get}
use Rattle.std.specs.BTreeMap.{is_at}
use Rattle.std.proofs.lemmas.Bool.{cases_Bool}
use Rattle.std.proofs.lemmas.Map.Keys.{sorted_head, sorted_tail}
use Rattle.pm_types.specs.declared.source.RefSource.{RefSource}
use Rattle.pm_types.specs.Orders.{source_cmp}
use Rattle.pm_types.proofs.Orders.{sources_total, sources_antisymmetric}
use Rattle.pm_remset.specs.Remembered.{Fact, Remembered, EachEntry, IsFirstEntry}

-- a source that is below another, which is below all keys, is below all keys
pub below_all : (x y : RefSource) (ks : List RefSource) → source_cmp x y ≡ Less → AllByRecursion (λ k. source_cmp y k ≡ Less) ks → AllByRecursion (λ k. source_cmp x k ≡ Less) ks
below_all x y [] less h = tt
below_all x y (k ∷ ks) less h = (sources_total.trans x y k less h.0, below_all x y ks less h.1)

-- a source below all keys is not there
pub none_below : (x : RefSource) (es : List (RefSource × ℕ)) → AllByRecursion (λ k. source_cmp x k ≡ Less) (keys_of es) → lookup (is_at (source_cmp x)) es ≡ None
none_below x [] h = refl
none_below x (e ∷ es) h = ap (λ r. cond (is_eq r) (Some e.1) (lookup (is_at (source_cmp x)) es)) h.0 ∙ none_below x es h.1

module _ (set : Remembered) (fails : Fact) where
  -- the entries that are left are those at which the test was not asked, and it failed at all others
  pub record Searched (left : List (RefSource × ℕ)) : Type 0 where
    pub ordered : IsStrictlySortedBy source_cmp (keys_of left)
    pub left_there : (q : RefSource) (at : ℕ) → lookup (is_at (source_cmp q)) left ≡ Some at → get set q ≡ Some at
    pub others_failed : (q : RefSource) (at : ℕ) → get set q ≡ Some at → fails q at ⊎ (lookup (is_at (source_cmp q)) left ≡ Some at)

  module _ (left : List (RefSource × ℕ)) (e : RefSource × ℕ) (rest : List (RefSource × ℕ)) (begins : left ≡ e ∷ rest) (searched : Searched left) where
    rises : IsStrictlySortedBy source_cmp (e.0 ∷ keys_of rest)
    rises = subst (λ es. IsStrictlySortedBy source_cmp (keys_of es)) begins searched.ordered

    above_first : AllByRecursion (λ k. source_cmp e.0 k ≡ Less) (keys_of rest)
    above_first = sorted_head source_cmp e.0 (keys_of rest) rises

    at_first : (q : RefSource) → is_eq (source_cmp q e.0) ≡ true → q ≡ e.0
    at_first q tie = sources_antisymmetric q e.0 ((Equal-is (source_cmp q e.0)).0 tie)

    found_first : (q : RefSource) → is_eq (source_cmp q e.0) ≡ true → lookup (is_at (source_cmp q)) (e ∷ rest) ≡ Some e.1
    found_first q tie = ap (λ b. cond b (Some e.1) (lookup (is_at (source_cmp q)) rest)) tie

    found_later : (q : RefSource) → is_eq (source_cmp q e.0) ≡ false → lookup (is_at (source_cmp q)) left ≡ lookup (is_at (source_cmp q)) rest
    found_later q apart = ap (lookup (is_at (source_cmp q))) begins ∙ ap (λ b. cond b (Some e.1) (lookup (is_at (source_cmp q)) rest)) apart

    -- the test failed at the first that was left
    pub search_goes_on : fails e.0 e.1 → Searched rest
    search_goes_on failed = record {
      ordered = sorted_tail source_cmp e.0 (keys_of rest) rises;
      left_there = λ q at is. elim (cases_Bool (is_eq (source_cmp q e.0))) [
        | inl tie ↦ (let none : lookup (is_at (source_cmp q)) rest ≡ None = subst (λ x. lookup (is_at (source_cmp x)) rest ≡ None) (sym (at_first q tie)) (none_below e.0 rest above_first) in absurd cc)
        | inr apart ↦ searched.left_there q at (found_later q apart ∙ is)
      ];
      others_failed = λ q at is. elim (searched.others_failed q at is) [
        | inl f ↦ inl f
        | inr look ↦ elim (cases_Bool (is_eq (source_cmp q e.0))) [
          | inl tie ↦ (let found : Some e.1 ≡ Some at = sym (found_first q tie) ∙ ap (lookup (is_at (source_cmp q))) (sym begins) ∙ look in
              let same : e.1 ≡ at = cc in
              inl (subst (λ n. fails q n) same (subst (λ x. fails x e.1) (sym (at_first q tie)) failed)))
          | inr apart ↦ inr (sym (found_later q apart) ∙ look)
        ]
      ];
    }

    -- it passed there
    pub search_finds : (passes : Fact) → passes e.0 e.1 → IsFirstEntry passes fails set e.0 e.1
    search_finds passes passed = record {
      there = searched.left_there e.0 e.1 (ap (lookup (is_at (source_cmp e.0))) begins ∙ found_first e.0 (ap is_eq (tied_itself sources_total e.0)));
      passed = passed;
      lower_failed = λ other at is less. elim (searched.others_failed other at is) [
        | inl f ↦ f
        | inr look ↦
            let none : lookup (is_at (source_cmp other)) left ≡ None = ap (lookup (is_at (source_cmp other))) begins ∙ none_below other (e ∷ rest) (less, below_all other e.0 (keys_of rest) less above_first) in
            absurd cc
      ];
    }

  -- nothing is left
  pub search_ends : (left : List (RefSource × ℕ)) → left ≡ [] → Searched left → EachEntry fails set
  search_ends left none searched source slot is = elim (searched.others_failed source slot is) [
    | inl f ↦ f
    | inr look ↦ (let nothing : lookup (is_at (source_cmp source)) left ≡ None = ap (lookup (is_at (source_cmp source))) none in absurd cc)
  ]
