-- A search through the groups in order: what was tried fails, and what is left is to be tried.
use Rattle.std.proofs.Common.{◌≡◌, ℕ, ◌⊎◌, ◌&&◌, inl, inr, Bool, true, false, cond, refl, sym, ap, subst, ◌∙◌, List, [], ◌∷◌, filter, Option, Some, None}
use Rattle.std.specs.declared.cmp.Ordering.{Ordering}
use Rattle.std.specs.declared.cmp.Ordering.TheVariants.{Less, Equal, Greater}
use Rattle.std.specs.declared.ops.Bound.TheVariants.{Included, Unbounded}
use Rattle.std.specs.Cmp.{eq_by_cmp_equiv}
use Rattle.std.specs.Ordering.{is_eq, is_le, ordering_reverse}
use Rattle.std.specs.Option.{is_some}
use Rattle.std.specs.List.{AllByRecursion}
use Rattle.std.specs.List.Sorted.{IsStrictlySortedBy}
use Rattle.std.specs.Map.{lookup, keys_of}
use Rattle.std.specs.FinMap.{get}
use Rattle.std.specs.BTreeMap.{BTreeMap, is_at, IsOrdered}
use Rattle.std.specs.BTreeMap as tree
use Rattle.std.specs.BTreeSet.{BTreeSet}
use Rattle.std.specs.BTreeMap.Range.{range_contains, entries_between}
use Rattle.std.proofs.lemmas.Bool.{cases_Bool}
use Rattle.std.proofs.lemmas.Map.Entries.{lookup-filter-keys}
use Rattle.pm_types.specs.declared.source.RefSource.{RefSource}
use Rattle.pm_types.specs.contracts.source.RefSourceOrd.TheImpl.{ghosts}
use Rattle.pm_types.specs.Orders.{source_cmp}
use Rattle.pm_types.proofs.Orders.{sources_total, sources_antisymmetric}
use Rattle.pm_types.proofs.Shown.{tied}
use Rattle.pm_remset.specs.Grouped.{group_name, joined, AreGrouped}
use Rattle.pm_remset.specs.Remembered.{Fact, Remembered, EachEntry, IsFirstEntry}
use Rattle.pm_remset.proofs.Groups.{answered}
use Rattle.pm_remset.proofs.Least.{at, groups_apart}
use Rattle.pm_remset.proofs.Sources.{derived_is}

abbrev pub Group : Type 0
Group = RefSource × Remembered

-- a key that is found in a list above another is above it
found_above : (h k : RefSource) (es : List Group) → AllByRecursion (λ x. source_cmp h x ≡ Less) (keys_of es) → is_some (lookup (is_at (source_cmp k)) es) ≡ true → source_cmp h k ≡ Less
found_above h k [] above found = cc
found_above h k (e ∷ es) above found = elim (cases_Bool (is_eq (source_cmp k e.0))) [
  | inl tie ↦ subst (λ x. source_cmp h x ≡ Less) (sym (sources_antisymmetric k e.0 (tied (source_cmp k e.0) tie))) above.0
  | inr apart ↦ found_above h k es above.1 (ap (λ b. is_some (cond b (Some e.1) (lookup (is_at (source_cmp k)) es))) (sym apart) ∙ found)
]

kept_above : (x : RefSource) (p : Group → Bool) (es : List Group) → AllByRecursion (λ k. source_cmp x k ≡ Less) (keys_of es) → AllByRecursion (λ k. source_cmp x k ≡ Less) (keys_of (filter p es))
kept_above x p [] h = tt
kept_above x p (e ∷ es) h = elim (cases_Bool (p e)) [
  | inl inside ↦ subst (λ b. AllByRecursion (λ k. source_cmp x k ≡ Less) (keys_of (cond b (e ∷ filter p es) (filter p es)))) (sym inside) (h.0, kept_above x p es h.1)
  | inr not_so ↦ subst (λ b. AllByRecursion (λ k. source_cmp x k ≡ Less) (keys_of (cond b (e ∷ filter p es) (filter p es)))) (sym not_so) (kept_above x p es h.1)
]

kept_sorted : (p : Group → Bool) (es : List Group) → IsStrictlySortedBy source_cmp (keys_of es) → IsStrictlySortedBy source_cmp (keys_of (filter p es))
unfolding IsStrictlySortedBy
kept_sorted p [] h = tt
kept_sorted p (e ∷ es) h = elim (cases_Bool (p e)) [
  | inl inside ↦ subst (λ b. IsStrictlySortedBy source_cmp (keys_of (cond b (e ∷ filter p es) (filter p es)))) (sym inside) (kept_above e.0 p es h.0, kept_sorted p es h.1)
  | inr not_so ↦ subst (λ b. IsStrictlySortedBy source_cmp (keys_of (cond b (e ∷ filter p es) (filter p es)))) (sym not_so) (kept_sorted p es h.1)
]

module _ (set : Remembered) (fails : Fact) where
  -- the groups that are left are those in which the test was not asked, and it failed at all others
  pub record Left (left : List Group) : Type 0 where
    pub sorted : IsStrictlySortedBy source_cmp (keys_of left)
    pub own : (h : RefSource) (l : Remembered) → lookup (is_at (source_cmp h)) left ≡ Some l → (q : RefSource) (n : ℕ) → get l q ≡ Some n → group_name q ≡ h
    pub there : (h : RefSource) (l : Remembered) → lookup (is_at (source_cmp h)) left ≡ Some l → (q : RefSource) → group_name q ≡ h → get set q ≡ get l q
    pub others : (q : RefSource) (n : ℕ) → get set q ≡ Some n → fails q n ⊎ (is_some (lookup (is_at (source_cmp (group_name q))) left) ≡ true)

  module _ (left : List Group) (e : Group) (rest : List Group) (begins : left ≡ e ∷ rest) (searched : Left left) where
    rises : IsStrictlySortedBy source_cmp (keys_of (e ∷ rest))
    rises = subst (λ es. IsStrictlySortedBy source_cmp (keys_of es)) begins searched.sorted

    above : AllByRecursion (λ k. source_cmp e.0 k ≡ Less) (keys_of rest)
    unfolding IsStrictlySortedBy
    above = rises.0

    later : IsStrictlySortedBy source_cmp (keys_of rest)
    unfolding IsStrictlySortedBy
    later = rises.1

    look_here : (h : RefSource) → is_eq (source_cmp h e.0) ≡ true → lookup (is_at (source_cmp h)) left ≡ Some e.1
    look_here h tie = ap (lookup (is_at (source_cmp h))) begins ∙ ap (λ b. cond b (Some e.1) (lookup (is_at (source_cmp h)) rest)) tie

    look_on : (h : RefSource) → is_eq (source_cmp h e.0) ≡ false → lookup (is_at (source_cmp h)) left ≡ lookup (is_at (source_cmp h)) rest
    look_on h apart = ap (lookup (is_at (source_cmp h))) begins ∙ ap (λ b. cond b (Some e.1) (lookup (is_at (source_cmp h)) rest)) apart

    in_rest : (h : RefSource) (l : Remembered) → lookup (is_at (source_cmp h)) rest ≡ Some l → lookup (is_at (source_cmp h)) left ≡ Some l
    in_rest h l is = elim (cases_Bool (is_eq (source_cmp h e.0))) [
      | inl tie ↦ (let over : source_cmp e.0 h ≡ Less = found_above e.0 h rest above (ap is_some is) in
          let same : h ≡ e.0 = sources_antisymmetric h e.0 (tied (source_cmp h e.0) tie) in
          let turned : is_eq (source_cmp e.0 h) ≡ true = ap (λ x. is_eq (source_cmp x h)) (sym same) ∙ ap (λ x. is_eq (source_cmp h x)) same ∙ tie in absurd cc)
      | inr apart ↦ look_on h apart ∙ is
    ]

    in_first : (q : RefSource) → is_eq (source_cmp (group_name q) e.0) ≡ true → get set q ≡ get e.1 q
    in_first q tie = searched.there (group_name q) e.1 (look_here (group_name q) tie) q refl

    -- the test failed in the first group that was left
    pub left_goes_on : EachEntry fails e.1 → Left rest
    left_goes_on failed = record {
      sorted = later;
      own = λ h l is. searched.own h l (in_rest h l is);
      there = λ h l is. searched.there h l (in_rest h l is);
      others = λ q n is. elim (searched.others q n is) [
        | inl f ↦ inl f
        | inr look ↦ elim (cases_Bool (is_eq (source_cmp (group_name q) e.0))) [
          | inl tie ↦ inl (failed q n (sym (in_first q tie) ∙ is))
          | inr apart ↦ inr (ap is_some (sym (look_on (group_name q) apart)) ∙ look)
        ]
      ];
    }

    -- it passed there
    pub left_finds : (passes : Fact) (q : RefSource) (n : ℕ) → IsFirstEntry passes fails e.1 q n → IsFirstEntry passes fails set q n
    left_finds passes q n found =
        let itself : is_eq (source_cmp e.0 e.0) ≡ true = (eq_by_cmp_equiv sources_total).refl e.0 in
        let in_it : group_name q ≡ e.0 = searched.own e.0 e.1 (look_here e.0 itself) q n found.there in
        let mine : is_eq (source_cmp (group_name q) e.0) ≡ true = ap (λ x. is_eq (source_cmp x e.0)) in_it ∙ itself in
        record {
          there = in_first q mine ∙ found.there;
          passed = found.passed;
          lower_failed = λ other k is less. elim (searched.others other k is) [
            | inl f ↦ f
            | inr look ↦ elim (cases_Bool (is_eq (source_cmp (group_name other) e.0))) [
              | inl tie ↦ found.lower_failed other k (sym (in_first other tie) ∙ is) less
              | inr apart ↦ (let over : source_cmp e.0 (group_name other) ≡ Less = found_above e.0 (group_name other) rest above (ap is_some (sym (look_on (group_name other) apart)) ∙ look) in
                  let higher : source_cmp q other ≡ Less = groups_apart q other (ap (λ h. source_cmp h (group_name other)) in_it ∙ over) in
                  let turned : source_cmp q other ≡ Greater = sources_total.antisymm q other ∙ ap ordering_reverse less in absurd cc)
            ]
          ];
        }

  -- nothing is left
  pub left_ends : (left : List Group) → left ≡ [] → Left left → EachEntry fails set
  left_ends left none searched q n is = elim (searched.others q n is) [
    | inl f ↦ f
    | inr look ↦ (let nothing : false ≡ true = ap (λ es. is_some (lookup (is_at (source_cmp (group_name q))) es)) (sym none) ∙ look in absurd cc)
  ]

  module _ (m : BTreeMap RefSource Remembered) (index : BTreeSet (ℕ × RefSource)) (count : ℕ) (kept : AreGrouped m index count) (seen : joined m.entries ≡ set) where
    in_tree : (h : RefSource) → tree.get ghosts.cmp m h ≡ lookup (is_at (source_cmp h)) m.entries
    in_tree h = ap (λ R. tree.get R m h) derived_is

    some_answer : (q : RefSource) (n : ℕ) (found : Option Remembered) → answered found q ≡ Some n → is_some found ≡ true
    some_answer q n None is = cc
    some_answer q n (Some l) is = refl

    rises_all : IsStrictlySortedBy source_cmp (keys_of m.entries)
    rises_all = subst (λ R. IsOrdered R m) derived_is kept.ordered

    has_it : (q : RefSource) (n : ℕ) → get set q ≡ Some n → is_some (lookup (is_at (source_cmp (group_name q))) m.entries) ≡ true
    has_it q n is = ap is_some (sym (in_tree (group_name q))) ∙ some_answer q n (tree.get ghosts.cmp m (group_name q)) (sym (at m index count kept set seen q) ∙ is)

    there_all : (h : RefSource) (l : Remembered) → lookup (is_at (source_cmp h)) m.entries ≡ Some l → (q : RefSource) → group_name q ≡ h → get set q ≡ get l q
    there_all h l is q in_it = at m index count kept set seen q ∙ ap (λ x. answered (tree.get ghosts.cmp m x) q) in_it ∙ ap (λ found. answered found q) (in_tree h ∙ is)

    -- all groups are left
    pub left_begins : (left : List Group) → left ≡ m.entries → Left left
    left_begins left all = record {
      sorted = subst (λ es. IsStrictlySortedBy source_cmp (keys_of es)) (sym all) rises_all;
      own = λ h l is. kept.in_group h l (in_tree h ∙ ap (lookup (is_at (source_cmp h))) (sym all) ∙ is);
      there = λ h l is. there_all h l (ap (lookup (is_at (source_cmp h))) (sym all) ∙ is);
      others = λ q n is. inr (ap (λ es. is_some (lookup (is_at (source_cmp (group_name q))) es)) all ∙ has_it q n is);
    }

    -- ---- the groups from that of a source on

    module _ (from : RefSource) (fails_below : (q : RefSource) (n : ℕ) → source_cmp q from ≡ Less → fails q n) (left : List Group) (between : left ≡ entries_between ghosts.cmp (Included (group_name from)) Unbounded m.entries) where
      abbrev in_range : RefSource → Bool
      in_range = range_contains ghosts.cmp (Included (group_name from)) Unbounded

      looked : (h : RefSource) → lookup (is_at (source_cmp h)) left ≡ cond (in_range h) (lookup (is_at (source_cmp h)) m.entries) None
      looked h = ap (lookup (is_at (source_cmp h))) between
          ∙ lookup-filter-keys (is_at (source_cmp h)) in_range (in_range h) (λ k t. ap in_range (sym (sources_antisymmetric h k (tied (source_cmp h k) t)))) m.entries

      in_left : (h : RefSource) (l : Remembered) → lookup (is_at (source_cmp h)) left ≡ Some l → lookup (is_at (source_cmp h)) m.entries ≡ Some l
      in_left h l is = elim (cases_Bool (in_range h)) [
        | inl inside ↦ sym (looked h ∙ ap (λ b. cond b (lookup (is_at (source_cmp h)) m.entries) None) inside) ∙ is
        | inr not_so ↦ (let none : None ≡ Some l = sym (looked h ∙ ap (λ b. cond b (lookup (is_at (source_cmp h)) m.entries) None) not_so) ∙ is in absurd cc)
      ]

      outside : (o : Ordering) → (is_le o && true) ≡ false → o ≡ Greater
      outside Less is = cc
      outside Equal is = cc
      outside Greater is = refl

      below_from : (q : RefSource) → in_range (group_name q) ≡ false → source_cmp q from ≡ Less
      below_from q not_so =
          let higher : source_cmp (group_name from) (group_name q) ≡ Greater = ap (λ R. R (group_name from) (group_name q)) (sym derived_is) ∙ outside (ghosts.cmp (group_name from) (group_name q)) not_so in
          groups_apart q from (sources_total.antisymm (group_name q) (group_name from) ∙ ap ordering_reverse higher)

      pub left_from : Left left
      left_from = record {
        sorted = subst (λ es. IsStrictlySortedBy source_cmp (keys_of es)) (sym between) (kept_sorted (λ (e : Group). in_range e.0) m.entries rises_all);
        own = λ h l is. kept.in_group h l (in_tree h ∙ in_left h l is);
        there = λ h l is. there_all h l (in_left h l is);
        others = λ q n is. elim (cases_Bool (in_range (group_name q))) [
          | inl inside ↦ inr (ap is_some (looked (group_name q) ∙ ap (λ b. cond b (lookup (is_at (source_cmp (group_name q))) m.entries) None) inside) ∙ has_it q n is)
          | inr not_so ↦ inl (fails_below q n (below_from q not_so))
        ];
      }
