-- All groups, where one of them is changed.
use Rattle.std.proofs.Common.{◌≡◌, ℕ, ◌+◌, ◌-◌, ◌≤◌, not, inl, inr, Bool, true, false, cond, refl, sym, ap, subst, ◌∙◌, arith, [], Option, Some, None}
use Rattle.std.specs.Ordering.{is_eq, eq_by_cmp}
use Rattle.std.specs.Option.{is_some}
use Rattle.std.specs.FinMap.{get, insert, remove, empty, len, get-empty, get-insert, get-remove, len-insert, len-remove, len-empty, empty_of_len, get-from_entries, same_map}
use Rattle.std.specs.List.{list_any}
use Rattle.std.specs.List.Sorted.{IsStrictlySortedBy}
use Rattle.std.specs.Map.{lookup, keys_of}
use Rattle.std.specs.BTreeMap.{BTreeMap, is_at, UpdatesBy, IsOrdered}
use Rattle.std.specs.BTreeMap as tree
use Rattle.std.specs.BTreeSet.{BTreeSet}
use Rattle.std.specs.BTreeSet as sorted
use Rattle.std.proofs.lemmas.Bool.{cases_Bool, cases_lt}
use Rattle.pm_types.specs.declared.source.RefSource.{RefSource}
use Rattle.pm_types.specs.contracts.source.RefSourceOrd.TheImpl.{ghosts}
use Rattle.pm_types.specs.Orders.{source_cmp}
use Rattle.pm_types.proofs.Orders.{sources_total, sources_antisymmetric}
use Rattle.pm_types.proofs.Shown.{tied}
use Rattle.pm_remset.specs.Grouped.{group_name, joined, names, names_in, IsIndexedAt, KeepsOthers, AreGrouped}
use Rattle.pm_remset.specs.Indexed.{pair_cmp}
use Rattle.pm_remset.specs.Remembered.{Remembered}
use Rattle.pm_remset.proofs.Groups.{answered, at_joined}
use Rattle.pm_remset.proofs.Naming.{group_ties, names_none}
use Rattle.pm_remset.proofs.Sources.{tied_source}

module _ (m n : BTreeMap RefSource Remembered) (old_order : IsOrdered ghosts.cmp m) (new_order : IsOrdered ghosts.cmp n) (index : BTreeSet (ℕ × RefSource)) (count : ℕ) (kept : AreGrouped m index count)
    (g : RefSource) (l after : Remembered) (was : (x : RefSource) → answered (tree.get ghosts.cmp m g) x ≡ get l x) (u : UpdatesBy ghosts.cmp (ghosts.cmp g) m n (Some after))
    (own : (x : RefSource) (k : ℕ) → get after x ≡ Some k → group_name x ≡ g) where
  found_here : (h : RefSource) → is_eq (ghosts.cmp g h) ≡ true → tree.get ghosts.cmp n h ≡ Some after
  found_here h tie = u.0 h ∙ ap (λ b. cond b (Some after) (tree.get ghosts.cmp m h)) tie

  found_there : (h : RefSource) → is_eq (ghosts.cmp g h) ≡ false → tree.get ghosts.cmp n h ≡ tree.get ghosts.cmp m h
  found_there h apart = u.0 h ∙ ap (λ b. cond b (Some after) (tree.get ghosts.cmp m h)) apart

  in_group_still : (h : RefSource) (set : Remembered) → tree.get ghosts.cmp n h ≡ Some set → (x : RefSource) (k : ℕ) → get set x ≡ Some k → group_name x ≡ h
  in_group_still h set is x k there = elim (cases_Bool (is_eq (ghosts.cmp g h))) [
    | inl tie ↦ (let same : after ≡ set = cc (found_here h tie, is) in own x k (ap (λ s. get s x) same ∙ there) ∙ tied_source g h tie)
    | inr apart ↦ kept.in_group h set (sym (found_there h apart) ∙ is) x k there
  ]

  -- each group answers as before, but the one that changed
  pub here_now : (x : RefSource) → is_eq (ghosts.cmp g (group_name x)) ≡ true → get (joined n.entries) x ≡ get after x
  here_now x tie = at_joined n new_order in_group_still x ∙ ap (λ found. answered found x) (found_here (group_name x) tie)

  pub here_before : (x : RefSource) → is_eq (ghosts.cmp g (group_name x)) ≡ true → get (joined m.entries) x ≡ get l x
  here_before x tie = at_joined m old_order kept.in_group x ∙ ap (λ h. answered (tree.get ghosts.cmp m h) x) (sym (tied_source g (group_name x) tie)) ∙ was x

  pub there_same : (x : RefSource) → is_eq (ghosts.cmp g (group_name x)) ≡ false → get (joined n.entries) x ≡ get (joined m.entries) x
  there_same x apart = at_joined n new_order in_group_still x ∙ ap (λ found. answered found x) (found_there (group_name x) apart) ∙ sym (at_joined m old_order kept.in_group x)

  pub grouped_still : (after_index : BTreeSet (ℕ × RefSource)) → IsIndexedAt after_index g after → KeepsOthers index after_index g → (total : ℕ) → total ≡ len (joined n.entries) → AreGrouped n after_index total
  grouped_still after_index here others total counted = record {
    ordered = new_order;
    in_group = in_group_still;
    indexed = λ s h. elim (cases_Bool (is_eq (ghosts.cmp g h))) [
      | inl tie ↦ subst (λ x. sorted.contains pair_cmp after_index (s, x) ≡ names_in s (Some after)) (tied_source g h tie) (here s) ∙ ap (names_in s) (sym (found_here h tie))
      | inr apart ↦ others s h apart ∙ kept.indexed s h ∙ ap (names_in s) (sym (found_there h apart))
    ];
    counted = counted;
  }

  module _ (q : RefSource) (in_it : group_name q ≡ g) where
    own_tie : (x : RefSource) → eq_by_cmp source_cmp x q ≡ true → is_eq (ghosts.cmp g (group_name x)) ≡ true
    own_tie x tie = ap (λ y. is_eq (ghosts.cmp g (group_name y))) (sources_antisymmetric x q (tied (source_cmp x q) tie)) ∙ ap (λ y. is_eq (ghosts.cmp g y)) in_it ∙ group_ties g

    -- a source was put into the group
    pub joined_put : (slot : ℕ) → after ≡ insert l q slot → joined n.entries ≡ insert (joined m.entries) q slot
    joined_put slot is = same_map sources_total sources_antisymmetric _ _ (λ x. elim (cases_Bool (is_eq (ghosts.cmp g (group_name x)))) [
      | inl tie ↦ here_now x tie ∙ ap (λ s. get s x) is ∙ get-insert sources_total l q slot x ∙ ap (cond (eq_by_cmp source_cmp x q) (Some slot)) (sym (here_before x tie)) ∙ sym (get-insert sources_total (joined m.entries) q slot x)
      | inr apart ↦ there_same x apart ∙ elim (cases_Bool (eq_by_cmp source_cmp x q)) [
        | inl same ↦ (let tie = own_tie x same in absurd cc)
        | inr other ↦ sym (get-insert sources_total (joined m.entries) q slot x ∙ ap (λ b. cond b (Some slot) (get (joined m.entries) x)) other)
      ]
    ])

    -- a source was taken from the group
    pub joined_take : after ≡ remove l q → joined n.entries ≡ remove (joined m.entries) q
    joined_take is = same_map sources_total sources_antisymmetric _ _ (λ x. elim (cases_Bool (is_eq (ghosts.cmp g (group_name x)))) [
      | inl tie ↦ here_now x tie ∙ ap (λ s. get s x) is ∙ get-remove sources_total l q x ∙ ap (cond (eq_by_cmp source_cmp x q) None) (sym (here_before x tie)) ∙ sym (get-remove sources_total (joined m.entries) q x)
      | inr apart ↦ there_same x apart ∙ elim (cases_Bool (eq_by_cmp source_cmp x q)) [
        | inl same ↦ (let tie = own_tie x same in absurd cc)
        | inr other ↦ sym (get-remove sources_total (joined m.entries) q x ∙ ap (λ b. cond b None (get (joined m.entries) x)) other)
      ]
    ])

    -- nothing was changed
    pub joined_same : after ≡ l → joined n.entries ≡ joined m.entries
    joined_same is = same_map sources_total sources_antisymmetric _ _ (λ x. elim (cases_Bool (is_eq (ghosts.cmp g (group_name x)))) [
      | inl tie ↦ here_now x tie ∙ ap (λ s. get s x) is ∙ sym (here_before x tie)
      | inr apart ↦ there_same x apart
    ])

    -- what the source named
    pub was_at : get (joined m.entries) q ≡ get l q
    was_at = here_before q (ap (λ y. is_eq (ghosts.cmp g y)) in_it ∙ group_ties g)

-- how many there are
pub one_more : (v : Remembered) (q : RefSource) (slot : ℕ) → is_some (get v q) ≡ false → len (insert v q slot) ≡ len v + 1
one_more v q slot none = len-insert sources_total v q slot ∙ ap (λ b. cond b (len v) (len v + 1)) none

pub as_many : (v : Remembered) (q : RefSource) (slot : ℕ) → is_some (get v q) ≡ true → len (insert v q slot) ≡ len v
as_many v q slot has = len-insert sources_total v q slot ∙ ap (λ b. cond b (len v) (len v + 1)) has

pub one_less : (v : Remembered) (q : RefSource) (slot : ℕ) → get v q ≡ Some slot → len (remove v q) ≡ len v - 1
one_less v q slot is = len-remove sources_total v q ∙ ap (λ b. cond b (len v - 1) (len v)) (ap is_some is)

pub same_count : (v : Remembered) (q : RefSource) → get v q ≡ None → len (remove v q) ≡ len v
same_count v q is = len-remove sources_total v q ∙ ap (λ b. cond b (len v - 1) (len v)) (ap is_some is)

pub some_there : (v : Remembered) (q : RefSource) (slot : ℕ) → get v q ≡ Some slot → 1 ≤ len v
some_there v q slot is = elim (cases_lt 0 (len v)) [
  | inl more ↦ omega (arith, more)
  | inr none ↦ (let nothing : None ≡ Some slot = sym (get-empty source_cmp q) ∙ ap (λ s. get s q) (sym (empty_of_len v (omega (arith, none)))) ∙ is in absurd cc)
]

-- what is in the group still
pub own_put : (l : Remembered) (g q : RefSource) (slot : ℕ) → group_name q ≡ g → ((x : RefSource) (k : ℕ) → get l x ≡ Some k → group_name x ≡ g) → (after : Remembered) → after ≡ insert l q slot → (x : RefSource) (k : ℕ) → get after x ≡ Some k → group_name x ≡ g
own_put l g q slot in_it own after is x k there = elim (cases_Bool (eq_by_cmp source_cmp x q)) [
  | inl tie ↦ ap group_name (sources_antisymmetric x q (tied (source_cmp x q) tie)) ∙ in_it
  | inr apart ↦ own x k (sym (get-insert sources_total l q slot x ∙ ap (λ b. cond b (Some slot) (get l x)) apart) ∙ ap (λ s. get s x) (sym is) ∙ there)
]

pub own_take : (l : Remembered) (g q : RefSource) → ((x : RefSource) (k : ℕ) → get l x ≡ Some k → group_name x ≡ g) → (after : Remembered) → after ≡ remove l q → (x : RefSource) (k : ℕ) → get after x ≡ Some k → group_name x ≡ g
own_take l g q own after is x k there = elim (cases_Bool (eq_by_cmp source_cmp x q)) [
  | inl tie ↦ (let none : get after x ≡ None = ap (λ s. get s x) is ∙ get-remove sources_total l q x ∙ ap (λ b. cond b None (get l x)) tie in absurd cc)
  | inr apart ↦ own x k (sym (get-remove sources_total l q x ∙ ap (λ b. cond b None (get l x)) apart) ∙ ap (λ s. get s x) (sym is) ∙ there)
]

pub not_true : (b : Bool) → not b ≡ true → b ≡ false
not_true true is = cc
not_true false is = refl

pub not_false : (b : Bool) → not b ≡ false → b ≡ true
not_false true is = refl
not_false false is = cc

-- an empty group names nothing
pub empty_names : (s : ℕ) → names s empty ≡ false
empty_names s = names_none s empty (λ q k is. (let none : None ≡ Some k = sym (get-empty source_cmp q) ∙ is in absurd cc))

-- a group of which no source is there
module _ (m : BTreeMap RefSource Remembered) (order : IsOrdered ghosts.cmp m) (index : BTreeSet (ℕ × RefSource)) (count : ℕ) (kept : AreGrouped m index count)
    (g : RefSource) (none : (x : RefSource) → group_name x ≡ g → get (joined m.entries) x ≡ None) where
  no_answer : (found : Option Remembered) → tree.get ghosts.cmp m g ≡ found → (x : RefSource) → answered found x ≡ None
  no_answer None is x = refl
  no_answer (Some l) is x = by (get l x) refl
    where
      by : (r : Option ℕ) → get l x ≡ r → get l x ≡ None
      by None got = got
      by (Some k) got =
          let in_it : group_name x ≡ g = kept.in_group g l is x k got in
          let at : get (joined m.entries) x ≡ get l x = at_joined m order kept.in_group x ∙ ap (λ h. answered (tree.get ghosts.cmp m h) x) in_it ∙ ap (λ found. answered found x) is in
          let nothing = none x in_it in
          absurd cc

  pub as_empty : (x : RefSource) → answered (tree.get ghosts.cmp m g) x ≡ get {R = source_cmp} empty x
  as_empty x = no_answer (tree.get ghosts.cmp m g) refl x ∙ sym (get-empty source_cmp x)

  no_name : (found : Option Remembered) → tree.get ghosts.cmp m g ≡ found → (s : ℕ) → names_in s found ≡ false
  no_name None is s = refl
  no_name (Some l) is s = names_none s l (λ q k got. (let nothing = no_answer (Some l) is q in absurd cc))

  pub index_empty : IsIndexedAt index g empty
  index_empty s = kept.indexed s g ∙ no_name (tree.get ghosts.cmp m g) refl s ∙ sym (empty_names s)

  -- the group was not put, and the index is as it was
  pub undone_still : (n : BTreeMap RefSource Remembered) → n.entries ≡ m.entries → (after_index : BTreeSet (ℕ × RefSource)) → IsIndexedAt after_index g empty → KeepsOthers index after_index g → AreGrouped n after_index count
  undone_still n same after_index here others =
      let at : (h : RefSource) → tree.get ghosts.cmp n h ≡ tree.get ghosts.cmp m h = λ h. ap (λ es. lookup (is_at (ghosts.cmp h)) es) same in
      record {
        ordered = subst (λ es. IsStrictlySortedBy ghosts.cmp (keys_of es)) (sym same) kept.ordered;
        in_group = λ h set is. kept.in_group h set (sym (at h) ∙ is);
        indexed = λ s h. elim (cases_Bool (is_eq (ghosts.cmp g h))) [
          | inl tie ↦ subst (λ x. sorted.contains pair_cmp after_index (s, x) ≡ names_in s (tree.get ghosts.cmp m x)) (tied_source g h tie) (here s ∙ empty_names s ∙ sym (no_name (tree.get ghosts.cmp m g) refl s)) ∙ ap (names_in s) (sym (at h))
          | inr apart ↦ others s h apart ∙ kept.indexed s h ∙ ap (names_in s) (sym (at h))
        ];
        counted = kept.counted ∙ ap (λ es. len (joined es)) (sym same);
      }

pub own_empty : (g x : RefSource) (k : ℕ) → get {R = source_cmp} empty x ≡ Some k → group_name x ≡ g
own_empty g x k is = (let none : None ≡ Some k = sym (get-empty source_cmp x) ∙ is in absurd cc)

-- no groups
pub none_grouped : (m : BTreeMap RefSource Remembered) (index : BTreeSet (ℕ × RefSource)) → IsOrdered ghosts.cmp m → m.entries ≡ [] → index.keys ≡ [] → AreGrouped m index 0
none_grouped m index order none no_keys =
    let at : (h : RefSource) → tree.get ghosts.cmp m h ≡ None = λ h. ap (λ es. lookup (is_at (ghosts.cmp h)) es) none in
    record {
      ordered = order;
      in_group = λ h set is. (let nothing = at h in absurd cc);
      indexed = λ s h. ap (λ ks. list_any (is_at (pair_cmp (s, h))) ks) no_keys ∙ ap (names_in s) (sym (at h));
      counted = sym (ap (λ es. len (joined es)) none ∙ ap len (same_map sources_total sources_antisymmetric (joined []) empty (λ q. get-from_entries sources_total [] q ∙ sym (get-empty source_cmp q))) ∙ len-empty source_cmp ℕ);
    }

-- a group with no source is let go
module _ (m n : BTreeMap RefSource Remembered) (old_order : IsOrdered ghosts.cmp m) (new_order : IsOrdered ghosts.cmp n) (index : BTreeSet (ℕ × RefSource)) (count : ℕ) (kept : AreGrouped m index count)
    (g : RefSource) (l : Remembered) (was : tree.get ghosts.cmp m g ≡ Some l) (nothing : l ≡ empty) (u : UpdatesBy ghosts.cmp (ghosts.cmp g) m n None) where
  gone_here : (h : RefSource) → is_eq (ghosts.cmp g h) ≡ true → tree.get ghosts.cmp n h ≡ None
  gone_here h tie = u.0 h ∙ ap (λ b. cond b None (tree.get ghosts.cmp m h)) tie

  left_there : (h : RefSource) → is_eq (ghosts.cmp g h) ≡ false → tree.get ghosts.cmp n h ≡ tree.get ghosts.cmp m h
  left_there h apart = u.0 h ∙ ap (λ b. cond b None (tree.get ghosts.cmp m h)) apart

  left_in : (h : RefSource) (set : Remembered) → tree.get ghosts.cmp n h ≡ Some set → (x : RefSource) (k : ℕ) → get set x ≡ Some k → group_name x ≡ h
  left_in h set is x k there = elim (cases_Bool (is_eq (ghosts.cmp g h))) [
    | inl tie ↦ (let none = gone_here h tie in absurd cc)
    | inr apart ↦ kept.in_group h set (sym (left_there h apart) ∙ is) x k there
  ]

  pub joined_left : joined n.entries ≡ joined m.entries
  joined_left = same_map sources_total sources_antisymmetric _ _ (λ x.
      at_joined n new_order left_in x ∙ elim (cases_Bool (is_eq (ghosts.cmp g (group_name x)))) [
        | inl tie ↦ ap (λ found. answered found x) (gone_here (group_name x) tie) ∙ sym (get-empty source_cmp x) ∙ ap (λ s. get s x) (sym nothing)
            ∙ sym (ap (λ h. answered (tree.get ghosts.cmp m h) x) (sym (tied_source g (group_name x) tie)) ∙ ap (λ found. answered found x) was)
        | inr apart ↦ ap (λ found. answered found x) (left_there (group_name x) apart)
      ] ∙ sym (at_joined m old_order kept.in_group x))

  pub grouped_left : AreGrouped n index count
  grouped_left = record {
    ordered = new_order;
    in_group = left_in;
    indexed = λ s h. kept.indexed s h ∙ elim (cases_Bool (is_eq (ghosts.cmp g h))) [
      | inl tie ↦ ap (λ x. names_in s (tree.get ghosts.cmp m x)) (sym (tied_source g h tie)) ∙ ap (names_in s) was ∙ ap (names s) nothing ∙ empty_names s ∙ ap (names_in s) (sym (gone_here h tie))
      | inr apart ↦ ap (names_in s) (sym (left_there h apart))
    ];
    counted = kept.counted ∙ ap len (sym joined_left);
  }
