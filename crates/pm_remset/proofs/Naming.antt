-- Which slots a group names, and its part of the index, where a source is put or taken.
use Rattle.std.proofs.Common.{◌≡◌, ℕ, ◌==◌, ◌&&◌, inl, inr, Bool, true, false, cond, refl, sym, ap, ◌∙◌, arith, Option, Some, None}
use Rattle.std.specs.Cmp.{tied_itself}
use Rattle.std.specs.Ordering.{is_eq, eq_by_cmp}
use Rattle.std.specs.Option.{is_some}
use Rattle.std.specs.FinMap.{get, insert, remove, get-insert, get-remove}
use Rattle.std.specs.BTreeSet.{BTreeSet}
use Rattle.std.specs.BTreeSet as sorted
use Rattle.std.proofs.lemmas.Bool.{cases_Bool}
use Rattle.std.proofs.lemmas.Bool.Decides.{nat_tests}
use Rattle.pm_types.specs.declared.source.RefSource.{RefSource}
use Rattle.pm_types.specs.contracts.source.RefSourceOrd.TheImpl.{ghosts}
use Rattle.pm_types.specs.Orders.{source_cmp}
use Rattle.pm_types.proofs.Orders.{source_cmp_is, sources_total, sources_antisymmetric}
use Rattle.pm_types.proofs.Shown.{tied}
use Rattle.pm_remset.specs.Grouped.{names, IsIndexedAt, KeepsOthers}
use Rattle.pm_remset.specs.Indexed.{pair_cmp}
use Rattle.pm_remset.specs.Remembered.{Remembered, EachEntry, FindsFirstThat, first_that}
use Rattle.pm_remset.proofs.First.{first_found}
use Rattle.pm_remset.proofs.Sources.{at_pair}

number_is : (m n : ℕ) → (m == n) ≡ true → m ≡ n
number_is m n is = grind (arith, nat_tests, is)

itself : (n : ℕ) → (n == n) ≡ true
itself n = grind (arith, nat_tests)

pub given_slot : {m n : ℕ} → Some m ≡ Some n → (m == n) ≡ true
given_slot {m} {n} is = (let same : m ≡ n = cc in grind (arith, nat_tests, same))

module _ (slot : ℕ) (set : Remembered) where
  some_named : (found : Option (RefSource × ℕ)) → FindsFirstThat (λ _ at. at == slot) set found → is_some found ≡ true → (q : RefSource) × (get set q ≡ Some slot)
  some_named None f is = cc
  some_named (Some e) f is = (e.0, f.there ∙ ap Some (number_is e.1 slot f.passed))

  none_named : (found : Option (RefSource × ℕ)) → FindsFirstThat (λ _ at. at == slot) set found → is_some found ≡ false → EachEntry (λ _ at. (at == slot) ≡ false) set
  none_named None f is = f
  none_named (Some e) f is = cc

  -- where the slot is named, a source names it
  pub named_by : names slot set ≡ true → (q : RefSource) × (get set q ≡ Some slot)
  named_by = some_named (first_that (λ _ at. at == slot) set) (first_found (λ _ at. at == slot) set)

  pub named_by_none : names slot set ≡ false → EachEntry (λ _ at. (at == slot) ≡ false) set
  named_by_none = none_named (first_that (λ _ at. at == slot) set) (first_found (λ _ at. at == slot) set)

  -- a slot that a source names is named
  pub names_it : (q : RefSource) → get set q ≡ Some slot → names slot set ≡ true
  names_it q is = elim (cases_Bool (names slot set)) [
    | inl has ↦ has
    | inr none ↦ (let apart : (slot == slot) ≡ false = named_by_none none q slot is in let same : (slot == slot) ≡ true = itself slot in absurd cc)
  ]

  -- a slot that no source names is not
  pub names_none : EachEntry (λ _ at. (at == slot) ≡ false) set → names slot set ≡ false
  names_none none = elim (cases_Bool (names slot set)) [
    | inl has ↦ (let by = named_by has in let apart : (slot == slot) ≡ false = none by.0 slot by.1 in let same : (slot == slot) ≡ true = itself slot in absurd cc)
    | inr not_so ↦ not_so
  ]

same_source : (x q : RefSource) → eq_by_cmp source_cmp x q ≡ true → x ≡ q
same_source x q tie = sources_antisymmetric x q (tied (source_cmp x q) tie)

got_new : (l : Remembered) (q x : RefSource) (n : ℕ) → eq_by_cmp source_cmp x q ≡ true → get (insert l q n) x ≡ Some n
got_new l q x n tie = get-insert sources_total l q n x ∙ ap (λ b. cond b (Some n) (get l x)) tie

got_old : (l : Remembered) (q x : RefSource) (n : ℕ) → eq_by_cmp source_cmp x q ≡ false → get (insert l q n) x ≡ get l x
got_old l q x n apart = get-insert sources_total l q n x ∙ ap (λ b. cond b (Some n) (get l x)) apart

got_gone : (l : Remembered) (q x : RefSource) → eq_by_cmp source_cmp x q ≡ true → get (remove l q) x ≡ None
got_gone l q x tie = get-remove sources_total l q x ∙ ap (λ b. cond b None (get l x)) tie

got_left : (l : Remembered) (q x : RefSource) → eq_by_cmp source_cmp x q ≡ false → get (remove l q) x ≡ get l x
got_left l q x apart = get-remove sources_total l q x ∙ ap (λ b. cond b None (get l x)) apart

ties : (q : RefSource) → eq_by_cmp source_cmp q q ≡ true
ties q = ap is_eq (tied_itself sources_total q)

-- the slots that are named once a source was put: the new one, and those of before but one that no other source names
module _ (l : Remembered) (q : RefSource) (slot s : ℕ) (stays : get l q ≡ Some s → names s (insert l q slot) ≡ true) where
  named_still : names s l ≡ true → names s (insert l q slot) ≡ true
  named_still has =
      let by = named_by s l has in
      elim (cases_Bool (eq_by_cmp source_cmp by.0 q)) [
        | inl tie ↦ stays (ap (get l) (sym (same_source by.0 q tie)) ∙ by.1)
        | inr apart ↦ names_it s (insert l q slot) by.0 (got_old l q by.0 slot apart ∙ by.1)
      ]

  named_before : (slot == s) ≡ false → names s (insert l q slot) ≡ true → names s l ≡ true
  named_before differ has =
      let by = named_by s (insert l q slot) has in
      elim (cases_Bool (eq_by_cmp source_cmp by.0 q)) [
        | inl tie ↦ (let same : (slot == s) ≡ true = given_slot (sym (got_new l q by.0 slot tie) ∙ by.1) in absurd cc)
        | inr apart ↦ names_it s l by.0 (sym (got_old l q by.0 slot apart) ∙ by.1)
      ]

  pub put_names : cond (slot == s) true (names s l) ≡ names s (insert l q slot)
  put_names = elim (cases_Bool (slot == s)) [
    | inl same ↦ ap (λ b. cond b true (names s l)) same ∙ sym (names_it s (insert l q slot) q (got_new l q q slot (ties q) ∙ ap Some (number_is slot s same)))
    | inr differ ↦ ap (λ b. cond b true (names s l)) differ ∙ elim (cases_Bool (names s l)) [
      | inl has ↦ has ∙ sym (named_still has)
      | inr none ↦ elim (cases_Bool (names s (insert l q slot))) [
        | inl has ↦ (let before = named_before differ has in absurd cc)
        | inr not_so ↦ none ∙ sym not_so
      ]
    ]
  ]

-- those that are named once it was taken
module _ (l : Remembered) (q : RefSource) (s : ℕ) (stays : get l q ≡ Some s → names s (remove l q) ≡ true) where
  left_still : names s l ≡ true → names s (remove l q) ≡ true
  left_still has =
      let by = named_by s l has in
      elim (cases_Bool (eq_by_cmp source_cmp by.0 q)) [
        | inl tie ↦ stays (ap (get l) (sym (same_source by.0 q tie)) ∙ by.1)
        | inr apart ↦ names_it s (remove l q) by.0 (got_left l q by.0 apart ∙ by.1)
      ]

  left_before : names s (remove l q) ≡ true → names s l ≡ true
  left_before has =
      let by = named_by s (remove l q) has in
      elim (cases_Bool (eq_by_cmp source_cmp by.0 q)) [
        | inl tie ↦ (let none = got_gone l q by.0 tie in let some = by.1 in absurd cc)
        | inr apart ↦ names_it s l by.0 (sym (got_left l q by.0 apart) ∙ by.1)
      ]

  pub take_names : names s l ≡ names s (remove l q)
  take_names = elim (cases_Bool (names s l)) [
    | inl has ↦ has ∙ sym (left_still has)
    | inr none ↦ elim (cases_Bool (names s (remove l q))) [
      | inl has ↦ (let before = left_before has in absurd cc)
      | inr not_so ↦ none ∙ sym not_so
    ]
  ]

-- ---- the index

and_true : (b : Bool) → (b && true) ≡ b
and_true true = refl
and_true false = refl

and_false : (b : Bool) → (b && false) ≡ false
and_false true = refl
and_false false = refl

pub group_ties : (g : RefSource) → is_eq (ghosts.cmp g g) ≡ true
group_ties g = ap is_eq (source_cmp_is g g ∙ tied_itself sources_total g)

module _ (g : RefSource) (slot : ℕ) (b : Bool) (i n : BTreeSet (ℕ × RefSource)) (u : sorted.UpdatesBy pair_cmp (pair_cmp (slot, g)) i n b) where
  changed_at : (s : ℕ) (h : RefSource) → sorted.contains pair_cmp n (s, h) ≡ cond ((slot == s) && is_eq (ghosts.cmp g h)) b (sorted.contains pair_cmp i (s, h))
  changed_at s h = u.0 (s, h) ∙ ap (λ t. cond t b (sorted.contains pair_cmp i (s, h))) (at_pair slot s g h)

  pub changed_here : (s : ℕ) → sorted.contains pair_cmp n (s, g) ≡ cond (slot == s) b (sorted.contains pair_cmp i (s, g))
  changed_here s = changed_at s g ∙ ap (λ t. cond t b (sorted.contains pair_cmp i (s, g))) (ap (λ t. (slot == s) && t) (group_ties g) ∙ and_true (slot == s))

  pub others_kept : KeepsOthers i n g
  others_kept s h apart = changed_at s h ∙ ap (λ t. cond t b (sorted.contains pair_cmp i (s, h))) (ap (λ t. (slot == s) && t) apart ∙ and_false (slot == s))

pub both_kept : (g : RefSource) (i n m : BTreeSet (ℕ × RefSource)) → KeepsOthers i n g → KeepsOthers n m g → KeepsOthers i m g
both_kept g i n m one two s h apart = two s h apart ∙ one s h apart

module _ (g : RefSource) (l : Remembered) (i : BTreeSet (ℕ × RefSource)) (kept : IsIndexedAt i g l) (q : RefSource) where
  module _ (slot : ℕ) (n : BTreeSet (ℕ × RefSource)) (u : sorted.UpdatesBy pair_cmp (pair_cmp (slot, g)) i n true) where
    added : (s : ℕ) → sorted.contains pair_cmp n (s, g) ≡ cond (slot == s) true (names s l)
    added s = changed_here g slot true i n u s ∙ ap (cond (slot == s) true) (kept s)

    -- a source was put, and what it named before is named still
    pub put_kept : (after : Remembered) → after ≡ insert l q slot → ((s : ℕ) → get l q ≡ Some s → names s after ≡ true) → IsIndexedAt n g after
    put_kept after is stays s = added s ∙ put_names l q slot s (λ was. ap (names s) (sym is) ∙ stays s was) ∙ ap (names s) (sym is)

    -- a source was put, and what it named before is named no more
    pub put_dropped : (after : Remembered) → after ≡ insert l q slot → (old : ℕ) → get l q ≡ Some old → names old after ≡ false
        → (m : BTreeSet (ℕ × RefSource)) → sorted.UpdatesBy pair_cmp (pair_cmp (old, g)) n m false → IsIndexedAt m g after
    put_dropped after is old was gone m v s =
        changed_here g old false n m v s ∙ elim (cases_Bool (old == s)) [
          | inl same ↦ ap (λ b. cond b false (sorted.contains pair_cmp n (s, g))) same ∙ sym gone ∙ ap (λ x. names x after) (number_is old s same)
          | inr differ ↦ ap (λ b. cond b false (sorted.contains pair_cmp n (s, g))) differ ∙ added s
              ∙ put_names l q slot s (λ at. (let same : (old == s) ≡ true = given_slot (sym was ∙ at) in absurd cc)) ∙ ap (names s) (sym is)
        ]

    -- no source was put
    pub put_in_vain : (after : Remembered) → after ≡ l → names slot after ≡ true → IsIndexedAt n g after
    put_in_vain after is has s = added s ∙ elim (cases_Bool (slot == s)) [
      | inl same ↦ ap (λ b. cond b true (names s l)) same ∙ sym has ∙ ap (λ x. names x after) (number_is slot s same)
      | inr differ ↦ ap (λ b. cond b true (names s l)) differ ∙ ap (names s) (sym is)
    ]

    pub put_undone : (after : Remembered) → after ≡ l → names slot after ≡ false
        → (m : BTreeSet (ℕ × RefSource)) → sorted.UpdatesBy pair_cmp (pair_cmp (slot, g)) n m false → IsIndexedAt m g after
    put_undone after is none m v s =
        changed_here g slot false n m v s ∙ elim (cases_Bool (slot == s)) [
          | inl same ↦ ap (λ b. cond b false (sorted.contains pair_cmp n (s, g))) same ∙ sym none ∙ ap (λ x. names x after) (number_is slot s same)
          | inr differ ↦ ap (λ b. cond b false (sorted.contains pair_cmp n (s, g))) differ ∙ added s ∙ ap (λ b. cond b true (names s l)) differ ∙ ap (names s) (sym is)
        ]

  -- a source was taken, and what it named is named still
  pub take_kept : (after : Remembered) → after ≡ remove l q → ((s : ℕ) → get l q ≡ Some s → names s after ≡ true) → IsIndexedAt i g after
  take_kept after is stays s = kept s ∙ take_names l q s (λ was. ap (names s) (sym is) ∙ stays s was) ∙ ap (names s) (sym is)

  -- a source was taken, and what it named is named no more
  pub take_dropped : (after : Remembered) → after ≡ remove l q → (old : ℕ) → get l q ≡ Some old → names old after ≡ false
      → (m : BTreeSet (ℕ × RefSource)) → sorted.UpdatesBy pair_cmp (pair_cmp (old, g)) i m false → IsIndexedAt m g after
  take_dropped after is old was gone m v s =
      changed_here g old false i m v s ∙ elim (cases_Bool (old == s)) [
        | inl same ↦ ap (λ b. cond b false (sorted.contains pair_cmp i (s, g))) same ∙ sym gone ∙ ap (λ x. names x after) (number_is old s same)
        | inr differ ↦ ap (λ b. cond b false (sorted.contains pair_cmp i (s, g))) differ ∙ kept s
            ∙ take_names l q s (λ at. (let same : (old == s) ≡ true = given_slot (sym was ∙ at) in absurd cc)) ∙ ap (names s) (sym is)
      ]

-- what a source named is what is named still
pub still : (l after : Remembered) (q : RefSource) (old : ℕ) → get l q ≡ Some old → names old after ≡ true → (s : ℕ) → get l q ≡ Some s → names s after ≡ true
still l after q old was has s at = (let same : old ≡ s = number_is old s (given_slot (sym was ∙ at)) in ap (λ x. names x after) (sym same) ∙ has)

pub never : (l after : Remembered) (q : RefSource) → get l q ≡ None → (s : ℕ) → get l q ≡ Some s → names s after ≡ true
never l after q none s at = absurd cc
