-- The keys that were passed are used or freed: that stays so when a key is used, freed or written.
use Rattle.std.proofs.Common.{◌≡◌, ◌≢◌, ℕ, ◌+◌, ◌<◌, ◌≤◌, ◌==◌, zero, suc, true, false, cond, not, ◌||◌, ◌&&◌, is_some, refl, sym, ap, subst, ◌∙◌, ⊎_elim, arith, Option, Some, None, IsSome}
use Rattle.std.specs.Ordering.{nat_cmp}
use Rattle.std.specs.Cmp.{nat_cmp_total}
use Rattle.std.specs.FinMap.{FinMap, empty, get, insert, remove, len, get-empty, len-empty, len-insert, len-remove, empty_of_len, same_map, nat_cmp-IsAntisymmetric}
use Rattle.std.specs.FinSet as set
use Rattle.std.proofs.lemmas.Bool.{cases_eq}
use Rattle.std.proofs.lemmas.Bool.Decides.{nat_tests}
use Rattle.std.proofs.lemmas.Grind.{common_steps}
use Rattle.pm_snap.specs.Freed.{FreedKeys, IsLeastOf}
use Rattle.pm_snap.specs.Snapped.{IsLowestUnused}
use Rattle.pm_snap.specs.Kept.{IsKept, IsNext, put}
use Rattle.pm_snap.proofs.KeySets.{contains_insert, contains_remove}
use Rattle.pm_snap.proofs.Tables.{get_put}

there : {T : Type 0} (found : Option T) → (found ≡ None → ⊥) → IsSome found
there None h = absurd (h refl)
there (Some value) h = refl

module _ {T : Type 0} where
  updated : (m : FinMap nat_cmp T) (key : ℕ) (w : Option T) (q : ℕ) → get (put m key w) q ≡ cond (key == q) w (get m q)
  updated m key w q = let here = get_put m key w q in grind (arith, common_steps, nat_tests, here)

  added_len : (m : FinMap nat_cmp T) (key : ℕ) (v : T) → get m key ≡ None → len (insert m key v) ≡ len m + 1
  added_len m key v unused = let all = len-insert nat_cmp_total m key v in grind (arith, common_steps, all, unused)

  written_len : (m : FinMap nat_cmp T) (key : ℕ) (v : T) → IsSome (get m key) → len (insert m key v) ≡ len m
  written_len m key v used = let all = len-insert nat_cmp_total m key v in grind (arith, common_steps, all, used)

  unused_still : (m : FinMap nat_cmp T) (key : ℕ) (v : T) → IsSome (get m key) → (q : ℕ) → get m q ≡ None → get (insert m key v) q ≡ None
  unused_still m key v used q none =
      let here = updated m key (Some v) q in let other : key ≡ q → IsSome (get m q) = λ is. subst (λ k. IsSome (get m k)) is used in
      grind (arith, common_steps, nat_tests, here, other, none)

  counted_one : (m : FinMap nat_cmp T) (key : ℕ) → IsSome (get m key) → (n : ℕ) → len m ≡ n → 1 ≤ n
  counted_one m key used zero is = absurd (let none = ap (λ v. get v key) (empty_of_len m is) ∙ get-empty nat_cmp key in grind (arith, none, used))
  counted_one m key used (suc n) is = omega arith

  removed_len : (m : FinMap nat_cmp T) (key : ℕ) → IsSome (get m key) → len (remove m key) + 1 ≡ len m
  removed_len m key used = let all = len-remove nat_cmp_total m key in let some = counted_one m key used (len m) refl in grind (arith, common_steps, all, used, some)

  -- a table with no value
  pub kept_new : (m : FinMap nat_cmp T) (f : FreedKeys) → m ≡ empty → f.keys ≡ set.empty → IsKept m 0 f 1
  kept_new m f none unfreed =
      let nothing : (k : ℕ) → get m k ≡ None = λ k. ap (λ v. get v k) none ∙ get-empty nat_cmp k in
      let absent : (k : ℕ) → set.contains f.keys k ≡ false = λ k. ap (λ s. set.contains s k) unfreed ∙ set.contains-empty nat_cmp k in
      record {
        from_one = omega arith;
        zero_unused = nothing 0;
        next_unused = nothing 1;
        passed = λ k low high _. absurd (omega arith);
        freed_unused = λ k _. nothing k;
        freed_from_one = λ k freed. let no = absent k in grind (arith, freed, no);
        freed_below = λ k freed. let no = absent k in grind (arith, freed, no);
        counted = sym (ap len none ∙ len-empty nat_cmp T);
        room = omega arith;
      }

  module _ (m : FinMap nat_cmp T) (count : ℕ) (f : FreedKeys) (next : ℕ) (kept : IsKept m count f next) where
    -- the least of the freed keys is the lowest that is not used
    pub least_is_lowest : (key : ℕ) → IsLeastOf f.keys key → IsLowestUnused m key
    least_is_lowest key least = record {
      from_one = kept.freed_from_one key least.among;
      unused = kept.freed_unused key least.among;
      lower_used = λ k low high. there (get m k) (λ none.
          let below = kept.freed_below key least.among in let above = least.least k (kept.passed k low (omega arith) none) in omega arith);
    }

    -- the next key is the lowest that is not used where none is freed
    pub next_is_lowest : f.keys ≡ set.empty → IsLowestUnused m next
    next_is_lowest empty = record {
      from_one = kept.from_one;
      unused = kept.next_unused;
      lower_used = λ k low high. there (get m k) (λ none.
          let freed = kept.passed k low high none in let no = ap (λ s. set.contains s k) empty ∙ set.contains-empty nat_cmp k in absurd (grind (arith, freed, no)));
    }

    -- nothing was written, and there is as much room as before
    pub kept_same : (n : FinMap nat_cmp T) (g : FreedKeys) → n ≡ m → g.keys ≡ f.keys → f.room ≤ g.room → IsKept n count g next
    kept_same n g same keys room =
        let back : (k : ℕ) → set.contains g.keys k ≡ true → set.contains f.keys k ≡ true = λ k freed. ap (λ s. set.contains s k) (sym keys) ∙ freed in
        subst (λ v. IsKept v count g next) (sym same) (record {
          from_one = kept.from_one;
          zero_unused = kept.zero_unused;
          next_unused = kept.next_unused;
          passed = λ k low high none. ap (λ s. set.contains s k) keys ∙ kept.passed k low high none;
          freed_unused = λ k freed. kept.freed_unused k (back k freed);
          freed_from_one = λ k freed. kept.freed_from_one k (back k freed);
          freed_below = λ k freed. kept.freed_below k (back k freed);
          counted = kept.counted;
          room = let before = kept.room in omega arith;
        })

    -- a key that is used was given another value
    pub kept_written : (n : FinMap nat_cmp T) (key : ℕ) (v : T) → IsSome (get m key) → n ≡ insert m key v → IsKept n count f next
    kept_written n key v used written =
        let at : (q : ℕ) → get n q ≡ cond (key == q) (Some v) (get m q) = λ q. ap (λ s. get s q) written ∙ updated m key (Some v) q in
        let apart : (q : ℕ) → get m q ≡ None → get n q ≡ None = λ q none. ap (λ s. get s q) written ∙ unused_still m key v used q none in
        record {
          from_one = kept.from_one;
          zero_unused = apart 0 kept.zero_unused;
          next_unused = apart next kept.next_unused;
          passed = λ k low high none. let here = at k in let passed = kept.passed k low high in grind (arith, common_steps, nat_tests, here, passed, none);
          freed_unused = λ k freed. apart k (kept.freed_unused k freed);
          freed_from_one = kept.freed_from_one;
          freed_below = kept.freed_below;
          counted = kept.counted ∙ sym (ap len written ∙ written_len m key v used);
          room = kept.room;
        }

    -- a key that was not used has a value, and the next key is another one
    pub kept_added : (n : FinMap nat_cmp T) (g : FreedKeys) (key after : ℕ) (v : T) (more : ℕ) → more ≡ count + 1 → IsNext m next key after → 0 < key → get m key ≡ None → n ≡ insert m key v
        → g.keys ≡ set.remove f.keys key → more ≤ g.room → IsKept n more g after
    kept_added n g key after v more one follows low unused added keys room =
        let at : (q : ℕ) → get n q ≡ cond (key == q) (Some v) (get m q) = λ q. ap (λ s. get s q) added ∙ updated m key (Some v) q in
        let freed_at : (k : ℕ) → set.contains g.keys k ≡ (not (key == k) && set.contains f.keys k) = λ k. ap (λ s. set.contains s k) keys ∙ contains_remove f.keys key k in
        let other = follows.other in
        record {
          from_one = let rises = follows.rises in let low = kept.from_one in omega arith;
          zero_unused = let here = at 0 in let none = kept.zero_unused in grind (arith, common_steps, nat_tests, here, none, low);
          next_unused = let here = at after in let none = follows.unused in grind (arith, common_steps, nat_tests, here, none, other);
          passed = λ k above below none.
              let here = at k in let freed = freed_at k in let passed = kept.passed k above in let between = follows.passed k in
              grind (arith, common_steps, nat_tests, here, freed, passed, between, none, above, below);
          freed_unused = λ k freed. let here = at k in let was = freed_at k in let free = kept.freed_unused k in grind (arith, common_steps, nat_tests, here, was, free, freed);
          freed_from_one = λ k freed. let was = freed_at k in let free = kept.freed_from_one k in grind (arith, common_steps, nat_tests, was, free, freed);
          freed_below = λ k freed. let was = freed_at k in let free = kept.freed_below k in let rises = follows.rises in grind (arith, common_steps, nat_tests, was, free, freed, rises);
          counted = one ∙ ap (λ k. k + 1) kept.counted ∙ sym (ap len added ∙ added_len m key v unused);
          room = room;
        }

    -- where a key is used, the count says so
    pub some_counted : (key : ℕ) → IsSome (get m key) → 1 ≤ count
    some_counted key used = let one = removed_len m key used in let before = kept.counted in omega arith

    module _ (n : FinMap nat_cmp T) (key : ℕ) (used : IsSome (get m key)) (gone : n ≡ remove m key) (fewer : ℕ) (counted : fewer + 1 ≡ count) where
      left_at : (q : ℕ) → get n q ≡ cond (key == q) None (get m q)
      left_at q = ap (λ s. get s q) gone ∙ updated m key None q

      left : fewer ≡ len n
      left = let one = removed_len m key used in let same = ap len gone in let before = kept.counted in omega arith

      -- the value of a key that was passed was taken
      pub kept_freed : (g : FreedKeys) → key < next → g.keys ≡ set.insert f.keys key → f.room ≤ g.room + 1 → IsKept n fewer g next
      kept_freed g below keys room =
          let freed_at : (k : ℕ) → set.contains g.keys k ≡ ((key == k) || set.contains f.keys k) = λ k. ap (λ s. set.contains s k) keys ∙ contains_insert f.keys key k in
          let none_zero = kept.zero_unused in
          record {
            from_one = kept.from_one;
            zero_unused = let here = left_at 0 in grind (arith, common_steps, nat_tests, here, none_zero);
            next_unused = let here = left_at next in let none = kept.next_unused in grind (arith, common_steps, nat_tests, here, none);
            passed = λ k above high none. let here = left_at k in let freed = freed_at k in let passed = kept.passed k above high in grind (arith, common_steps, nat_tests, here, freed, passed, none);
            freed_unused = λ k freed. let here = left_at k in let was = freed_at k in let free = kept.freed_unused k in grind (arith, common_steps, nat_tests, here, was, free, freed);
            freed_from_one = λ k freed. let was = freed_at k in let free = kept.freed_from_one k in let zero : k ≡ 0 → get m k ≡ None = λ is. subst (λ q. get m q ≡ None) (sym is) none_zero in
                grind (arith, common_steps, nat_tests, was, free, freed, zero, used);
            freed_below = λ k freed. let was = freed_at k in let free = kept.freed_below k in grind (arith, common_steps, nat_tests, was, free, freed, below);
            counted = left;
            room = let before = kept.room in omega arith;
          }

      -- the value of a key that was never passed was taken
      pub kept_above : next ≤ key → IsKept n fewer f next
      kept_above above =
          let none_zero = kept.zero_unused in
          record {
            from_one = kept.from_one;
            zero_unused = let here = left_at 0 in grind (arith, common_steps, nat_tests, here, none_zero);
            next_unused = let here = left_at next in let none = kept.next_unused in grind (arith, common_steps, nat_tests, here, none);
            passed = λ k low high none. let here = left_at k in let passed = kept.passed k low high in grind (arith, common_steps, nat_tests, here, passed, none, high, above);
            freed_unused = λ k freed. let here = left_at k in let free = kept.freed_unused k freed in grind (arith, common_steps, nat_tests, here, free);
            freed_from_one = kept.freed_from_one;
            freed_below = kept.freed_below;
            counted = left;
            room = let before = kept.room in omega arith;
          }

none_of : {T : Type 0} (found : Option T) → is_some found ≡ false → found ≡ None
none_of None is = refl
none_of (Some value) is = absurd (grind (arith, is))

module _ {T : Type 0} (m : FinMap nat_cmp T) where
  -- one more key is used
  pub used_more : (next below : ℕ) → ((k : ℕ) → next < k → k ≤ below → is_some (get m k) ≡ true) → is_some (get m (below + 1)) ≡ true
      → (k : ℕ) → next < k → k ≤ below + 1 → is_some (get m k) ≡ true
  used_more next below before here k low high =
      ⊎_elim (λ (is : k ≡ below + 1). subst (λ q. is_some (get m q) ≡ true) (sym is) here) (λ (other : k ≢ below + 1). before k low (omega arith)) (cases_eq k (below + 1))

  -- the first key above that is not used is the next one
  pub next_found : (next key below : ℕ) → key ≡ next → next ≤ below → ((k : ℕ) → next < k → k ≤ below → is_some (get m k) ≡ true) → is_some (get m (below + 1)) ≡ false
      → IsNext m next key (below + 1)
  next_found next key below is low before here = record {
    other = λ same. omega arith;
    unused = none_of _ here;
    rises = omega arith;
    passed = λ k above under other. before k (omega arith) (omega arith);
  }

  -- a value that was added is there
  pub added_there : (n : FinMap nat_cmp T) (key : ℕ) (v : T) → n ≡ insert m key v → get n key ≡ Some v
  added_there n key v added = ap (λ s. get s key) added ∙ (let here = updated m key (Some v) key in grind (arith, common_steps, nat_tests, here))

  -- a value that was added was taken again
  pub undone : (n : FinMap nat_cmp T) (key : ℕ) (v : T) → get m key ≡ None → n ≡ insert m key v → remove n key ≡ m
  undone n key v unused added = same_map nat_cmp_total nat_cmp-IsAntisymmetric _ _ (λ q.
      let put = ap (λ s. get s q) added ∙ updated m key (Some v) q in
      let gone = updated n key None q in
      let none : key ≡ q → get m q ≡ None = λ is. subst (λ k. get m k ≡ None) is unused in
      grind (arith, common_steps, nat_tests, put, gone, none))
