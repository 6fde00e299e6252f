-- What names with their numbers, and addresses by number, are seen as after an edit.
use Rattle.std.proofs.Common.{◌≡◌, ◌≢◌, ℕ, ◌<◌, ◌==◌, Bool, true, false, cond, not, T, List, length, ◌⊎◌, inl, inr, Option, Some, None, IsSome, refl, sym, ap, subst, ◌∙◌, arith}
use Rattle.std.specs.Ordering.{eq_by_cmp}
use Rattle.std.specs.Option.{option_map, unwrap_or}
use Rattle.std.specs.Cmp.{eq_by_cmp_equiv}
use Rattle.std.specs.FinMap.{get, insert, remove, get-insert, get-remove, same_map}
use Rattle.std.specs.FinMap.Entries.{find, put, is_sorted, where_key, find-put, is_sorted-put, length-put, find-where_key, is_sorted-where_key, length_without}
use Rattle.std.proofs.lemmas.Bool.Decides.{nat_tests}
use Rattle.std.proofs.lemmas.Grind.{common_steps}
use Rattle.pm_types.specs.declared.address.Addr.{Addr}
use Rattle.pm_types.specs.Orders.{name_cmp}
use Rattle.pm_roots.specs.Bindings.{Bindings, address_at, with_address}
use Rattle.pm_roots.specs.Kept.{Numbered, shown, IsKept, Changes}
use Rattle.pm_types.proofs.Orders.{names_total, names_antisymmetric}
use Rattle.pm_roots.proofs.Views.{with_its_address, decide, ties, get_shown, at_shown}

decide_number : (m n : ℕ) → (m ≡ n) ⊎ (m ≢ n)
decide_number m n = elim (m == n) as (λ b. (m == n) ≡ b → (m ≡ n) ⊎ (m ≢ n)) [
  | true ↦ λ is. inl (grind (arith, nat_tests))
  | false ↦ λ is. inr (λ same. grind (arith, nat_tests, same))
] refl

module _ (es : Numbered) (g g' : ℕ → Option Addr) (kept : IsKept es g) (k : List ℕ) (n : ℕ) (others : Changes g g' n) where
  -- another number has its address still
  same_address : (m : ℕ) → m ≢ n → with_its_address g' m ≡ with_its_address g m
  same_address m apart = ap (λ o. (m, unwrap_or o (record { car = 0; slot = 0 }))) (others m apart)

  module _ (a : Addr) (here : g' n ≡ Some a) where
    its_address : with_its_address g' n ≡ (n, a)
    its_address = ap (λ o. (n, unwrap_or o (record { car = 0; slot = 0 }))) here

    -- a number that has a name gets another address
    pub kept_readdressed : find name_cmp k es ≡ Some n → IsKept es g'
    kept_readdressed owned = record {
      sorted = kept.sorted;
      few = kept.few;
      addressed = λ p m h. grind (arith, nat_tests, common_steps, kept.addressed p m h, here, others m);
      named = λ m h. grind (arith, nat_tests, common_steps, kept.named m, others m);
      differ = kept.differ;
    }

    readdressed : (found : Option ℕ) → option_map (with_its_address g') found ≡ with_address n a (option_map (with_its_address g) found)
    readdressed None = refl
    readdressed (Some m) = grind (arith, nat_tests, common_steps, same_address m, its_address)

    pub get_readdressed : (q : List ℕ) → get (shown es g') q ≡ with_address n a (get (shown es g) q)
    get_readdressed q = get_shown es g' kept.sorted q ∙ readdressed (find name_cmp q es) ∙ sym (ap (with_address n a) (get_shown es g kept.sorted q))

    pub insert_readdressed : find name_cmp k es ≡ Some n → shown es g' ≡ insert (shown es g) k (n, a)
    insert_readdressed owned = same_map names_total names_antisymmetric _ _ (λ q.
        get_shown es g' kept.sorted q ∙ at_name q (decide q k) ∙ sym (get-insert names_total (shown es g) k (n, a) q))
      where
        apart_number : (q : List ℕ) (m : ℕ) → eq_by_cmp name_cmp q k ≡ false → find name_cmp q es ≡ Some m → m ≢ n
        apart_number q m apart is same = let one = ties q k (kept.differ q k n (is ∙ ap Some same) owned) in grind (arith, one, apart)

        other : (q : List ℕ) → eq_by_cmp name_cmp q k ≡ false → (found : Option ℕ) → find name_cmp q es ≡ found → option_map (with_its_address g') found ≡ option_map (with_its_address g) found
        other q apart None is = refl
        other q apart (Some m) is = ap Some (same_address m (apart_number q m apart is))

        at_name : (q : List ℕ) → (q ≡ k) ⊎ (eq_by_cmp name_cmp q k ≡ false) → option_map (with_its_address g') (find name_cmp q es) ≡ cond (eq_by_cmp name_cmp q k) (Some (n, a)) (get (shown es g) q)
        at_name q (inl same) =
            ap (λ r. option_map (with_its_address g') (find name_cmp r es)) same ∙ ap (option_map (with_its_address g')) owned ∙ ap Some its_address
            ∙ sym (ap (λ b. cond b (Some (n, a)) (get (shown es g) q)) (ties q k same))
        at_name q (inr apart) =
            other q apart _ refl ∙ sym (get_shown es g kept.sorted q) ∙ sym (ap (λ b. cond b (Some (n, a)) (get (shown es g) q)) apart)

    -- a name that is not bound gets a number that no name has
    module _ (none : find name_cmp k es ≡ None) (vacant : g n ≡ None) where
      found_added : (q : List ℕ) → find name_cmp q (put name_cmp k n es) ≡ cond (eq_by_cmp name_cmp q k) (Some n) (find name_cmp q es)
      found_added q = find-put name_cmp names_total q k n es

      sorted_added : T (is_sorted name_cmp (put name_cmp k n es))
      sorted_added = is_sorted-put name_cmp names_total k n es kept.sorted

      -- whoever had a number has another one
      had : (q : List ℕ) (m : ℕ) → find name_cmp q es ≡ Some m → m ≢ n
      had q m is same = let there = kept.addressed q m is in grind (arith, common_steps, vacant, there)

      split : (q : List ℕ) (m : ℕ) → find name_cmp q (put name_cmp k n es) ≡ Some m → ((q ≡ k) × (m ≡ n)) ⊎ (find name_cmp q es ≡ Some m)
      split q m h = elim (decide q k) [
        | inl same ↦ inl (same, let tie = ties q k same in grind (arith, common_steps, found_added q, tie))
        | inr apart ↦ inr (grind (arith, common_steps, found_added q, apart))
      ]

      addressed_added : (q : List ℕ) (m : ℕ) → find name_cmp q (put name_cmp k n es) ≡ Some m → IsSome (g' m)
      addressed_added q m h = elim (split q m h) [
        | inl new ↦ subst (λ i. IsSome (g' i)) (sym new.1) (subst IsSome (sym here) refl)
        | inr old ↦ subst IsSome (sym (others m (had q m old))) (kept.addressed q m old)
      ]

      named_added : (m : ℕ) → IsSome (g' m) → (q : List ℕ) × (find name_cmp q (put name_cmp k n es) ≡ Some m)
      named_added m h = elim (decide_number m n) [
        | inl same ↦ (k, found_added k ∙ ap (λ b. cond b (Some n) (find name_cmp k es)) (ties k k refl) ∙ ap Some (sym same))
        | inr apart ↦
            let owner = kept.named m (subst IsSome (others m apart) h) in (
              owner.0,
              elim (decide owner.0 k) [
                | inl same ↦ absurd (let lost = ap (λ q. find name_cmp q es) same in let is = owner.1 in grind (arith, lost, none, is))
                | inr differs ↦ found_added owner.0 ∙ ap (λ b. cond b (Some n) (find name_cmp owner.0 es)) differs ∙ owner.1
              ],
            )
      ]

      differ_added : (p q : List ℕ) (m : ℕ) → find name_cmp p (put name_cmp k n es) ≡ Some m → find name_cmp q (put name_cmp k n es) ≡ Some m → p ≡ q
      differ_added p q m hp hq = elim (split p m hp) [
        | inl new ↦ elim (split q m hq) [
          | inl also ↦ new.0 ∙ sym also.0
          | inr old ↦ absurd (had q m old new.1)
        ]
        | inr old ↦ elim (split q m hq) [
          | inl new ↦ absurd (had p m old new.1)
          | inr also ↦ kept.differ p q m old also
        ]
      ]

      pub kept_added : length es < 4096 → IsKept (put name_cmp k n es) g'
      kept_added room = record {
        sorted = sorted_added;
        few = let one_more = length-put name_cmp names_total k n es kept.sorted in grind (arith, common_steps, one_more, none);
        addressed = addressed_added;
        named = named_added;
        differ = differ_added;
      }

      pub shown_added : shown (put name_cmp k n es) g' ≡ insert (shown es g) k (n, a)
      shown_added = same_map names_total names_antisymmetric _ _ (λ q.
          get_shown _ g' sorted_added q ∙ ap (option_map (with_its_address g')) (found_added q) ∙ by_case q (eq_by_cmp name_cmp q k)
          ∙ sym (get-insert names_total (shown es g) k (n, a) q))
        where
          old : (q : List ℕ) (found : Option ℕ) → find name_cmp q es ≡ found → option_map (with_its_address g') found ≡ option_map (with_its_address g) found
          old q None is = refl
          old q (Some m) is = ap Some (same_address m (had q m is))

          by_case : (q : List ℕ) (b : Bool) → option_map (with_its_address g') (cond b (Some n) (find name_cmp q es)) ≡ cond b (Some (n, a)) (get (shown es g) q)
          by_case q true = ap Some its_address
          by_case q false = old q _ refl ∙ sym (get_shown es g kept.sorted q)

  -- a name that is bound goes, and its number is no one's
  module _ (gone : g' n ≡ None) (owned : find name_cmp k es ≡ Some n) where
    abbrev left : Numbered
    left = where_key name_cmp (λ x. not (eq_by_cmp name_cmp k x)) es

    found_left : (q : List ℕ) → find name_cmp q left ≡ cond (eq_by_cmp name_cmp q k) None (find name_cmp q es)
    found_left q =
        find-where_key name_cmp (λ x. not (eq_by_cmp name_cmp k x)) q (λ x t. ap (λ y. not (eq_by_cmp name_cmp k y)) (sym (names_antisymmetric q x t))) es
        ∙ turn (eq_by_cmp name_cmp k q) ∙ ap (λ b. cond b None (find name_cmp q es)) ((eq_by_cmp_equiv names_total).symm k q)
      where
        turn : (b : Bool) → cond (not b) (find name_cmp q es) None ≡ cond b None (find name_cmp q es)
        turn true = refl
        turn false = refl

    sorted_left : T (is_sorted name_cmp left)
    sorted_left = is_sorted-where_key name_cmp _ es kept.sorted

    stays : (q : List ℕ) (m : ℕ) → find name_cmp q left ≡ Some m → (find name_cmp q es ≡ Some m) × (m ≢ n)
    stays q m h = elim (decide q k) [
      | inl same ↦ absurd (let tie = ties q k same in grind (arith, common_steps, found_left q, tie))
      | inr apart ↦
          let is : find name_cmp q es ≡ Some m = grind (arith, common_steps, found_left q, apart) in
          (is, λ same. let one = ties q k (kept.differ q k n (is ∙ ap Some same) owned) in grind (arith, one, apart))
    ]

    named_left : (m : ℕ) → IsSome (g' m) → (q : List ℕ) × (find name_cmp q left ≡ Some m)
    named_left m h = elim (decide_number m n) [
      | inl same ↦ absurd (let none = ap g' same ∙ gone in grind (arith, common_steps, none, h))
      | inr apart ↦
          let owner = kept.named m (subst IsSome (others m apart) h) in (
            owner.0,
            elim (decide owner.0 k) [
              | inl same ↦ absurd (let moved = ap (λ q. find name_cmp q es) same in let is = owner.1 in grind (arith, moved, owned, is, apart))
              | inr differs ↦ found_left owner.0 ∙ ap (λ b. cond b None (find name_cmp owner.0 es)) differs ∙ owner.1
            ],
          )
    ]

    pub kept_left : IsKept left g'
    kept_left = record {
      sorted = sorted_left;
      few = let counted = length_without name_cmp names_total k es kept.sorted in let most = kept.few in grind (arith, counted, most);
      addressed = λ q m h. let there = stays q m h in subst IsSome (sym (others m there.1)) (kept.addressed q m there.0);
      named = named_left;
      differ = λ p q m hp hq. kept.differ p q m (stays p m hp).0 (stays q m hq).0;
    }

    pub shown_left : shown left g' ≡ remove (shown es g) k
    shown_left = same_map names_total names_antisymmetric _ _ (λ q.
        get_shown left g' sorted_left q ∙ at_name q (decide q k) ∙ sym (get-remove names_total (shown es g) k q))
      where
        other : (q : List ℕ) (found : Option ℕ) → find name_cmp q left ≡ found → option_map (with_its_address g') found ≡ option_map (with_its_address g) found
        other q None is = refl
        other q (Some m) is = ap Some (same_address m (stays q m is).1)

        at_name : (q : List ℕ) → (q ≡ k) ⊎ (eq_by_cmp name_cmp q k ≡ false) → option_map (with_its_address g') (find name_cmp q left) ≡ cond (eq_by_cmp name_cmp q k) None (get (shown es g) q)
        at_name q (inl same) =
            let tie = ties q k same in
            ap (option_map (with_its_address g')) (found_left q ∙ ap (λ b. cond b None (find name_cmp q es)) tie)
            ∙ sym (ap (λ b. cond b None (get (shown es g) q)) tie)
        at_name q (inr apart) =
            other q _ refl ∙ ap (option_map (with_its_address g)) (found_left q ∙ ap (λ b. cond b None (find name_cmp q es)) apart)
            ∙ sym (get_shown es g kept.sorted q) ∙ sym (ap (λ b. cond b None (get (shown es g) q)) apart)

-- the addresses by number after the one under a number was set or taken away
pub numbers_after : (es es' : Numbered) (g g' : ℕ → Option Addr) → IsKept es g → IsKept es' g' → (n : ℕ) (w : Option Addr) → g' n ≡ w → Changes g g' n → (m : ℕ) → address_at (shown es' g') m ≡ cond (m == n) w (address_at (shown es g) m)
numbers_after es es' g g' kept kept' n w here others m =
    at_shown es' g' kept' m ∙ elim (decide_number m n) [
      | inl same ↦ ap g' same ∙ here ∙ (let is : (m == n) ≡ true = grind (arith, nat_tests, same) in sym (ap (λ b. cond b w (address_at (shown es g) m)) is))
      | inr apart ↦ others m apart ∙ sym (at_shown es g kept m)
          ∙ (let is : (m == n) ≡ false = grind (arith, nat_tests, apart) in sym (ap (λ b. cond b w (address_at (shown es g) m)) is))
    ]

-- to take away a name that is not bound changes nothing
pub removed_absent : (m : Bindings) (k : List ℕ) → get m k ≡ None → m ≡ remove m k
removed_absent m k none = same_map names_total names_antisymmetric _ _ (λ q. elim (decide q k) [
  | inl same ↦ ap (get m) same ∙ none ∙ sym (get-remove names_total m k q ∙ ap (λ b. cond b None (get m q)) (ties q k same))
  | inr apart ↦ sym (get-remove names_total m k q ∙ ap (λ b. cond b None (get m q)) apart)
])
