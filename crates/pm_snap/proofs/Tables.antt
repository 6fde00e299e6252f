-- What a table is seen as, once a value was written, taken or nothing was.
use Rattle.std.proofs.Common.{◌≡◌, ◌≢◌, ℕ, Bool, true, false, cond, not, ◌||◌, ◌<◌, zero, suc, is_some, refl, sym, ap, subst, ◌∙◌, ⊎_elim, arith, List, [], ◌∷◌, Option, Some, None, IsSome}
use Rattle.std.specs.Ordering.{nat_cmp, eq_by_cmp}
use Rattle.std.specs.Cmp.{nat_cmp_total}
use Rattle.std.specs.List.{list_any}
use Rattle.std.specs.Map.{lookup, keys_of}
use Rattle.std.specs.FinMap.{FinMap, get, get-insert, get-remove, same_map, nat_cmp-IsAntisymmetric}
use Rattle.std.specs.FinSet as set
use Rattle.std.specs.BTreeMap.{BTreeMap, is_at, keys}
use Rattle.std.specs.BTreeMap as tree
use Rattle.std.proofs.lemmas.Bool.{cases_eq}
use Rattle.std.proofs.lemmas.Bool.Decides.{nat_tests}
use Rattle.std.proofs.lemmas.Grind.{common_steps}
use Rattle.pm_snap.specs.Snapped.{Snapped, is_ready, mark, IsSound}
use Rattle.pm_snap.specs.Kept.{put, overlay, seen_frozen, seen_changed, table_of, noted, or_now, Notes, KeepsNotes}

pub same_keys : (s t : set.FinSet nat_cmp) → ((q : ℕ) → set.contains s q ≡ set.contains t q) → s ≡ t
same_keys s t is = set.same_set nat_cmp_total nat_cmp-IsAntisymmetric s t is

zero_only : {X : Type 0} (at : ℕ → Option X) → at 0 ≡ None → (key : ℕ) → IsSome (at key) → 0 < key
zero_only at none zero used = absurd (grind (arith, none, used))
zero_only at none (suc key) used = omega arith

module _ {T : Type 0} where
  pub get_put : (m : FinMap nat_cmp T) (k : ℕ) (w : Option T) (q : ℕ) → get (put m k w) q ≡ cond (eq_by_cmp nat_cmp q k) w (get m q)
  get_put m k None q = get-remove nat_cmp_total m k q
  get_put m k (Some v) q = get-insert nat_cmp_total m k v q

  over : (b : Bool) (old : Option T) (found : Option (Option T)) (now : Option T) → cond b old (or_now found now) ≡ or_now (cond b (Some old) found) now
  over true old found now = refl
  over false old found now = refl

  get_overlay : (m : FinMap nat_cmp T) (es : List (ℕ × Option T)) (q : ℕ) → get (overlay m es) q ≡ or_now (lookup (is_at (nat_cmp q)) es) (get m q)
  get_overlay m [] q = refl
  get_overlay m (e ∷ es) q = get_put (overlay m es) e.0 e.1 q ∙ ap (cond (eq_by_cmp nat_cmp q e.0) e.1) (get_overlay m es q) ∙ over (eq_by_cmp nat_cmp q e.0) e.1 _ _

  found_or : (b : Bool) (old : Option T) (found : Option (Option T)) → (b || is_some found) ≡ is_some (cond b (Some old) found)
  found_or true old found = refl
  found_or false old found = refl

  any_found : (es : List (ℕ × Option T)) (q : ℕ) → list_any (eq_by_cmp nat_cmp q) (keys_of es) ≡ is_some (lookup (is_at (nat_cmp q)) es)
  any_found [] q = refl
  any_found (e ∷ es) q = ap (λ b. eq_by_cmp nat_cmp q e.0 || b) (any_found es q) ∙ found_or (eq_by_cmp nat_cmp q e.0) e.1 _

  -- a key is changed where an old value is kept
  pub contains_changed : (kept : BTreeMap ℕ (Option T)) (q : ℕ) → set.contains (set.from_list {R = nat_cmp} (keys kept)) q ≡ is_some (tree.get nat_cmp kept q)
  contains_changed kept q = set.contains-from_list nat_cmp_total (keys kept) q ∙ any_found kept.entries q

  changed_alike : (old new : Option (BTreeMap ℕ (Option T))) → KeepsNotes old new → seen_changed new ≡ seen_changed old
  changed_alike None None keeps = refl
  changed_alike None (Some new) keeps = absurd (grind (arith, keeps.frozen))
  changed_alike (Some old) None keeps = absurd (grind (arith, keeps.frozen))
  changed_alike (Some old) (Some new) keeps = same_keys _ _ (λ q. contains_changed new q ∙ ap is_some (keeps.same q) ∙ sym (contains_changed old q))

  -- no old value was kept for the key 0
  pub zero_stays : (old new : Option (BTreeMap ℕ (Option T))) (key : ℕ) (value : Option T) → Notes old new key value → 0 < key → noted old 0 ≡ None → noted new 0 ≡ None
  zero_stays old new key value notes low none = notes.others 0 (λ is. omega arith) ∙ none

  -- what was frozen at a key
  pub get_frozen : (values : FinMap nat_cmp T) (kept : BTreeMap ℕ (Option T)) (q : ℕ) → get (overlay values kept.entries) q ≡ or_now (tree.get nat_cmp kept q) (get values q)
  get_frozen values kept q = get_overlay values kept.entries q

  -- a key is ready where no old value has to be kept
  pub ready_shown : (values : FinMap nat_cmp T) (kept : Option (BTreeMap ℕ (Option T))) (key : ℕ) → is_ready (table_of values kept) key ≡ (not (is_some kept) || is_some (noted kept key))
  ready_shown values None key = refl
  ready_shown values (Some kept) key = contains_changed kept key

  frozen_alike : (m n : FinMap nat_cmp T) (old new : Option (BTreeMap ℕ (Option T))) → is_some new ≡ is_some old
      → ((q : ℕ) → is_some old ≡ true → or_now (noted new q) (get n q) ≡ or_now (noted old q) (get m q)) → seen_frozen n new ≡ seen_frozen m old
  frozen_alike m n None None is alike = refl
  frozen_alike m n None (Some new) is alike = absurd (grind (arith, is))
  frozen_alike m n (Some old) None is alike = absurd (grind (arith, is))
  frozen_alike m n (Some old) (Some new) is alike =
      ap Some (same_map nat_cmp_total nat_cmp-IsAntisymmetric _ _ (λ q. get_frozen n new q ∙ alike q refl ∙ sym (get_frozen m old q)))

  -- nothing was written
  pub unwritten : (m : FinMap nat_cmp T) (old new : Option (BTreeMap ℕ (Option T))) → KeepsNotes old new → table_of m new ≡ table_of m old
  unwritten m old new keeps =
      let frozen = frozen_alike m m old new keeps.frozen (λ q _ i. or_now (keeps.same q i) (get m q)) in
      let changed = changed_alike old new keeps in
      λ i. record { current = m; frozen = frozen i; changed = changed i }

  module _ (m : FinMap nat_cmp T) (old new : Option (BTreeMap ℕ (Option T))) (key : ℕ) (w : Option T) (notes : Notes old new key (get m key)) where
    same_elsewhere : (q : ℕ) → q ≢ key → get (put m key w) q ≡ get m q
    same_elsewhere q other = let here = get_put m key w q in grind (arith, common_steps, nat_tests, here, other)

    frozen_written : seen_frozen (put m key w) new ≡ seen_frozen m old
    frozen_written =
        frozen_alike m (put m key w) old new notes.frozen (λ q frozen. ⊎_elim
        (λ (is : q ≡ key). subst (λ k. or_now (noted new k) (get (put m key w) k) ≡ or_now (noted old k) (get m k)) (sym is) (ap (λ found. or_now found (get (put m key w) key)) (notes.here frozen)))
        (λ (other : q ≢ key) i. or_now (notes.others q other i) (same_elsewhere q other i)) (cases_eq q key))

    changed_written : (old' new' : Option (BTreeMap ℕ (Option T))) → Notes old' new' key (get m key) → seen_changed new' ≡ mark (seen_frozen m old') (seen_changed old') key
    changed_written None None notes = refl
    changed_written None (Some b) notes = absurd (grind (arith, notes.frozen))
    changed_written (Some a) None notes = absurd (grind (arith, notes.frozen))
    changed_written (Some a) (Some b) notes = same_keys _ _ (λ q.
        contains_changed b q ∙ ⊎_elim
        (λ (is : q ≡ key). let here = notes.here refl in grind (arith, common_steps, nat_tests, set.members, is, here))
        (λ (other : q ≢ key). let same = notes.others q other in let there = contains_changed a q in grind (arith, common_steps, nat_tests, set.members, other, same, there)) (cases_eq q key))

    -- a value was written at the key, or taken
    pub written : (n : FinMap nat_cmp T) → n ≡ put m key w
        → table_of n new ≡ record { current = put m key w; frozen = seen_frozen m old; changed = mark (seen_frozen m old) (seen_changed old) key }
    written n is =
        let changed = changed_written old new notes in
        ap (λ v. table_of v new) is ∙ (λ i. record { current = put m key w; frozen = frozen_written i; changed = changed i })

  -- what holds of a table at every moment
  pub sound_table : (m : FinMap nat_cmp T) (kept : Option (BTreeMap ℕ (Option T))) → get m 0 ≡ None → noted kept 0 ≡ None → IsSound (table_of m kept)
  sound_table m None unused old = record {
    from_one = zero_only (get m) unused;
    frozen_from_one = λ key used. absurd (grind (arith, used));
    unchanged = λ key frozen _. absurd (grind (arith, frozen));
    none_changed = λ _. refl;
  }
  sound_table m (Some kept) unused old = record {
    from_one = zero_only (get m) unused;
    frozen_from_one = zero_only (get (overlay m kept.entries)) (get_frozen m kept 0 ∙ ap (λ found. or_now found (get m 0)) old ∙ unused);
    unchanged = λ key _ same. get_frozen m kept key ∙ now key (tree.get nat_cmp kept key) (sym (contains_changed kept key) ∙ same);
    none_changed = λ none. absurd (grind (arith, none));
  }
    where
      now : (key : ℕ) (found : Option (Option T)) → is_some found ≡ false → or_now found (get m key) ≡ get m key
      now key None is = refl
      now key (Some value) is = absurd (grind (arith, is))

  -- the facts on a table that its user states of the whole, said of its parts
  pub used_part : (m : FinMap nat_cmp T) (kept : Option (BTreeMap ℕ (Option T))) (s : Snapped T) (key : ℕ) → table_of m kept ≡ s → IsSome (get s.current key) → IsSome (get m key)
  used_part m kept s key view used = subst IsSome (ap (λ t. get t.current key) (sym view)) used

  pub ready_part : (m : FinMap nat_cmp T) (kept : Option (BTreeMap ℕ (Option T))) (s : Snapped T) (key : ℕ) → table_of m kept ≡ s → is_ready s key ≡ true → (not (is_some kept) || is_some (noted kept key)) ≡ true
  ready_part m kept s key view ready = sym (ready_shown m kept key) ∙ ap (λ t. is_ready t key) view ∙ ready

  pub used_from_one : (m : FinMap nat_cmp T) (key : ℕ) → get m 0 ≡ None → IsSome (get m key) → 0 < key
  used_from_one m key none used = zero_only (get m) none key used

  pub unused_part : (m : FinMap nat_cmp T) (kept : Option (BTreeMap ℕ (Option T))) (s : Snapped T) (key : ℕ) → table_of m kept ≡ s → get s.current key ≡ None → get m key ≡ None
  unused_part m kept s key view unused = ap (λ t. get t.current key) view ∙ unused
