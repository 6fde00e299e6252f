-- Maps of a few entries.
use Rattle.std.proofs.Common.{◌≡◌, Bool, true, false, cond, refl, ap, sym, ◌∙◌, List, [], ◌∷◌, length, Option, Some, None, arith}
use Rattle.std.specs.declared.cmp.Ordering.{Ordering}
use Rattle.std.specs.Ordering.{eq_by_cmp}
use Rattle.std.specs.Cmp.{IsTotalOrder}
use Rattle.std.specs.FinMap.{FinMap, IsAntisymmetric, get, insert, remove, empty, entries, get-insert, get-remove, get-empty, len-empty, len-entries, entries-insert, same_map}
use Rattle.std.specs.FinMap.Entries.{put}

no_length : {A : Type 0} (xs : List A) → length xs ≡ 0 → xs ≡ []
no_length [] is = refl
no_length (x ∷ xs) is = absurd (omega (arith, is))

module _ {K X : Type 0} {R : K → K → Ordering} (total : IsTotalOrder R) (exact : IsAntisymmetric R) where
  pub no_entries : entries (empty {X = X} {R = R}) ≡ []
  no_entries = no_length (entries (empty {X = X} {R = R})) (sym (len-entries (empty {X = X} {R = R})) ∙ len-empty R X)

  pub one_entry : (k : K) (v : X) → entries (insert (empty {X = X} {R = R}) k v) ≡ (k, v) ∷ []
  one_entry k v = entries-insert total empty k v ∙ ap (put R k v) no_entries

  pub two_entries : (k q : K) (v w : X) → entries (insert (insert (empty {X = X} {R = R}) k v) q w) ≡ put R q w ((k, v) ∷ [])
  two_entries k q v w = entries-insert total (insert empty k v) q w ∙ ap (put R q w) (one_entry k v)

  shadowed : (b : Bool) (v w : X) (o : Option X) → cond b (Some w) (cond b (Some v) o) ≡ cond b (Some w) o
  shadowed true v w o = refl
  shadowed false v w o = refl

  -- a key that gets another value
  pub again : (m : FinMap R X) (k : K) (v w : X) → insert (insert m k v) k w ≡ insert m k w
  again m k v w = same_map total exact _ _ (λ q.
      get-insert total (insert m k v) k w q
      ∙ ap (cond (eq_by_cmp R q k) (Some w)) (get-insert total m k v q)
      ∙ shadowed (eq_by_cmp R q k) v w (get m q)
      ∙ sym (get-insert total m k w q))

  gone : (b : Bool) (v : X) → cond b None (cond b (Some v) None) ≡ None
  gone true v = refl
  gone false v = refl

  -- the only key goes
  pub taken : (k : K) (v : X) → remove (insert (empty {X = X} {R = R}) k v) k ≡ empty
  taken k v = same_map total exact _ _ (λ q.
      get-remove total (insert empty k v) k q
      ∙ ap (cond (eq_by_cmp R q k) None) (get-insert total empty k v q ∙ ap (cond (eq_by_cmp R q k) (Some v)) (get-empty R q))
      ∙ gone (eq_by_cmp R q k) v
      ∙ sym (get-empty R q))

  one_gone : (b c : Bool) (v w : X) → (b ≡ true → c ≡ true → ⊥) → cond b None (cond c (Some w) (cond b (Some v) None)) ≡ cond c (Some w) None
  one_gone true true v w apart = absurd (apart refl refl)
  one_gone true false v w apart = refl
  one_gone false true v w apart = refl
  one_gone false false v w apart = refl

  -- the first of two keys goes
  pub first_taken : (k p : K) (v w : X) → ((q : K) → eq_by_cmp R q k ≡ true → eq_by_cmp R q p ≡ true → ⊥) → remove (insert (insert (empty {X = X} {R = R}) k v) p w) k ≡ insert empty p w
  first_taken k p v w apart = same_map total exact _ _ (λ q.
      get-remove total (insert (insert empty k v) p w) k q
      ∙ ap (cond (eq_by_cmp R q k) None) (get-insert total (insert empty k v) p w q ∙ ap (cond (eq_by_cmp R q p) (Some w)) (get-insert total empty k v q ∙ ap (cond (eq_by_cmp R q k) (Some v)) (get-empty R q)))
      ∙ one_gone (eq_by_cmp R q k) (eq_by_cmp R q p) v w (apart q)
      ∙ sym (get-insert total empty p w q ∙ ap (cond (eq_by_cmp R q p) (Some w)) (get-empty R q)))
