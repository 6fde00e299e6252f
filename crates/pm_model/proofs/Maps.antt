-- What a finite map answers at a key, once a key got a value or was taken away.
use Rattle.std.proofs.Common.{◌≡◌, Bool, true, false, cond, ◌⊎◌, inl, inr, Option, Some, None, refl, ap, sym, subst, ◌∙◌}
use Rattle.std.specs.declared.cmp.Ordering.{Ordering}
use Rattle.std.specs.Option.{IsSome}
use Rattle.std.specs.Ordering.{eq_by_cmp}
use Rattle.std.specs.Cmp.{IsTotalOrder, eq_by_cmp_equiv}
use Rattle.std.specs.FinMap.{FinMap, IsAntisymmetric, get, insert, remove, retain_keys, get-insert, get-remove, get-retain_keys}
use Rattle.pm_types.proofs.Shown.{tied}

picked_value : {X : Type 0} (b : Bool) (v x : X) (old : Option X) → cond b (Some v) old ≡ Some x → ((b ≡ true) × (v ≡ x)) ⊎ ((b ≡ false) × (old ≡ Some x))
picked_value true v x old is = inl (refl, cc)
picked_value false v x old is = inr (refl, is)

left_value : {X : Type 0} (b : Bool) (x : X) (old : Option X) → cond b None old ≡ Some x → old ≡ Some x
left_value true x old is = cc
left_value false x old is = is

kept_value : {X : Type 0} (b : Bool) (x : X) (old : Option X) → cond b old None ≡ Some x → old ≡ Some x
kept_value true x old is = is
kept_value false x old is = cc

yes_cond : {X : Type 0} (b : Bool) (x y : Option X) → b ≡ true → cond b x y ≡ x
yes_cond true x y is = refl
yes_cond false x y is = cc

no_cond : {X : Type 0} (b : Bool) (x y : Option X) → (b ≡ true → ⊥) → cond b x y ≡ y
no_cond true x y not = absurd (not refl)
no_cond false x y not = refl

some_cond : {X : Type 0} (b : Bool) (x : X) (old : Option X) → IsSome old → IsSome (cond b (Some x) old)
some_cond true x old is = refl
some_cond false x old is = is

pub tied_key : {K : Type 0} {R : K → K → Ordering} → IsAntisymmetric R → (q k : K) → eq_by_cmp R q k ≡ true → q ≡ k
tied_key {R = R} same q k is = same q k (tied (R q k) is)

module _ {K X : Type 0} {R : K → K → Ordering} (o : IsTotalOrder R) (same : IsAntisymmetric R) where
  pub insert_here : (m : FinMap R X) (k : K) (v : X) → get (insert m k v) k ≡ Some v
  insert_here m k v = get-insert o m k v k ∙ yes_cond (eq_by_cmp R k k) (Some v) (get m k) ((eq_by_cmp_equiv o).refl k)

  pub insert_other : (m : FinMap R X) (k : K) (v : X) (q : K) → (q ≡ k → ⊥) → get (insert m k v) q ≡ get m q
  insert_other m k v q other = get-insert o m k v q ∙ no_cond (eq_by_cmp R q k) (Some v) (get m q) (λ is. other (tied_key same q k is))

  pub remove_here : (m : FinMap R X) (k : K) → get (remove m k) k ≡ None
  remove_here m k = get-remove o m k k ∙ yes_cond (eq_by_cmp R k k) None (get m k) ((eq_by_cmp_equiv o).refl k)

  pub remove_other : (m : FinMap R X) (k q : K) → (q ≡ k → ⊥) → get (remove m k) q ≡ get m q
  remove_other m k q other = get-remove o m k q ∙ no_cond (eq_by_cmp R q k) None (get m q) (λ is. other (tied_key same q k is))

  -- what is there was put there, or was there before
  pub insert_cases : (m : FinMap R X) (k : K) (v : X) (q : K) (x : X) → get (insert m k v) q ≡ Some x → ((q ≡ k) × (v ≡ x)) ⊎ ((q ≡ k → ⊥) × (get m q ≡ Some x))
  insert_cases m k v q x is =
      elim (picked_value (eq_by_cmp R q k) v x (get m q) (sym (get-insert o m k v q) ∙ is)) [
        | inl here ↦ inl (tied_key same q k here.0, here.1)
        | inr there ↦ inr (λ (e : q ≡ k). let tie : eq_by_cmp R q k ≡ true = subst (λ k. eq_by_cmp R q k ≡ true) e ((eq_by_cmp_equiv o).refl q) in cc (there.0), there.1)
      ]

  pub remove_cases : (m : FinMap R X) (k q : K) (x : X) → get (remove m k) q ≡ Some x → get m q ≡ Some x
  remove_cases m k q x is = left_value (eq_by_cmp R q k) x (get m q) (sym (get-remove o m k q) ∙ is)

  pub insert_stays : (m : FinMap R X) (k : K) (v : X) (q : K) → IsSome (get m q) → IsSome (get (insert m k v) q)
  insert_stays m k v q is = subst IsSome (sym (get-insert o m k v q)) (some_cond (eq_by_cmp R q k) v (get m q) is)

  -- what a test lets stay
  pub retain_get : (m : FinMap R X) (p : K → Bool) (q : K) → get (retain_keys m p) q ≡ cond (p q) (get m q) None
  retain_get m p q = get-retain_keys m p q (λ x e. ap p (sym (same q x e)))

  pub retain_cases : (m : FinMap R X) (p : K → Bool) (q : K) (x : X) → get (retain_keys m p) q ≡ Some x → get m q ≡ Some x
  retain_cases m p q x is = kept_value (p q) x (get m q) (sym (retain_get m p q) ∙ is)
