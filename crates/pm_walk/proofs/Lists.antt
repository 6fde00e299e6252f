-- Elements of a list at their places.
use Rattle.std.proofs.Common.{◌≡◌, ◌⊎◌, inl, inr, ℕ, zero, suc, refl, ap, subst, cond, true, false, List, [], ◌∷◌, ◌++◌, length, Option, Some, None}
use Rattle.std.specs.List.{AllByRecursion, slice_get}
use Rattle.std.specs.Option.{IsSome}
use Rattle.std.specs.declared.cmp.Ordering.{Ordering}
use Rattle.std.specs.Ordering.{eq_by_cmp}
use Rattle.std.specs.FinMap.{find}
use Rattle.std.proofs.lemmas.Option.{same_Some}

pub not_none : {A : Type 0} (x : A) → ◌≡◌ {A = Option A} None (Some x) → ⊥
not_none x is = cc is

pub known : {A : Type 0} (o : Option A) → IsSome o → (x : A) × (o ≡ Some x)
known None is = cc is
known (Some x) is = (x, refl)

pub append_none : {A : Type 0} (xs : List A) → xs ++ [] ≡ xs
append_none [] = refl
append_none (x ∷ xs) = ap (λ ys. x ∷ ys) (append_none xs)

-- what stands at a place stands there when more is put behind
pub in_front : {A : Type 0} (xs ys : List A) (place : ℕ) (x : A) → slice_get xs place ≡ Some x → slice_get (xs ++ ys) place ≡ Some x
in_front [] ys place x is = absurd (not_none x is)
in_front (a ∷ xs) ys zero x is = is
in_front (a ∷ xs) ys (suc place) x is = in_front xs ys place x is

pub at_end : {A : Type 0} (xs : List A) (x : A) → slice_get (xs ++ x ∷ []) (length xs) ≡ Some x
at_end [] x = refl
at_end (a ∷ xs) x = at_end xs x

-- an element of a list with one more is one of the list, or that one
pub front_or_end : {A : Type 0} (xs : List A) (x : A) (place : ℕ) (y : A) → slice_get (xs ++ x ∷ []) place ≡ Some y → (slice_get xs place ≡ Some y) ⊎ ((place ≡ length xs) × (x ≡ y))
front_or_end [] x zero y is = inr (refl, same_Some x y is)
front_or_end [] x (suc place) y is = absurd (not_none y is)
front_or_end (a ∷ xs) x zero y is = inl is
front_or_end (a ∷ xs) x (suc place) y is = elim (front_or_end xs x place y is) [
  | inl there ↦ inl there
  | inr last ↦ inr (ap suc last.0, last.1)
]

-- what holds of each element holds of the one at a place
pub all_at : {A : Type 0} (P : A → Type 0) (xs : List A) (place : ℕ) (x : A) → AllByRecursion P xs → slice_get xs place ≡ Some x → P x
all_at P [] place x all is = absurd (not_none x is)
all_at P (a ∷ xs) zero x all is = subst P (same_Some a x is) all.0
all_at P (a ∷ xs) (suc place) x all is = all_at P xs place x all.1 is

-- a value that is found stands at some place
pub found_place : {K X : Type 0} (R : K → K → Ordering) (k : K) (v : X) (es : List (K × X)) → find R k es ≡ Some v → (place : ℕ) × (e : K × X) × (slice_get es place ≡ Some e) × (e.1 ≡ v)
found_place R k v [] is = absurd (not_none v is)
found_place R k v (e ∷ es) is = elim (eq_by_cmp R k e.0) as (λ b. cond b (Some e.1) (find R k es) ≡ Some v → (place : ℕ) × (f : _) × (slice_get (e ∷ es) place ≡ Some f) × (f.1 ≡ v)) [
  | true ↦ λ is. (0, e, refl, same_Some e.1 v is)
  | false ↦ λ is. let later = found_place R k v es is in (suc later.0, later.1, later.2, later.3)
] is
