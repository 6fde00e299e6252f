-- Entries in the order of their keys.
use Rattle.std.proofs.Common.{◌≡◌, ℕ, ◌<◌, Bool, true, false, T, ◌&&◌, List, [], ◌∷◌, refl, sym, subst, arith}
use Rattle.std.proofs.lemmas.Bool.Decides.{nat_tests}
use Rattle.std.specs.declared.cmp.Ordering.{Ordering}
use Rattle.std.specs.declared.cmp.Ordering.TheVariants.{Less, Equal, Greater}
use Rattle.std.specs.Cmp.{IsTotalOrder}
use Rattle.std.specs.Ordering.{nat_cmp, is_lt}
use Rattle.std.specs.FinMap.{is_sorted}
use Rattle.std.specs.FinMap.Entries.{below_all}

pub both : (a b : Bool) → T a → T b → T (a && b)
both true b p q = q
both false b p q = absurd p

pub first : (a b : Bool) → T (a && b) → T a
first true b p = tt
first false b p = p

pub second : (a b : Bool) → T (a && b) → T b
second true b p = p
second false b p = absurd p

pub less : (o : Ordering) → T (is_lt o) → o ≡ Less
less Less p = refl
less Equal p = absurd p
less Greater p = absurd p

pub is_less : (o : Ordering) → o ≡ Less → T (is_lt o)
is_less o is = subst (λ (o : Ordering). T (is_lt o)) (sym is) tt

pub less_below : (m n : ℕ) → nat_cmp m n ≡ Less → m < n
less_below m n is = grind (arith, nat_tests, is)

pub below_less : (m n : ℕ) → m < n → nat_cmp m n ≡ Less
below_less m n lt = grind (arith, nat_tests)

module _ {K X : Type 0} {R : K → K → Ordering} (o : IsTotalOrder R) where
  -- what is below one key is below all that this is below
  pub below_next : (x y : K) (es : List (K × X)) → R x y ≡ Less → T (below_all R y es) → T (below_all R x es)
  below_next x y [] lt below = tt
  below_next x y (e ∷ es) lt below =
      both (is_lt (R x e.0)) (below_all R x es) (is_less (R x e.0) (o.trans x y e.0 lt (less (R y e.0) (first (is_lt (R y e.0)) (below_all R y es) below))))
      (below_next x y es lt (second (is_lt (R y e.0)) (below_all R y es) below))

  -- one more entry in front, below those that are there
  pub below_front : (x : K) (e : K × X) (es : List (K × X)) → R x e.0 ≡ Less → T (below_all R e.0 es) → T (below_all R x (e ∷ es))
  below_front x e es lt below = both (is_lt (R x e.0)) (below_all R x es) (is_less (R x e.0) lt) (below_next x e.0 es lt below)

  pub sorted_front : (e : K × X) (es : List (K × X)) → T (below_all R e.0 es) → T (is_sorted R es) → T (is_sorted R (e ∷ es))
  sorted_front e es below sorted = both (below_all R e.0 es) (is_sorted R es) below sorted

  pub sorted_below : (e : K × X) (es : List (K × X)) → T (is_sorted R (e ∷ es)) → T (below_all R e.0 es)
  sorted_below e es sorted = first (below_all R e.0 es) (is_sorted R es) sorted

  pub sorted_rest : (e : K × X) (es : List (K × X)) → T (is_sorted R (e ∷ es)) → T (is_sorted R es)
  sorted_rest e es sorted = second (below_all R e.0 es) (is_sorted R es) sorted

  pub below_first : (x : K) (e : K × X) (es : List (K × X)) → T (below_all R x (e ∷ es)) → R x e.0 ≡ Less
  below_first x e es below = less (R x e.0) (first (is_lt (R x e.0)) (below_all R x es) below)
