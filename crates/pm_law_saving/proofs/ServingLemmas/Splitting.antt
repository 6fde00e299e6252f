-- Facts that hold as soon as it is known that they hold in some way.
use Rattle.std.proofs.Common.{◌≡◌, ◌⊎◌, ⊎_elim, inl, inr, ℕ, Bool, true, false, List, [], ◌∷◌, Contains, refl, sym, ap, subst}
use Rattle.std.specs.List.{AllByRecursion}
use Rattle.std.specs.Coded.{Coded}
use Rattle.std.proofs.Math.Logic.{∥∥₁_elim, ∥∥₁_map}
use mathlib.Core.HLevel.{Discrete, ⊥_prop}
use Rattle.std.proofs.Math.Decide.{ℕ_discrete}
use base.Stored.{Gv, gnil, gnum, gcons}
use Rattle.pm_model.proofs.Members.{at_first, first_or_rest, in_none, in_rest}

abbrev pub Splits : Type 0 → Type 0
Splits A = ∥ A ∥₁ → A

-- a fact with one proof at most
pub splits_once : {A : Type 0} → IsProp A → Splits A
splits_once once known = ∥∥₁_elim known once (λ x. x)

-- a fact that is decided
pub splits_decided : {A : Type 0} → Dec A → Splits A
splits_decided (yes is) known = is
splits_decided (no not) known = absurd (∥∥₁_elim known ⊥_prop not)

-- a part of what is known
pub part : {A B : Type 0} → ∥ A ∥₁ → Splits B → (A → B) → B
part known splits of = splits (∥∥₁_map known of)

-- each of a list
pub splits_all : {X : Type 0} (P : X → Type 0) → ((x : X) → Splits (P x)) → (xs : List X) → Splits (AllByRecursion P xs)
splits_all P each [] known = tt
splits_all P each (x ∷ xs) known = (part known (each x) (λ all. all.0), part known (splits_all P each xs) (λ all. all.1))

-- ---- members

decided_from : {A B : Type 0} → (A → B) → (B → A) → Dec A → Dec B
decided_from to from (yes is) = yes (to is)
decided_from to from (no not) = no (λ is. not (from is))

one_or_other : {A B : Type 0} → Dec A → Dec B → Dec (A ⊎ B)
one_or_other (yes is) b = yes (inl is)
one_or_other (no not) (yes is) = yes (inr is)
one_or_other (no not) (no neither) = no (⊎_elim not neither)

pub decided_member : {X : Type 0} → Discrete X → (xs : List X) (x : X) → Dec (Contains xs x)
decided_member same [] x = no (in_none x)
decided_member same (y ∷ xs) x =
    decided_from
    (⊎_elim (λ (is : y ≡ x). subst (λ z. Contains (y ∷ xs) z) is (at_first y xs)) (in_rest y x xs))
    (first_or_rest y x xs)
    (one_or_other (same y x) (decided_member same xs x))

-- what is coded is compared by its code
is_number : Gv → Bool
is_number gnil = false
is_number (gnum n) = true
is_number (gcons a b) = false

is_pair : Gv → Bool
is_pair gnil = false
is_pair (gnum n) = false
is_pair (gcons a b) = true

number_of : Gv → ℕ
number_of gnil = 0
number_of (gnum n) = n
number_of (gcons a b) = 0

first_of : Gv → Gv
first_of gnil = gnil
first_of (gnum n) = gnil
first_of (gcons a b) = a

second_of : Gv → Gv
second_of gnil = gnil
second_of (gnum n) = gnil
second_of (gcons a b) = b

both_same : (a b c d : Gv) → Dec (a ≡ c) → Dec (b ≡ d) → Dec (gcons a b ≡ gcons c d)
unfolding first_of second_of
both_same a b c d (yes first) (yes second) = yes (λ i. gcons (first i) (second i))
both_same a b c d (no not) second = no (λ is. not (ap first_of is))
both_same a b c d (yes first) (no not) = no (λ is. not (ap second_of is))

true_false : true ≡ false → ⊥
true_false is = cc is

codes_compared : Discrete Gv
unfolding is_number is_pair number_of
codes_compared gnil gnil = yes refl
codes_compared gnil (gnum n) = no (λ is. true_false (sym (ap is_number is)))
codes_compared gnil (gcons a b) = no (λ is. true_false (sym (ap is_pair is)))
codes_compared (gnum m) gnil = no (λ is. true_false (ap is_number is))
codes_compared (gnum m) (gnum n) = decided_from (ap gnum) (ap number_of) (ℕ_discrete m n)
codes_compared (gnum m) (gcons a b) = no (λ is. true_false (ap is_number is))
codes_compared (gcons a b) gnil = no (λ is. true_false (ap is_pair is))
codes_compared (gcons a b) (gnum n) = no (λ is. true_false (ap is_pair is))
codes_compared (gcons a b) (gcons c d) = both_same a b c d (codes_compared a c) (codes_compared b d)

pub coded_compared : {A : Type 0} → Coded A → Discrete A
coded_compared coded x y = decided_from (coded.inj x y) (ap coded.code) (codes_compared (coded.code x) (coded.code y))

pub number_member : (xs : List ℕ) (x : ℕ) → Splits (Contains xs x)
number_member xs x = splits_decided (decided_member ℕ_discrete xs x)
