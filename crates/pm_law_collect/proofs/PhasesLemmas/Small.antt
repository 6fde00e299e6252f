-- Small facts of options, tests and sums.
use Rattle.std.proofs.Common.{◌≡◌, ℕ, ◌==◌, ◌||◌, Bool, true, false, ap, refl, sym, Option, Some, None, is_some, arith}
use Rattle.std.proofs.lemmas.Bool.{true≢false}
use Rattle.std.proofs.lemmas.Bool.Decides.{nat_tests}
use Rattle.pm_types.specs.declared.address.Addr.{Addr}
use Rattle.pm_cars.specs.Cars.{Car}
use Rattle.pm_view.specs.Counts.{live_in}
use Rattle.pm_law_commands.proofs.RowLemmas.Shapes.{IsShapedAt}
use Rattle.pm_law_commands.proofs.RowLemmas.Spreading.{by_slots, changed}

pub some_same : {A : Type 0} (x y : A) → Some x ≡ Some y → x ≡ y
some_same {A = A} x y is = ap (λ o. elim o as (λ _. A) [ None ↦ x | Some z ↦ z ]) is

pub none_some : {A : Type 0} (x : A) → None ≡ Some x → ⊥
none_some x is = cc

pub some_pair : (a b : Addr) (m n : ℕ) → ◌≡◌ {A = Option (Addr × ℕ)} (Some (a, m)) (Some (b, n)) → (a ≡ b) × (m ≡ n)
some_pair a b m n is = let both : ◌≡◌ {A = Addr × ℕ} (a, m) (b, n) = some_same {A = Addr × ℕ} (a, m) (b, n) is in (ap (λ (p : Addr × ℕ). p.0) both, ap (λ (p : Addr × ℕ). p.1) both)

pub turned : (m n : ℕ) → (m == n) ≡ (n == m)
turned m n = grind (arith, nat_tests)

pub none_is : {A : Type 0} (o : Option A) → is_some o ≡ false → o ≡ None
none_is None none = refl
none_is (Some x) none = absurd (true≢false none)

-- ---- tests of which one passes

pub or_left : (b c : Bool) → b ≡ true → (b || c) ≡ true
or_left true c is = refl
or_left false c is = absurd (true≢false (sym is))

pub or_right : (b : Bool) {c : Bool} → c ≡ true → (b || c) ≡ true
or_right true is = refl
or_right false is = is

-- ---- cars of one shape

pub shaped_live : (o p : Option Car) → IsShapedAt o p → live_in p ≡ live_in o
shaped_live None None shaped = refl
shaped_live None (Some d) shaped = absurd shaped
shaped_live (Some c) None shaped = absurd shaped
shaped_live (Some c) (Some d) shaped = shaped.live

-- ---- what is queued of a source

pub none_from : (o : Option ℕ) → ((n : ℕ) → o ≡ Some n → ⊥) → o ≡ None
none_from None h = refl
none_from (Some n) h = absurd (h n refl)

pub left_none : (o p : Option ℕ) → (o ≡ None → p ≡ None) → changed (by_slots None o) p ≡ None
left_none None p h = h refl
left_none (Some n) p h = refl
