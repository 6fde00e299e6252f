-- The open train: its cars are neither set aside nor the from-car, and a car that is appended to it changes nothing else.
use Rattle.std.proofs.Common.{◌≡◌, ℕ, ◌-◌, ◌≤◌, ◌==◌, Bool, true, false, cond, refl, ap, sym, subst, ◌∙◌, List, [], ◌∷◌, ◌++◌, length, Option, Some, None, arith, is_some, IsTrue}
use Rattle.std.specs.Option.{IsSomeAnd, unwrap_or, option_and_then, option_map}
use Rattle.std.specs.List.{slice_get}
use Rattle.std.proofs.lemmas.Bool.{eqb-true, eq-eqb, true≢false, both_ways, cond-false, false_from_ne_true}
use Rattle.std.proofs.lemmas.Bool.Decides.{nat_tests}
use Rattle.pm_types.specs.declared.address.Addr.{Addr}
use Rattle.pm_trains.specs.Trains.{Train, cars_at, train_of, is_among, first_car, tail, oldest, youngest, last_number, appended}
use Rattle.pm_trains.specs.Sound as line
use Rattle.pm_trains.proofs.Found.{home_back, cars_changed, last_changed, last_least, answer_home}
use Rattle.pm_view.specs.declared.phase.Phase.{Phase}
use Rattle.pm_view.specs.declared.phase.Phase.TheVariants.{Idle, Draining, Moving, Sweeping, Doomed}
use Rattle.pm_view.specs.Reading.{cars_of, aside_in, from_in}
use Rattle.pm_view.specs.Law.{IsOldest, IsFront, IsPhaseOf}

some_is_some : (x y : ℕ) → Some x ≡ Some y → x ≡ y
some_is_some x y is = cc

-- a car of the open train is no car of the oldest one where that is not open
not_oldest : (ts : List Train) (n c : ℕ) → IsOldest ts n → train_of ts c ≡ Some (youngest ts) → train_of ts c ≡ Some n → ⊥
not_oldest ts n c at home other = both_ways (n == youngest ts) at.1 (eq-eqb n (youngest ts) (some_is_some n (youngest ts) (sym other ∙ home)))

pub among_home : (ts : List Train) (n c : ℕ) → ((q : ℕ) → line.places q ts ≤ 1) → is_among c (cars_of ts n) ≡ true → train_of ts c ≡ Some n
among_home ts n c single among = by_case (cars_at ts n) refl among
  where
    by_case : (o : Option (List ℕ)) → cars_at ts n ≡ o → is_among c (unwrap_or o []) ≡ true → train_of ts c ≡ Some n
    by_case None is among = absurd (true≢false (sym among))
    by_case (Some cars) is among = home_back c n ts (single c) (subst (λ o. IsSomeAnd o (λ cars. IsTrue (is_among c cars))) (sym is) among)

pub first_home : (ts : List Train) (n c : ℕ) → ((q : ℕ) → line.places q ts ≤ 1) → first_car ts n ≡ Some c → train_of ts c ≡ Some n
first_home ts n c single first = by_case (cars_at ts n) refl first
  where
    by_case : (o : Option (List ℕ)) → cars_at ts n ≡ o → option_and_then (λ cars. slice_get cars 0) o ≡ Some c → train_of ts c ≡ Some n
    by_case None is first = cc
    by_case (Some cars) is first = answer_home ts n cars 0 (Some c) single is (sym first)

front_not_open : (ts : List Train) (f c : ℕ) → ((q : ℕ) → line.places q ts ≤ 1) → IsFront ts f → train_of ts c ≡ Some (youngest ts) → (f == c) ≡ false
front_not_open ts f c single front home = by_case (oldest ts) front
  where
    by_case : (o : Option ℕ) → IsSomeAnd o (λ n. IsOldest ts n × (first_car ts n ≡ Some f)) → (f == c) ≡ false
    by_case None front = absurd front
    by_case (Some n) front =
        false_from_ne_true (f == c) (λ same. not_oldest ts n c front.0 home (subst (λ q. train_of ts q ≡ Some n) (eqb-true f c same) (first_home ts n f single front.1)))

-- a car of the open train is not set aside
pub open_free : (p : Phase) (ts : List Train) (anchor : Option (Addr × ℕ)) (c : ℕ) → ((q : ℕ) → line.places q ts ≤ 1) → IsPhaseOf p ts anchor → train_of ts c ≡ Some (youngest ts) → aside_in p ts c ≡ false
open_free Idle ts anchor c single at home = refl
open_free (Draining n) ts anchor c single at home = refl
open_free (Moving f) ts anchor c single at home = refl
open_free (Sweeping f) ts anchor c single at home = front_not_open ts f c single at home
open_free (Doomed n) ts anchor c single at home = false_from_ne_true (is_among c (cars_of ts n)) (λ among. not_oldest ts n c at.0 home (among_home ts n c single among))

-- and is not the from-car
pub open_not_from : (p : Phase) (ts : List Train) (anchor : Option (Addr × ℕ)) (c : ℕ) → ((q : ℕ) → line.places q ts ≤ 1) → IsPhaseOf p ts anchor → train_of ts c ≡ Some (youngest ts) → from_in p c ≡ false
open_not_from Idle ts anchor c single at home = refl
open_not_from (Draining n) ts anchor c single at home = refl
open_not_from (Moving f) ts anchor c single at home = front_not_open ts f c single at home
open_not_from (Sweeping f) ts anchor c single at home = front_not_open ts f c single at home
open_not_from (Doomed n) ts anchor c single at home = refl

-- the tail of the open train lies in it
pub tail_home : (ts : List Train) (n c : ℕ) → ((q : ℕ) → line.places q ts ≤ 1) → tail ts n ≡ Some c → train_of ts c ≡ Some n
tail_home ts n c single last = by_case (cars_at ts n) refl last
  where
    by_case : (o : Option (List ℕ)) → cars_at ts n ≡ o → option_and_then (λ cars. slice_get cars (length cars - 1)) o ≡ Some c → train_of ts c ≡ Some n
    by_case None is last = cc
    by_case (Some cars) is last = answer_home ts n cars (length cars - 1) (Some c) single is (sym last)

-- ---- a car that is appended to the open train

-- a number that is not the open train's has the cars that it had
pub cars_appended : (ts : List Train) (y c n : ℕ) → (n == y) ≡ false → cars_at (appended y c ts) n ≡ cars_at ts n
cars_appended ts y c n apart = cars_changed y n (λ cars. cars ++ c ∷ []) ts ∙ cond-false _ _ _ apart

pub stands_appended : (ts : List Train) (y c n : ℕ) → is_some (cars_at (appended y c ts) n) ≡ is_some (cars_at ts n)
stands_appended ts y c n = ap is_some (cars_changed y n (λ cars. cars ++ c ∷ []) ts) ∙ by_case (n == y) (cars_at ts n)
  where
    by_case : (b : Bool) (o : Option (List ℕ)) → is_some (cond b (option_map (λ cars. cars ++ c ∷ []) o) o) ≡ is_some o
    by_case true None = refl
    by_case true (Some cars) = refl
    by_case false o = refl

-- the oldest train with a car stays where a car is appended to the youngest
oldest_later : (low y c n : ℕ) (ts : List Train) → line.Rise low ts → last_number low ts ≡ y → oldest ts ≡ Some n → oldest (appended y c ts) ≡ Some n
oldest_later low y c n [] rising last is = cc
oldest_later low y c n (t ∷ ts) rising last is = by_case (t.number == y) refl (length t.cars == 0) refl is (oldest_later t.number y c n ts rising.1 last)
  where
    alone : (ts : List Train) → line.Rise t.number ts → last_number t.number ts ≡ t.number → ts ≡ []
    alone [] rising last = refl
    alone (u ∷ us) rising last = let least = last_least u.number us rising.1 in let over = rising.0 in absurd (omega (arith, least, over, last))

    by_case : (b : Bool) → (t.number == y) ≡ b → (e : Bool) → (length t.cars == 0) ≡ e → cond e (oldest ts) (Some t.number) ≡ Some n → (oldest ts ≡ Some n → oldest (appended y c ts) ≡ Some n)
        → oldest (cond b (record t { cars = t.cars ++ c ∷ [] } ∷ ts) (t ∷ appended y c ts)) ≡ Some n
    by_case true same true none is later =
        let nothing : ts ≡ [] = alone ts rising.1 (last ∙ sym (eqb-true t.number y same)) in
        let clash : None ≡ Some n = ap oldest (sym nothing) ∙ is in cc
    by_case true same false some is later = ap (λ b. cond b (oldest ts) (Some t.number)) (longer t.cars) ∙ is
      where
        longer : (cars : List ℕ) → (length (cars ++ c ∷ []) == 0) ≡ false
        longer [] = refl
        longer (x ∷ xs) = grind (arith, nat_tests)
    by_case false same true none is later = ap (λ b. cond b (oldest (appended y c ts)) (Some t.number)) none ∙ later is
    by_case false same false some is later = ap (λ b. cond b (oldest (appended y c ts)) (Some t.number)) some ∙ is

module _ (ts : List Train) (c : ℕ) (rising : line.Rise 0 ts) where
  abbrev after : List Train
  after = appended (youngest ts) c ts

  pub youngest_appended : youngest after ≡ youngest ts
  youngest_appended = last_changed 0 (youngest ts) (λ cars. cars ++ c ∷ []) ts

  pub oldest_appended : (n : ℕ) → oldest ts ≡ Some n → oldest after ≡ Some n
  oldest_appended n is = oldest_later 0 (youngest ts) c n ts rising refl is

  is_oldest_appended : (n : ℕ) → IsOldest ts n → IsOldest after n
  is_oldest_appended n at = (oldest_appended n at.0, ap (λ y. n == y) youngest_appended ∙ at.1)

  front_appended : (f : ℕ) → IsFront ts f → IsFront after f
  front_appended f at = by_case (oldest ts) refl at
    where
      by_case : (o : Option ℕ) → oldest ts ≡ o → IsSomeAnd o (λ n. IsOldest ts n × (first_car ts n ≡ Some f)) → IsFront after f
      by_case None is at = absurd at
      by_case (Some n) is at =
          subst (λ o. IsSomeAnd o (λ n. IsOldest after n × (first_car after n ≡ Some f))) (sym (oldest_appended n is))
          (is_oldest_appended n at.0, ap (option_and_then (λ (cars : List ℕ). slice_get cars 0)) (cars_appended ts (youngest ts) c n at.0.1) ∙ at.1)

  pub phase_appended : (p : Phase) (anchor : Option (Addr × ℕ)) → IsPhaseOf p ts anchor → IsPhaseOf p after anchor
  phase_appended Idle anchor at = tt
  phase_appended (Draining n) anchor at = is_oldest_appended n at
  phase_appended (Moving f) anchor at = front_appended f at
  phase_appended (Sweeping f) anchor at = front_appended f at
  phase_appended (Doomed n) anchor at = (is_oldest_appended n at.0, at.1)

  pub aside_appended : (p : Phase) (anchor : Option (Addr × ℕ)) → IsPhaseOf p ts anchor → (e : ℕ) → aside_in p after e ≡ aside_in p ts e
  aside_appended Idle anchor at e = refl
  aside_appended (Draining n) anchor at e = refl
  aside_appended (Moving f) anchor at e = refl
  aside_appended (Sweeping f) anchor at e = refl
  aside_appended (Doomed n) anchor at e = ap (λ o. is_among e (unwrap_or o [])) (cars_appended ts (youngest ts) c n at.0.1)
