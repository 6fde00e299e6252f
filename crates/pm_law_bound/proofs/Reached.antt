-- A bound that is reached ends what was lost.
use Rattle.std.proofs.Common.{◌≡◌, ⊎_elim, ℕ, ◌==◌, ◌-◌, ◌<◌, ◌≤◌, nat_le, Bool, true, false, cond, if◌then◌else◌, is_some, refl, ap, sym, subst, ◌∙◌, List, [], ◌∷◌, length, take, Some, arith}
use Rattle.std.specs.Option.{IsSome, IsSomeAnd}
use Rattle.std.proofs.lemmas.Bool.{true≢false, eqb-true, le-leb, cases_lt}
use Rattle.pm_types.specs.declared.address.Addr.{Addr}
use Rattle.pm_types.specs.declared.entry.Entry.{Entry}
use Rattle.pm_types.specs.declared.event.Watch.{Watch}
use Rattle.pm_trains.specs.Trains.{Train, cars_at, is_among, train_of}
use Rattle.pm_model.specs.World.{World}
use Rattle.pm_model.specs.Journal.{after}
use Rattle.pm_view.specs.View.{SpaceView}
use Rattle.pm_view.specs.Reading.{id_at}
use Rattle.pm_view.specs.Counts.{standing_of, old_in, old}
use Rattle.pm_view.specs.Law.{HeapLaw}
use Rattle.pm_view.specs.Watches.{line_of}
use Rattle.pm_view.specs.Ranking.{up_to}
use Rattle.pm_view.specs.Sinking.{IsLost}
use Rattle.pm_view.specs.Bounded.{EndsLost, KeepsBound, IsHonest}
use Rattle.pm_law_bound.proofs.RankLemmas.Bounds.{none_left}

-- where no train is numbered up to this one
module _ (n : ℕ) where
  none_more : (t : Train) (ts : List Train) → up_to n (t ∷ ts) ≡ [] → (nat_le t.number n ≡ false) × (up_to n ts ≡ [])
  none_more t ts none = by_case (nat_le t.number n) refl none
    where
      by_case : (b : Bool) → nat_le t.number n ≡ b → cond b (t ∷ up_to n ts) (up_to n ts) ≡ [] → (nat_le t.number n ≡ false) × (up_to n ts ≡ [])
      by_case true is none = absurd (let long = ap length none in omega (arith, long))
      by_case false is none = (is, none)

  -- each train that stands is over it
  all_over : (m : ℕ) (ts : List Train) → up_to n ts ≡ [] → IsSome (cars_at ts m) → n < m
  all_over m [] none some = absurd (true≢false (sym some))
  all_over m (t ∷ ts) none some = by_number (t.number == m) refl some (all_over m ts (none_more t ts none).1)
    where
      by_number : (b : Bool) → (t.number == m) ≡ b → is_some (if b then Some t.cars else cars_at ts m) ≡ true → (is_some (cars_at ts m) ≡ true → n < m) → n < m
      by_number false other some later = later some
      by_number true same some later =
          ⊎_elim (λ over. over)
          (λ low. absurd (true≢false (sym (le-leb t.number n (let one = eqb-true t.number m same in omega (arith, one, low))) ∙ (none_more t ts none).0)))
          (cases_lt n m)

  -- and no object stands in one up to it
  all_gone : (view : SpaceView) (ts : List Train) → up_to n ts ≡ [] → old_in view n ts ≡ 0
  all_gone view [] none = refl
  all_gone view (t ∷ ts) none =
      let rest = all_gone view ts (none_more t ts none).1 in
      let here : cond (nat_le t.number n) (standing_of view t) 0 ≡ 0 = ap (λ b. cond b (standing_of view t) 0) (none_more t ts none).0 in
      omega (arith, here, rest)

  -- no car is in a train up to it
  no_home : (car : ℕ) (ts : List Train) → up_to n ts ≡ [] → IsSomeAnd (train_of ts car) (λ train. train ≤ n) → ⊥
  no_home car [] none low = low
  no_home car (t ∷ ts) none low = by_case (is_among car t.cars) low (no_home car ts (none_more t ts none).1)
    where
      by_case : (b : Bool) → IsSomeAnd (if b then Some t.number else train_of ts car) (λ train. train ≤ n) → (IsSomeAnd (train_of ts car) (λ train. train ≤ n) → ⊥) → ⊥
      by_case true low later = true≢false (sym (le-leb t.number n low) ∙ (none_more t ts none).0)
      by_case false low later = later low

module _ (start : World) (journal : List Entry) (view : SpaceView) (watch : Watch) (law : HeapLaw view) (is : KeepsBound start journal view watch) where
  module _ (reached : watch.bound ≤ view.completed - watch.completed) where
    -- no train is left that is as old as the watch
    pub none_as_old : up_to watch.youngest view.trains.trains ≡ []
    none_as_old =
        none_left view law watch.youngest watch.objects
        (⊎_elim (λ zero. zero) (λ less. absurd (omega (arith, less, reached))) is.falls)

    pub trains_younger : (number : ℕ) → IsSome (cars_at view.trains.trains number) → watch.youngest < number
    trains_younger number some = all_over watch.youngest number view.trains.trains none_as_old some

    pub none_old : old view watch.youngest ≡ 0
    none_old = all_gone watch.youngest view view.trains.trains none_as_old

    pub lost_gone : (a : Addr) (id : ℕ) → IsLost (after start (take watch.position journal)) id → id_at view a ≡ Some id → ⊥
    lost_gone a id lost here =
        no_home watch.youngest a.car view.trains.trains none_as_old
        (is.sunk.low a (subst (λ o. IsSomeAnd o (IsLost (after start (take watch.position journal)))) (sym here) lost))

  pub line_honest : (number : ℕ) → IsHonest (line_of view number watch)
  line_honest number reached = let none = none_old reached in omega (arith, none)

  pub ends_lost : (number : ℕ) → EndsLost start journal view (line_of view number watch) watch.position
  ends_lost number reached a id lost here = lost_gone reached a id lost here
