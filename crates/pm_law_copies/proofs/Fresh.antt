-- A space in which nothing has happened yet keeps the heap law, where its cars, objects and trains are as they must be.
use Rattle.std.proofs.Common.{◌≡◌, ℕ, ◌≤◌, ◌==◌, Bool, true, false, cond, refl, ap, sym, subst, ◌∙◌, List, [], Option, Some, None, arith, is_some}
use Rattle.std.specs.Option.{option_and_then, option_map}
use Rattle.std.specs.FinMap.{get, get-empty, len}
use Rattle.std.proofs.lemmas.Bool.{eqb-true}
use Rattle.std.proofs.lemmas.Option.{none-some}
use Rattle.pm_types.specs.Orders.{place_cmp}
use Rattle.pm_types.specs.declared.limits.TheConstants.{ROOTS}
use Rattle.pm_types.specs.declared.address.Addr.{Addr}
use Rattle.pm_types.specs.declared.object.Object.{Object}
use Rattle.pm_types.specs.declared.source.RefSource.{RefSource}
use Rattle.pm_types.specs.declared.source.Change.{Change}
use Rattle.pm_cars.specs.Cars.{Car, look_of}
use Rattle.pm_cars.specs.declared.look.Look.TheVariants as looks
use Rattle.pm_trains.specs.Trains.{train_of}
use Rattle.pm_trains.specs.Sound as line
use Rattle.pm_view.specs.Sources.{outside, slot_in}
use Rattle.pm_view.specs.View.{Sources, SpaceView}
use Rattle.pm_view.specs.Reading.{slot_at, object_at, stored, aside_in, is_aside}
use Rattle.pm_view.specs.Effective.{effective, effective_in}
use Rattle.pm_view.specs.Seen.{seen, Leads, IsTied}
use Rattle.pm_view.specs.Law.{IsCar, IsObject, IsBuilt, IsPhaseOf, HeapLaw}
use Rattle.pm_copies.specs.Opened.{IsFresh}

-- the queue of a car that has not heard of anything
abbrev no_change_yet : Car → List Change
no_change_yet car = []

-- what is left to be shown of a space in which nothing has happened yet
pub record IsMade (next_id : ℕ) (view : SpaceView) : Type 0 where
  pub trains : line.AreSoundTrains view.trains
  pub births : view.trains.births ≡ 0
  pub linked : (car : ℕ) → is_some (train_of view.trains.trains car) ≡ is_some (get view.cars car)
  pub cars : (number : ℕ) (car : Car) → get view.cars number ≡ Some car → IsCar view number car
  pub objects : (a : Addr) (object : Object) → object_at view.cars a ≡ Some object → IsObject view object
  pub apart : (a b : Addr) (o p : Object) → object_at view.cars a ≡ Some o → object_at view.cars b ≡ Some p → o.id ≡ p.id → a ≡ b
  pub next : (1 ≤ next_id) × (next_id ≤ 4294967296)
  pub few : len view.roots ≤ ROOTS
  pub here : (x : RefSource) (a : Addr) → stored view x ≡ Some a → look_of (slot_at view.cars a) ≡ looks.Live
  pub still : (a b : Addr) → look_of (slot_at view.cars a) ≡ looks.Moved b → ⊥

module _ (next_id : ℕ) (view : SpaceView) (fresh : IsFresh next_id view) (made : IsMade next_id view) where
  -- a place that an address names holds an object
  abbrev IsHere : Addr → Type 0
  IsHere a = look_of (slot_at view.cars a) ≡ looks.Live

  none_aside : (car : ℕ) → is_aside view car ≡ false
  none_aside car = ap (λ phase. aside_in phase view.trains.trains car) fresh.phase

  -- ---- remembered sets

  car_here : (a : Addr) → IsHere a → is_some (get view.cars a.car) ≡ true
  car_here a here = there (get view.cars a.car) refl
    where
      there : (o : Option Car) → get view.cars a.car ≡ o → is_some o ≡ true
      there None is = let clash : looks.Gone ≡ looks.Live = sym (ap (λ o. look_of (option_and_then (λ (car : Car). get car.slots a.slot) o)) is) ∙ here in cc
      there (Some car) is = refl

  none_named : (car : ℕ) (x : RefSource) (o : Option Addr) → stored view x ≡ o → is_some (get view.cars car) ≡ false → slot_in car o ≡ None
  none_named car x None is gone = refl
  none_named car x (Some a) is gone = elim (a.car == car) as (λ b. (a.car == car) ≡ b → cond b (Some a.slot) None ≡ None) [
    | true ↦ λ same. let clash : true ≡ false = sym (car_here a (made.here x a is)) ∙ ap (λ n. is_some (get view.cars n)) (eqb-true a.car car same) ∙ gone in cc
    | false ↦ λ apart. refl
  ] refl

  nothing_either : (out : Bool) (o : Option ℕ) → o ≡ None → cond out o None ≡ None
  nothing_either true o none = none
  nothing_either false o none = refl

  no_change : (set : Sources) (o : Option Car) → is_some o ≡ true → (x : RefSource) → effective_in (Some set) (option_map (λ _. []) o) x ≡ get set x
  no_change set None some x = cc
  no_change set (Some car) some x = refl

  -- what an effective set gives is just what the sources outside the car name of it
  effective_is : (car : ℕ) (x : RefSource) → effective view car x ≡ cond (outside car x) (slot_in car (stored view x)) None
  effective_is car x = by_set (get view.sets car) refl
    where
      by_set : (o : Option Sources) → get view.sets car ≡ o → effective_in o (get view.queues car) x ≡ cond (outside car x) (slot_in car (stored view x)) None
      by_set None is = sym (nothing_either (outside car x) (slot_in car (stored view x)) (none_named car x (stored view x) refl (sym (fresh.sets car) ∙ ap is_some is)))
      by_set (Some set) is =
          ap (λ queue. effective_in (Some set) queue x) (fresh.queues car)
          ∙ no_change set (get view.cars car) (sym (fresh.sets car) ∙ ap is_some is) x
          ∙ fresh.remembered car set x is

  outside_only : (out : Bool) (o : Option ℕ) (n : ℕ) → cond out o None ≡ Some n → (out ≡ true) × (o ≡ Some n)
  outside_only true o n is = (refl, is)
  outside_only false o n is = cc

  leads_here : (a : Addr) → IsHere a → Leads (seen view) a (look_of (slot_at view.cars a))
  leads_here a here = subst (Leads (seen view) a) (sym here) tt

  tied : IsTied (seen view)
  tied = record {
    reads = λ car x free up out. effective_is car x ∙ ap (λ b. cond b (slot_in car (stored view x)) None) out;
    holds = λ car x n free is. outside_only (outside car x) (slot_in car (stored view x)) n (sym (effective_is car x) ∙ is);
    leads = λ x a up is. (none_aside a.car, leads_here a (made.here x a is));
    moved = λ a b free is. absurd (made.still a b is);
  }

  some_either : (o : Option Car) → is_some (option_map no_change_yet o) ≡ is_some o
  some_either None = refl
  some_either (Some car) = refl

  no_births : (births : ℕ) → births ≡ 0 → (n : ℕ) → births ≤ n
  no_births births none n = omega (arith, none)

  built : IsBuilt view
  built = record {
    trains = made.trains;
    linked = made.linked;
    sets = fresh.sets;
    queues = λ car. ap is_some (fresh.queues car) ∙ some_either (get view.cars car);
    cars = made.cars;
    objects = made.objects;
    apart = made.apart;
    next = subst (λ n. (1 ≤ n) × (n ≤ 4294967296)) (sym fresh.next) made.next;
    births = no_births view.trains.births made.births _;
  }

  -- it keeps the heap law
  pub fresh_law : HeapLaw view
  fresh_law = record {
    built = built;
    named = record {
      numbers = fresh.numbers;
      few = made.few;
      registers = λ client register a is. absurd (none-some a (sym (ap (λ registers. get registers (client, register)) fresh.registers ∙ get-empty place_cmp (client, register)) ∙ is));
    };
    tied = tied;
    phase = subst (λ phase. IsPhaseOf phase view.trains.trains view.anchor) (sym fresh.phase) tt;
    anchor = λ a to is. absurd (none-some (a, to) (sym fresh.anchor ∙ is));
  }
