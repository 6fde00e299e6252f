-- A plan with Moved slots is one of a store.
use Rattle.std.proofs.Common.{◌≡◌, ◌⊎◌, inl, inr, ℕ, ◌<◌, ◌==◌, Bool, true, false, [], ◌∷◌, Some, None, refl, sym, ◌∙◌, arith, lit≤, if◌then◌else◌}
use Rattle.std.proofs.lemmas.Bool.{eqb-true}
use Rattle.pm_types.specs.declared.limits.TheConstants.{FIELDS}
use Rattle.pm_types.specs.declared.address.Addr.{Addr}
use Rattle.pm_types.specs.declared.object.Object.{Object}
use Rattle.pm_types.specs.declared.object.Slot.TheVariants.{Live, Moved}
use Rattle.pm_image.specs.Graphs.{slot_named}
use Rattle.pm_copies.specs.Listed.{images}
use Rattle.pm_copies.specs.Accepted.{IsAccepted, IsAcceptedCar}
use Rattle.pm_law_copies.specs.Examples.{at, five, nine, object, seven}
use Rattle.pm_copies.specs.Plans.{planned_list, planned_roots}
use Rattle.pm_copies.specs.Laid.{IsPlanInRange, IsStorePlan}
use Rattle.pm_law_copies.specs.Layout.Examples.{moved_plan}

-- the object at an address has this identity
record IsAt (car slot id : ℕ) (a : Addr) (o : Object) : Type 0 where
  there : a ≡ at car slot
  same : o.id ≡ id

-- the objects of the three cars
IsOne : Addr → Object → Type 0
IsOne a o = IsAt 5 0 1 a o ⊎ (IsAt 9 1 2 a o ⊎ IsAt 9 3 4 a o)

address : (car slot : ℕ) (a : Addr) → (car == a.car) ≡ true → (slot == a.slot) ≡ true → a ≡ at car slot
address car slot a same_car same_slot = λ i. record { car = sym (eqb-true car a.car same_car) i; slot = sym (eqb-true slot a.slot same_slot) i }

found : (a : Addr) (o : Object) → slot_named (images (planned_list moved_plan)) a ≡ Some (Live o) → IsOne a o
unfolding IsOne
found a o is = by (5 == a.car) (7 == a.car) (9 == a.car) (0 == a.slot) (1 == a.slot) (2 == a.slot) (3 == a.slot) (4 == a.slot) refl refl refl refl refl is
  where
    by : (c5 c7 c9 s0 s1 s2 s3 s4 : Bool) → (5 == a.car) ≡ c5 → (9 == a.car) ≡ c9 → (0 == a.slot) ≡ s0 → (1 == a.slot) ≡ s1 → (3 == a.slot) ≡ s3
        → (if c5 then (if s0 then Some (object 1 (Some (at 5 2) ∷ None ∷ [])) else if s2 then Some (Moved (at 9 1)) else None)
        else if c7 then (if s4 then Some (Moved (at 5 0)) else None)
        else if c9 then (if s1 then Some (object 2 (Some (at 9 3) ∷ [])) else if s3 then Some (object 4 (Some (at 9 1) ∷ [])) else None)
        else None) ≡ Some (Live o) → IsAt 5 0 1 a o ⊎ (IsAt 9 1 2 a o ⊎ IsAt 9 3 4 a o)
    by true c7 c9 true s1 s2 s3 s4 car nine zero one three is = inl (record { there = address 5 0 a car zero; same = cc })
    by true c7 c9 false s1 true s3 s4 car nine zero one three is = absurd cc
    by true c7 c9 false s1 false s3 s4 car nine zero one three is = absurd cc
    by false true c9 s0 s1 s2 s3 true car nine zero one three is = absurd cc
    by false true c9 s0 s1 s2 s3 false car nine zero one three is = absurd cc
    by false false true s0 true s2 s3 s4 car nine zero one three is = inr (inl (record { there = address 9 1 a nine one; same = cc }))
    by false false true s0 false s2 true s4 car nine zero one three is = inr (inr (record { there = address 9 3 a nine three; same = cc }))
    by false false true s0 false s2 false s4 car nine zero one three is = absurd cc
    by false false false s0 s1 s2 s3 s4 car nine zero one three is = absurd cc

below : (a : Addr) (o : Object) → IsOne a o → o.id < 5
unfolding IsOne
below a o (inl is) = let same = is.same in omega (arith, same)
below a o (inr (inl is)) = let same = is.same in omega (arith, same)
below a o (inr (inr is)) = let same = is.same in omega (arith, same)

-- two objects of one identity stand at one address
at_one : (car slot id other_car other_slot other_id : ℕ) (a b : Addr) (o p : Object) → (id ≡ other_id → at car slot ≡ at other_car other_slot) → IsAt car slot id a o → IsAt other_car other_slot other_id b p → o.id ≡ p.id → a ≡ b
at_one car slot id other_car other_slot other_id a b o p one first second same = first.there ∙ one (sym first.same ∙ same ∙ second.same) ∙ sym second.there

once : (a b : Addr) (o p : Object) → IsOne a o → IsOne b p → o.id ≡ p.id → a ≡ b
unfolding IsOne
once a b o p (inl x) (inl y) same = at_one 5 0 1 5 0 1 a b o p (λ _. refl) x y same
once a b o p (inl x) (inr (inl y)) same = at_one 5 0 1 9 1 2 a b o p (λ is. absurd (omega (arith, is))) x y same
once a b o p (inl x) (inr (inr y)) same = at_one 5 0 1 9 3 4 a b o p (λ is. absurd (omega (arith, is))) x y same
once a b o p (inr (inl x)) (inl y) same = at_one 9 1 2 5 0 1 a b o p (λ is. absurd (omega (arith, is))) x y same
once a b o p (inr (inl x)) (inr (inl y)) same = at_one 9 1 2 9 1 2 a b o p (λ _. refl) x y same
once a b o p (inr (inl x)) (inr (inr y)) same = at_one 9 1 2 9 3 4 a b o p (λ is. absurd (omega (arith, is))) x y same
once a b o p (inr (inr x)) (inl y) same = at_one 9 3 4 5 0 1 a b o p (λ is. absurd (omega (arith, is))) x y same
once a b o p (inr (inr x)) (inr (inl y)) same = at_one 9 3 4 9 1 2 a b o p (λ is. absurd (omega (arith, is))) x y same
once a b o p (inr (inr x)) (inr (inr y)) same = at_one 9 3 4 9 3 4 a b o p (λ _. refl) x y same

five_accepted : IsAcceptedCar (record { number = 5; slots = five })
five_accepted = record {
  from_one = omega arith;
  ascend = (omega arith, omega arith, (omega arith, omega arith, tt));
  fits = omega arith;
  slots = (
    record { within = (omega arith, omega arith); numbered = (omega arith, (omega arith, (tt, tt))) },
    (record { within = tt; numbered = omega arith }, tt),
  );
}

seven_accepted : IsAcceptedCar (record { number = 7; slots = seven })
seven_accepted = record {
  from_one = omega arith;
  ascend = (omega arith, omega arith, tt);
  fits = omega arith;
  slots = (record { within = tt; numbered = omega arith }, tt);
}

nine_accepted : IsAcceptedCar (record { number = 9; slots = nine })
nine_accepted = record {
  from_one = omega arith;
  ascend = (omega arith, omega arith, (omega arith, omega arith, tt));
  fits = omega arith;
  slots = (
    record { within = (omega arith, omega arith); numbered = (omega arith, (omega arith, tt)) },
    (record { within = (omega arith, omega arith); numbered = (omega arith, (omega arith, tt)) }, tt),
  );
}

moved_accepted : IsAccepted (planned_list moved_plan) (planned_roots moved_plan) 5
moved_accepted = record {
  next = (omega arith, omega arith);
  trains = (omega arith, (omega arith, (omega arith, tt)));
  cars = (five_accepted, (seven_accepted, (nine_accepted, tt)));
  differ = ((refl, (refl, tt)), ((refl, tt), (tt, tt)));
  given = λ a o is. below a o (found a o is);
  apart = λ a b o p at_a at_b same. once a b o p (found a o at_a) (found b p at_b) same;
  lead = (((refl, (tt, tt)), (refl, tt)), ((refl, tt), (((refl, tt), ((refl, tt), tt)), tt)));
  roots = (refl, tt);
  names = (refl, tt);
  few = omega arith;
}

moved_range : IsPlanInRange moved_plan
moved_range = record {
  names = (record { some = omega arith; short = omega arith; each = (refl, tt) }, tt);
  cars = (
    record { number = lit≤ tt; slots = ((omega arith, (record { car = lit≤ tt; slot = lit≤ tt }, (tt, tt))), (record { car = lit≤ tt; slot = lit≤ tt }, tt)) },
    (
      record { number = lit≤ tt; slots = (record { car = lit≤ tt; slot = lit≤ tt }, tt) },
      (record { number = lit≤ tt; slots = ((omega arith, (record { car = lit≤ tt; slot = lit≤ tt }, tt)), ((omega arith, (record { car = lit≤ tt; slot = lit≤ tt }, tt)), tt)) }, tt),
    ),
  );
  trains = (lit≤ tt, (lit≤ tt, (lit≤ tt, tt)));
}

pub moved_of_store : IsStorePlan 5 FIELDS moved_plan
moved_of_store = record {
  accepted = moved_accepted;
  fields = (
    ((omega arith, omega arith), (tt, tt)),
    ((tt, tt), (((omega arith, omega arith), ((omega arith, omega arith), tt)), tt)),
  );
  in_range = moved_range;
}
