-- The store after its first checkpoint holds a plan.
use Rattle.std.proofs.Common.{◌≡◌, ◌+◌, ◌<◌, ◌≤◌, ◌==◌, Bool, true, false, [], ◌∷◌, Some, None, refl, sym, ap, ◌∙◌, arith, lit≤, if◌then◌else◌}
use Rattle.std.proofs.lemmas.Bool.{eqb-true}
use Rattle.sha2.specs.Sha256.{sha256}
use Rattle.pm_types.specs.declared.address.Addr.{Addr}
use Rattle.pm_types.specs.declared.object.Object.{Object}
use Rattle.pm_types.specs.declared.object.Slot.{Slot}
use Rattle.pm_types.specs.declared.object.Slot.TheVariants.{Live}
use Rattle.pm_image.specs.First.{first_bytes, first_car, first_car_page, first_catalog_page, first_header}
use Rattle.pm_image.specs.Graphs.{Pages, slot_named}
use Rattle.pm_copies.specs.Accepted.{IsAccepted}
use Rattle.pm_copies.specs.Apart.{AreApart}
use Rattle.pm_copies.specs.Plans.{planned_list, planned_roots}
use Rattle.pm_copies.specs.Laid.{HoldPlan, IsPlanHeader, IsPlanInRange, IsLaidBehind, IsCatalogFilled}
use Rattle.pm_law_copies.specs.Layout.Examples.{first_plan}

-- the object, and its address
abbrev only : Object
only = record { id = 1; fields = None ∷ None ∷ []; bytes = first_bytes }

abbrev there : Addr
there = record { car = 1; slot = 0 }

-- no other slot is named
only_named : (at : Addr) (slot : Slot) → slot_named (first_car ∷ []) at ≡ Some slot → (at ≡ there) × (slot ≡ Live only)
only_named at slot is = by (1 == at.car) (0 == at.slot) refl refl is
  where
    by : (a b : Bool) → (1 == at.car) ≡ a → (0 == at.slot) ≡ b → (if a then (if b then Some (Live only) else None) else None) ≡ Some slot → (at ≡ there) × (slot ≡ Live only)
    by true true car number is = ((λ i. record { car = sym (eqb-true 1 at.car car) i; slot = sym (eqb-true 0 at.slot number) i }), cc)
    by true false car number is = absurd cc
    by false b car number is = absurd cc

same_id : (object : Object) → Live object ≡ Live only → object.id ≡ 1
same_id object same = cc

first_accepted : IsAccepted (planned_list first_plan) (planned_roots first_plan) 2
first_accepted = record {
  next = (omega arith, omega arith);
  trains = (omega arith, tt);
  cars = (
    record {
      from_one = omega arith;
      ascend = (omega arith, omega arith, tt);
      fits = omega arith;
      slots = (record { within = (omega arith, omega arith); numbered = (omega arith, (tt, (tt, tt))) }, tt);
    },
    tt,
  );
  differ = (tt, tt);
  given = λ at object is. let one = same_id object (only_named at (Live object) is).1 in omega (arith, one);
  apart = λ a b o p at_a at_b same. (only_named a (Live o) at_a).0 ∙ sym (only_named b (Live p) at_b).0;
  lead = (((tt, (tt, tt)), tt), tt);
  roots = (refl, tt);
  names = (refl, tt);
  few = omega arith;
}

two_pages : AreApart (4 ∷ 3 ∷ [])
two_pages number = by (4 == number) (3 == number) refl refl
  where
    by : (a b : Bool) → (4 == number) ≡ a → (3 == number) ≡ b → (if a then 1 else 0) + ((if b then 1 else 0) + 0) ≤ 1
    by true true four three = let one = eqb-true 4 number four in let two = eqb-true 3 number three in absurd (omega (arith, one, two))
    by true false four three = omega arith
    by false true four three = omega arith
    by false false four three = omega arith

first_range : IsPlanInRange first_plan
first_range = record {
  names = (record { some = omega arith; short = omega arith; each = (refl, tt) }, tt);
  cars = (record { number = lit≤ tt; slots = ((omega arith, (tt, (tt, tt))), tt) }, tt);
  trains = (lit≤ tt, tt);
}

first_cut : IsCatalogFilled first_plan
first_cut = record { whole = refl; fit = (omega arith, tt); filled = tt; some = omega arith }

first_held : (pages : Pages) → 4 < pages.count → pages.page 3 ≡ first_car_page → pages.page 4 ≡ first_catalog_page → HoldPlan pages first_plan
unfolding first_car_page first_catalog_page
first_held pages some car catalog = record {
  cars = (record { spelled = car; digest = ap sha256 car }, tt);
  catalog = (catalog, tt);
  own_pages = record { within = ((omega arith, some), ((omega arith, omega (arith, some)), tt)); apart = two_pages };
}

first_heads : IsPlanHeader first_plan first_header
unfolding first_catalog_page
first_heads = record { version = refl; first = refl; digest = refl }

pub holds_first : (pages : Pages) → 4 < pages.count → pages.page 3 ≡ first_car_page → pages.page 4 ≡ first_catalog_page → IsLaidBehind pages first_header first_plan
holds_first pages some car catalog = record {
  of_store = record { accepted = first_accepted; fields = (((omega arith, omega arith), tt), tt); in_range = first_range };
  listed = first_cut;
  held = first_held pages some car catalog;
  header_of = first_heads;
}
