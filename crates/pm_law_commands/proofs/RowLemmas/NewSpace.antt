-- A new space keeps the heap law, and stands for the world in which nothing was ever made.
use Rattle.std.proofs.Common.{◌≡◌, ℕ, ◌≤◌, false, refl, ap, sym, ◌∙◌, subst, List, [], ◌∷◌, length, Option, Some, None, arith, is_some}
use Rattle.std.specs.Option.{option_and_then}
use Rattle.std.specs.declared.cmp.Ordering.{Ordering}
use Rattle.std.specs.Ordering.{nat_cmp}
use Rattle.std.specs.FinMap.{get, entries, empty, get-empty, len-empty, len-entries}
use Rattle.pm_types.specs.Orders.{name_cmp, place_cmp}
use Rattle.pm_types.specs.declared.limits.TheConstants.{ROOTS}
use Rattle.pm_types.specs.declared.address.Addr.{Addr}
use Rattle.pm_types.specs.declared.source.RefSource.{RefSource}
use Rattle.pm_types.specs.declared.source.RefSource.TheVariants.{Root, Handle, Field}
use Rattle.pm_types.specs.declared.source.Change.{Change}
use Rattle.pm_cars.specs.Cars.{Car, object_of, look_of}
use Rattle.pm_cars.specs.declared.look.Look.TheVariants as looks
use Rattle.pm_roots.specs.Bindings.{address_at, address_in}
use Rattle.pm_model.specs.World.{empty_world}
use Rattle.pm_view.specs.Sources.{slot_in}
use Rattle.pm_view.specs.View.{Sources}
use Rattle.pm_view.specs.Reading.{slot_at, object_at, field_of, stored, named_by}
use Rattle.pm_view.specs.Seen.{seen, IsTied}
use Rattle.pm_view.specs.Effective.{effective_in}
use Rattle.pm_view.specs.Law.{HeapLaw}
use Rattle.pm_view.specs.Represents.{names, Represents}
use Rattle.pm_view.specs.Rows.{new_space}
use Rattle.pm_law_commands.proofs.RowLemmas.SpreadMeans.{stands_for}

-- nothing is in an empty map
nothing_in : {K X : Type 0} (R : K → K → Ordering) (q : K) (x : X) → get (empty {X = X} {R = R}) q ≡ Some x → ⊥
nothing_in R q x is = let clash = sym is ∙ get-empty R q in cc

no_slot : (a : Addr) → slot_at empty a ≡ None
no_slot a = ap (option_and_then (λ (car : Car). get car.slots a.slot)) (get-empty nat_cmp a.car)

no_object : (a : Addr) → object_at empty a ≡ None
no_object a = ap object_of (no_slot a)

no_root : (k : ℕ) → address_at empty k ≡ None
no_root k = ap (address_in k) (no_length (entries (empty {X = ℕ × Addr} {R = name_cmp})) (sym (len-entries (empty {X = ℕ × Addr} {R = name_cmp})) ∙ len-empty name_cmp (ℕ × Addr)))
  where
    no_length : {A : Type 0} (xs : List A) → length xs ≡ 0 → xs ≡ []
    no_length [] is = refl
    no_length (x ∷ xs) is = absurd (omega arith)

nothing_stored : (x : RefSource) → stored new_space x ≡ None
nothing_stored (Root k) = no_root k
nothing_stored (Handle c r) = get-empty place_cmp (c, r)
nothing_stored (Field a i) = ap (λ o. field_of o i) (no_object a)

nothing_effective : (e : ℕ) (x : RefSource) → effective_in (get (empty {X = Sources} {R = nat_cmp}) e) (get (empty {X = List Change} {R = nat_cmp}) e) x ≡ None
nothing_effective e x = ap (λ s. effective_in s (get (empty {X = List Change} {R = nat_cmp}) e) x) (get-empty nat_cmp e)

none_of : {A : Type 0} (o : Option A) (x : A) → o ≡ None → o ≡ Some x → ⊥
none_of o x none some = let clash : None ≡ Some x = sym none ∙ some in cc

new_ties : IsTied (seen new_space)
new_ties = record {
  reads = λ e x free up out. nothing_effective e x ∙ ap (slot_in e) (sym (nothing_stored x));
  holds = λ e x n free is. absurd (none_of _ n (nothing_effective e x) is);
  leads = λ x a up is. absurd (none_of _ a (nothing_stored x) is);
  moved = λ a b free is. absurd (gone_is_not_moved b (sym (ap look_of (no_slot a)) ∙ is));
}
  where
    gone_is_not_moved : (b : Addr) → looks.Gone ≡ looks.Moved b → ⊥
    gone_is_not_moved b is = cc

no_car_in_train : (car : ℕ) → is_some (get (empty {X = Car} {R = nat_cmp}) car) ≡ false
no_car_in_train car = ap is_some (get-empty nat_cmp car)

-- a new space keeps the heap law
pub new_keeps_law : HeapLaw new_space
new_keeps_law = record {
  built = record {
    trains = record { standing = omega arith; rising = (omega arith, tt); filled = ((λ more. absurd (omega (arith, more))), tt); single = λ car. omega arith; bounded = omega arith };
    linked = λ car. sym (no_car_in_train car);
    sets = λ car. ap is_some (get-empty {X = Sources} nat_cmp car) ∙ sym (no_car_in_train car);
    queues = λ car. ap is_some (get-empty {X = List Change} nat_cmp car) ∙ sym (no_car_in_train car);
    cars = λ number car is. absurd (nothing_in nat_cmp number car is);
    objects = λ a object is. absurd (none_of _ object (no_object a) is);
    apart = λ a b o p at_a at_b same. absurd (none_of _ o (no_object a) at_a);
    next = (omega arith, omega arith);
    births = omega arith;
  };
  named = record {
    numbers = λ p q number a b at_p at_q. absurd (nothing_in name_cmp p (number, a) at_p);
    few = subst (λ m. m ≤ ROOTS) (sym (len-empty name_cmp (ℕ × Addr))) (omega arith);
    registers = λ c r a is. absurd (nothing_in place_cmp (c, r) a is);
  };
  tied = new_ties;
  phase = tt;
  anchor = λ a to is. absurd (none_of None (a, to) refl is);
}

-- and stands for the empty world
pub new_stands : Represents new_space empty_world
new_stands = stands_for new_space empty_world new_keeps_law
    (record {
      roots = λ name. get-empty name_cmp name ∙ sym (ap (option_and_then (λ (bound : ℕ × Addr). named_by new_space bound.1)) (get-empty name_cmp name));
      registers = λ place. get-empty place_cmp place ∙ sym (ap (names new_space) (get-empty place_cmp place));
      objects = λ a object known free is found. absurd (none_of _ object (no_object a) is);
    })
    refl
    (λ id known is. absurd (nothing_in nat_cmp id known is))
    (λ a object free is none. absurd (none_of _ object (no_object a) is))
