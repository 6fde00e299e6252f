-- What the sources of cars and roots store, as a list, and remembered sets that are made of it.
use Rattle.std.proofs.Common.{◌≡◌, ◌⊎◌, inl, inr, ℕ, zero, suc, ◌+◌, ◌==◌, ◌&&◌, Bool, true, false, cond, refl, ap, sym, subst, ◌∙◌, List, [], ◌∷◌, ◌++◌, map, Option, Some, None, arith, is_some}
use Rattle.std.specs.Option.{option_and_then, option_flatten}
use Rattle.std.specs.List.{flat_map, AllByRecursion, slice_get}
use Rattle.std.specs.declared.cmp.Ordering.{Ordering}
use Rattle.std.specs.Ordering.{nat_cmp, eq_by_cmp}
use Rattle.std.specs.Cmp.{IsTotalOrder, eq_by_cmp_equiv}
use Rattle.std.specs.FinMap.{IsAntisymmetric, get, entries, entries_sorted, get-entries, get-from_entries, nat_cmp-IsAntisymmetric}
use Rattle.std.specs.FinMap.Entries.{find}
use Rattle.std.proofs.lemmas.Cmp.{nat_cmp_total}
use Rattle.std.proofs.lemmas.Map.Views.{tells_apart}
use Rattle.std.proofs.lemmas.Option.{same_Some}
use Rattle.pm_types.specs.Orders.{name_cmp, source_cmp}
use Rattle.pm_types.proofs.Orders.{names_total, names_antisymmetric, sources_total, sources_antisymmetric}
use Rattle.pm_types.specs.declared.address.Addr.{Addr}
use Rattle.pm_types.specs.declared.object.Object.{Object}
use Rattle.pm_types.specs.declared.object.Slot.{Slot}
use Rattle.pm_types.specs.declared.object.Slot.TheVariants.{Live, Moved}
use Rattle.pm_types.specs.declared.source.RefSource.{RefSource}
use Rattle.pm_types.specs.declared.source.RefSource.TheVariants.{Root, Handle, Field}
use Rattle.pm_cars.specs.Cars.{Car, object_of}
use Rattle.pm_roots.specs.Bindings.{Bindings, AllNumbersDiffer}
use Rattle.pm_view.specs.Sources.{outside, slot_in}
use Rattle.pm_view.specs.View.{Cars}
use Rattle.pm_view.specs.Reading.{slot_at, object_at, field_of}
use Rattle.pm_law_commands.proofs.RowLemmas.Numbers.{owner, found_by_number}
use Rattle.pm_law_copies.specs.Storing.{Stored, field_sources, slot_sources, car_sources, root_source, stored_of, pick, remembering, stores}
use Rattle.pm_law_copies.proofs.Lists.{or_else, all_append, all_mapped, all_entries, both_true}
use Rattle.pm_law_copies.proofs.Objects.{find_in_two}
use Rattle.pm_law_copies.proofs.OpenedLaw.{flat_from}

-- ---- members

abbrev pub IsIn : {X : Type 0} → List X → X → Type 0
IsIn [] x = ⊥
IsIn (y ∷ ys) x = (y ≡ x) ⊎ IsIn ys x

in_first : {X : Type 0} (xs ys : List X) (x : X) → IsIn xs x → IsIn (xs ++ ys) x
in_first [] ys x here = absurd here
in_first (y ∷ xs) ys x (inl same) = inl same
in_first (y ∷ xs) ys x (inr later) = inr (in_first xs ys x later)

in_second : {X : Type 0} (xs ys : List X) (x : X) → IsIn ys x → IsIn (xs ++ ys) x
in_second [] ys x here = here
in_second (y ∷ xs) ys x here = inr (in_second xs ys x here)

in_flat : {X Y : Type 0} (f : X → List Y) (xs : List X) (x : X) (y : Y) → IsIn xs x → IsIn (f x) y → IsIn (flat_map f xs) y
in_flat f [] x y here there = absurd here
in_flat f (z ∷ xs) x y (inl same) there = in_first (f z) (flat_map f xs) y (subst (λ x. IsIn (f x) y) (sym same) there)
in_flat f (z ∷ xs) x y (inr later) there = in_second (f z) (flat_map f xs) y (in_flat f xs x y later there)

in_mapped : {X Y : Type 0} (f : X → Y) (xs : List X) (x : X) → IsIn xs x → IsIn (map f xs) (f x)
in_mapped f [] x here = absurd here
in_mapped f (z ∷ xs) x (inl same) = inl (ap f same)
in_mapped f (z ∷ xs) x (inr later) = inr (in_mapped f xs x later)

all_flat : {X Y : Type 0} (P : Y → Type 0) (f : X → List Y) (xs : List X) → AllByRecursion (λ x. AllByRecursion P (f x)) xs → AllByRecursion P (flat_map f xs)
all_flat P f [] all = tt
all_flat P f (x ∷ xs) all = all_append P (f x) (flat_map f xs) all.0 (all_flat P f xs all.1)

module _ {K X : Type 0} {R : K → K → Ordering} (o : IsTotalOrder R) (same : IsAntisymmetric R) where
  in_entries : (es : List (K × X)) (k : K) (x : X) → find R k es ≡ Some x → IsIn es (k, x)
  in_entries [] k x is = cc
  in_entries (e ∷ es) k x is = elim (eq_by_cmp R k e.0) as (λ b. eq_by_cmp R k e.0 ≡ b → cond b (Some e.1) (find R k es) ≡ Some x → IsIn (e ∷ es) (k, x)) [
    | true ↦ λ tied is. inl (λ i. (sym (tells_apart same k e.0 tied) i, same_Some e.1 x is i))
    | false ↦ λ apart is. inr (in_entries es k x is)
  ] refl is

  found_in : (es : List (K × X)) (e : K × X) → IsIn es e → is_some (find R e.0 es) ≡ true
  found_in [] e here = absurd here
  found_in (f ∷ es) e (inl is) = ap (λ b. is_some (cond b (Some f.1) (find R e.0 es))) (ap (λ (g : K × X). eq_by_cmp R e.0 g.0) is ∙ (eq_by_cmp_equiv o).refl e.0)
  found_in (f ∷ es) e (inr later) = elim (eq_by_cmp R e.0 f.0) as (λ b. is_some (cond b (Some f.1) (find R e.0 es)) ≡ true) [ true ↦ refl | false ↦ found_in es e later ]

-- ---- what is stored

-- all that cars and roots store
pub all_stored : Cars → Bindings → List Stored
all_stored cars roots = stored_of (entries cars) roots

module _ (cars : Cars) (roots : Bindings) where
  -- the source stores this
  abbrev IsRight : Stored → Type 0
  IsRight e = stores cars roots e.0 ≡ Some e.1

  fields_right : (a : Addr) (object : Object) (k : ℕ) (fields : List (Option Addr)) → object_at cars a ≡ Some object → ((i : ℕ) → slice_get object.fields (k + i) ≡ slice_get fields i) → AllByRecursion IsRight (field_sources a k fields)
  fields_right a object k [] is part = tt
  fields_right a object k (None ∷ fields) is part = fields_right a object (suc k) fields is (λ i. ap (slice_get object.fields) (later k i) ∙ part (suc i))
    where
      later : (k i : ℕ) → suc k + i ≡ k + suc i
      later k i = omega arith
  fields_right a object k (Some to ∷ fields) is part = (ap (λ o. field_of o k) is ∙ ap option_flatten (ap (slice_get object.fields) (at k) ∙ part 0), fields_right a object (suc k) fields is (λ i. ap (slice_get object.fields) (later k i) ∙ part (suc i)))
    where
      later : (k i : ℕ) → suc k + i ≡ k + suc i
      later k i = omega arith

      at : (k : ℕ) → k ≡ k + 0
      at k = omega arith

  at_address : (n : ℕ) (car : Car) (s : ℕ) (slot : Slot) → get cars n ≡ Some car → find nat_cmp s (entries car.slots) ≡ Some slot → slot_at cars (record { car = n; slot = s }) ≡ Some slot
  at_address n car s slot is found = ap (option_and_then (λ (car : Car). get car.slots s)) is ∙ get-entries car.slots s ∙ found

  slot_right : (n s : ℕ) (slot : Slot) → slot_at cars (record { car = n; slot = s }) ≡ Some slot → AllByRecursion IsRight (slot_sources n (s, slot))
  slot_right n s (Live object) is = fields_right (record { car = n; slot = s }) object 0 object.fields (ap object_of is) (λ i. ap (slice_get object.fields) (from_zero i))
    where
      from_zero : (i : ℕ) → 0 + i ≡ i
      from_zero i = omega arith
  slot_right n s (Moved to) is = tt

  car_right : (n : ℕ) (car : Car) → get cars n ≡ Some car → AllByRecursion IsRight (car_sources (n, car))
  car_right n car is = all_flat IsRight (slot_sources n) (entries car.slots) (all_entries nat_cmp_total (λ e. AllByRecursion IsRight (slot_sources n e)) (entries car.slots) (entries_sorted car.slots) (λ s slot found. slot_right n s slot (at_address n car s slot is found)))

  each_right : (listed : List (ℕ × Car)) → AllByRecursion (λ (e : ℕ × Car). get cars e.0 ≡ Some e.1) listed → AllByRecursion (λ e. AllByRecursion IsRight (car_sources e)) listed
  each_right [] each = tt
  each_right (e ∷ listed) each = (car_right e.0 e.1 each.0, each_right listed each.1)

  -- these list the cars, each once
  pub record AreCars (listed : List (ℕ × Car)) : Type 0 where
    pub found : (n : ℕ) → find nat_cmp n listed ≡ get cars n
    pub each : AllByRecursion (λ (e : ℕ × Car). get cars e.0 ≡ Some e.1) listed

  module _ (differ : AllNumbersDiffer roots) where
    root_right : (name : List ℕ) (bound : ℕ × Addr) → find name_cmp name (entries roots) ≡ Some bound → IsRight (root_source (name, bound))
    root_right name bound is = found_by_number roots differ name bound (get-entries roots name ∙ is)

    all_right : (listed : List (ℕ × Car)) → AllByRecursion (λ (e : ℕ × Car). get cars e.0 ≡ Some e.1) listed → AllByRecursion IsRight (stored_of listed roots)
    all_right listed each =
        all_append IsRight (flat_map car_sources listed) (map root_source (entries roots))
        (all_flat IsRight car_sources listed (each_right listed each))
        (all_mapped IsRight root_source (entries roots) (all_entries names_total (λ e. IsRight (root_source e)) (entries roots) (entries_sorted roots) root_right))

  -- ---- nothing that is stored is missing

  field_in : (a : Addr) (k : ℕ) (fields : List (Option Addr)) (i : ℕ) (to : Addr) → slice_get fields i ≡ Some (Some to) → IsIn (field_sources a k fields) (Field a (k + i), to)
  field_in a k [] i to is = cc
  field_in a k (None ∷ fields) zero to is = cc
  field_in a k (None ∷ fields) (suc i) to is = subst (λ n. IsIn (field_sources a (suc k) fields) (Field a n, to)) (later k i) (field_in a (suc k) fields i to is)
    where
      later : (k i : ℕ) → suc k + i ≡ k + suc i
      later k i = omega arith
  field_in a k (Some b ∷ fields) zero to is = inl (λ j. (Field a (at k j), same_one b to is j))
    where
      at : (k : ℕ) → k ≡ k + 0
      at k = omega arith

      same_one : (b to : Addr) → Some (Some b) ≡ Some (Some to) → b ≡ to
      same_one b to is = cc
  field_in a k (Some b ∷ fields) (suc i) to is = inr (subst (λ n. IsIn (field_sources a (suc k) fields) (Field a n, to)) (later k i) (field_in a (suc k) fields i to is))
    where
      later : (k i : ℕ) → suc k + i ≡ k + suc i
      later k i = omega arith

  in_car : (listed : List (ℕ × Car)) → AreCars listed → (a : Addr) (car : Car) (object : Object) (i : ℕ) (to : Addr) → get cars a.car ≡ Some car → get car.slots a.slot ≡ Some (Live object) → slice_get object.fields i ≡ Some (Some to) → IsIn (flat_map car_sources listed) (Field a i, to)
  in_car listed are a car object i to is here field =
      in_flat car_sources listed (a.car, car) (Field a i, to) (in_entries nat_cmp_total nat_cmp-IsAntisymmetric listed a.car car (are.found a.car ∙ is))
      (in_flat (slot_sources a.car) (entries car.slots) (a.slot, Live object) (Field a i, to) (in_entries nat_cmp_total nat_cmp-IsAntisymmetric (entries car.slots) a.slot (Live object) (sym (get-entries car.slots a.slot) ∙ here))
      (subst (λ n. IsIn (field_sources a 0 object.fields) (Field a n, to)) (from_zero i) (field_in a 0 object.fields i to field)))
    where
      from_zero : (i : ℕ) → 0 + i ≡ i
      from_zero i = omega arith

  object_in : (listed : List (ℕ × Car)) → AreCars listed → (a : Addr) (o : Option Car) → get cars a.car ≡ o → (i : ℕ) (to : Addr) → field_of (object_of (option_and_then (λ (car : Car). get car.slots a.slot) o)) i ≡ Some to → IsIn (flat_map car_sources listed) (Field a i, to)
  object_in listed are a None is i to field = cc
  object_in listed are a (Some car) is i to field = slot_in_car (get car.slots a.slot) refl field
    where
      slot_in_car : (o : Option Slot) → get car.slots a.slot ≡ o → field_of (object_of o) i ≡ Some to → IsIn (flat_map car_sources listed) (Field a i, to)
      slot_in_car None here field = cc
      slot_in_car (Some (Live object)) here field = in_car listed are a car object i to is here (flat_from (slice_get object.fields i) to field)
      slot_in_car (Some (Moved b)) here field = cc

  stored_in : (listed : List (ℕ × Car)) → AreCars listed → (x : RefSource) (to : Addr) → stores cars roots x ≡ Some to → IsIn (stored_of listed roots) (x, to)
  stored_in listed are (Root number) to is =
      let name = owner roots number to is in
      in_second (flat_map car_sources listed) (map root_source (entries roots)) (Root number, to)
      (in_mapped root_source (entries roots) (name.0, (number, to)) (in_entries names_total names_antisymmetric (entries roots) name.0 (number, to) (sym (get-entries roots name.0) ∙ name.1)))
  stored_in listed are (Handle client register) to is = cc
  stored_in listed are (Field a i) to is = in_first (flat_map car_sources listed) (map root_source (entries roots)) (Field a i, to) (object_in listed are a (get cars a.car) refl i to is)

  -- ---- what a set remembers

  -- a source outside the car stores an address of this slot of it
  abbrev IsOutside : ℕ → RefSource → ℕ → Type 0
  IsOutside car x s = (outside car x ≡ true) × (slot_in car (stores cars roots x) ≡ Some s)

  picked_one : (car : ℕ) (e : Stored) (x : RefSource) (s : ℕ) (b : Bool) → (outside car e.0 && (e.1.car == car)) ≡ b → IsRight e → find source_cmp x (cond b ((e.0, e.1.slot) ∷ []) []) ≡ Some s → IsOutside car x s
  picked_one car e x s false is right found = cc
  picked_one car e x s true is right found = elim (eq_by_cmp source_cmp x e.0) as (λ b. eq_by_cmp source_cmp x e.0 ≡ b → cond b (Some e.1.slot) None ≡ Some s → IsOutside car x s) [
    | true ↦ λ tied found.
        let both = both_true (outside car e.0) (e.1.car == car) is in
        let named : slot_in car (stores cars roots e.0) ≡ Some s = ap (slot_in car) right ∙ ap (λ b. cond b (Some e.1.slot) None) both.1 ∙ found in
        subst (λ x. IsOutside car x s) (sym (tells_apart sources_antisymmetric x e.0 tied)) (both.0, named)
    | false ↦ λ apart found. cc
  ] refl found

  either_picked : (car : ℕ) (e : Stored) (x : RefSource) (s : ℕ) (later o : Option ℕ) → IsRight e → (later ≡ Some s → IsOutside car x s) → find source_cmp x (pick car e) ≡ o → or_else o later ≡ Some s → IsOutside car x s
  either_picked car e x s later None right rest none found = rest found
  either_picked car e x s later (Some t) right rest some found = picked_one car e x s (outside car e.0 && (e.1.car == car)) refl right (some ∙ found)

  picked : (car : ℕ) (all : List Stored) (x : RefSource) (s : ℕ) → AllByRecursion IsRight all → find source_cmp x (flat_map (pick car) all) ≡ Some s → IsOutside car x s
  picked car [] x s right found = cc
  picked car (e ∷ all) x s right found =
      either_picked car e x s (find source_cmp x (flat_map (pick car) all)) (find source_cmp x (pick car e)) right.0 (picked car all x s right.1) refl
      (sym (find_in_two source_cmp x (pick car e) (flat_map (pick car) all)) ∙ found)

  in_picked : (car : ℕ) (e : Stored) → outside car e.0 ≡ true → (e.1.car == car) ≡ true → IsIn {X = RefSource × ℕ} (pick car e) (e.0, e.1.slot)
  in_picked car e out same = subst (λ b. IsIn {X = RefSource × ℕ} (cond b ((e.0, e.1.slot) ∷ []) []) (e.0, e.1.slot)) (sym (λ i. out i && same i)) (inl refl)

  -- a source that is outside the car and names a slot of it is found
  found_there : (listed : List (ℕ × Car)) → AreCars listed → (car : ℕ) (x : RefSource) (a : Addr) → outside car x ≡ true → stores cars roots x ≡ Some a → (a.car == car) ≡ true → is_some (find source_cmp x (flat_map (pick car) (stored_of listed roots))) ≡ true
  found_there listed are car x a out is same =
      found_in sources_total sources_antisymmetric (flat_map (pick car) (stored_of listed roots)) (x, a.slot)
      (in_flat (pick car) (stored_of listed roots) (x, a) (x, a.slot) (stored_in listed are x a is) (in_picked car (x, a) out same))

  nothing_there : (listed : List (ℕ × Car)) → AreCars listed → (car : ℕ) (x : RefSource) (out : Bool) (p : Option Addr) → outside car x ≡ out → stores cars roots x ≡ p → find source_cmp x (flat_map (pick car) (stored_of listed roots)) ≡ None → cond out (slot_in car p) None ≡ None
  nothing_there listed are car x false p out is none = refl
  nothing_there listed are car x true None out is none = refl
  nothing_there listed are car x true (Some a) out is none = elim (a.car == car) as (λ b. (a.car == car) ≡ b → cond b (Some a.slot) None ≡ None) [
    | true ↦ λ same. let clash : false ≡ true = sym (ap is_some none) ∙ found_there listed are car x a out is same in cc
    | false ↦ λ apart. refl
  ] refl

  -- it remembers just the sources outside the car, with the slot that each names
  pub remembers_of : (listed : List (ℕ × Car)) → AreCars listed → AllNumbersDiffer roots → (car : ℕ) (x : RefSource) → get (remembering (stored_of listed roots) car) x ≡ cond (outside car x) (slot_in car (stores cars roots x)) None
  remembers_of listed are differ car x = get-from_entries sources_total (flat_map (pick car) (stored_of listed roots)) x ∙ by_found (find source_cmp x (flat_map (pick car) (stored_of listed roots))) refl
    where
      by_found : (o : Option ℕ) → find source_cmp x (flat_map (pick car) (stored_of listed roots)) ≡ o → o ≡ cond (outside car x) (slot_in car (stores cars roots x)) None
      by_found None none = sym (nothing_there listed are car x (outside car x) (stores cars roots x) refl refl none)
      by_found (Some s) found = let there = picked car (stored_of listed roots) x s (all_right differ listed are.each) found in sym (ap (λ b. cond b (slot_in car (stores cars roots x)) None) there.0 ∙ there.1)

  -- the cars as they are listed in their order
  in_order : AreCars (entries cars)
  in_order = record {
    found = λ n. sym (get-entries cars n);
    each = all_entries nat_cmp_total (λ (e : ℕ × Car). get cars e.0 ≡ Some e.1) (entries cars) (entries_sorted cars) (λ n car found. get-entries cars n ∙ found);
  }

  pub remembers : AllNumbersDiffer roots → (car : ℕ) (x : RefSource) → get (remembering (all_stored cars roots) car) x ≡ cond (outside car x) (slot_in car (stores cars roots x)) None
  unfolding all_stored
  remembers differ car x = remembers_of (entries cars) in_order differ car x
