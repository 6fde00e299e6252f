-- The steps of a walk.
use Rattle.std.proofs.Common.{◌≡◌, ◌⊎◌, inl, inr, ℕ, ◌<◌, ◌≤◌, ◌+◌, nat_lt, get_or, refl, ap, sym, subst, ◌∙◌, true, false, List, [], ◌∷◌, ◌++◌, length, Option, Some, None, is_some, arith}
use Rattle.std.specs.List.{slice_get}
use Rattle.std.specs.Option.{IsSome, IsSomeAnd, IfSome, option_and_then, option_map, option_flatten}
use Rattle.std.specs.Prelude.{Result, Ok, Err, OnOk}
use Rattle.std.specs.Ordering.{nat_cmp}
use Rattle.std.specs.Cmp.{nat_cmp_total}
use Rattle.std.specs.FinMap.{get, insert, empty, get-empty, entries, get-entries}
use Rattle.std.specs.BTreeMap as tree
use Rattle.std.proofs.lemmas.Bool.Decides.{nat_tests}
use Rattle.std.proofs.lemmas.Option.{same_Some, slice_get_within, slice_get-get_or}
use Rattle.pm_types.proofs.Shown.{get_shown}
use Rattle.pm_types.specs.Orders.{name_cmp}
use Rattle.pm_types.specs.declared.address.Addr.{Addr}
use Rattle.pm_types.specs.declared.object.Object as kept
use Rattle.pm_types.specs.declared.source.RefSource.TheVariants.{Field}
use Rattle.pm_roots.specs.Bindings.{Bindings}
use Rattle.pm_view.specs.View.{SpaceView}
use Rattle.pm_view.specs.Reading.{object_at, stored, resolve, named_by}
use Rattle.pm_dump.proofs.Copies.{in_entries}
use Rattle.pm_types.proofs.Orders.{names_total}
use Rattle.pm_law_copies.specs.Walks.Kept.{IsKeptAt}
use Rattle.pm_walk.specs.declared.walk.Found.{Found}
use Rattle.pm_walk.specs.declared.walk.Walk.{Walk}
use Rattle.pm_walk.specs.Walked.{met_in, IsKept, IsMet, LeadsTo, IsFieldAt, IsFoundAt, IsSoundWalk, Grows, IsBegun, IsDoneAt}
use Rattle.pm_walk.proofs.Lists.{not_none, all_at, found_place}
use Rattle.pm_walk.proofs.Growing.{met_grows, sound_by, met_by}

pub both_ok : {X E A B C : Type 0} (r : Result X E) → (A → B → C) → OnOk r A → OnOk r B → OnOk r C
both_ok (Ok x) f a b = f a b
both_ok (Err e) f a b = tt

-- ---- one object

-- the object to which an address leads
pub named_is : (view : SpaceView) (to at : Addr) (o : Option kept.Object) (object : kept.Object) → at ≡ resolve view to → o ≡ object_at view.cars at → o ≡ Some object → named_by view to ≡ Some object.id
named_is view to at o object is here some = ap (λ a. option_map (λ (x : kept.Object). x.id) (object_at view.cars a)) (sym is) ∙ ap (option_map (λ (x : kept.Object). x.id)) (sym here ∙ some)

-- it was met
pub named_met : (view : SpaceView) (walk : Walk) (to : Addr) (id : ℕ) → named_by view to ≡ Some id → is_some (tree.get nat_cmp walk.met id) ≡ true → IsMet view walk to
named_met view walk to id named some =
    subst (λ (n : Option ℕ). IfSome n (λ id. IsSome (get (met_in walk) id))) (sym named) (ap is_some (get_shown nat_cmp_total walk.met id) ∙ some)

none_of : {A : Type 0} (o : Option A) → is_some o ≡ false → o ≡ None
none_of None is = refl
none_of (Some x) is = cc

-- what is found where it was not met
module _ (view : SpaceView) (old new : Walk) (to : Addr) (one : Found) (sound : IsSoundWalk view old) (there : IsKept view (resolve view to)) (led : LeadsTo view old.found.items (length old.found.items) one.from one.index (resolve view to))
    (at : one.at ≡ resolve view to) (named : named_by view to ≡ Some one.id) (unmet : is_some (tree.get nat_cmp old.met one.id) ≡ false)
    (found : new.found.items ≡ old.found.items ++ one ∷ []) (met : met_in new ≡ insert (met_in old) one.id one.at) where
  fresh : get (met_in old) one.id ≡ None
  fresh = get_shown nat_cmp_total old.met one.id ∙ none_of (tree.get nat_cmp old.met one.id) unmet

  is_found : IsFoundAt view old.found.items (length old.found.items) one
  is_found = record {
    object = there.0;
    kept = subst (λ a. IsKeptAt view a there.0) (sym at) there.1;
    identity = same_Some one.id there.0.id (sym named ∙ ap (option_map (λ (x : kept.Object). x.id)) there.1.here);
    led = subst (LeadsTo view old.found.items (length old.found.items) one.from one.index) (sym at) led;
  }

  pub meets_sound : IsSoundWalk view new
  meets_sound = sound_by old new one found met fresh view sound is_found

  pub meets_to : IsMet view new to
  meets_to = met_by old new one found met fresh view sound is_found to named

-- ---- the fields of an object

pub field_stored : (view : SpaceView) (a : Addr) (object : kept.Object) (index : ℕ) (to : Addr) → object_at view.cars a ≡ Some object → slice_get object.fields index ≡ Some (Some to) → stored view (Field a index) ≡ Some to
field_stored view a object index to here is = ap (λ (o : Option kept.Object). option_flatten (option_and_then (λ (x : kept.Object). slice_get x.fields index) o)) here ∙ ap option_flatten is

flat_some : (o : Option (Option Addr)) (to : Addr) → option_flatten o ≡ Some to → o ≡ Some (Some to)
flat_some None to is = absurd (not_none to is)
flat_some (Some None) to is = absurd (not_none to is)
flat_some (Some (Some a)) to is = ap Some is

pub stored_field : (view : SpaceView) (a : Addr) (object : kept.Object) (index : ℕ) (to : Addr) → object_at view.cars a ≡ Some object → stored view (Field a index) ≡ Some to → slice_get object.fields index ≡ Some (Some to)
stored_field view a object index to here is =
    flat_some (slice_get object.fields index) to (sym (ap (λ (o : Option kept.Object). option_flatten (option_and_then (λ (x : kept.Object). slice_get x.fields index) o)) here) ∙ is)

-- what the fields before this one hold was met
abbrev pub AreMet : SpaceView → Walk → List (Option Addr) → ℕ → Type 0
AreMet view walk fields count = (index : ℕ) (to : Addr) → index < count → slice_get fields index ≡ Some (Some to) → IsMet view walk to

below_zero : (n : ℕ) → n < 0 → ⊥
below_zero n below = omega (arith, below)

pub none_met : (view : SpaceView) (walk : Walk) (fields : List (Option Addr)) → AreMet view walk fields 0
none_met view walk fields index to below is = absurd (below_zero index below)

pub split_lt : (count n : ℕ) → n < count + 1 → (n < count) ⊎ (n ≡ count)
split_lt count n below = elim (nat_lt n count) as (λ b. nat_lt n count ≡ b → (n < count) ⊎ (n ≡ count)) [
  | true ↦ λ is. inl (grind (arith, nat_tests, is))
  | false ↦ λ is. inr (grind (arith, nat_tests, is, below))
] refl

-- one field more
pub one_more_met : (view : SpaceView) (old new : Walk) (fields : List (Option Addr)) (count : ℕ) (d : Option Addr) → count < length fields → Grows old new → AreMet view old fields count → IfSome (get_or fields count d) (IsMet view new) → AreMet view new fields (count + 1)
one_more_met view old new fields count d within grows met this index to below is = elim (split_lt count index below) [
  | inl before ↦ met_grows view old new to grows (met index to before is)
  | inr last ↦
      let here : get_or fields count d ≡ Some to = same_Some (get_or fields count d) (Some to) (sym (slice_get-get_or fields count d within) ∙ ap (slice_get fields) (sym last) ∙ is) in
      subst (λ (o : Option Addr). IfSome o (IsMet view new)) here this
]

-- all fields of the object found at a place
pub all_fields_met : (view : SpaceView) (old new : Walk) (place : ℕ) (one : Found) (object : kept.Object) (fields : List (Option Addr)) (count : ℕ) → Grows old new → slice_get old.found.items place ≡ Some one → object_at view.cars one.at ≡ Some object → fields ≡ object.fields → length fields ≤ count → AreMet view new fields count
    → IsDoneAt view new place
all_fields_met view old new place one object fields count grows found here are all met other index to is holds =
    let same : one ≡ other = same_Some one other (sym (grows.found place one found) ∙ is) in
    let held = ap (λ xs. slice_get xs index) are ∙ stored_field view one.at object index to here (ap (λ (f : Found). stored view (Field f.at index)) same ∙ holds) in
    met index to (within (slice_get_within fields index (Some to) held)) held
  where
    within : {n : ℕ} → n < length fields → n < count
    within {n} below = omega (arith, all, below)

-- a field of an object that was found leads to it
pub field_leads_to : (view : SpaceView) (found : List Found) (place index : ℕ) (to : Addr) → IsFieldAt view found place index (Some to) → LeadsTo view found (length found) (Some place) index (resolve view to)
field_leads_to view found place index to it = (
  slice_get_within found place it.one it.at,
  subst (λ (o : Option Found). IsSomeAnd o (λ holder. IsSomeAnd (stored view (Field holder.at index)) (λ b. resolve view b ≡ resolve view to))) (sym it.at)
      (subst (λ (o : Option Addr). IsSomeAnd o (λ b. resolve view b ≡ resolve view to)) (sym (field_stored view it.one.at it.object index to it.here it.holds)) refl),
)

-- the object at the address of one that was found is of the copy
pub field_kept : (view : SpaceView) (walk : Walk) (place index : ℕ) (field : Option Addr) → IsSoundWalk view walk → (it : IsFieldAt view walk.found.items place index field) → IsKeptAt view it.one.at it.object
field_kept view walk place index field sound it =
    let known = sound.each place it.one it.at in
    subst (IsKeptAt view it.one.at) (same_Some known.object it.object (sym known.kept.here ∙ it.here)) known.kept

-- the fields of an object stay where they are
pub field_at : (view : SpaceView) (old new : Walk) (place : ℕ) (one : Found) (object : kept.Object) (fields : List (Option Addr)) (index : ℕ) (d : Option Addr) → Grows old new → slice_get old.found.items place ≡ Some one → object_at view.cars one.at ≡ Some object → fields ≡ object.fields → index < length fields
    → IsFieldAt view new.found.items place index (get_or fields index d)
field_at view old new place one object fields index d grows found here are within = record {
  one = one;
  object = object;
  at = grows.found place one found;
  here = here;
  holds = ap (λ xs. slice_get xs index) (sym are) ∙ slice_get-get_or fields index d within;
}

-- ---- names

-- what the names before this place stand for was met
abbrev pub AreNamesMet : SpaceView → Walk → ℕ → Type 0
AreNamesMet view walk count = (index : ℕ) (e : List ℕ × (ℕ × Addr)) → index < count → slice_get (entries view.roots) index ≡ Some e → IsMet view walk e.1.1

pub no_names_met : (view : SpaceView) (walk : Walk) → AreNamesMet view walk 0
no_names_met view walk index e below is = absurd (below_zero index below)

pub one_more_name : (view : SpaceView) (old new : Walk) (count : ℕ) (e : List ℕ × (ℕ × Addr)) → Grows old new → AreNamesMet view old count → slice_get (entries view.roots) count ≡ Some e → IsMet view new e.1.1 → AreNamesMet view new (count + 1)
one_more_name view old new count e grows met here this index other below is = elim (split_lt count index below) [
  | inl before ↦ met_grows view old new other.1.1 grows (met index other before is)
  | inr last ↦ subst (λ (x : List ℕ × (ℕ × Addr)). IsMet view new x.1.1) (same_Some e other (sym here ∙ ap (slice_get (entries view.roots)) (sym last) ∙ is)) this
]

-- the name at a place is bound
pub name_bound : (roots : Bindings) (place : ℕ) (e : List ℕ × (ℕ × Addr)) → slice_get (entries roots) place ≡ Some e → get roots e.0 ≡ Some e.1
name_bound roots place e is = all_at (λ (e : List ℕ × (ℕ × Addr)). get roots e.0 ≡ Some e.1) (entries roots) place e (in_entries names_total (λ name bound. get roots name ≡ Some bound) roots (λ name bound found. found)) is

-- and leads to what it stands for
pub name_leads_to : (view : SpaceView) (found : List Found) (place : ℕ) (e : List ℕ × (ℕ × Addr)) → slice_get (entries view.roots) place ≡ Some e → LeadsTo view found (length found) None place (resolve view e.1.1)
name_leads_to view found place e is = subst (λ (o : Option (List ℕ × (ℕ × Addr))). IsSomeAnd o (λ x. resolve view x.1.1 ≡ resolve view e.1.1)) (sym is) refl

-- all names are met
pub all_names_met : (view : SpaceView) (walk : Walk) (count : ℕ) → length (entries view.roots) ≤ count → AreNamesMet view walk count → IsBegun view walk
all_names_met view walk count all met name bound is =
    let at = found_place name_cmp name bound (entries view.roots) (sym (get-entries view.roots name) ∙ is) in
    subst (λ (b : ℕ × Addr). IsMet view walk b.1) at.3 (met at.0 at.1 (within (slice_get_within (entries view.roots) at.0 at.1 at.2)) at.2)
  where
    within : {n : ℕ} → n < length (entries view.roots) → n < count
    within {n} below = omega (arith, all, below)

-- nothing was found yet
pub nothing_found : (view : SpaceView) (walk : Walk) → walk.found.items ≡ [] → met_in walk ≡ empty → IsSoundWalk view walk
nothing_found view walk found met = record {
  each = λ place one is. absurd (not_none one (sym (at_none place) ∙ is));
  met = λ place one is. absurd (not_none one (sym (at_none place) ∙ is));
  only = λ id a is. absurd (not_none a (sym (ap (λ m. get m id) met ∙ get-empty nat_cmp id) ∙ is));
  once = λ place other one two is are same. absurd (not_none one (sym (at_none place) ∙ is));
}
  where
    at_none : (place : ℕ) → slice_get walk.found.items place ≡ None
    at_none place = ap (λ (xs : List Found). slice_get xs place) found

-- ---- all objects

-- what the objects before this place hold was met
abbrev pub AreDone : SpaceView → Walk → ℕ → Type 0
AreDone view walk count = (place : ℕ) → place < count → IsDoneAt view walk place

pub none_done : (view : SpaceView) (walk : Walk) → AreDone view walk 0
none_done view walk place below = absurd (below_zero place below)

-- what was done stays so
pub done_grows : (view : SpaceView) (old new : Walk) (place : ℕ) → place < length old.found.items → Grows old new → IsDoneAt view old place → IsDoneAt view new place
done_grows view old new place within grows done one index to is holds =
    let before = slice_get-get_or old.found.items place one within in
    let same : get_or old.found.items place one ≡ one = same_Some (get_or old.found.items place one) one (sym (grows.found place (get_or old.found.items place one) before) ∙ is) in
    met_grows view old new to grows (done one index to (before ∙ ap Some same) holds)

pub one_more_done : (view : SpaceView) (old new : Walk) (count : ℕ) → count < length old.found.items → Grows old new → AreDone view old count → IsDoneAt view new count → AreDone view new (count + 1)
one_more_done view old new count within grows done this place below = elim (split_lt count place below) [
  | inl before ↦ done_grows view old new place (less before) grows (done place before)
  | inr last ↦ subst (IsDoneAt view new) (sym last) this
]
  where
    less : {n : ℕ} → n < count → n < length old.found.items
    less {n} before = omega (arith, before, within)

-- nothing is left
pub all_done : (view : SpaceView) (walk : Walk) (count : ℕ) → length walk.found.items ≤ count → AreDone view walk count → (place : ℕ) → IsDoneAt view walk place
all_done view walk count all done place one index to is holds =
    done place (within (slice_get_within walk.found.items place one is)) one index to is holds
  where
    within : {n : ℕ} → n < length walk.found.items → n < count
    within {n} below = omega (arith, all, below)

pub begun_grows : (view : SpaceView) (old new : Walk) → Grows old new → IsBegun view old → IsBegun view new
begun_grows view old new grows begun name bound is = met_grows view old new bound.1 grows (begun name bound is)
