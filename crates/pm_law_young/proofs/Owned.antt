-- A nursery is a part of its world; and at the opening it is none.
use Rattle.std.proofs.Common.{◌≡◌, ℕ, Bool, true, false, if◌then◌else◌, List, Option, Some, None, refl, sym, ap, ◌∙◌, is_some}
use Rattle.std.specs.Option.{IsSome, IsSomeAnd}
use Rattle.std.specs.List.{Contains, slice_get}
use Rattle.std.specs.Ordering.{nat_cmp}
use Rattle.std.specs.FinMap.{get, get-empty}
use Rattle.std.proofs.lemmas.Option.{slice_get-get_or}
use Rattle.pm_types.specs.Orders.{place_cmp}
use Rattle.pm_model.specs.Heap.{Object, Heap, field_of}
use Rattle.pm_model.specs.World.{World}
use Rattle.pm_model.specs.Closed.{IsClosed}
use Rattle.pm_nursery.specs.Young.{NurseryView, IsNursery, IsYoung, if_young, no_nursery, or_else}
use Rattle.pm_nursery.proofs.Parts.{found_of, none_some}

-- a test that says yes, and one that says no
picked_if : (objects : Heap) (id : ℕ) (b : Bool) → is_some (get objects id) ≡ b → if_young objects (Some id) ≡ (if b then Some id else None)
picked_if objects id b is = ap (λ (b : Bool). if b then Some id else None) is

none_there : {A : Type 0} (o : Option A) → (IsSome o → ⊥) → is_some o ≡ false
none_there None not = refl
none_there (Some x) not = absurd (not refl)

module _ (within world : World) (nursery : NurseryView) (is : IsYoung within nursery world) (sound : IsNursery nursery) where
  pub registers_young : (place : ℕ × ℕ) → get nursery.registers place ≡ if_young nursery.objects (get world.registers place)
  registers_young place = by (get nursery.registers place) (get within.registers place) refl refl ∙ ap (if_young nursery.objects) (sym (is.registers place))
    where
      by : (n w : Option ℕ) → get nursery.registers place ≡ n → get within.registers place ≡ w → n ≡ if_young nursery.objects (or_else n w)
      by (Some id) w here there = sym (picked_if nursery.objects id true (sound.held id (place, here)))
      by None None here there = refl
      by None (Some id) here there =
          let inside = found_of (get within.heap id) (is.held place id there) in
          sym (picked_if nursery.objects id false (none_there (get nursery.objects id) (λ young. none_some (get within.heap id) inside.0 (is.apart id young) inside.1)))

-- ---- the opening

at_index : {X : Type 0} (xs : List X) (x : X) → Contains xs x → (index : ℕ) × (slice_get xs index ≡ Some x)
at_index xs x within = (within.0, slice_get-get_or xs within.0 x within.1 ∙ ap Some within.2)

field_there : (o : Option Object) (to : ℕ) → IsSomeAnd o (λ object. Contains object.fields (Some to)) → (index : ℕ) × (field_of o index ≡ Some (Some to))
field_there None to holds = absurd holds
field_there (Some object) to holds = at_index object.fields (Some to) holds

pub opening_young : (world : World) → IsClosed world → IsYoung world no_nursery world
opening_young world closed = record {
  rest = refl;
  registers = λ place. ap (λ (n : Option ℕ). or_else n (get world.registers place)) (sym (get-empty place_cmp place));
  vacant = λ place id here. absurd (none_some (get no_nursery.registers place) id (get-empty place_cmp place) here);
  inside = λ id object here. here;
  young = λ id object here. absurd (none_some (get no_nursery.objects id) object (get-empty nat_cmp id) here);
  apart = λ id there. let object = found_of (get no_nursery.objects id) there in absurd (none_some (get no_nursery.objects id) object.0 (get-empty nat_cmp id) object.1);
  roots = closed.graph.named;
  held = λ place id here. closed.registers place.0 place.1 id here;
  fields = λ from to holds. let field = field_there (get world.heap from) to holds in closed.graph.fields from field.0 to field.1;
}
