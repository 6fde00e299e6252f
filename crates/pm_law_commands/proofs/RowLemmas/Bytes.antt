-- Bytes that are changed keep the heap law, and what the space stands for but for these bytes.
use Rattle.std.proofs.Common.{◌≡◌, inr, ℕ, ◌+◌, ◌≤◌, Bool, true, false, cond, refl, ap, sym, subst, ◌∙◌, List, ◌++◌, length, take, drop, Option, Some, None, arith}
use Rattle.std.specs.Option.{IsSomeAnd, option_map, option_flatten}
use Rattle.std.specs.List.{slice_get}
use Rattle.std.specs.FinMap.{get}
use Rattle.std.proofs.lemmas.Grind.{common_steps}
use Rattle.pm_types.specs.declared.address.Addr.{Addr}
use Rattle.pm_types.specs.declared.object.Object as stored_objects
use Rattle.pm_types.specs.declared.source.RefSource.{RefSource}
use Rattle.pm_types.specs.declared.source.RefSource.TheVariants.{Root, Handle, Field}
use Rattle.pm_cars.specs.Cars as cars
use Rattle.pm_model.specs.Heap.{Object, with_bytes}
use Rattle.pm_model.specs.World.{World, changing}
use Rattle.pm_view.specs.Sources.{same_address}
use Rattle.pm_view.specs.View.{SpaceView}
use Rattle.pm_view.specs.Reading.{object_at, field_of, stored, is_aside}
use Rattle.pm_view.specs.Seen.{seen, IsTied}
use Rattle.pm_view.specs.Law.{HeapLaw}
use Rattle.pm_view.specs.Represents.{meaning, Represents}
use Rattle.pm_view.specs.Rows.{with_bytes_at, HasBytesAt}
use Rattle.pm_law_commands.proofs.RowLemmas.SameSource.{same_address-true}
use Rattle.pm_law_commands.proofs.RowLemmas.Places.{object_after}
use Rattle.pm_law_commands.proofs.RowLemmas.Spread.{look_after}
use Rattle.pm_law_commands.proofs.RowLemmas.Shapes.{IsShaped}
use Rattle.pm_law_commands.proofs.RowLemmas.Built.{IsReshaped, built_still, phase_still, anchor_still}
use Rattle.pm_law_commands.proofs.RowLemmas.SpreadKept.{reshaped_object}
use Rattle.pm_law_commands.proofs.RowLemmas.SpreadMeans.{changed_stands}

bytes_fit : (o : Option stored_objects.Object) (object : stored_objects.Object) (n : ℕ) → IsSomeAnd o (λ (object : stored_objects.Object). n ≤ length object.bytes) → o ≡ Some object → n ≤ length object.bytes
bytes_fit None object n fit is = cc
bytes_fit (Some it) object n fit is = subst (λ (o : stored_objects.Object). n ≤ length o.bytes) (let same : it ≡ object = cc in same) fit

pub bytes_shaped : (object : stored_objects.Object) (at : ℕ) (from : List ℕ) → at + length from ≤ length object.bytes → IsShaped object (cars.with_bytes object at from)
bytes_shaped object at from inside = record {
  id = refl;
  fields = refl;
  bytes = let same : length (take at object.bytes ++ (from ++ drop (at + length from) object.bytes)) ≡ length object.bytes = grind (arith, common_steps) in same;
}

same_fields : (b : Bool) (change : stored_objects.Object → stored_objects.Object) (o p : Option stored_objects.Object) (i : ℕ) → ((object : stored_objects.Object) → (change object).fields ≡ object.fields) → (b ≡ true → o ≡ p)
    → field_of (cond b (option_map change o) p) i ≡ field_of p i
same_fields true change None p i same is = ap (λ o. field_of o i) (is refl)
same_fields true change (Some object) p i same is = ap (λ fields. option_flatten (slice_get fields i)) (same object) ∙ ap (λ o. field_of o i) (is refl)
same_fields false change o p i same is = refl

module _ (view : SpaceView) (a : Addr) (at : ℕ) (bytes : List ℕ) (law : HeapLaw view) (has : HasBytesAt view.cars a at (length bytes)) where
  abbrev pub t : SpaceView
  t = with_bytes_at view a at bytes

  abbrev change : stored_objects.Object → stored_objects.Object
  change object = cars.with_bytes object at bytes

  same : IsReshaped view t
  same = reshaped_object view a change (λ object is. bytes_shaped object at bytes (bytes_fit (object_at view.cars a) object (at + length bytes) has is))

  stored_same : (x : RefSource) → stored t x ≡ stored view x
  stored_same (Root n) = refl
  stored_same (Handle c r) = refl
  stored_same (Field b i) =
      ap (λ o. field_of o i) (object_after view.cars a change b)
      ∙ same_fields (same_address a b) change (object_at view.cars a) (object_at view.cars b) i (λ object. refl) (λ is. ap (object_at view.cars) (same_address-true a b is))

  seen_same : seen t ≡ seen view
  seen_same = λ i. record { stored = λ x. stored_same x i; aside = is_aside view; look = λ b. look_after view.cars a change b i; from = (seen view).from; effective = (seen view).effective }

  -- bytes that are changed keep the heap law
  pub bytes_keep_law : HeapLaw t
  bytes_keep_law = record {
    built = built_still view t same law.built;
    named = record { numbers = law.named.numbers; few = law.named.few; registers = law.named.registers };
    tied = subst IsTied (sym seen_same) law.tied;
    phase = phase_still view t same law.phase;
    anchor = anchor_still view t same law.anchor;
  }

  -- and what the world's object has is changed in the same way
  pub bytes_stand : (world : World) (o : stored_objects.Object) (it : Object) → Represents view world → object_at view.cars a ≡ Some o → is_aside view a.car ≡ false → get world.heap o.id ≡ Some it → Represents t (changing world o.id (with_bytes it at bytes))
  bytes_stand world o it stands here kept is_it =
      let means_it : it ≡ meaning view o = stands.objects a o it kept here is_it in
      changed_stands view t world a o (change o) it (with_bytes it at bytes) law bytes_keep_law stands
      (record {
        same = same;
        roots = refl;
        registers = refl;
        here = here;
        kept = kept;
        id = refl;
        object = λ b. object_after view.cars a change b ∙ ap (λ p. cond (same_address a b) (option_map change p) (object_at view.cars b)) here;
        has = is_it;
        meaning = ap (λ k. with_bytes k at bytes) means_it;
        known = λ id held. inr held;
      })
      refl
