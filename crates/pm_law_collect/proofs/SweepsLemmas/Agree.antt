-- A space whose places in cars that were not set aside are as before means what it meant.
use Rattle.std.proofs.Common.{◌≡◌, ℕ, suc, ◌+◌, true, false, not, refl, ap, sym, ◌∙◌, List, [], ◌∷◌, map, Option, Some, None, arith}
use Rattle.std.specs.Option.{option_map, option_and_then, option_flatten}
use Rattle.std.specs.List.{slice_get}
use Rattle.std.specs.FinMap.{get}
use Rattle.pm_types.specs.declared.address.Addr.{Addr}
use Rattle.pm_types.specs.declared.object.Object.{Object}
use Rattle.pm_types.specs.declared.object.Slot.{Slot}
use Rattle.pm_types.specs.declared.object.Slot.TheVariants.{Live, Moved}
use Rattle.pm_types.specs.declared.source.RefSource.{RefSource}
use Rattle.pm_types.specs.declared.source.RefSource.TheVariants.{Root, Handle, Field}
use Rattle.pm_cars.specs.Cars.{object_of, look_of}
use Rattle.pm_view.specs.View.{SpaceView}
use Rattle.pm_view.specs.Reading.{slot_at, object_at, field_of, stored, is_aside, followed, id_at, named_by}
use Rattle.pm_view.specs.Seen.{seen, kept}
use Rattle.pm_view.specs.Seen as seen_words
use Rattle.pm_view.specs.Law.{HeapLaw}
use Rattle.pm_view.specs.Represents.{names, meaning}
use Rattle.pm_law_commands.proofs.RowLemmas.Numbers.{found_by_number}
use Rattle.pm_law_collect.proofs.PhasesLemmas.MeansSame.{MeansSame}

pub record Agrees (view t : SpaceView) : Type 0 where
  pub slot : (a : Addr) → is_aside view a.car ≡ false → slot_at t.cars a ≡ slot_at view.cars a
  pub free : (a : Addr) (o : Object) → is_aside t a.car ≡ false → object_at t.cars a ≡ Some o → is_aside view a.car ≡ false
  pub roots : t.roots ≡ view.roots
  pub registers : t.registers ≡ view.registers
  pub next : t.next ≡ view.next

module _ (view t : SpaceView) (law : HeapLaw view) (same : Agrees view t) where
  id_there : (a : Addr) (o : Option Slot) → slot_at view.cars a ≡ o → is_aside view a.car ≡ false → seen_words.Leads (seen view) a (look_of o) → id_at t (followed o a) ≡ id_at view (followed o a)
  id_there a None is free leads = absurd leads
  id_there a (Some (Live object)) is free leads = ap (λ o. option_map (λ (o : Object). o.id) (object_of o)) (same.slot a free)
  id_there a (Some (Moved to)) is free leads = ap (λ o. option_map (λ (o : Object). o.id) (object_of o)) (same.slot to leads.1.1)

  -- an address that a kept source stores names the object that it named
  pub named_there : (x : RefSource) (a : Addr) → kept (seen view) x ≡ true → stored view x ≡ Some a → named_by t a ≡ named_by view a
  named_there x a up is =
      let leads = law.tied.leads x a up is in
      ap (λ o. id_at t (followed o a)) (same.slot a leads.0) ∙ id_there a (slot_at view.cars a) refl leads.0 leads.1

  names_there : (x : RefSource) (o : Option Addr) → kept (seen view) x ≡ true → stored view x ≡ o → names t o ≡ names view o
  names_there x None up is = refl
  names_there x (Some a) up is = named_there x a up is

  item_names : (fields : List (Option Addr)) (a : Addr) (n : ℕ) → ((i : ℕ) → (f : Option Addr) → slice_get fields i ≡ Some f → stored view (Field a (n + i)) ≡ f) → is_aside view a.car ≡ false → map (names t) fields ≡ map (names view) fields
  item_names [] a n stored_at free = refl
  item_names (f ∷ fields) a n stored_at free = λ j.
      names_there (Field a (n + 0)) f (ap not free) (stored_at 0 f refl) j
      ∷ item_names fields a (n + 1) (λ i g is. ap (λ m. stored view (Field a m)) (let same : n + 1 + i ≡ n + suc i = omega arith in same) ∙ stored_at (suc i) g is) free j

  pub meaning_there : (a : Addr) (o : Object) → object_at view.cars a ≡ Some o → is_aside view a.car ≡ false → meaning t o ≡ meaning view o
  meaning_there a o is free = λ j. record {
    fields = item_names o.fields a 0 (λ i f found. ap (λ m. stored view (Field a m)) (let same : 0 + i ≡ i = omega arith in same) ∙ ap (λ q. field_of q i) is ∙ ap option_flatten found) free j;
    bytes = o.bytes;
  }

  root_there : (name : List ℕ) (o : Option (ℕ × Addr)) → get view.roots name ≡ o → option_and_then (λ (bound : ℕ × Addr). named_by t bound.1) o ≡ option_and_then (λ (bound : ℕ × Addr). named_by view bound.1) o
  root_there name None is = refl
  root_there name (Some bound) is = named_there (Root bound.0) bound.1 refl (found_by_number view.roots law.named.numbers name bound is)

  -- so it means what it meant
  pub agrees_means : MeansSame view t
  agrees_means = record {
    roots = λ name. ap (λ m. option_and_then (λ (bound : ℕ × Addr). named_by t bound.1) (get m name)) same.roots ∙ root_there name (get view.roots name) refl;
    registers = λ place. ap (λ m. names t (get m place)) same.registers ∙ names_there (Handle place.0 place.1) (get view.registers place) refl refl;
    next = same.next;
    objects = λ a object free found.
        let was = same.free a object free found in
        let there : object_at view.cars a ≡ Some object = sym (ap object_of (same.slot a was)) ∙ found in
        record { at = a; was = object; kept = was; there = there; id = refl; meaning = meaning_there a object there was };
  }
