-- No rule of opening refuses the cars and roots of a packing.
use Rattle.std.proofs.Common.{◌≡◌, ℕ, ◌+◌, ◌<◌, ◌≤◌, false, T, List, [], ◌∷◌, map, length, Option, Some, None, is_some, refl, sym, ap, subst, ◌∙◌, arith}
use Rattle.std.specs.Prelude.{◌==◌, option_map, slice_get}
use Rattle.std.specs.List.{AllByRecursion, flat_map}
use Rattle.std.specs.Ordering.{is_lt}
use Rattle.std.specs.FinMap.{is_sorted}
use Rattle.std.proofs.lemmas.List.{length-map}
use Rattle.std.proofs.lemmas.Bool.Decides.{nat_tests}
use Rattle.pm_types.specs.declared.limits.TheConstants.{FIELDS, LAST_SLOT}
use Rattle.pm_types.specs.declared.address.Addr.{Addr}
use Rattle.pm_types.specs.declared.object.Object as stored
use Rattle.pm_types.specs.declared.object.Slot.{Slot}
use Rattle.pm_types.specs.declared.object.Slot.TheVariants.{Live}
use Rattle.pm_types.specs.Orders.{name_cmp}
use Rattle.pm_types.proofs.Orders.{names_total}
use Rattle.pm_layout.specs.Spelling.{HasCar, HasSpelling}
use Rattle.pm_model.specs.Copying.{field_id}
use Rattle.pm_image.specs.declared.car.CarImage.{CarImage}
use Rattle.pm_image.specs.CarPages.{Ascend, car_used}
use Rattle.pm_image.specs.Graphs.{slot_named}
use Rattle.pm_image.specs.Leading.{CarLeads, FieldLeads, RootLeads, SlotLeads}
use Rattle.pm_copies.specs.Accepted.{Differ, IsAccepted, IsAcceptedCar, NamesAscend, NeverFall, roots_in}
use Rattle.pm_copies.specs.Listed.{images}
use Rattle.pm_law_copies.proofs.GraphsLemmas.Lists.{all_back, all_front}
use Rattle.pm_law_copies.proofs.Lists.{all_at}
use Rattle.pm_copies.specs.Filling.{HasRoom, joined_parts}
use Rattle.pm_copies.specs.Plans.{root_entry}
use Rattle.pm_dump.specs.Dump.{Dump}
use Rattle.pm_dump.specs.Sound.{IsSoundDump, IsSoundObject}
use Rattle.pm_dump.proofs.Sorted.{below_first, sorted_below, sorted_rest}
use Rattle.pm_restore.specs.Packing.Packing.{DumpEntry, address_of, car_room, filled, packed_cars, packed_list, packed_parts, packed_roots, packed_slot, packed_slots, place_among, place_in}
use Rattle.pm_restore.proofs.PackingLemmas.Filled.{few_objects, filled_room, filled_whole, sound_alone}
use Rattle.pm_restore.proofs.PackingLemmas.Places.{later_car, placed}
use Rattle.pm_restore.proofs.PackingLemmas.Found.{place_again}
use Rattle.pm_restore.proofs.PackingLemmas.Copies.{HoldsBack, LeadsBack, all_back_held, all_back_named, packed_images}

-- ---- trains and numbers

never_fall : (least : ℕ) (cars : List CarImage) → least ≤ 1 → NeverFall least (map (λ (car : CarImage). (1, car)) cars)
never_fall least [] low = tt
never_fall least (car ∷ cars) low = (low, never_fall 1 cars (omega arith))

module _ (to : ℕ → Addr) where
  numbers_over : (number car : ℕ) (parts : List (List DumpEntry)) → number < car → AllByRecursion (λ (other : CarImage). (other.number == number) ≡ false) (packed_parts to car parts)
  numbers_over number car [] lt = tt
  numbers_over number car (part ∷ parts) lt = let apart : (car == number) ≡ false = grind (arith, nat_tests) in (apart, numbers_over number (car + 1) parts (omega (arith, lt)))

  differ : (car : ℕ) (parts : List (List DumpEntry)) → Differ (packed_parts to car parts)
  differ car [] = tt
  differ car (part ∷ parts) = (numbers_over car (car + 1) parts (omega arith), differ (car + 1) parts)

  -- ---- each car

  used_room : (slot : ℕ) (part : List DumpEntry) → car_used (packed_slots to slot part) ≡ car_room part
  used_room slot [] = refl
  used_room slot (e ∷ part) = let rest = used_room (slot + 1) part in let fields = length-map e.1.fields (option_map to) in omega (arith, rest, fields)

  ascends : (least slot : ℕ) (part : List DumpEntry) → least ≤ slot → slot + length part ≤ LAST_SLOT → Ascend least (packed_slots to slot part)
  ascends least slot [] low high = tt
  ascends least slot (e ∷ part) low high = (low, omega (arith, high), ascends (slot + 1) (slot + 1) part (omega arith) (omega (arith, high)))

  module _ (positive : (id : ℕ) → 0 < (to id).car) where
    have_cars : (fields : List (Option ℕ)) → AllByRecursion HasCar (map (option_map to) fields)
    have_cars [] = tt
    have_cars (None ∷ fields) = (tt, have_cars fields)
    have_cars (Some id ∷ fields) = (positive id, have_cars fields)

    spelled : (next slot : ℕ) (part : List DumpEntry) → AllByRecursion (λ (e : DumpEntry). IsSoundObject next e.0 e.1) part → AllByRecursion (λ (entry : ℕ × Slot). HasSpelling FIELDS entry.1) (packed_slots to slot part)
    spelled next slot [] sound = tt
    spelled next slot (e ∷ part) sound =
        let fields = length-map e.1.fields (option_map to) in
        let few = sound.0.few in
        let id = sound.0.is_id.0 in
        (record { within = (omega (arith, fields, few), sound.0.short); numbered = (omega (arith, id), have_cars e.1.fields) }, spelled next (slot + 1) part sound.1)

    accepted_cars : (next car : ℕ) (parts : List (List DumpEntry)) → 0 < car → AllByRecursion (HasRoom car_room) parts → AllByRecursion (λ (e : DumpEntry). IsSoundObject next e.0 e.1) (joined_parts parts) → AllByRecursion IsAcceptedCar (packed_parts to car parts)
    accepted_cars next car [] from_one room sound = tt
    accepted_cars next car (part ∷ parts) from_one room sound =
        let fits = room.0 in
        let used = used_room 0 part in
        let few = few_objects part in (
          record {
            from_one = from_one;
            ascend = ascends 0 0 part (omega arith) (omega (arith, few, fits));
            fits = omega (arith, used, fits);
            slots = spelled next 0 part (all_front (λ (e : DumpEntry). IsSoundObject next e.0 e.1) part (joined_parts parts) sound);
          },
          accepted_cars next (car + 1) parts (omega arith) room.1 (all_back (λ (e : DumpEntry). IsSoundObject next e.0 e.1) part (joined_parts parts) sound),
        )

  -- ---- addresses lead

  module _ (cars : List CarImage) where
    lead_fields : (fields : List (Option ℕ)) → AllByRecursion (LeadsBack cars to) (flat_map field_id fields) → AllByRecursion (FieldLeads cars) (map (option_map to) fields)
    lead_fields [] back = tt
    lead_fields (None ∷ fields) back = (tt, lead_fields fields back)
    lead_fields (Some id ∷ fields) back = (ap is_some back.0, lead_fields fields back.1)

    lead_slots : (slot : ℕ) (part : List DumpEntry) → AllByRecursion (HoldsBack cars to) part → AllByRecursion (λ (entry : ℕ × Slot). SlotLeads cars entry.1) (packed_slots to slot part)
    lead_slots slot [] back = tt
    lead_slots slot (e ∷ part) back = (lead_fields e.1.fields back.0, lead_slots (slot + 1) part back.1)

    lead_cars : (car : ℕ) (parts : List (List DumpEntry)) → AllByRecursion (HoldsBack cars to) (joined_parts parts) → AllByRecursion (CarLeads cars) (packed_parts to car parts)
    lead_cars car [] back = tt
    lead_cars car (part ∷ parts) back =
        (lead_slots 0 part (all_front (HoldsBack cars to) part (joined_parts parts) back), lead_cars (car + 1) parts (all_back (HoldsBack cars to) part (joined_parts parts) back))

    lead_roots : (roots : List (List ℕ × ℕ)) → AllByRecursion (λ (root : List ℕ × ℕ). LeadsBack cars to root.1) roots → AllByRecursion (RootLeads cars) (map root_entry (map (λ (root : List ℕ × ℕ). (root.0, to root.1)) roots))
    lead_roots [] back = tt
    lead_roots (root ∷ roots) back = (ap is_some back.0, lead_roots roots back.1)

  -- ---- names

  names_behind : (before : List ℕ × ℕ) (roots : List (List ℕ × ℕ)) → T (is_sorted name_cmp (before ∷ roots)) → NamesAscend (Some before.0) (map root_entry (map (λ (root : List ℕ × ℕ). (root.0, to root.1)) roots))
  names_behind before [] sorted = tt
  names_behind before (root ∷ roots) sorted =
      (ap is_lt (below_first names_total before.0 root roots (sorted_below names_total before (root ∷ roots) sorted)), names_behind root roots (sorted_rest names_total before (root ∷ roots) sorted))

  names_ascend : (roots : List (List ℕ × ℕ)) → T (is_sorted name_cmp roots) → NamesAscend None (map root_entry (map (λ (root : List ℕ × ℕ). (root.0, to root.1)) roots))
  names_ascend [] sorted = tt
  names_ascend (root ∷ roots) sorted = (refl, names_behind root roots sorted)

  as_many : (roots : List (List ℕ × ℕ)) → length (roots_in (map root_entry (map (λ (root : List ℕ × ℕ). (root.0, to root.1)) roots))) ≡ length roots
  as_many [] = refl
  as_many (root ∷ roots) = let rest = as_many roots in omega (arith, rest)

-- ---- objects

module _ (dump : Dump) (sound : IsSoundDump dump) where
  abbrev to : ℕ → Addr
  to = address_of dump.objects

  positive : (id : ℕ) → 0 < (to id).car
  positive id = let later = later_car 1 (filled dump.objects) (place_in dump.objects id) in omega (arith, later)

  -- where a Live slot stands, and which object it has
  pub record IsObjectAt (at : Addr) (object : stored.Object) : Type 0 where
    pub given : object.id < dump.next
    pub address : at ≡ to object.id

  same_id : (e : DumpEntry) (object : stored.Object) → Live object ≡ packed_slot to e → object.id ≡ e.0
  same_id e object is = cc

  object_at : (at : Addr) (object : stored.Object) → slot_named (packed_cars dump) at ≡ Some (Live object) → IsObjectAt at object
  object_at at object is =
      let it = placed to 1 (filled dump.objects) at (Live object) is in
      let there = ap (λ (objects : List DumpEntry). slice_get objects it.place) (sym (filled_whole dump.objects)) ∙ it.there in
      let id = same_id it.entry object it.same in
      let given = (all_at (λ (e : DumpEntry). IsSoundObject dump.next e.0 e.1) dump.objects it.place it.entry sound.objects there).is_id.1 in
      let place = place_again dump.objects sound.ascend it.place it.entry there in
      record {
        given = omega (arith, id, given);
        address = it.address ∙ ap (place_among 1 (filled dump.objects)) (sym place) ∙ ap to (sym id);
      }

  one_address : (a b : Addr) (o p : stored.Object) → slot_named (packed_cars dump) a ≡ Some (Live o) → slot_named (packed_cars dump) b ≡ Some (Live p) → o.id ≡ p.id → a ≡ b
  one_address a b o p here there same = (object_at a o here).address ∙ ap to same ∙ sym (object_at b p there).address

  held : AllByRecursion (HoldsBack (packed_cars dump) to) (joined_parts (filled dump.objects))
  held = subst (λ (objects : List DumpEntry). AllByRecursion (HoldsBack (packed_cars dump) to) objects) (sym (filled_whole dump.objects)) (all_back_held dump sound)

  all_sound : AllByRecursion (λ (e : DumpEntry). IsSoundObject dump.next e.0 e.1) (joined_parts (filled dump.objects))
  all_sound = subst (λ (objects : List DumpEntry). AllByRecursion (λ (e : DumpEntry). IsSoundObject dump.next e.0 e.1) objects) (sym (filled_whole dump.objects)) sound.objects

  pub packed_accepted : IsAccepted (packed_list dump) (packed_roots dump) dump.next
  packed_accepted =
      let cars : images (packed_list dump) ≡ packed_cars dump = packed_images dump in
      record {
        next = (sound.first, sound.last);
        trains = never_fall 0 (packed_cars dump) (omega arith);
        cars = subst (λ (cs : List CarImage). AllByRecursion IsAcceptedCar cs) (sym cars) (accepted_cars to positive dump.next 1 (filled dump.objects) (omega arith) (filled_room dump.objects (sound_alone dump.next dump.objects sound.objects)) all_sound);
        differ = subst (λ (cs : List CarImage). Differ cs) (sym cars) (differ to 1 (filled dump.objects));
        given = λ a object is. (object_at a object (sym (ap (λ (cs : List CarImage). slot_named cs a) cars) ∙ is)).given;
        apart = λ a b o p here there same. one_address a b o p (sym (ap (λ (cs : List CarImage). slot_named cs a) cars) ∙ here) (sym (ap (λ (cs : List CarImage). slot_named cs b) cars) ∙ there) same;
        lead = subst (λ (cs : List CarImage). AllByRecursion (CarLeads cs) cs) (sym cars) (lead_cars to (packed_cars dump) 1 (filled dump.objects) held);
        roots = subst (λ (cs : List CarImage). AllByRecursion (RootLeads cs) (packed_roots dump)) (sym cars) (lead_roots to (packed_cars dump) dump.roots (all_back_named dump sound));
        names = names_ascend to dump.roots sound.names;
        few = (let few = sound.few in let many = as_many to dump.roots in omega (arith, few, many));
      }
