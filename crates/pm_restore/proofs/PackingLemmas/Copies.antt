-- The copy of a packing is the dump's.
use Rattle.std.proofs.Common.{◌≡◌, ℕ, ◌+◌, T, List, [], ◌∷◌, ◌++◌, map, Option, Some, None, refl, sym, ap, subst, ◌∙◌}
use Rattle.std.specs.Prelude.{option_map, slice_get}
use Rattle.std.specs.List.{AllByRecursion, flat_map}
use Rattle.std.specs.Cmp.{IsTotalOrder, nat_cmp_total}
use Rattle.std.specs.Ordering.{nat_cmp}
use Rattle.std.specs.declared.cmp.Ordering.{Ordering}
use Rattle.std.specs.FinMap.{IsAntisymmetric, find, is_sorted, from_entries, from_sorted, get-from_entries, get-from_sorted, same_map, nat_cmp-IsAntisymmetric}
use Rattle.pm_types.specs.declared.address.Addr.{Addr}
use Rattle.pm_types.specs.Orders.{name_cmp}
use Rattle.pm_types.proofs.Orders.{names_total, names_antisymmetric}
use Rattle.pm_model.specs.Heap.{Object}
use Rattle.pm_model.specs.Copying.{copied, field_id, held_ids}
use Rattle.pm_image.specs.declared.car.CarImage.{CarImage}
use Rattle.pm_image.specs.Graphs.{heap_of, identity_through, listed_root, named_root, objects_in, resolved, resolved_field, roots_of, slot_named}
use Rattle.pm_copies.specs.Listed.{copy_listed, images}
use Rattle.pm_law_copies.proofs.GraphsLemmas.Lists.{all_back, all_follow, all_front}
use Rattle.pm_copies.specs.Filling.{joined_parts}
use Rattle.pm_copies.specs.Plans.{root_entry}
use Rattle.pm_dump.specs.Dump.{Dump, copy_of_dump}
use Rattle.pm_dump.specs.Sound.{IsListed, IsSoundDump}
use Rattle.pm_restore.specs.Packing.Packing.{DumpEntry, address_of, filled, packed_cars, packed_list, packed_parts, packed_roots, packed_slot, packed_slots, place_in, place_of}
use Rattle.pm_restore.proofs.PackingLemmas.Filled.{filled_whole}
use Rattle.pm_restore.proofs.PackingLemmas.Places.{at_place}
use Rattle.pm_restore.proofs.PackingLemmas.Found.{found_of, place_found}

-- at the address of a place stands the object of that place
pub slot_there : (dump : Dump) (place : ℕ) → slot_named (packed_cars dump) (place_of dump.objects place) ≡ option_map (packed_slot (address_of dump.objects)) (slice_get dump.objects place)
slot_there dump place =
    at_place (address_of dump.objects) 1 (filled dump.objects) place
    ∙ ap (λ (objects : List DumpEntry). option_map (packed_slot (address_of dump.objects)) (slice_get objects place)) (filled_whole dump.objects)

-- the address of an identity leads to it
pub leads_back : (dump : Dump) (id : ℕ) (object : Object) → find nat_cmp id dump.objects ≡ Some object → resolved (packed_cars dump) (address_of dump.objects id) ≡ Some id
leads_back dump id object found =
    ap (identity_through (packed_cars dump))
    (slot_there dump (place_in dump.objects id) ∙ ap (option_map (packed_slot (address_of dump.objects))) (place_found dump.objects id object found))

pub listed_back : (dump : Dump) (id : ℕ) → IsListed dump.objects id → resolved (packed_cars dump) (address_of dump.objects id) ≡ Some id
listed_back dump id listed = let it = found_of (find nat_cmp id dump.objects) listed in leads_back dump id it.0 it.1

-- ---- what stands in cars where each address leads back

module _ (cars : List CarImage) (to : ℕ → Addr) where
  abbrev pub LeadsBack : ℕ → Type 0
  LeadsBack id = resolved cars (to id) ≡ Some id

  abbrev pub HoldsBack : DumpEntry → Type 0
  HoldsBack e = AllByRecursion LeadsBack (held_ids e.1)

  fields_again : (fields : List (Option ℕ)) → AllByRecursion LeadsBack (flat_map field_id fields) → map (resolved_field cars) (map (option_map to) fields) ≡ fields
  fields_again [] back = refl
  fields_again (None ∷ fields) back = ap (λ (rest : List (Option ℕ)). None ∷ rest) (fields_again fields back)
  fields_again (Some id ∷ fields) back = λ i. back.0 i ∷ fields_again fields back.1 i

  objects_again : (slot : ℕ) (part : List DumpEntry) → AllByRecursion HoldsBack part → objects_in cars (packed_slots to slot part) ≡ part
  objects_again slot [] back = refl
  objects_again slot (e ∷ part) back =
      let fields = fields_again e.1.fields back.0 in
      let rest = objects_again (slot + 1) part back.1 in
      λ i. (e.0, record { fields = fields i; bytes = e.1.bytes }) ∷ rest i

  parts_again : (car : ℕ) (parts : List (List DumpEntry)) → AllByRecursion HoldsBack (joined_parts parts) → flat_map (λ (c : CarImage). objects_in cars c.slots) (packed_parts to car parts) ≡ joined_parts parts
  parts_again car [] back = refl
  parts_again car (part ∷ parts) back =
      let here = objects_again 0 part (all_front HoldsBack part (joined_parts parts) back) in
      let rest = parts_again (car + 1) parts (all_back HoldsBack part (joined_parts parts) back) in
      λ i. here i ++ rest i

  roots_again : (roots : List (List ℕ × ℕ)) → AllByRecursion (λ (root : List ℕ × ℕ). LeadsBack root.1) roots → flat_map (listed_root cars) (map root_entry (map (λ (root : List ℕ × ℕ). (root.0, to root.1)) roots)) ≡ roots
  roots_again [] back = refl
  roots_again (root ∷ roots) back =
      let rest = roots_again roots back.1 in
      λ i. named_root root.0 (back.0 i) ++ rest i

-- each identity that is held or named leads back
pub all_back_held : (dump : Dump) → IsSoundDump dump → AllByRecursion (HoldsBack (packed_cars dump) (address_of dump.objects)) dump.objects
all_back_held dump sound =
    all_follow (λ (e : DumpEntry). AllByRecursion (IsListed dump.objects) (held_ids e.1)) (HoldsBack (packed_cars dump) (address_of dump.objects)) dump.objects
    (λ e held. all_follow (IsListed dump.objects) (LeadsBack (packed_cars dump) (address_of dump.objects)) (held_ids e.1) (listed_back dump) held) sound.fields

pub all_back_named : (dump : Dump) → IsSoundDump dump → AllByRecursion (λ (root : List ℕ × ℕ). LeadsBack (packed_cars dump) (address_of dump.objects) root.1) dump.roots
all_back_named dump sound =
    all_follow (λ (root : List ℕ × ℕ). IsListed dump.objects root.1) (λ (root : List ℕ × ℕ). LeadsBack (packed_cars dump) (address_of dump.objects) root.1) dump.roots
    (λ root listed. listed_back dump root.1 listed) sound.roots

-- ---- the copy

-- entries in order make one map, however it is made of them
made_of_sorted : {K X : Type 0} {R : K → K → Ordering} → IsTotalOrder R → IsAntisymmetric R → (es : List (K × X)) → T (is_sorted R es) → from_entries {R = R} es ≡ from_sorted {R = R} es
made_of_sorted {R = R} o same es sorted = same_map o same (from_entries {R = R} es) (from_sorted {R = R} es) (λ q. get-from_entries o es q ∙ sym (get-from_sorted R es q sorted))

in_train : (cars : List CarImage) → images (map (λ (car : CarImage). (1, car)) cars) ≡ cars
in_train [] = refl
in_train (car ∷ cars) = ap (λ (rest : List CarImage). car ∷ rest) (in_train cars)

pub packed_images : (dump : Dump) → images (packed_list dump) ≡ packed_cars dump
packed_images dump = in_train (packed_cars dump)

heap_again : (dump : Dump) → IsSoundDump dump → heap_of (packed_cars dump) ≡ (copy_of_dump dump).heap
heap_again dump sound =
    let to = address_of dump.objects in
    let cars = packed_cars dump in
    let whole = filled_whole dump.objects in
    let held = subst (λ (objects : List DumpEntry). AllByRecursion (HoldsBack cars to) objects) (sym whole) (all_back_held dump sound) in
    ap (λ (objects : List DumpEntry). from_entries {R = nat_cmp} objects) (parts_again cars to 1 (filled dump.objects) held ∙ whole)
    ∙ made_of_sorted nat_cmp_total nat_cmp-IsAntisymmetric dump.objects sound.ascend

named_again : (dump : Dump) → IsSoundDump dump → roots_of (packed_cars dump) (packed_roots dump) ≡ (copy_of_dump dump).roots
named_again dump sound =
    ap (λ (roots : List (List ℕ × ℕ)). from_entries {R = name_cmp} roots) (roots_again (packed_cars dump) (address_of dump.objects) dump.roots (all_back_named dump sound))
    ∙ made_of_sorted names_total names_antisymmetric dump.roots sound.names

pub copy_packed : (dump : Dump) → IsSoundDump dump → copy_listed (packed_list dump) (packed_roots dump) dump.next ≡ copied (copy_of_dump dump).heap (copy_of_dump dump).roots dump.next
copy_packed dump sound =
    ap (λ (cars : List CarImage). copied (heap_of cars) (roots_of cars (packed_roots dump)) dump.next) (packed_images dump)
    ∙ (λ i. copied (heap_again dump sound i) (named_again dump sound i) dump.next)
