-- The copy of a store is within the limits of a dump.
use Rattle.std.proofs.Common.{◌≡◌, ◌<◌, ◌≤◌, ℕ, zero, suc, ◌+◌, Bool, true, false, cond, List, [], ◌∷◌, ◌++◌, map, length, Option, Some, None, refl, sym, subst, ◌∙◌, arith}
use Rattle.std.specs.Prelude.{◌-◌, ◌*◌, drop, replicate}
use Rattle.std.specs.List.{AllByRecursion, flat_map}
use Rattle.std.specs.Option.{option_and_then}
use Rattle.std.specs.Ordering.{eq_by_cmp}
use Rattle.std.specs.FinMap.{contains_key, find, from_entries, get, len, len-empty, len-insert}
use Rattle.std.proofs.lemmas.List.{length-map}
use Rattle.std.proofs.lemmas.Map.Views.{tells_apart}
use Rattle.hex.specs.Hex.{IsBytes}
use Rattle.byteorder.specs.Endian.{big_bytes}
use Rattle.pm_types.specs.declared.limits.TheConstants.{FIELDS, OBJECT_BYTES, PAGE_BYTES}
use Rattle.pm_types.specs.declared.address.Addr.{Addr}
use Rattle.pm_types.specs.declared.object.Object as kept
use Rattle.pm_types.specs.declared.object.Slot.{Slot}
use Rattle.pm_types.specs.declared.object.Slot.TheVariants.{Live, Moved}
use Rattle.pm_types.specs.Names.{IsName}
use Rattle.pm_types.specs.Orders.{name_cmp}
use Rattle.pm_types.proofs.Orders.{names_antisymmetric, names_total}
use Rattle.pm_layout.specs.Spelling.{HasSpelling, field, spelling}
use Rattle.pm_layout.proofs.Numbers.{IsBytes-drop, IsBytes-take}
use Rattle.pm_model.specs.Heap.{Object}
use Rattle.pm_model.specs.World.{Copy}
use Rattle.pm_model.proofs.ClosedLaws.{copied_closed}
use Rattle.pm_model.proofs.Reached.{copied_kept}
use Rattle.pm_image.specs.declared.car.CarImage.{CarImage}
use Rattle.pm_image.specs.declared.catalog.CatEntry.{CatEntry}
use Rattle.pm_image.specs.declared.catalog.CatEntry.TheVariants.{Car, Root}
use Rattle.pm_image.specs.declared.settled.KeptPage.{KeptPage}
use Rattle.pm_image.specs.CarAnswers.{AreBytes}
use Rattle.pm_image.specs.CarPages.{Ascend, car_magic, car_spelling, padded, record_spelling}
use Rattle.pm_image.specs.Graphs.{entries_of, heap_of, images_of, listed_root, named_root, resolved, resolved_field, roots_of, slot_named}
use Rattle.pm_image.specs.Opening.{page_of}
use Rattle.pm_image.specs.Stands.{StandsForCopy, pages_of}
use Rattle.pm_copies.specs.Listed.{Listed, copy_listed, images}
use Rattle.pm_copies.specs.Accepted as accepted
use Rattle.pm_copies.specs.Accepted.{IsAccepted, roots_in}
use Rattle.pm_copies.specs.Opened.{listed_graph}
use Rattle.pm_copies.specs.Entries.{listed_names}
use Rattle.pm_copies.specs.Spelled.{IsCarSpelled}
use Rattle.pm_law_copies.proofs.GraphsLemmas.Found.{opened_spelled}
use Rattle.pm_law_copies.proofs.GraphsLemmas.Lists.{all_back, all_front}
use Rattle.pm_law_copies.proofs.Lists.{all_weaker}
use Rattle.pm_law_copies.proofs.Naming.{all_named}
use Rattle.pm_law_copies.proofs.Objects as heaps
use Rattle.pm_law_copies.proofs.CopyOf.{root_of_copy}
use Rattle.pm_law_copies.proofs.Found.{graph_listed}
use Rattle.pm_law_copies.proofs.FoundStore.{store_accepted, store_copy, store_found}
use Rattle.pm_law_saving.proofs.ServingLemmas.Opening.{graph_closed}
use Rattle.pm_dump.specs.Sound.{IsCopyInRange}

-- ---- bytes, one by one and by their places

abbrev pub IsByte : ℕ → Type 0
IsByte byte = byte < 256

each_byte : (bytes : List ℕ) → IsBytes bytes → AllByRecursion IsByte bytes
each_byte [] are = tt
each_byte (byte ∷ bytes) are = (are 0, each_byte bytes (λ place. are (suc place)))

by_place : (bytes : List ℕ) → AllByRecursion IsByte bytes → IsBytes bytes
by_place [] all place = omega arith
by_place (byte ∷ bytes) all zero = all.0
by_place (byte ∷ bytes) all (suc place) = by_place bytes all.1 place

-- ---- the bytes of objects

-- the bytes of an object in a slot are numbers of a byte
abbrev pub HasBytes : ℕ × Slot → Type 0
HasBytes (number, Live object) = AllByRecursion IsByte object.bytes
HasBytes (number, Moved to) = Unit {0}

slot_bytes : (number : ℕ) (slot : Slot) → AllByRecursion IsByte (spelling slot) → HasBytes (number, slot)
unfolding spelling
slot_bytes number (Live o) all =
    let last = flat_map field o.fields ++ o.bytes in
    let third = big_bytes 2 (length o.bytes) ++ last in
    let second = big_bytes 2 (length o.fields) ++ third in
    all_back IsByte (flat_map field o.fields) o.bytes
    (all_back IsByte (big_bytes 2 (length o.bytes)) last (all_back IsByte (big_bytes 2 (length o.fields)) third (all_back IsByte (big_bytes 8 o.id) second all.1)))
slot_bytes number (Moved to) all = tt

records_bytes : (slots : List (ℕ × Slot)) → AllByRecursion IsByte (flat_map record_spelling slots) → AllByRecursion HasBytes slots
records_bytes [] all = tt
records_bytes ((number, slot) ∷ slots) all = (
  slot_bytes number slot (all_back IsByte (big_bytes 4 number) (spelling slot) (all_front IsByte (record_spelling (number, slot)) (flat_map record_spelling slots) all)),
  records_bytes slots (all_back IsByte (record_spelling (number, slot)) (flat_map record_spelling slots) all),
)

car_bytes : (car : CarImage) → AllByRecursion IsByte (padded (car_spelling car)) → AllByRecursion HasBytes car.slots
unfolding car_spelling
car_bytes car all =
    let last = flat_map record_spelling car.slots in
    let second = big_bytes 2 (length car.slots) ++ last in
    let first = big_bytes 8 car.number ++ second in
    records_bytes car.slots
    (all_back IsByte (big_bytes 2 (length car.slots)) last (all_back IsByte (big_bytes 8 car.number) second (all_back IsByte car_magic first
    (all_front IsByte (car_spelling car) (replicate (PAGE_BYTES - length (car_spelling car)) 0) all))))

page_bytes : (bytes : List ℕ) (page : ℕ) → IsBytes bytes → IsBytes (page_of bytes page)
page_bytes bytes page are = IsBytes-take PAGE_BYTES (drop (PAGE_BYTES * page) bytes) (IsBytes-drop (PAGE_BYTES * page) bytes are)

cars_bytes : (bytes : List ℕ) (most : ℕ) (cars : List KeptPage) → IsBytes bytes → AllByRecursion (IsCarSpelled (pages_of bytes) most) cars
    → AllByRecursion (λ (car : CarImage). AllByRecursion HasBytes car.slots) (map (λ (kept : KeptPage). kept.image) cars)
cars_bytes bytes most [] are all = tt
cars_bytes bytes most (kept ∷ cars) are all =
    (car_bytes kept.image (subst (AllByRecursion IsByte) all.0.spelled (each_byte (page_of bytes kept.page) (page_bytes bytes kept.page are))), cars_bytes bytes most cars are all.1)

-- ---- names

named_found : (entries : List CatEntry) (name : List ℕ) (at : Addr) → AllByRecursion IsName (listed_names entries) → find name_cmp name (roots_in entries) ≡ Some at → IsName name
named_found [] name at all found = cc
named_found (Car car train page digest ∷ entries) name at all found = named_found entries name at all found
named_found (Root other to ∷ entries) name at all found = elim (eq_by_cmp name_cmp name other) as (λ b. eq_by_cmp name_cmp name other ≡ b → cond b (Some to) (find name_cmp name (roots_in entries)) ≡ Some at → IsName name) [
  | true ↦ λ tied found. subst IsName (sym (tells_apart names_antisymmetric name other tied)) all.0
  | false ↦ λ apart found. named_found entries name at all.1 found
] refl found

few_entries : {X : Type 0} (es : List (List ℕ × X)) → len (from_entries {R = name_cmp} es) ≤ length es
few_entries {X = X} [] = let none = len-empty name_cmp X in omega (arith, none)
few_entries (e ∷ es) = subst (λ n. n ≤ suc (length es)) (sym (len-insert names_total (from_entries {R = name_cmp} es) e.0 e.1)) (one_more (contains_key (from_entries {R = name_cmp} es) e.0) (len (from_entries {R = name_cmp} es)) (length es) (few_entries es))
  where
    one_more : (b : Bool) (n m : ℕ) → n ≤ m → cond b n (n + 1) ≤ suc m
    one_more true n m few = omega (arith, few)
    one_more false n m few = omega (arith, few)

few_roots : (cars : List CarImage) (entries : List CatEntry) → length (flat_map (listed_root cars) entries) ≤ length (roots_in entries)
few_roots cars [] = omega arith
few_roots cars (Car car train page digest ∷ entries) = few_roots cars entries
few_roots cars (Root name at ∷ entries) = by (resolved cars at) (few_roots cars entries)
  where
    by : (o : Option ℕ) → length (flat_map (listed_root cars) entries) ≤ length (roots_in entries)
        → length (named_root name o ++ flat_map (listed_root cars) entries) ≤ suc (length (roots_in entries))
    by None few = omega (arith, few)
    by (Some id) few = omega (arith, few)

-- what a name stands for is what its address leads to
root_found : (cars : List CarImage) (found : Option Addr) (id : ℕ) → option_and_then (resolved cars) found ≡ Some id → (at : Addr) × (found ≡ Some at)
root_found cars None id is = cc
root_found cars (Some at) id is = (at, refl)

-- ---- the copy

module _ (list : List Listed) (catalog : List CatEntry) (next : ℕ) (ok : IsAccepted list catalog next)
    (have : AllByRecursion (λ (car : CarImage). AllByRecursion HasBytes car.slots) (images list)) (named : AllByRecursion IsName (listed_names catalog)) where
  ascend : AllByRecursion (λ (car : CarImage). Ascend 0 car.slots) (images list)
  ascend = all_weaker accepted.IsAcceptedCar (λ (car : CarImage). Ascend 0 car.slots) (images list) (λ car is. is.ascend) ok.cars

  spelled : (a : Addr) (object : kept.Object) → slot_named (images list) a ≡ Some (Live object) → HasSpelling FIELDS (Live object)
  spelled a object is = all_named (λ (e : ℕ × Slot). HasSpelling FIELDS e.1) (images list) a (Live object)
      (all_weaker accepted.IsAcceptedCar (λ (car : CarImage). AllByRecursion (λ (e : ℕ × Slot). HasSpelling FIELDS e.1) car.slots) (images list) (λ car is. is.slots) ok.cars) is

  bytes_of : (a : Addr) (object : kept.Object) → slot_named (images list) a ≡ Some (Live object) → AllByRecursion IsByte object.bytes
  bytes_of a object is = all_named HasBytes (images list) a (Live object) have is

  from : (id : ℕ) (object : Object) → get (copy_listed list catalog next).heap id ≡ Some object → heaps.IsAmong (images list) (images list) id object
  from id object is = heaps.object_from (images list) ok.differ ascend id object (copied_kept (heap_of (images list)) (roots_of (images list) catalog) next id object is).0

  in_range : IsCopyInRange (copy_listed list catalog next)
  in_range = record {
    closed = copied_closed (heap_of (images list)) (roots_of (images list) catalog) next (graph_closed list catalog next ok);
    few = λ id object is.
        let at = from id object is in
        let few : length at.1.fields ≤ FIELDS = (spelled at.0 at.1 at.2).within.0 in
        let long : length (map (resolved_field (images list)) at.1.fields) ≡ length at.1.fields = length-map at.1.fields (resolved_field (images list)) in
        subst (λ (x : Object). length x.fields ≤ FIELDS) at.4 (omega (arith, few, long));
    short = λ id object is.
        let at = from id object is in
        subst (λ (x : Object). length x.bytes ≤ OBJECT_BYTES) at.4 (spelled at.0 at.1 at.2).within.1;
    bytes = λ id object is.
        let at = from id object is in
        subst (λ (x : Object). IsBytes x.bytes) at.4 (by_place at.1.bytes (bytes_of at.0 at.1 at.2));
    named = λ name id is.
        let at = root_found (images list) (find name_cmp name (roots_in catalog)) id (sym (root_of_copy (images list) catalog name ok.roots) ∙ is) in
        named_found catalog name at.0 named at.1;
    names =
        let one = few_entries (flat_map (listed_root (images list)) catalog) in
        let two = few_roots (images list) catalog in
        let three = ok.few in
        omega (arith, one, two, three);
  }

-- of the bytes of a store
pub store_ranged : (bytes : List ℕ) (number : ℕ) (copy : Copy) → AreBytes bytes → StandsForCopy bytes number copy → IsCopyInRange copy
store_ranged bytes number copy are stands =
    let found = stands.found in
    let list = listed_graph found.graph in
    let catalog = entries_of found.graph.catalog in
    let next = found.current.header.next in
    let spells = opened_spelled bytes found are stands.is_found in
    let same : images list ≡ images_of found.graph.cars = graph_listed (pages_of bytes) found.current.header found.graph (store_found bytes found stands.is_found).graph in
    let have = subst (AllByRecursion (λ (car : CarImage). AllByRecursion HasBytes car.slots)) (sym same) (cars_bytes bytes _ found.graph.cars are spells.cars) in
    subst IsCopyInRange (store_copy bytes found stands.is_found ∙ sym stands.is_copy)
    (in_range list catalog next (store_accepted bytes found are stands.is_found) have spells.entries.names)
