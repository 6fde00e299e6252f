-- The objects of a car, as a range of all objects, and the car that is made of them.
use Rattle.std.proofs.Common.{◌≡◌, ◌⊎◌, inl, inr, ℕ, zero, suc, ◌+◌, ◌-◌, ◌<◌, ◌≤◌, ◌==◌, Bool, true, false, cond, List, [], ◌∷◌, ◌++◌, map, length, length-append, take, drop, get_or, Option, Some, None, refl, sym, ap, subst, ◌∙◌, arith, if◌then◌else◌}
use Rattle.std.specs.Prelude.{option_map, slice_get, slice_range}
use Rattle.std.specs.List.{AllByRecursion, flat_map}
use Rattle.std.specs.Cmp.{nat_cmp_total}
use Rattle.std.specs.Ordering.{nat_cmp}
use Rattle.std.specs.FinMap.{find, get, get-from_entries}
use Rattle.std.proofs.Math.Seq.{drop-append-add, take-append_seam}
use Rattle.std.proofs.lemmas.Bool.{cases_lt}
use Rattle.std.proofs.lemmas.Bool.Decides.{nat_tests}
use Rattle.std.proofs.lemmas.Option.{same_Some, slice_get_past}
use Rattle.pm_types.specs.declared.address.Addr.{Addr}
use Rattle.pm_types.specs.declared.object.Slot.{Slot}
use Rattle.pm_model.specs.Copying.{field_id}
use Rattle.pm_cars.specs.Cars.{Car}
use Rattle.pm_image.specs.declared.car.CarImage.{CarImage}
use Rattle.pm_view.specs.View.{Cars}
use Rattle.pm_copies.specs.Filling.{HasRoom, joined_parts}
use Rattle.pm_law_copies.proofs.Lists.{nat_turned}
use Rattle.pm_law_saving.proofs.Filed.{found_listed}
use Rattle.pm_saving.specs.Progress.{car_of, cars_of, image_at, slots_of}
use Rattle.pm_saving.specs.Beginning.{AreFrozen}
use Rattle.pm_dump.specs.Dump.{Dump}
use Rattle.pm_dump.specs.Sound.{IsListed, IsSoundDump}
use Rattle.pm_restore.proofs.PackingLemmas.Accepted.{packed_accepted}
use Rattle.pm_restore.proofs.PackingLemmas.Copies.{packed_images}
use Rattle.pm_restore.proofs.PackingLemmas.Filled.{few_objects, filled_room, filled_whole, sound_alone}
use Rattle.pm_restore.proofs.PackingLemmas.Places.{got_within}
use Rattle.pm_restore.specs.Packing.Packing.{DumpEntry, address_of, car_room, filled, packed_cars, packed_list, packed_parts, packed_roots, packed_slot, packed_slots}
use Rattle.pm_restore.specs.Firsts.{firsts_from, firsts_of}
use Rattle.pm_restore.specs.Parts.{AreListed, IsPartRange, cars_of_dump, part_from, part_of}

-- ---- the range of a part

-- it stands from here to there among all parts, the first of which begins at this place
record IsRangeFrom (start car index : ℕ) (parts : List (List DumpEntry)) (from end : ℕ) : Type 0 where
  pub behind : start ≤ from
  pub up : from ≤ end
  pub within : end ≤ start + length (joined_parts parts)
  pub few : end - from ≤ 1000
  pub part : slice_range (joined_parts parts) (from - start) (end - start) ≡ part_from car parts (car + index)

first_end : (place : ℕ) (parts : List (List DumpEntry)) → get_or (firsts_from place parts) 0 (place + length (joined_parts parts)) ≡ place
first_end place [] = let same : place + 0 ≡ place = omega arith in same
first_end place (part ∷ parts) = refl

range_from : (start car index : ℕ) (parts : List (List DumpEntry)) (d : ℕ) → AllByRecursion (HasRoom car_room) parts → index < length parts
    → IsRangeFrom start car index parts (get_or (firsts_from start parts) index d) (get_or (firsts_from start parts) (index + 1) (start + length (joined_parts parts)))
range_from start car index [] d room lt = absurd (omega (arith, lt))
range_from start car zero (part ∷ parts) d room lt =
    let both = length-append part (joined_parts parts) in
    let all : start + length (part ++ joined_parts parts) ≡ start + length part + length (joined_parts parts) = omega (arith, both) in
    let end = ap (λ (n : ℕ). get_or (firsts_from (start + length part) parts) 0 n) all ∙ first_end (start + length part) parts in
    let objects = few_objects part in
    let fits = room.0 in
    let same : (car == car + 0) ≡ true = grind (arith, nat_tests) in
    let none : start - start ≡ 0 = omega arith in
    let some : get_or (firsts_from (start + length part) parts) 0 (start + length (part ++ joined_parts parts)) - start - (start - start) ≡ length part = omega (arith, end) in
    record {
      behind = omega arith;
      up = omega (arith, end);
      within = omega (arith, end, both);
      few = omega (arith, end, objects, fits);
      part = (λ i. take (some i) (drop (none i) (part ++ joined_parts parts))) ∙ take-append_seam part (joined_parts parts)
          ∙ ap (λ (b : Bool). if b then part else part_from (car + 1) parts (car + 0)) (sym same);
    }
range_from start car (suc index) (part ∷ parts) d room lt =
    let both = length-append part (joined_parts parts) in
    let all : start + length (part ++ joined_parts parts) ≡ start + length part + length (joined_parts parts) = omega (arith, both) in
    let rest = range_from (start + length part) (car + 1) index parts d room.1 (omega (arith, lt)) in
    let from = get_or (firsts_from (start + length part) parts) index d in
    let end = get_or (firsts_from (start + length part) parts) (index + 1) (start + length part + length (joined_parts parts)) in
    let nth : suc index + 1 ≡ suc (index + 1) = omega arith in
    let end_is : get_or (firsts_from start (part ∷ parts)) (suc index + 1) (start + length (part ++ joined_parts parts)) ≡ end =
    (λ i. get_or (firsts_from start (part ∷ parts)) (nth i) (all i)) in
    subst (IsRangeFrom start car (suc index) (part ∷ parts) from) (sym end_is) (later from end rest)
  where
    later : (from end : ℕ) → IsRangeFrom (start + length part) (car + 1) index parts from end → IsRangeFrom start car (suc index) (part ∷ parts) from end
    later from end rest =
        let both = length-append part (joined_parts parts) in
        let behind = rest.behind in
        let up = rest.up in
        let within = rest.within in
        let from_is : from - start ≡ length part + (from - (start + length part)) = omega (arith, behind) in
        let long : end - start - (from - start) ≡ end - (start + length part) - (from - (start + length part)) = omega (arith, behind, up) in
        let number : car + suc index ≡ car + 1 + index = omega arith in
        let apart : (car == car + suc index) ≡ false = grind (arith, nat_tests) in
        record {
          behind = omega (arith, behind);
          up = up;
          within = omega (arith, within, both);
          few = rest.few;
          part = (λ i. take (long i) (drop (from_is i) (part ++ joined_parts parts)))
              ∙ ap (take (end - (start + length part) - (from - (start + length part)))) (drop-append-add part (joined_parts parts) (from - (start + length part)))
              ∙ rest.part
              ∙ ap (part_from (car + 1) parts) (sym number)
              ∙ ap (λ (b : Bool). if b then part else part_from (car + 1) parts (car + suc index)) (sym apart);
        }

firsts_count : (start : ℕ) (parts : List (List DumpEntry)) → length (firsts_from start parts) ≡ length parts
firsts_count start [] = refl
firsts_count start (part ∷ parts) = ap suc (firsts_count (start + length part) parts)

-- no part has another number
no_part : (car : ℕ) (parts : List (List DumpEntry)) (number : ℕ) → (number < car) ⊎ (car + length parts ≤ number) → part_from car parts number ≡ []
no_part car [] number other = refl
no_part car (part ∷ parts) number (inl lt) =
    let apart : (car == number) ≡ false = grind (arith, nat_tests, lt) in
    ap (λ (b : Bool). if b then part else part_from (car + 1) parts number) apart ∙ no_part (car + 1) parts number (inl (omega (arith, lt)))
no_part car (part ∷ parts) number (inr le) =
    let apart : (car == number) ≡ false = grind (arith, nat_tests, le) in
    ap (λ (b : Bool). if b then part else part_from (car + 1) parts number) apart ∙ no_part (car + 1) parts number (inr (omega (arith, le)))

count_packed : (to : ℕ → Addr) (car : ℕ) (parts : List (List DumpEntry)) → length (packed_parts to car parts) ≡ length parts
count_packed to car [] = refl
count_packed to car (part ∷ parts) = ap suc (count_packed to (car + 1) parts)

-- as many cars as parts
pub cars_counted : (dump : Dump) → length (firsts_of dump.objects) ≡ length (packed_cars dump)
cars_counted dump = firsts_count 0 (filled dump.objects) ∙ sym (count_packed (address_of dump.objects) 1 (filled dump.objects))

pub part_range : (dump : Dump) → IsSoundDump dump → (number : ℕ) (firsts : List ℕ) → firsts ≡ firsts_of dump.objects → 0 < number → number ≤ length firsts
    → IsPartRange dump.objects number (get_or firsts (number - 1) (length dump.objects)) (get_or firsts number (length dump.objects))
part_range dump sound number firsts same from_one within =
    let count = firsts_count 0 (filled dump.objects) in
    let long = ap (λ (xs : List ℕ). length xs) same in
    let whole = filled_whole dump.objects in
    let all = ap (λ (objects : List DumpEntry). length objects) whole in
    let it = range_from 0 1 (number - 1) (filled dump.objects) (length dump.objects) (filled_room dump.objects (sound_alone dump.next dump.objects sound.objects)) (omega (arith, count, long, from_one, within)) in
    let nth : number - 1 + 1 ≡ number = omega (arith, from_one) in
    let number_is : 1 + (number - 1) ≡ number = omega (arith, from_one) in
    let total : 0 + length (joined_parts (filled dump.objects)) ≡ length dump.objects = omega (arith, all) in
    let end_is : get_or (firsts_of dump.objects) (number - 1 + 1) (0 + length (joined_parts (filled dump.objects))) ≡ get_or firsts number (length dump.objects) =
    (λ i. get_or (sym same i) (nth i) (total i)) in
    let from_is : get_or (firsts_of dump.objects) (number - 1) (length dump.objects) ≡ get_or firsts (number - 1) (length dump.objects) =
    ap (λ (xs : List ℕ). get_or xs (number - 1) (length dump.objects)) (sym same) in
    let from_0 : get_or firsts (number - 1) (length dump.objects) ≡ get_or (firsts_of dump.objects) (number - 1) (length dump.objects) - 0 = omega (arith, from_is) in
    let end_0 : get_or firsts number (length dump.objects) ≡ get_or (firsts_of dump.objects) (number - 1 + 1) (0 + length (joined_parts (filled dump.objects))) - 0 = omega (arith, end_is) in
    let up = it.up in
    let ends = it.within in
    let few = it.few in
    record {
      up = omega (arith, up, end_is, from_is);
      within = omega (arith, ends, end_is, all);
      few = omega (arith, few, end_is, from_is);
      part = (λ i. slice_range (sym whole i) (from_0 i) (end_0 i)) ∙ it.part ∙ ap (part_from 1 (filled dump.objects)) number_is;
    }

pub no_range : (dump : Dump) (number : ℕ) (firsts : List ℕ) → firsts ≡ firsts_of dump.objects → (number < 1) ⊎ (length firsts < number) → IsPartRange dump.objects number 0 0
no_range dump number firsts same other = record { up = omega arith; within = omega arith; few = omega arith; part = sym (no_part 1 (filled dump.objects) number (by other)) }
  where
    by : (number < 1) ⊎ (length firsts < number) → (number < 1) ⊎ (1 + length (filled dump.objects) ≤ number)
    by (inl lt) = inl lt
    by (inr lt) = let count = firsts_count 0 (filled dump.objects) in let long = ap (λ (xs : List ℕ). length xs) same in inr (omega (arith, count, long, lt))

-- ---- slots, one after the other

take_more : {A : Type 0} (xs : List A) (k : ℕ) (x : A) → slice_get xs k ≡ Some x → take (k + 1) xs ≡ take k xs ++ x ∷ []
take_more [] k x is = absurd (cc)
take_more {A = A} (y ∷ xs) zero x is = ap (λ (first : A). first ∷ []) (same_Some y x is)
take_more {A = A} (y ∷ xs) (suc k) x is =
    let same : suc k + 1 ≡ suc (k + 1) = omega arith in
    ap (λ (n : ℕ). take n (y ∷ xs)) same ∙ ap (λ (more : List A). y ∷ more) (take_more xs k x is)

get_drop : {A : Type 0} (xs : List A) (n k : ℕ) → slice_get (drop n xs) k ≡ slice_get xs (n + k)
get_drop xs zero k = let same : k ≡ 0 + k = omega arith in ap (slice_get xs) same
get_drop {A = A} [] (suc n) k =
    let here : 0 ≤ k = omega arith in
    let there : 0 ≤ suc n + k = omega arith in
    slice_get_past {X = A} [] k here ∙ sym (slice_get_past {X = A} [] (suc n + k) there)
get_drop (x ∷ xs) (suc n) k =
    let same : suc (n + k) ≡ suc n + k = omega arith in
    get_drop xs n k ∙ ap (slice_get (x ∷ xs)) same

slots_append : (to : ℕ → Addr) (slot : ℕ) (part more : List DumpEntry) → packed_slots to slot (part ++ more) ≡ packed_slots to slot part ++ packed_slots to (slot + length part) more
slots_append to slot [] more = let same : slot ≡ slot + 0 = omega arith in ap (λ (n : ℕ). packed_slots to n more) same
slots_append to slot (e ∷ part) more =
    let same : slot + 1 + length part ≡ slot + suc (length part) = omega arith in
    ap (λ (rest : List (ℕ × Slot)). (slot, packed_slot to e) ∷ rest) (slots_append to (slot + 1) part more ∙ ap (λ (n : ℕ). packed_slots to (slot + 1) part ++ packed_slots to n more) same)

take_count : {A : Type 0} (k : ℕ) (xs : List A) → k ≤ length xs → length (take k xs) ≡ k
take_count zero xs le = refl
take_count (suc k) [] le = absurd (omega (arith, le))
take_count (suc k) (x ∷ xs) le = ap suc (take_count k xs (omega (arith, le)))

-- the next object in its slot
pub slots_more : (to : ℕ → Addr) (objects : List DumpEntry) (from place : ℕ) (slot : Slot) → from ≤ place → option_map (packed_slot to) (slice_get objects place) ≡ Some slot
    → packed_slots to 0 (slice_range objects from (place + 1)) ≡ packed_slots to 0 (slice_range objects from place) ++ (place - from, slot) ∷ []
slots_more to objects from place slot le is = by (slice_get objects place) refl is
  where
    by : (o : Option DumpEntry) → slice_get objects place ≡ o → option_map (packed_slot to) o ≡ Some slot
        → packed_slots to 0 (slice_range objects from (place + 1)) ≡ packed_slots to 0 (slice_range objects from place) ++ (place - from, slot) ∷ []
    by None there given = absurd (cc)
    by (Some e) there given =
        let nth : from + (place - from) ≡ place = omega (arith, le) in
        let got = get_drop objects from (place - from) ∙ ap (slice_get objects) nth ∙ there in
        let more : place + 1 - from ≡ place - from + 1 = omega (arith, le) in
        let inside = got_within (drop from objects) (place - from) e got in
        let count = take_count (place - from) (drop from objects) (omega (arith, inside)) in
        let number : 0 + length (take (place - from) (drop from objects)) ≡ place - from = omega (arith, count) in
        ap (λ (n : ℕ). packed_slots to 0 (take n (drop from objects))) more
        ∙ ap (packed_slots to 0) (take_more (drop from objects) (place - from) e got)
        ∙ slots_append to 0 (take (place - from) (drop from objects)) (e ∷ [])
        ∙ (λ i. packed_slots to 0 (take (place - from) (drop from objects)) ++ (number i, same_Some (packed_slot to e) slot given i) ∷ [])

-- ---- fields

pub held_listed : (objects : List DumpEntry) (fields : List (Option ℕ)) → AllByRecursion (IsListed objects) (flat_map field_id fields) → AreListed objects fields
held_listed objects [] all = tt
held_listed objects (None ∷ fields) all = (tt, held_listed objects fields all)
held_listed objects (Some id ∷ fields) all = (all.0, held_listed objects fields all.1)

-- ---- the car that is made

abbrev IsFound : Cars → CarImage → Type 0
IsFound cars car = car ≡ image_at cars car.number

all_found : (cars : Cars) (list : List CarImage) → AreFrozen cars (map (λ (car : CarImage). (1, car)) list) → AllByRecursion (IsFound cars) list
all_found cars [] all = tt
all_found cars (car ∷ list) all = (all.0, all_found cars list all.1)

abbrev filed : CarImage → ℕ × Car
filed image = (image.number, car_of image)

abbrev made_of : (ℕ → Addr) → ℕ → List DumpEntry → CarImage
made_of to number part = record { number = number; slots = packed_slots to 0 part }

-- each car of a dump is found as it is
pub frozen_dump : (dump : Dump) → IsSoundDump dump → AreFrozen (cars_of_dump dump) (packed_list dump)
frozen_dump dump sound = subst (λ (cs : List CarImage). AreFrozen (cars_of cs) (packed_list dump)) (packed_images dump) (found_listed (packed_list dump) (packed_roots dump) dump.next (packed_accepted dump sound))

-- a car that there is has the objects of its part,
made_inside : (to : ℕ → Addr) (cars : Cars) (car : ℕ) (parts : List (List DumpEntry)) (number : ℕ) → AllByRecursion (IsFound cars) (packed_parts to car parts) → car ≤ number → number < car + length parts
    → image_at cars number ≡ made_of to number (part_from car parts number)
made_inside to cars car [] number all le lt = absurd (omega (arith, le, lt))
made_inside to cars car (part ∷ parts) number all le lt = by (cases_lt car number) (λ less. made_inside to cars (car + 1) parts number all.1 (omega (arith, less)) (omega (arith, lt)))
  where
    by : (car < number) ⊎ (number ≤ car) → (car < number → image_at cars number ≡ made_of to number (part_from (car + 1) parts number)) → image_at cars number ≡ made_of to number (part_from car (part ∷ parts) number)
    by (inl less) rest =
        let apart : (car == number) ≡ false = grind (arith, nat_tests, less) in
        rest less
        ∙ ap (λ (b : Bool). made_of to number (if b then part else part_from (car + 1) parts number)) (sym apart)
    by (inr more) rest =
        let same : number ≡ car = omega (arith, le, more) in
        let this : (car == number) ≡ true = grind (arith, nat_tests, same) in
        ap (image_at cars) same
        ∙ sym all.0
        ∙ ap (λ (n : ℕ). made_of to n part) (sym same)
        ∙ ap (λ (b : Bool). made_of to number (if b then part else part_from (car + 1) parts number)) (sym this)

-- and one that there is not has none
none_more : (to : ℕ → Addr) (car : ℕ) (part : List DumpEntry) (parts : List (List DumpEntry)) (number : ℕ) → (car == number) ≡ false → find nat_cmp number (map filed (packed_parts to (car + 1) parts)) ≡ None
    → find nat_cmp number (map filed (packed_parts to car (part ∷ parts))) ≡ None
none_more to car part parts number apart rest = ap (λ (b : Bool). cond b (Some (car_of (made_of to car part))) (find nat_cmp number (map filed (packed_parts to (car + 1) parts)))) (sym (nat_turned car number) ∙ apart) ∙ rest

none_filed : (to : ℕ → Addr) (car : ℕ) (parts : List (List DumpEntry)) (number : ℕ) → (number < car) ⊎ (car + length parts ≤ number) → find nat_cmp number (map filed (packed_parts to car parts)) ≡ None
none_filed to car [] number other = refl
none_filed to car (part ∷ parts) number (inl lt) =
    let apart : (car == number) ≡ false = grind (arith, nat_tests, lt) in
    none_more to car part parts number apart (none_filed to (car + 1) parts number (inl (omega (arith, lt))))
none_filed to car (part ∷ parts) number (inr le) =
    let apart : (car == number) ≡ false = grind (arith, nat_tests, le) in
    none_more to car part parts number apart (none_filed to (car + 1) parts number (inr (omega (arith, le))))

-- the car of this number, as its page spells it, has the objects of its part
module _ (dump : Dump) (sound : IsSoundDump dump) (number : ℕ) where
  found : AllByRecursion (IsFound (cars_of_dump dump)) (packed_cars dump)
  found = all_found (cars_of_dump dump) (packed_cars dump) (frozen_dump dump sound)

  outside : (number < 1) ⊎ (1 + length (filled dump.objects) ≤ number) → image_at (cars_of_dump dump) number ≡ made_of (address_of dump.objects) number (part_of dump.objects number)
  outside other =
      let none : get (cars_of_dump dump) number ≡ None = get-from_entries nat_cmp_total (map filed (packed_cars dump)) number ∙ none_filed (address_of dump.objects) 1 (filled dump.objects) number other in
      let slots : slots_of (get (cars_of_dump dump) number) ≡ [] = ap slots_of none in
      (λ i. record { number = number; slots = slots i })
      ∙ ap (made_of (address_of dump.objects) number) (sym (no_part 1 (filled dump.objects) number other))

  in_one : (number < 1) ⊎ (1 ≤ number) → (number < 1 + length (filled dump.objects)) ⊎ (1 + length (filled dump.objects) ≤ number) → image_at (cars_of_dump dump) number ≡ made_of (address_of dump.objects) number (part_of dump.objects number)
  in_one (inl lt) other = outside (inl lt)
  in_one (inr le) (inl lt) = made_inside (address_of dump.objects) (cars_of_dump dump) 1 (filled dump.objects) number found le lt
  in_one (inr le) (inr over) = outside (inr over)

  pub image_made : image_at (cars_of_dump dump) number ≡ record { number = number; slots = packed_slots (address_of dump.objects) 0 (part_of dump.objects number) }
  image_made = in_one (cases_lt number 1) (cases_lt number (1 + length (filled dump.objects)))

-- so that its slots are those of the car that is found
pub slots_found : (dump : Dump) → IsSoundDump dump → (number from end : ℕ) → IsPartRange dump.objects number from end
    → packed_slots (address_of dump.objects) 0 (slice_range dump.objects from end) ≡ slots_of (get (cars_of_dump dump) number)
slots_found dump sound number from end it =
    ap (packed_slots (address_of dump.objects) 0) it.part
    ∙ sym (ap (λ (image : CarImage). image.slots) (image_made dump sound number))
