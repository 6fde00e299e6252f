-- What stands at the address of a place, and where what stands at an address has its place.
use Rattle.std.proofs.Common.{◌≡◌, ℕ, zero, suc, ◌+◌, ◌-◌, ◌<◌, ◌≤◌, Bool, true, false, List, [], ◌∷◌, ◌++◌, length, Option, Some, None, refl, sym, ap, ◌∙◌, arith}
use Rattle.std.specs.Prelude.{nat_lt, ◌==◌, option_map, slice_get, if◌then◌else◌}
use Rattle.std.proofs.lemmas.Bool.{eqb-true, eq-eqb, ltb-true, ltb-false, lt-ltb, le-ltb}
use Rattle.std.proofs.lemmas.Bool.Decides.{nat_tests}
use Rattle.pm_types.specs.declared.address.Addr.{Addr}
use Rattle.pm_types.specs.declared.object.Slot.{Slot}
use Rattle.pm_image.specs.Graphs.{slot_in, slot_named}
use Rattle.pm_copies.specs.Filling.{joined_parts}
use Rattle.pm_restore.specs.Packing.Packing.{DumpEntry, packed_parts, packed_slot, packed_slots, place_among}

-- ---- the members of two lists, one after the other

pub get_front : {A : Type 0} (xs ys : List A) (k : ℕ) → k < length xs → slice_get (xs ++ ys) k ≡ slice_get xs k
get_front [] ys k lt = absurd (omega (arith, lt))
get_front (x ∷ xs) ys zero lt = refl
get_front (x ∷ xs) ys (suc k) lt = get_front xs ys k (omega (arith, lt))

pub get_back : {A : Type 0} (xs ys : List A) (k : ℕ) → slice_get (xs ++ ys) (k + length xs) ≡ slice_get ys k
get_back [] ys k = let same : k + 0 ≡ k = omega arith in ap (slice_get ys) same
get_back (x ∷ xs) ys k =
    let same : k + suc (length xs) ≡ suc (k + length xs) = omega arith in
    ap (slice_get (x ∷ (xs ++ ys))) same ∙ get_back xs ys k

pub got_within : {A : Type 0} (xs : List A) (k : ℕ) (x : A) → slice_get xs k ≡ Some x → k < length xs
got_within [] k x is = absurd (cc)
got_within (y ∷ xs) zero x is = omega arith
got_within (y ∷ xs) (suc k) x is = let rest = got_within xs k x is in omega (arith, rest)

-- ---- addresses

-- no car comes before the first
pub later_car : {A : Type 0} (car : ℕ) (parts : List (List A)) (place : ℕ) → car ≤ (place_among car parts place).car
later_car car [] place = omega arith
later_car car (part ∷ parts) place = by (nat_lt place (length part)) (later_car (car + 1) parts (place - length part))
  where
    by : (b : Bool) → car + 1 ≤ (place_among (car + 1) parts (place - length part)).car → car ≤ (if b then record { car = car; slot = place } else place_among (car + 1) parts (place - length part)).car
    by true rest = omega arith
    by false rest = omega (arith, rest)

module _ (to : ℕ → Addr) where
  pub in_slot : (slot : ℕ) (part : List DumpEntry) (k : ℕ) → slot_in (packed_slots to slot part) (slot + k) ≡ option_map (packed_slot to) (slice_get part k)
  in_slot slot [] k = refl
  in_slot slot (e ∷ part) zero =
      let here : (slot == slot + 0) ≡ true = eq-eqb slot (slot + 0) (omega arith) in
      ap (λ (b : Bool). if b then Some (packed_slot to e) else slot_in (packed_slots to (slot + 1) part) (slot + 0)) here
  in_slot slot (e ∷ part) (suc k) =
      let apart : (slot == slot + suc k) ≡ false = grind (arith, nat_tests) in
      let same : slot + suc k ≡ slot + 1 + k = omega arith in
      ap (λ (b : Bool). if b then Some (packed_slot to e) else slot_in (packed_slots to (slot + 1) part) (slot + suc k)) apart
      ∙ ap (slot_in (packed_slots to (slot + 1) part)) same
      ∙ in_slot (slot + 1) part k

  in_first : (part : List DumpEntry) (k : ℕ) → slot_in (packed_slots to 0 part) k ≡ option_map (packed_slot to) (slice_get part k)
  in_first part k = let same : k ≡ 0 + k = omega arith in ap (slot_in (packed_slots to 0 part)) same ∙ in_slot 0 part k

  -- the car of this number is the first, or another
  this_car : (car : ℕ) (part : List DumpEntry) (parts : List (List DumpEntry)) (at : Addr) (b : Bool) → (car == at.car) ≡ b
      → slot_named (packed_parts to car (part ∷ parts)) at ≡ (if b then slot_in (packed_slots to 0 part) at.slot else slot_named (packed_parts to (car + 1) parts) at)
  this_car car part parts at b is = ap (λ (b : Bool). if b then slot_in (packed_slots to 0 part) at.slot else slot_named (packed_parts to (car + 1) parts) at) is

  -- at the address of a place stands what has that place
  pub at_place : (car : ℕ) (parts : List (List DumpEntry)) (place : ℕ) → slot_named (packed_parts to car parts) (place_among car parts place) ≡ option_map (packed_slot to) (slice_get (joined_parts parts) place)
  at_place car [] place = refl
  at_place car (part ∷ parts) place = by (nat_lt place (length part)) refl (at_place (car + 1) parts (place - length part))
    where
      by : (b : Bool) → nat_lt place (length part) ≡ b
          → slot_named (packed_parts to (car + 1) parts) (place_among (car + 1) parts (place - length part)) ≡ option_map (packed_slot to) (slice_get (joined_parts parts) (place - length part))
          → slot_named (packed_parts to car (part ∷ parts)) (if b then record { car = car; slot = place } else place_among (car + 1) parts (place - length part)) ≡ option_map (packed_slot to) (slice_get (part ++ joined_parts parts) place)
      by true is rest =
          this_car car part parts (record { car = car; slot = place }) true (eq-eqb car car refl)
          ∙ in_first part place
          ∙ ap (option_map (packed_slot to)) (sym (get_front part (joined_parts parts) place (ltb-true place (length part) is)))
      by false is rest =
          let at = place_among (car + 1) parts (place - length part) in
          let later = later_car (car + 1) parts (place - length part) in
          let apart : (car == at.car) ≡ false = grind (arith, nat_tests, later) in
          let past = ltb-false place (length part) is in
          let same : place - length part + length part ≡ place = omega (arith, past) in
          this_car car part parts at false apart
          ∙ rest
          ∙ ap (option_map (packed_slot to)) (sym (get_back part (joined_parts parts) (place - length part)) ∙ ap (slice_get (part ++ joined_parts parts)) same)

  -- ---- and back

  -- what stands at an address is the object of a place, and the address is that of the place
  pub record IsPlaced (car : ℕ) (parts : List (List DumpEntry)) (at : Addr) (slot : Slot) : Type 0 where
    pub place : ℕ
    pub entry : DumpEntry
    pub there : slice_get (joined_parts parts) place ≡ Some entry
    pub same : slot ≡ packed_slot to entry
    pub address : at ≡ place_among car parts place

  from_mapped : (o : Option DumpEntry) (slot : Slot) → option_map (packed_slot to) o ≡ Some slot → (e : DumpEntry) × (o ≡ Some e) × (slot ≡ packed_slot to e)
  from_mapped None slot is = absurd (cc)
  from_mapped (Some e) slot is = (e, refl, cc)

  pub placed : (car : ℕ) (parts : List (List DumpEntry)) (at : Addr) (slot : Slot) → slot_named (packed_parts to car parts) at ≡ Some slot → IsPlaced car parts at slot
  placed car [] at slot is = absurd (cc)
  placed car (part ∷ parts) at slot is = by (car == at.car) refl (placed (car + 1) parts at slot)
    where
      by : (b : Bool) → (car == at.car) ≡ b → (slot_named (packed_parts to (car + 1) parts) at ≡ Some slot → IsPlaced (car + 1) parts at slot) → IsPlaced car (part ∷ parts) at slot
      by true here rest =
          let it = from_mapped (slice_get part at.slot) slot (sym (in_first part at.slot) ∙ sym (this_car car part parts at true here) ∙ is) in
          let within = got_within part at.slot it.0 it.1 in
          let low = lt-ltb at.slot (length part) within in
          record {
            place = at.slot;
            entry = it.0;
            there = get_front part (joined_parts parts) at.slot within ∙ it.1;
            same = it.2;
            address = ap (λ (n : ℕ). record { car = n; slot = at.slot }) (sym (eqb-true car at.car here)) ∙ ap (λ (b : Bool). if b then record { car = car; slot = at.slot } else place_among (car + 1) parts (at.slot - length part)) (sym low);
          }
      by false apart rest =
          let it = rest (sym (this_car car part parts at false apart) ∙ is) in
          let past = le-ltb (it.place + length part) (length part) (omega arith) in
          let back : it.place ≡ it.place + length part - length part = omega arith in
          record {
            place = it.place + length part;
            entry = it.entry;
            there = get_back part (joined_parts parts) it.place ∙ it.there;
            same = it.same;
            address = it.address ∙ ap (place_among (car + 1) parts) back
                ∙ ap (λ (b : Bool). if b then record { car = car; slot = it.place + length part } else place_among (car + 1) parts (it.place + length part - length part)) (sym past);
          }
