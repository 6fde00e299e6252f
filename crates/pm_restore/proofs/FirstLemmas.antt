-- The first places of the parts, as objects are put into them one after the other.
use Rattle.std.proofs.Common.{◌≡◌, ◌⊎◌, inl, inr, ℕ, zero, suc, ◌+◌, ◌-◌, ◌<◌, ◌≤◌, Bool, true, false, nat_le, List, [], ◌∷◌, length, length-append, drop, get_or, Some, refl, sym, ap, ◌∙◌, arith, if◌then◌else◌}
use Rattle.std.specs.Prelude.{nat_lt, slice_get}
use Rattle.std.specs.List.{AllByRecursion}
use Rattle.std.specs.List.Sorted.{IsPartitionPoint}
use Rattle.std.proofs.lemmas.Bool.{cases_lt, le-leb, le-ltb, leb-false, leb-true, lt-ltb}
use Rattle.std.proofs.lemmas.Bool.Decides.{nat_tests}
use Rattle.std.proofs.lemmas.Option.{same_Some}
use Rattle.pm_types.specs.declared.limits.TheConstants.{CAR_HEAD_BYTES, PAGE_BYTES}
use Rattle.pm_copies.specs.Filling.{HasRoom, HasRoomAlone, filled_from, joined_parts, onto_first_part}
use Rattle.pm_law_copies.proofs.Lists.{all_at}
use Rattle.pm_dump.specs.Dump.{Dump}
use Rattle.pm_dump.specs.Sound.{IsSoundDump, IsSoundObject}
use Rattle.pm_restore.proofs.PackingLemmas.Filled.{few_objects, filled_room, filled_whole, sound_alone}
use Rattle.pm_restore.specs.Packing.Packing.{DumpEntry, car_room, filled, object_room, place_among}
use Rattle.pm_restore.specs.Firsts.{firsts_from, firsts_of}

-- the first places of the parts that are begun behind the one of which so many bytes are used, where the next object has
-- this place
abbrev pub later_firsts : ℕ → ℕ → List DumpEntry → List ℕ
later_firsts used place [] = []
later_firsts used place (e ∷ objects) =
    if nat_le (used + object_room e) PAGE_BYTES then later_firsts (used + object_room e) (place + 1) objects
    else place ∷ later_firsts (object_room e + CAR_HEAD_BYTES) (place + 1) objects

-- the first places of all parts but the first
abbrev behind_first : ℕ → List (List DumpEntry) → List ℕ
behind_first place [] = []
behind_first place (part ∷ parts) = firsts_from (place + length part) parts

abbrev fill : ℕ → List DumpEntry → List (List DumpEntry)
fill = filled_from object_room CAR_HEAD_BYTES

onto_behind : (place : ℕ) (e : DumpEntry) (parts : List (List DumpEntry)) → behind_first place (onto_first_part e parts) ≡ behind_first (place + 1) parts
onto_behind place e [] = refl
onto_behind place e (part ∷ parts) =
    let same : place + suc (length part) ≡ place + 1 + length part = omega arith in
    ap (λ (n : ℕ). firsts_from n parts) same

onto_all : (place : ℕ) (e : DumpEntry) (parts : List (List DumpEntry)) → firsts_from place (onto_first_part e parts) ≡ place ∷ behind_first (place + 1) parts
onto_all place e [] = refl
onto_all place e (part ∷ parts) =
    let same : place + suc (length part) ≡ place + 1 + length part = omega arith in
    ap (λ (n : ℕ). place ∷ firsts_from n parts) same

behind_fill : (used place : ℕ) (objects : List DumpEntry) → behind_first place (fill used objects) ≡ later_firsts used place objects
behind_fill used place [] = refl
behind_fill used place (e ∷ objects) = by (nat_le (used + object_room e) PAGE_BYTES) (λ n. behind_fill n (place + 1) objects)
  where
    by : (b : Bool) → ((n : ℕ) → behind_first (place + 1) (fill n objects) ≡ later_firsts n (place + 1) objects)
        → behind_first place (if b then onto_first_part e (fill (used + object_room e) objects) else [] ∷ onto_first_part e (fill (object_room e + CAR_HEAD_BYTES) objects))
        ≡ (if b then later_firsts (used + object_room e) (place + 1) objects else place ∷ later_firsts (object_room e + CAR_HEAD_BYTES) (place + 1) objects)
    by true rest = onto_behind place e (fill (used + object_room e) objects) ∙ rest (used + object_room e)
    by false rest =
        let same : place + 0 ≡ place = omega arith in
        ap (λ (n : ℕ). firsts_from n (onto_first_part e (fill (object_room e + CAR_HEAD_BYTES) objects))) same
        ∙ onto_all place e (fill (object_room e + CAR_HEAD_BYTES) objects)
        ∙ ap (λ (more : List ℕ). place ∷ more) (rest (object_room e + CAR_HEAD_BYTES))

-- the first object begins the first part
pub all_firsts : (objects : List DumpEntry) → AllByRecursion (HasRoomAlone car_room) objects → later_firsts PAGE_BYTES 0 objects ≡ firsts_of objects
all_firsts [] alone = refl
all_firsts (e ∷ objects) alone =
    let room = alone.0 in
    let full : nat_le (PAGE_BYTES + object_room e) PAGE_BYTES ≡ false = grind (arith, nat_tests) in
    let fits : nat_le (CAR_HEAD_BYTES + object_room e) PAGE_BYTES ≡ true = le-leb (CAR_HEAD_BYTES + object_room e) PAGE_BYTES (omega (arith, room)) in
    let same : object_room e + CAR_HEAD_BYTES ≡ CAR_HEAD_BYTES + object_room e = omega arith in
    ap (λ (b : Bool). if b then later_firsts (PAGE_BYTES + object_room e) 1 objects else 0 ∷ later_firsts (object_room e + CAR_HEAD_BYTES) 1 objects) full
    ∙ ap (λ (n : ℕ). 0 ∷ later_firsts n 1 objects) same
    ∙ ap (λ (more : List ℕ). 0 ∷ more) (sym (behind_fill (CAR_HEAD_BYTES + object_room e) 1 objects))
    ∙ sym (onto_all 0 e (fill (CAR_HEAD_BYTES + object_room e) objects))
    ∙ ap (λ (b : Bool). firsts_from 0 (if b then onto_first_part e (fill (CAR_HEAD_BYTES + object_room e) objects) else [] ∷ onto_first_part e (fill (object_room e + CAR_HEAD_BYTES) objects))) (sym fits)

-- ---- one object after the other

drop_at : {A : Type 0} (xs : List A) (k : ℕ) (x : A) → slice_get xs k ≡ Some x → drop k xs ≡ x ∷ drop (k + 1) xs
drop_at [] k x is = absurd (cc)
drop_at {A = A} (y ∷ xs) zero x is = ap (λ (first : A). first ∷ xs) (same_Some y x is)
drop_at (y ∷ xs) (suc k) x is =
    let same : suc k + 1 ≡ suc (k + 1) = omega arith in
    drop_at xs k x is ∙ ap (λ (n : ℕ). x ∷ drop n (y ∷ xs)) (sym same)

-- the next object goes into the part that is begun,
pub firsts_room : (used place : ℕ) (objects : List DumpEntry) (e : DumpEntry) → slice_get objects place ≡ Some e → used + object_room e ≤ PAGE_BYTES
    → later_firsts used place (drop place objects) ≡ later_firsts (used + object_room e) (place + 1) (drop (place + 1) objects)
firsts_room used place objects e there room =
    let fits : nat_le (used + object_room e) PAGE_BYTES ≡ true = le-leb (used + object_room e) PAGE_BYTES room in
    ap (later_firsts used place) (drop_at objects place e there)
    ∙ ap (λ (b : Bool). if b then later_firsts (used + object_room e) (place + 1) (drop (place + 1) objects) else place ∷ later_firsts (object_room e + CAR_HEAD_BYTES) (place + 1) (drop (place + 1) objects)) fits

-- or begins the next
pub firsts_full : (used place : ℕ) (objects : List DumpEntry) (e : DumpEntry) → slice_get objects place ≡ Some e → PAGE_BYTES < used + object_room e
    → later_firsts used place (drop place objects) ≡ place ∷ later_firsts (CAR_HEAD_BYTES + object_room e) (place + 1) (drop (place + 1) objects)
firsts_full used place objects e there full =
    let past : nat_le (used + object_room e) PAGE_BYTES ≡ false = grind (arith, nat_tests, full) in
    let same : object_room e + CAR_HEAD_BYTES ≡ CAR_HEAD_BYTES + object_room e = omega arith in
    ap (later_firsts used place) (drop_at objects place e there)
    ∙ ap (λ (b : Bool). if b then later_firsts (used + object_room e) (place + 1) (drop (place + 1) objects) else place ∷ later_firsts (object_room e + CAR_HEAD_BYTES) (place + 1) (drop (place + 1) objects)) past
    ∙ ap (λ (n : ℕ). place ∷ later_firsts n (place + 1) (drop (place + 1) objects)) same

-- ---- where an object lies

-- what a search finds: the last car that begins at this place or before it
pub record IsLastBegun (firsts : List ℕ) (place count : ℕ) : Type 0 where
  pub within : count ≤ length firsts
  pub before : (k : ℕ) → k < count → get_or firsts k 0 ≤ place
  pub behind : (k : ℕ) → count ≤ k → k < length firsts → place < get_or firsts k 0

-- the car and the slot that it gives
pub record LiesAt (start place count : ℕ) (parts : List (List DumpEntry)) (car : ℕ) : Type 0 where
  pub some : 0 < count
  pub low : get_or (firsts_from start parts) (count - 1) 0 ≤ place
  pub few : place - get_or (firsts_from start parts) (count - 1) 0 < 1000
  pub address : place_among car parts (place - start) ≡ record { car = car + (count - 1); slot = place - get_or (firsts_from start parts) (count - 1) 0 }

behind_rest : (start place count : ℕ) (part : List DumpEntry) (parts : List (List DumpEntry)) → IsLastBegun (start ∷ firsts_from (start + length part) parts) place (suc count) → IsLastBegun (firsts_from (start + length part) parts) place count
behind_rest start place count part parts is = record {
  within = (let within = is.within in omega (arith, within));
  before = λ k lt. is.before (suc k) (omega (arith, lt));
  behind = λ k le lt. is.behind (suc k) (omega (arith, le)) (omega (arith, lt));
}

-- it is the first car,
in_first : (start place count : ℕ) (part : List DumpEntry) (parts : List (List DumpEntry)) (car : ℕ) → count ≡ 0 → start ≤ place → place - start < length part → HasRoom car_room part
    → LiesAt start place (suc count) (part ∷ parts) car
in_first start place count part parts car none from_start here room =
    let objects = few_objects part in
    let inside : nat_lt (place - start) (length part) ≡ true = lt-ltb (place - start) (length part) here in
    let number : car ≡ car + (suc count - 1) = omega (arith, none) in
    let nth : 0 ≡ suc count - 1 = omega (arith, none) in
    let first = ap (λ (n : ℕ). get_or (start ∷ firsts_from (start + length part) parts) n 0) nth in
    record {
      some = omega arith;
      low = omega (arith, first, from_start);
      few = omega (arith, first, here, room, objects);
      address = ap (λ (b : Bool). if b then record { car = car; slot = place - start } else place_among (car + 1) parts (place - start - length part)) inside
          ∙ (λ i. record { car = number i; slot = place - first i });
    }

-- or a later one
in_later : (start place count : ℕ) (part : List DumpEntry) (parts : List (List DumpEntry)) (car : ℕ) → start ≤ place → length part ≤ place - start → LiesAt (start + length part) place count parts (car + 1) → LiesAt start place (suc count) (part ∷ parts) car
in_later start place count part parts car from_start past rest =
    let some = rest.some in
    let low = rest.low in
    let few = rest.few in
    let outside : nat_lt (place - start) (length part) ≡ false = le-ltb (place - start) (length part) past in
    let number : car + 1 + (count - 1) ≡ car + (suc count - 1) = omega (arith, some) in
    let nth : suc (count - 1) ≡ suc count - 1 = omega (arith, some) in
    let first = ap (λ (n : ℕ). get_or (start ∷ firsts_from (start + length part) parts) n 0) nth in
    let behind : place - start - length part ≡ place - (start + length part) = omega arith in
    record {
      some = omega arith;
      low = omega (arith, first, low);
      few = omega (arith, first, few);
      address = ap (λ (b : Bool). if b then record { car = car; slot = place - start } else place_among (car + 1) parts (place - start - length part)) outside
          ∙ ap (place_among (car + 1) parts) behind
          ∙ rest.address
          ∙ (λ i. record { car = number i; slot = place - first i });
    }

-- where the next car has begun, the place is behind the first part
none_later : (start place count : ℕ) (part : List DumpEntry) (parts : List (List DumpEntry)) → IsLastBegun (start ∷ firsts_from (start + length part) parts) place (suc count) → start ≤ place → place - start < length part → count ≡ 0
none_later start place zero part parts is from_start here = refl
none_later start place (suc count) part [] is from_start here = let within = is.within in absurd (omega (arith, within))
none_later start place (suc count) part (next ∷ parts) is from_start here = let low = is.before 1 (omega arith) in absurd (omega (arith, low, from_start, here))

pub lies_at : (start place count : ℕ) (parts : List (List DumpEntry)) (car : ℕ) → AllByRecursion (HasRoom car_room) parts → IsLastBegun (firsts_from start parts) place count → start ≤ place → place < start + length (joined_parts parts) → LiesAt start place count parts car
lies_at start place count [] car room is from_start there = absurd (omega (arith, from_start, there))
lies_at start place zero (part ∷ parts) car room is from_start there = let over = is.behind 0 (omega arith) (omega arith) in absurd (omega (arith, over, from_start))
lies_at start place (suc count) (part ∷ parts) car room is from_start there = by (cases_lt (place - start) (length part)) (lies_at (start + length part) place count parts (car + 1) room.1 (behind_rest start place count part parts is))
  where
    by : (place - start < length part) ⊎ (length part ≤ place - start)
        → (start + length part ≤ place → place < start + length part + length (joined_parts parts) → LiesAt (start + length part) place count parts (car + 1))
        → LiesAt start place (suc count) (part ∷ parts) car
    by (inl here) rest = in_first start place count part parts car (none_later start place count part parts is from_start here) from_start here room.0
    by (inr past) rest =
        let both = length-append part (joined_parts parts) in
        in_later start place count part parts car from_start past (rest (omega (arith, past, from_start)) (omega (arith, there, both)))

-- ---- of a dump

pub sound_at : (dump : Dump) → IsSoundDump dump → (place : ℕ) (e : DumpEntry) → slice_get dump.objects place ≡ Some e → IsSoundObject dump.next e.0 e.1
sound_at dump sound place e there = all_at (λ (e : DumpEntry). IsSoundObject dump.next e.0 e.1) dump.objects place e sound.objects there

-- no car begins before the first,
over_start : (start : ℕ) (parts : List (List DumpEntry)) (k d : ℕ) → k < length (firsts_from start parts) → start ≤ get_or (firsts_from start parts) k d
over_start start [] k d lt = absurd (omega (arith, lt))
over_start start (part ∷ parts) zero d lt = omega arith
over_start start (part ∷ parts) (suc k) d lt = let rest = over_start (start + length part) parts k d (omega (arith, lt)) in omega (arith, rest)

-- and no car before one that stands before it
pub never_fall : (start : ℕ) (parts : List (List DumpEntry)) (i j d : ℕ) → i ≤ j → j < length (firsts_from start parts) → get_or (firsts_from start parts) i d ≤ get_or (firsts_from start parts) j d
never_fall start [] i j d le lt = absurd (omega (arith, lt))
never_fall start (part ∷ parts) zero j d le lt = over_start start (part ∷ parts) j d lt
never_fall start (part ∷ parts) (suc i) zero d le lt = absurd (omega (arith, le))
never_fall start (part ∷ parts) (suc i) (suc j) d le lt = never_fall (start + length part) parts i j d (omega (arith, le)) (omega (arith, lt))

-- what a partition by the place says of it
pub last_begun : (xs : List ℕ) (place count : ℕ) → count ≤ length xs → IsPartitionPoint (λ (y : ℕ). nat_le y place ≡ true) (λ (y : ℕ). nat_le y place ≡ false) xs count → IsLastBegun xs place count
last_begun xs place count within parted = record {
  within = within;
  before = λ k lt. leb-true (get_or xs k 0) place (parted.0 k 0 (omega arith) lt);
  behind = λ k le lt. leb-false (get_or xs k 0) place (parted.1 k 0 le lt);
}

-- where the object at a place lies, by the car that a search finds
pub placed_at : (dump : Dump) → IsSoundDump dump → (place count : ℕ) → place < length dump.objects → IsLastBegun (firsts_of dump.objects) place count → LiesAt 0 place count (filled dump.objects) 1
placed_at dump sound place count there is =
    let whole = ap (λ (objects : List DumpEntry). length objects) (filled_whole dump.objects) in
    lies_at 0 place count (filled dump.objects) 1 (filled_room dump.objects (sound_alone dump.next dump.objects sound.objects)) is (omega arith) (omega (arith, there, whole))

pub first_places_are : (dump : Dump) → IsSoundDump dump → later_firsts PAGE_BYTES 0 dump.objects ≡ firsts_of dump.objects
first_places_are dump sound = all_firsts dump.objects (sound_alone dump.next dump.objects sound.objects)
