-- The objects of a dump are filled into parts.
use Rattle.std.proofs.Common.{◌≡◌, ℕ, ◌+◌, ◌*◌, ◌<◌, ◌≤◌, List, [], ◌∷◌, length, refl, arith}
use Rattle.std.specs.List.{AllByRecursion}
use Rattle.pm_types.specs.declared.limits.TheConstants.{CAR_HEAD_BYTES}
use Rattle.pm_copies.specs.Filling.{TakesSizes, HasRoom, HasRoomAlone, IsFilledInto, joined_parts}
use Rattle.pm_law_copies.proofs.LayoutLemmas.Filling.{is_filled, one_filling, joined_fill}
use Rattle.pm_dump.specs.Dump.{Dump}
use Rattle.pm_dump.specs.Sound.{IsSoundObject, IsSoundDump}
use Rattle.pm_restore.specs.Packing.Packing.{DumpEntry, car_room, filled, object_room}

-- a car takes its head and the room of its objects
pub takes_objects : TakesSizes car_room object_room CAR_HEAD_BYTES
takes_objects = record { none = refl; more = λ e objects. refl; room = omega arith }

-- each object stands once, in order
pub filled_whole : (objects : List DumpEntry) → joined_parts (filled objects) ≡ objects
filled_whole [] = refl
filled_whole (e ∷ objects) = joined_fill car_room object_room CAR_HEAD_BYTES takes_objects CAR_HEAD_BYTES (e ∷ objects)

-- an object within the limits has room in a car alone
pub sound_alone : (next : ℕ) (objects : List DumpEntry) → AllByRecursion (λ (e : DumpEntry). IsSoundObject next e.0 e.1) objects → AllByRecursion (HasRoomAlone car_room) objects
sound_alone next [] sound = tt
sound_alone next (e ∷ objects) sound =
    let few = sound.0.few in
    let short = sound.0.short in
    (omega (arith, few, short), sound_alone next objects sound.1)

filled_some : (objects : List DumpEntry) → 0 < length objects → AllByRecursion (HasRoomAlone car_room) objects → IsFilledInto car_room object_room objects (filled objects)
filled_some [] some alone = absurd (omega (arith, some))
filled_some (e ∷ objects) some alone = is_filled car_room object_room CAR_HEAD_BYTES takes_objects (e ∷ objects) alone

pub sound_filled : (dump : Dump) → IsSoundDump dump → 0 < length dump.objects → IsFilledInto car_room object_room dump.objects (filled dump.objects)
sound_filled dump sound some = filled_some dump.objects some (sound_alone dump.next dump.objects sound.objects)

pub filled_one : (objects : List DumpEntry) (parts : List (List DumpEntry)) → 0 < length objects → IsFilledInto car_room object_room objects parts → parts ≡ filled objects
filled_one [] parts some is = absurd (omega (arith, some))
filled_one (e ∷ objects) parts some is = one_filling car_room object_room CAR_HEAD_BYTES takes_objects (e ∷ objects) parts is

-- each part has room in a car
pub filled_room : (objects : List DumpEntry) → AllByRecursion (HasRoomAlone car_room) objects → AllByRecursion (HasRoom car_room) (filled objects)
filled_room [] alone = tt
filled_room (e ∷ objects) alone = (is_filled car_room object_room CAR_HEAD_BYTES takes_objects (e ∷ objects) alone).fit

-- an object takes 17 bytes and more, so that a car has few
pub few_objects : (part : List DumpEntry) → 17 * length part + CAR_HEAD_BYTES ≤ car_room part
few_objects [] = omega arith
few_objects (e ∷ part) = let rest = few_objects part in omega (arith, rest)
