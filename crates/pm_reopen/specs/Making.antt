-- What becomes of a car while its slots are opened one after another.
use Rattle.std.specs.Prelude.{ℕ, ◌+◌, List, [], ◌∷◌, map, option_map}
use Rattle.pm_types.specs.declared.object.Object.{Object}
use Rattle.pm_types.specs.declared.object.Slot.{Slot}
use Rattle.pm_types.specs.declared.object.Slot.TheVariants.{Live, Moved}
use Rattle.pm_cars.specs.Cars.{Car, placed, with_next}
use Rattle.pm_graphs.specs.Linking.{Leads, resolved_by}

-- an object, each field of which is followed
abbrev pub followed_object : Leads → Object → Object
followed_object leads object = record object { fields = map (option_map (resolved_by leads)) object.fields }

-- a car with one slot more: an object in it, or nothing where it was Moved; the next slot comes behind it
abbrev pub with_slot : Leads → Car → ℕ × Slot → Car
with_slot leads car (slot, Live object) = placed car slot (followed_object leads object)
with_slot leads car (slot, Moved to) = with_next car (slot + 1)

-- a car with these slots more, in order
abbrev pub with_slots : Leads → Car → List (ℕ × Slot) → Car
with_slots leads car [] = car
with_slots leads car (first ∷ others) = with_slots leads (with_slot leads car first) others
