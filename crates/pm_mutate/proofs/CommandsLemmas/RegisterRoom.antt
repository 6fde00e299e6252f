-- The room for what a register stored.
use Rattle.std.proofs.Common.{◌≡◌, ℕ, true, refl, subst, ◌∙◌, Option, Some, None, IsSome, is_some}
use Rattle.std.specs.Ordering.{nat_cmp}
use Rattle.std.specs.Option.{option_and_then, option_map}
use Rattle.std.specs.FinMap.{get}
use Rattle.pm_types.specs.declared.address.Addr.{Addr}
use Rattle.pm_types.specs.declared.source.RefSource.TheVariants.{Handle}
use Rattle.pm_types.proofs.Mapped.{get-mapped}
use Rattle.pm_cars.specs.Cars.{Car, look_of}
use Rattle.pm_view.specs.View.{SpaceView}
use Rattle.pm_view.specs.Reading.{slot_at}
use Rattle.pm_view.specs.Law.{HeapLaw}
use Rattle.pm_view.specs.Seen.{Leads, seen}
use Rattle.pm_space.specs.declared.links.Links.{Links}
use Rattle.pm_space.specs.Linked.{Linked, set_of, sets_of, HasRoomFor, KeepsRoom}

stands_leading : (view : SpaceView) (a : Addr) → Leads (seen view) a (look_of (slot_at view.cars a)) → is_some (get view.cars a.car) ≡ true
stands_leading view a leads = by_case (get view.cars a.car) leads
  where
    by_case : (o : Option Car) → Leads (seen view) a (look_of (option_and_then (λ (car : Car). get car.slots a.slot) o)) → is_some o ≡ true
    by_case None leads = absurd leads
    by_case (Some car) leads = refl

-- the car of what a register stores has a remembered set
pub register_leads : (view : SpaceView) → HeapLaw view → (client register : ℕ) (a : Addr) → get view.registers (client, register) ≡ Some a → IsSome (get view.sets a.car)
register_leads view law client register a is =
    law.built.sets a.car ∙ stands_leading view a (law.tied.leads (Handle client register) a refl is).1

has_links : (links : Linked) (car : ℕ) → IsSome (get (sets_of links) car) → IsSome (get links car)
has_links links car some = by_case (get links car) (subst IsSome (get-mapped nat_cmp set_of links car) some)
  where
    by_case : (o : Option Links) → IsSome (option_map set_of o) → IsSome o
    by_case None some = absurd cc
    by_case (Some it) some = refl

-- the room that was made for it stays
pub room_stays : (old new : Linked) (o : Option Addr) → ((a : Addr) → o ≡ Some a → IsSome (get (sets_of old) a.car)) → KeepsRoom old new → HasRoomFor old o → HasRoomFor new o
room_stays old new None each kept room = tt
room_stays old new (Some a) each kept room = kept a.car 1 (has_links old a.car (each a refl)) room
