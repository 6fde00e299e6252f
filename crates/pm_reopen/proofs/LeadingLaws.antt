-- Addresses are followed by the map of listed slots as the list of cars says.
use Rattle.std.proofs.Common.{◌≡◌, List, map, Option, Some, None, refl, ap, ◌∙◌}
use Rattle.std.specs.List.{AllByRecursion}
use Rattle.std.specs.Option.{option_map}
use Rattle.pm_types.specs.declared.address.Addr.{Addr}
use Rattle.pm_types.specs.declared.object.Object.{Object}
use Rattle.pm_types.specs.declared.object.Slot.{Slot}
use Rattle.pm_types.specs.declared.object.Slot.TheVariants.{Live, Moved}
use Rattle.pm_image.specs.declared.car.CarImage.{CarImage}
use Rattle.pm_image.specs.declared.settled.KeptPage.{KeptPage}
use Rattle.pm_image.specs.CarPages.{Ascend}
use Rattle.pm_image.specs.Graphs.{images_of, slot_named}
use Rattle.pm_view.specs.Reading.{followed}
use Rattle.pm_copies.specs.Accepted.{IsAcceptedCar}
use Rattle.pm_copies.specs.Opened.{resolved_at, opened_object}
use Rattle.pm_graphs.specs.Linking.{lead_cars, led_to, resolved_by}
use Rattle.pm_graphs.proofs.LinkingLaws.{moved_to, AreAscending, found_at}
use Rattle.pm_law_copies.proofs.Lists.{all_weaker}
use Rattle.pm_reopen.specs.Making.{followed_object}

-- the slots of cars that are accepted ascend
pub accepted_ascend : (cars : List KeptPage) → AllByRecursion IsAcceptedCar (images_of cars) → AreAscending cars
accepted_ascend cars accepted = all_weaker IsAcceptedCar (λ (image : CarImage). Ascend 0 image.slots) (images_of cars) (λ image is. is.ascend) accepted

led_followed : (slot : Option Slot) (at : Addr) → led_to (option_map moved_to slot) at ≡ followed slot at
led_followed None at = refl
led_followed (Some (Live object)) at = refl
led_followed (Some (Moved to)) at = refl

-- an address is followed as the list of cars says
pub resolved_same : (cars : List KeptPage) → AreAscending cars → (at : Addr) → resolved_by (lead_cars cars) at ≡ resolved_at (images_of cars) at
resolved_same cars ascend at = ap (λ found. led_to found at) (found_at cars at ascend) ∙ led_followed (slot_named (images_of cars) at) at

-- and so is an object
pub object_same : (cars : List KeptPage) → AreAscending cars → (object : Object) → followed_object (lead_cars cars) object ≡ opened_object (images_of cars) object
object_same cars ascend object = ap (λ (f : Addr → Addr). record object { fields = map (option_map f) object.fields }) (λ i at. resolved_same cars ascend at i)
