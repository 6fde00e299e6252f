-- How the copy of what was read begins.
use Rattle.std.proofs.Common.{◌≡◌, ℕ, ◌<◌, List, map, Option, Some, None, sym, ap, subst, ◌∙◌}
use Rattle.std.specs.Prelude.{IfSome}
use Rattle.std.specs.List.{AllByRecursion}
use Rattle.pm_types.specs.declared.address.Addr.{Addr}
use Rattle.pm_image.specs.declared.car.CarImage.{CarImage}
use Rattle.pm_image.specs.declared.settled.KeptPage.{KeptPage}
use Rattle.pm_image.specs.Graphs.{images_of}
use Rattle.pm_shadow.specs.State.{State}
use Rattle.pm_view.specs.View.{Cars}
use Rattle.pm_copies.specs.Accepted.{Differ, IsAccepted}
use Rattle.pm_copies.specs.Listed.{Listed, copy_listed, images}
use Rattle.pm_copies.specs.Plans.{root_entry}
use Rattle.pm_saving.specs.Beginning.{AreFrozen, ArePlaced, BeginsListed}
use Rattle.pm_saving.specs.Progress.{Progress, Saving, cars_of, copy_of}
use Rattle.pm_saving.specs.Tied.{IsTied}
use Rattle.pm_save.specs.declared.progress.place.PlacedCar.{PlacedCar}
use Rattle.pm_save.specs.Progress.Kept.{IsWithin}
use Rattle.pm_save.specs.Writer.Planned.{IsPlanned}
use Rattle.pm_ship.specs.declared.store.StoreRead.{StoreRead}
use Rattle.pm_ship.specs.Begun.{BeginsOffered, MayBeOffered, idle}
use Rattle.pm_ship.specs.Cars.{cars_kept, cars_offered}
use Rattle.pm_ship.specs.Listing.{with_trains}
use Rattle.pm_ship.specs.Offers.{Offer}
use Rattle.pm_ship.specs.Stores.{offered}
use Rattle.pm_ship.proofs.CountLemmas.{left_counted}

-- what is begun with these cars and roots is the copy of what is offered
pub begins_offered : (offer : Offer) (settled cars : List KeptPage) (old new : Saving) (placed : List PlacedCar) (names : List (List ℕ × Addr)) (next number : ℕ)
    → old ≡ idle settled → IsPlanned settled offer.list placed → names ≡ offer.roots → next ≡ offer.next → number ≡ offer.epoch → Differ (images_of settled)
    → AreFrozen (cars_kept cars) offer.list → cars_kept cars ≡ cars_offered offer → IsAccepted offer.list (map root_entry offer.roots) offer.next
    → ((list : List Listed) → IsPlanned old.settled list placed → BeginsListed old new list names next number)
    → ((list : List Listed) (frozen : Cars) → IsPlanned old.settled list placed → AreFrozen frozen list → IfSome new.progress (λ progress. copy_of frozen progress ≡ copy_listed list (map root_entry names) next))
    → ((list : List Listed) (frozen : Cars) (s : State) (contents : Option (List ℕ)) → IsPlanned old.settled list placed → AreFrozen frozen list → IsAccepted list (map root_entry names) next
    → s.header.epoch < number → IsTied old None s contents → IsTied new (Some frozen) s contents)
    → BeginsOffered offer settled new cars
begins_offered offer settled cars old new placed names next number old_is planned names_is next_is number_is differ frozen cars_are accepted begun copy tied =
    let plan : IsPlanned old.settled offer.list placed = subst (λ (saving : Saving). IsPlanned saving.settled offer.list placed) (sym old_is) planned in
    let begins = begun offer.list plan in
    let at = subst (λ (saving : Saving). ArePlaced saving.settled offer.list begins.begun.cars) old_is begins.cars in
    let takes : IsAccepted offer.list (map root_entry names) next =
    subst (λ (n : ℕ). IsAccepted offer.list (map root_entry names) n) (sym next_is) (subst (λ (roots : List (List ℕ × Addr)). IsAccepted offer.list (map root_entry roots) offer.next) (sym names_is) accepted) in
    let is_copy = subst (λ (o : Option Progress). IfSome o (λ (progress : Progress). copy_of (cars_kept cars) progress ≡ copy_listed offer.list (map root_entry names) next)) begins.now
    (copy offer.list (cars_kept cars) plan frozen) in
    record {
      progress = begins.begun;
      is_progress = begins.now;
      begun = record {
        number = begins.number_is ∙ number_is;
        cars = at;
        roots = begins.roots ∙ names_is;
        next = begins.next_id ∙ next_is;
        kept = begins.kept;
        parts = begins.parts;
      };
      cars_are = cars_are;
      number = begins.number_is ∙ number_is;
      next = begins.next_id ∙ next_is;
      copy = is_copy ∙ (λ i. copy_listed offer.list (map root_entry (names_is i)) (next_is i));
      count = left_counted settled offer begins.begun differ at (begins.roots ∙ names_is) begins.parts;
      tied = λ s contents less was. tied offer.list (cars_kept cars) s contents plan frozen takes (subst (λ (n : ℕ). s.header.epoch < n) (sym number_is) less) (subst (λ (saving : Saving). IsTied saving None s contents) (sym old_is) was);
    }

-- cars that were placed by what the parts of a store show
pub planned_offered : (first : StoreRead) (settled shown : List KeptPage) (trains : List ℕ) (cars : List KeptPage) (placed : List PlacedCar) → shown ≡ settled → trains ≡ first.trains.items → cars ≡ first.cars
    → IsPlanned shown (with_trains trains (images_of cars)) placed → IsPlanned settled (offered first).list placed
planned_offered first settled shown trains cars placed settled_is trains_are cars_are planned =
    subst (λ (ks : List KeptPage). IsPlanned ks (with_trains first.trains.items (images_of first.cars)) placed) settled_is
    (subst (λ (ks : List KeptPage). IsPlanned shown (with_trains first.trains.items (images_of ks)) placed) cars_are
    (subst (λ (ts : List ℕ). IsPlanned shown (with_trains ts (images_of cars)) placed) trains_are planned))

pub within_offered : (settled : List KeptPage) (old : Saving) (list : List Listed) (placed : List PlacedCar) → old ≡ idle settled → IsPlanned settled list placed → AllByRecursion (λ (one : PlacedCar). IsWithin old.settled one.place) placed
within_offered settled old list placed old_is planned = subst (λ (saving : Saving). AllByRecursion (λ (one : PlacedCar). IsWithin saving.settled one.place) placed) (sym old_is) planned.within

-- cars that are found as they are listed
pub frozen_offered : (first : StoreRead) (listed : List KeptPage) → MayBeOffered first → listed ≡ first.cars → AreFrozen (cars_of (images (offered first).list)) (offered first).list → AreFrozen (cars_kept listed) (offered first).list
frozen_offered first listed may listed_is frozen =
    subst (λ (ks : List KeptPage). AreFrozen (cars_kept ks) (offered first).list) (sym listed_is)
    (subst (λ (all : List CarImage). AreFrozen (cars_of all) (offered first).list) may.listed frozen)

-- and that are those that are offered
pub same_offered : (first : StoreRead) (listed : List KeptPage) → MayBeOffered first → listed ≡ first.cars → cars_kept listed ≡ cars_offered (offered first)
same_offered first listed may listed_is = ap cars_kept listed_is ∙ ap cars_of (sym may.listed)
