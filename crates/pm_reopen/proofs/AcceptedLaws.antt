-- What was read of a catalog and of its cars is accepted, on any disk.
use Rattle.std.proofs.Common.{◌≡◌, ℕ, ◌<◌, ◌≤◌, ◌==◌, false, ap, sym, subst, ◌∙◌, refl, List, [], ◌∷◌, length, Option, Some, None, arith}
use Rattle.std.specs.List.{AllByRecursion}
use Rattle.std.specs.FinSet as set
use Rattle.pm_types.specs.declared.limits.TheConstants.{FIELDS}
use Rattle.pm_types.specs.declared.address.Addr.{Addr}
use Rattle.pm_types.specs.declared.object.Object.{Object}
use Rattle.pm_types.specs.declared.object.Slot.{Slot}
use Rattle.pm_types.specs.declared.object.Slot.TheVariants.{Live}
use Rattle.pm_layout.specs.Spelling.{HasSpelling}
use Rattle.pm_model.proofs.Unused.{tied_nat}
use Rattle.pm_image.specs.declared.car.CarImage.{CarImage}
use Rattle.pm_image.specs.declared.catalog.CatEntry.{CatEntry}
use Rattle.pm_image.specs.declared.catalog.CatEntry.TheVariants.{Car, Root}
use Rattle.pm_image.specs.declared.settled.KeptPage.{KeptPage}
use Rattle.pm_image.specs.CarPages.{Numbers}
use Rattle.pm_image.specs.Graphs.{Catalog, with_identities, images_of, entries_of, slot_named}
use Rattle.pm_image.specs.Leading.{CarLeads, RootLeads}
use Rattle.pm_copies.specs.Listed.{images}
use Rattle.pm_copies.specs.Accepted.{Differ, NamesAscend, IsAccepted, roots_in}
use Rattle.pm_copies.specs.Accepted as accepted
use Rattle.pm_copies.specs.Opened.{listed_in}
use Rattle.pm_law_copies.proofs.Lists.{all_weaker}
use Rattle.pm_law_copies.proofs.FoundCars.{CarsRead}
use Rattle.pm_law_copies.proofs.Identities.{not_old, free_named, apart_named}
use Rattle.pm_graphs.specs.Reading.{MayFollow, AreRead, IsReadWhole, root_count}
use Rattle.pm_image.proofs.LeadLaws.{linked_leads}
use Rattle.pm_graphs.proofs.PageLaws.{wider}

-- as many cars were read as are listed
pub reads_paired : (most next : ℕ) (met : Numbers) (entries : List CatEntry) (cars : List KeptPage) → AreRead most next met entries cars → images (listed_in entries (images_of cars)) ≡ images_of cars
reads_paired most next met [] [] reads = refl
reads_paired most next met [] (kept ∷ cars) reads = absurd reads
reads_paired most next met (Root name at ∷ entries) cars reads = reads_paired most next met entries cars reads
reads_paired most next met (Car car train page digest ∷ entries) [] reads = absurd reads
reads_paired most next met (Car car train page digest ∷ entries) (kept ∷ cars) reads = ap (λ rest. kept.image ∷ rest) (reads_paired most next (with_identities met kept.image.slots) entries cars reads.2)

-- the cars that were read differ, and so do their identities
cars_read : (most next : ℕ) → most ≤ FIELDS → (met numbers : Numbers) (train : ℕ) (name : Option (List ℕ)) (entries : List CatEntry) (cars : List KeptPage) → MayFollow numbers train name entries → AreRead most next met entries cars → CarsRead next met numbers train entries cars
cars_read most next few met numbers train name [] [] follow reads = record { fall = tt; cars = tt; fresh = tt; differ = tt; free = tt }
cars_read most next few met numbers train name [] (kept ∷ cars) follow reads = absurd reads
cars_read most next few met numbers train name (Root found at ∷ entries) cars follow reads =
    let rest = cars_read most next few met numbers train (Some found) entries cars follow.1 reads in
    record { fall = rest.fall; cars = rest.cars; fresh = rest.fresh; differ = rest.differ; free = rest.free }
cars_read most next few met numbers train name (Car car now page digest ∷ entries) [] follow reads = absurd reads
cars_read most next few met numbers train name (Car car now page digest ∷ entries) (kept ∷ cars) follow reads =
    let number = reads.0 in
    let has = reads.1 in
    let rest = cars_read most next few (with_identities met kept.image.slots) (set.insert numbers car) now name entries cars follow.3 reads.2 in
    record {
      fall = (follow.2, rest.fall);
      cars = (
        record {
          from_one = subst (λ (n : ℕ). 0 < n) (sym number) follow.0;
          ascend = has.ascend;
          fits = has.fits;
          slots = all_weaker (λ (e : ℕ × Slot). HasSpelling most e.1) (λ (e : ℕ × Slot). HasSpelling FIELDS e.1) kept.image.slots (λ e spelled. wider most e.1 few spelled) has.slots;
        },
        rest.cars,
      );
      fresh = (ap (set.contains numbers) number ∙ follow.1, all_weaker (λ (other : CarImage). set.contains (set.insert numbers car) other.number ≡ false) (λ (other : CarImage). set.contains numbers other.number ≡ false) (images_of cars) (λ other none. (not_old numbers car other.number none).0) rest.fresh);
      differ = (
        all_weaker (λ (other : CarImage). set.contains (set.insert numbers car) other.number ≡ false) (λ (other : CarImage). (other.number == kept.image.number) ≡ false) (images_of cars)
            (λ other none. ap (λ (n : ℕ). other.number == n) number ∙ sym (tied_nat other.number car) ∙ (not_old numbers car other.number none).1) rest.fresh,
        rest.differ,
      );
      free = (has.free, rest.free);
    }

names_ascend : (numbers : Numbers) (train : ℕ) (name : Option (List ℕ)) (entries : List CatEntry) → MayFollow numbers train name entries → NamesAscend name entries
names_ascend numbers train name [] follow = tt
names_ascend numbers train name (Car car now page digest ∷ entries) follow = names_ascend (set.insert numbers car) now name entries follow.3
names_ascend numbers train name (Root found at ∷ entries) follow = (follow.0, names_ascend numbers train (Some found) entries follow.1)

as_many : (entries : List CatEntry) → length (roots_in entries) ≡ root_count entries
as_many [] = refl
as_many (Car car train page digest ∷ entries) = as_many entries
as_many (Root name at ∷ entries) = let rest = as_many entries in omega (arith, rest)

-- what was read is accepted
pub whole_accepted : (count next : ℕ) (catalog : Catalog) (cars : List KeptPage) → 0 < next → next ≤ 4294967296 → IsReadWhole count next catalog cars → IsAccepted (listed_in (entries_of catalog) (images_of cars)) (entries_of catalog) next
whole_accepted count next catalog cars some last whole =
    let read = cars_read whole.most next whole.few set.empty set.empty 0 None (entries_of catalog) cars whole.follow whole.reads in
    let same = sym (reads_paired whole.most next set.empty (entries_of catalog) cars whole.reads) in
    let lead = linked_leads catalog cars tt whole.links in
    record {
      next = (omega (arith, some), last);
      trains = read.fall;
      cars = subst (AllByRecursion accepted.IsAcceptedCar) same read.cars;
      differ = subst Differ same read.differ;
      given = subst (λ (cars : List CarImage). (a : Addr) (object : Object) → slot_named cars a ≡ Some (Live object) → object.id < next) same (λ a object there. (free_named next set.empty (images_of cars) a object read.free there).0);
      apart = subst (λ (cars : List CarImage). (a b : Addr) (o p : Object) → slot_named cars a ≡ Some (Live o) → slot_named cars b ≡ Some (Live p) → o.id ≡ p.id → a ≡ b) same (λ a b o p at_a at_b ids. apart_named next set.empty (images_of cars) a b o p read.free at_a at_b ids);
      lead = subst (λ (cars : List CarImage). AllByRecursion (CarLeads cars) cars) same lead.0;
      roots = subst (λ (cars : List CarImage). AllByRecursion (RootLeads cars) (entries_of catalog)) same lead.1;
      names = names_ascend set.empty 0 None (entries_of catalog) whole.follow;
      few = let many = as_many (entries_of catalog) in let few = whole.sound.roots in omega (arith, many, few);
    }

pub whole_paired : (count next : ℕ) (catalog : Catalog) (cars : List KeptPage) → IsReadWhole count next catalog cars → images (listed_in (entries_of catalog) (images_of cars)) ≡ images_of cars
whole_paired count next catalog cars whole = reads_paired whole.most next set.empty (entries_of catalog) cars whole.reads
