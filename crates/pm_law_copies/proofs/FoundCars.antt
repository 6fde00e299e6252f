-- The cars of a graph that was found, and that what it lists is accepted.
use Rattle.std.proofs.Common.{◌≡◌, ℕ, ◌+◌, ◌<◌, ◌≤◌, ◌==◌, true, false, ap, sym, subst, ◌∙◌, List, [], ◌∷◌, Option, Some, None, Ok, arith, if◌then◌else◌}
use Rattle.std.specs.List.{AllByRecursion}
use Rattle.std.specs.FinSet as set
use Rattle.std.proofs.lemmas.Bool.{eqb-true}
use Rattle.pm_types.specs.declared.limits.TheConstants.{FIELDS, OLD_FIELDS, OLD_VERSION}
use Rattle.pm_types.specs.declared.address.Addr.{Addr}
use Rattle.pm_types.specs.declared.object.Object.{Object}
use Rattle.pm_types.specs.declared.object.Slot.{Slot}
use Rattle.pm_types.specs.declared.object.Slot.TheVariants.{Live, Moved}
use Rattle.pm_layout.specs.declared.header.Header.{Header}
use Rattle.pm_layout.specs.Headers.{most_fields}
use Rattle.pm_layout.specs.Spelling.{HasSpelling}
use Rattle.pm_types.proofs.Results.{bind_ok, ok_same}
use Rattle.pm_model.proofs.Unused.{tied_nat}
use Rattle.pm_image.specs.declared.car.CarImage.{CarImage}
use Rattle.pm_image.specs.declared.catalog.CatEntry.{CatEntry}
use Rattle.pm_image.specs.declared.catalog.CatEntry.TheVariants.{Car, Root}
use Rattle.pm_image.specs.declared.settled.KeptPage.{KeptPage}
use Rattle.pm_image.specs.CarPages.{Numbers, CarScope, car_at}
use Rattle.pm_image.specs.Opening.{is_placed}
use Rattle.pm_image.specs.Graphs.{Pages, Graph, on_page, undamaged, with_identities, images_of, entries_of, cars_from, graph_of, slot_named, heap_of, roots_of, copy_of}
use Rattle.pm_image.specs.Leading.{CarLeads, RootLeads}
use Rattle.pm_image.proofs.CarTakes.{car_takes}
use Rattle.pm_image.proofs.LeadLaws.{graph_leads}
use Rattle.pm_model.specs.Copying.{copied}
use Rattle.pm_copies.specs.Listed.{copy_listed}
use Rattle.pm_copies.specs.Accepted.{Differ, NeverFall, IsAccepted}
use Rattle.pm_copies.specs.Accepted as accepted
use Rattle.pm_copies.specs.Opened.{listed_in, listed_graph}
use Rattle.pm_law_copies.proofs.Lists.{all_weaker}
use Rattle.pm_law_copies.proofs.Found.{graph_made, graph_listed}
use Rattle.pm_law_copies.proofs.Identities.{AllFree, not_old, free_named, apart_named}
use Rattle.pm_law_copies.proofs.Follows.{Follows, AreWhole, on_page_read, entries_follow, names_follow, roots_few}

-- fewer fields are within the limit too
wider : (most : ℕ) (slot : Slot) → most ≤ FIELDS → HasSpelling most slot → HasSpelling FIELDS slot
wider most (Live object) few has = record { within = (let fields = has.within.0 in omega (arith, fields, few), has.within.1); numbered = has.numbered }
wider most (Moved to) few has = record { within = tt; numbered = has.numbered }

few_fields : (version : ℕ) → most_fields version ≤ FIELDS
few_fields version = elim (version == OLD_VERSION) as (λ b. (if b then OLD_FIELDS else FIELDS) ≤ FIELDS) [ true ↦ omega arith | false ↦ omega arith ]

-- what is known of cars that were read after these identities, these numbers and this train
pub record CarsRead (next : ℕ) (met numbers : Numbers) (train : ℕ) (entries : List CatEntry) (read : List KeptPage) : Type 0 where
  pub fall : NeverFall train (listed_in entries (images_of read))
  pub cars : AllByRecursion accepted.IsAcceptedCar (images_of read)
  pub fresh : AllByRecursion (λ (car : CarImage). set.contains numbers car.number ≡ false) (images_of read)
  pub differ : Differ (images_of read)
  pub free : AllFree next met (images_of read)

module _ (pages : Pages) (whole : AreWhole pages) (most next : ℕ) (few : most ≤ FIELDS) where
  pub cars_read : (met numbers : Numbers) (train : ℕ) (name : Option (List ℕ)) (roots : ℕ) (entries : List CatEntry) (read : List KeptPage) → Follows pages.count numbers train name roots entries → cars_from most next pages met entries ≡ Ok read → CarsRead next met numbers train entries read
  unfolding cars_from
  cars_read met numbers train name roots [] read follows is = subst (CarsRead next met numbers train []) (ok_same [] read is) (record { fall = tt; cars = tt; fresh = tt; differ = tt; free = tt })
  cars_read met numbers train name roots (Root found at ∷ entries) read follows is =
      let rest = cars_read met numbers train (Some found) (roots + 1) entries read follows.2 is in
      record { fall = rest.fall; cars = rest.cars; fresh = rest.fresh; differ = rest.differ; free = rest.free }
  cars_read met numbers train name roots (Car car now page digest ∷ entries) read follows is =
      let scope : CarScope = record { most = most; next = next; number = Some car } in
      let one = bind_ok (undamaged pages page digest) _ read is in
      let two = bind_ok (on_page page (car_at scope met (pages.page page))) _ read one.2 in
      let three = bind_ok (cars_from most next pages (with_identities met two.0.slots) entries) _ read two.2 in
      let made : List KeptPage = record { image = two.0; page = page; digest = digest } ∷ three.0 in
      let there = whole page follows.0.below in
      let taken = car_takes scope met (pages.page page) two.0 there.0 there.1 (on_page_read page (car_at scope met (pages.page page)) two.0 two.1) in
      let number : two.0.number ≡ car = eqb-true two.0.number car taken.named in
      let rest = cars_read (with_identities met two.0.slots) (set.insert numbers car) now name roots entries three.0 follows.1 three.1 in
      subst (CarsRead next met numbers train (Car car now page digest ∷ entries)) (ok_same made read three.2) (record {
        fall = (follows.0.in_order, rest.fall);
        cars = (
          record {
            from_one = subst (λ n. 0 < n) (sym number) follows.0.from_one;
            ascend = taken.has.ascend;
            fits = taken.has.fits;
            slots = all_weaker (λ (e : ℕ × Slot). HasSpelling most e.1) (λ (e : ℕ × Slot). HasSpelling FIELDS e.1) two.0.slots (λ e has. wider most e.1 few has) taken.has.slots;
          },
          rest.cars,
        );
        fresh = (ap (set.contains numbers) number ∙ follows.0.other, all_weaker (λ (other : CarImage). set.contains (set.insert numbers car) other.number ≡ false) (λ (other : CarImage). set.contains numbers other.number ≡ false) (images_of three.0) (λ other none. (not_old numbers car other.number none).0) rest.fresh);
        differ = (
          all_weaker (λ (other : CarImage). set.contains (set.insert numbers car) other.number ≡ false) (λ (other : CarImage). (other.number == two.0.number) ≡ false) (images_of three.0)
              (λ other none. ap (λ n. other.number == n) number ∙ sym (tied_nat other.number car) ∙ (not_old numbers car other.number none).1) rest.fresh,
          rest.differ,
        );
        free = (taken.has.free, rest.free);
      })

-- ---- a graph that was found

pub graph_copy : (pages : Pages) (header : Header) (graph : Graph) (next : ℕ) → graph_of pages header ≡ Ok graph → copy_listed (listed_graph graph) (entries_of graph.catalog) next ≡ copy_of next graph
graph_copy pages header graph next is = ap (λ (cars : List CarImage). copied (heap_of cars) (roots_of cars (entries_of graph.catalog)) next) (graph_listed pages header graph is)

pub graph_accepted : (pages : Pages) (header : Header) (graph : Graph) → AreWhole pages → is_placed pages.count header ≡ true → (1 ≤ header.next) × (header.next ≤ 4294967296) → graph_of pages header ≡ Ok graph
    → IsAccepted (listed_graph graph) (entries_of graph.catalog) header.next
graph_accepted pages header graph whole placed next is =
    let made = graph_made pages header graph is in
    let follows = entries_follow pages header graph.catalog whole placed made.catalog in
    let read = cars_read pages whole (most_fields header.version) header.next (few_fields header.version) set.empty set.empty 0 None 0 (entries_of graph.catalog) graph.cars follows made.cars in
    let same = sym (graph_listed pages header graph is) in
    let lead = graph_leads pages header graph is in
    record {
      next = next;
      trains = read.fall;
      cars = subst (AllByRecursion accepted.IsAcceptedCar) same read.cars;
      differ = subst Differ same read.differ;
      given = subst (λ (cars : List CarImage). (a : Addr) (object : Object) → slot_named cars a ≡ Some (Live object) → object.id < header.next) same (λ a object there. (free_named header.next set.empty (images_of graph.cars) a object read.free there).0);
      apart = subst (λ (cars : List CarImage). (a b : Addr) (o p : Object) → slot_named cars a ≡ Some (Live o) → slot_named cars b ≡ Some (Live p) → o.id ≡ p.id → a ≡ b) same (λ a b o p at_a at_b ids. apart_named header.next set.empty (images_of graph.cars) a b o p read.free at_a at_b ids);
      lead = subst (λ (cars : List CarImage). AllByRecursion (CarLeads cars) cars) same lead.0;
      roots = subst (λ (cars : List CarImage). AllByRecursion (RootLeads cars) (entries_of graph.catalog)) same lead.1;
      names = names_follow pages.count set.empty 0 None 0 (entries_of graph.catalog) follows;
      few = let few = roots_few pages.count set.empty 0 None 0 (entries_of graph.catalog) (omega arith) follows in omega (arith, few);
    }
