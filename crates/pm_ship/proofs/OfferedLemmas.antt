-- What was read may be offered, and what is offered is what opening finds.
use Rattle.std.proofs.Common.{◌≡◌, ℕ, ◌<◌, ◌≤◌, List, map, length, Option, Some, Result, Ok, sym, ap, subst, ◌∙◌}
use Rattle.std.specs.List.{AllByRecursion}
use Rattle.pm_types.specs.Names.{IsName}
use Rattle.pm_types.specs.declared.address.Addr.{Addr}
use Rattle.pm_types.specs.declared.fault.OpenFault.{OpenFault}
use Rattle.pm_model.specs.World.{Copy}
use Rattle.pm_image.specs.Graphs.{Graph, copy_of, entries_of, images_of}
use Rattle.pm_image.specs.Stands.{Opened, StandsForCopy}
use Rattle.pm_shadow.specs.State.{State}
use Rattle.pm_shadow.specs.Copies.{current_graph}
use Rattle.pm_copies.specs.Accepted.{Differ, IsAccepted}
use Rattle.pm_copies.specs.Listed.{Listed, images}
use Rattle.pm_copies.specs.Opened.{listed_graph, listed_in}
use Rattle.pm_law_copies.proofs.FoundStore.{store_copy}
use Rattle.pm_copies.specs.Plans.{root_entry}
use Rattle.pm_reopen.proofs.AcceptedLaws.{whole_accepted, whole_paired}
use Rattle.pm_ship.specs.declared.store.StoreRead.{StoreRead}
use Rattle.pm_ship.specs.declared.standby.Standby.{Standby}
use Rattle.pm_ship.specs.Begun.{MayBeOffered}
use Rattle.pm_ship.specs.Listing.{with_trains}
use Rattle.pm_ship.specs.Offers.{IsFound, IsOffered, Offer, copy_offered, offer_of}
use Rattle.pm_ship.specs.Stores.{IsReadOf, IsStandby, offered}
use Rattle.pm_ship.proofs.ListLemmas.{listed_paired, trains_counted}
use Rattle.pm_ship.proofs.OfferLemmas.{accepted_alone, copy_alone, names_kept}

-- ---- what was read of the first store

module _ (s : State) (contents : Option (List ℕ)) (it : StoreRead) (is : IsReadOf s contents it) where
  list_is : with_trains it.trains.items (images_of it.cars) ≡ listed_in (entries_of is.catalog) (images_of it.cars)
  list_is = ap (λ (trains : List ℕ). with_trains trains (images_of it.cars)) is.taken.trains ∙ sym (listed_paired (entries_of is.catalog) (images_of it.cars))

  pub read_offer : offered it ≡ offer_of s.header (record { catalog = is.catalog; cars = it.cars })
  read_offer = λ i. record { epoch = is.taken.epoch_is i; next = is.taken.next_is i; list = list_is i; roots = is.taken.roots i }

  -- it is what the pages have
  pub read_offered : IsOffered s contents (offered it)
  read_offered = record {
    epoch = is.taken.epoch_is;
    next = is.taken.next_is;
    found = λ bytes told. (record { catalog = is.catalog; cars = it.cars }, is.found bytes told, read_offer);
  }

  -- and may be offered
  pub read_may : 0 < s.header.next → s.header.next ≤ 4294967296 → MayBeOffered it
  read_may some last =
      let accepted = accepted_alone (listed_in (entries_of is.catalog) (images_of it.cars)) (entries_of is.catalog) s.header.next (whole_accepted s.count s.header.next is.catalog it.cars some last is.whole) in
      record {
        paired = ap (λ (trains : List ℕ). length trains) is.taken.trains ∙ trains_counted is.whole.most s.header.next _ (entries_of is.catalog) it.cars is.whole.reads;
        listed = ap images list_is ∙ whole_paired s.count s.header.next is.catalog it.cars is.whole;
        accepted = subst (λ (n : ℕ). IsAccepted (with_trains it.trains.items (images_of it.cars)) (map root_entry it.roots.items) n) (sym is.taken.next_is)
            (subst (λ (list : List Listed). IsAccepted list (map root_entry it.roots.items) s.header.next) (sym list_is)
            (subst (λ (roots : List (List ℕ × Addr)). IsAccepted (listed_in (entries_of is.catalog) (images_of it.cars)) (map root_entry roots) s.header.next) (sym is.taken.roots) accepted));
        names = subst (AllByRecursion (λ (root : List ℕ × Addr). IsName root.0)) (sym is.taken.roots) (names_kept (entries_of is.catalog) is.whole.sound.names);
      }

-- ---- the copy that is offered

found_is : {a b : Opened} → ◌≡◌ {A = Result Opened OpenFault} (Ok a) (Ok b) → a ≡ b
found_is same = cc

-- the copy of a graph that is found is what it offers
pub graph_offers : (s : State) (bytes : List ℕ) (graph : Graph) → IsFound s bytes graph → copy_of s.header.next graph ≡ copy_offered (offer_of s.header graph)
graph_offers s bytes graph found =
    sym (store_copy bytes (current_graph s graph) found) ∙ sym (copy_alone (listed_graph graph) (entries_of graph.catalog) s.header.next)

-- the copy for which the bytes stand is what is offered
pub stood_offered : (s : State) (contents : Option (List ℕ)) (offer : Offer) (bytes : List ℕ) (theirs : Copy) → IsOffered s contents offer → contents ≡ Some bytes → StandsForCopy bytes s.header.epoch theirs → theirs ≡ copy_offered offer
stood_offered s contents offer bytes theirs is told stands =
    let it = is.found bytes told in
    let same : stands.found ≡ current_graph s it.0 = found_is (sym stands.is_found ∙ it.1) in
    stands.is_copy ∙ ap (λ (found : Opened). copy_of found.current.header.next found.graph) same ∙ graph_offers s bytes it.0 it.1 ∙ ap copy_offered (sym it.2)

-- ---- the standby

-- no two cars of it have one number
pub standby_differs : (s t : State) (contents : Option (List ℕ)) (it : Standby) → IsStandby s t contents it → 0 < s.header.next → s.header.next ≤ 4294967296 → Differ (images_of it.settled)
standby_differs s t contents it is some last =
    subst Differ (whole_paired s.count s.header.next is.catalog it.settled is.whole) (whole_accepted s.count s.header.next is.catalog it.settled some last is.whole).differ

-- what it lists
pub standby_list : (s t : State) (contents : Option (List ℕ)) (it : Standby) (is : IsStandby s t contents it) → with_trains it.trains.items (images_of it.settled) ≡ listed_graph (record { catalog = is.catalog; cars = it.settled })
standby_list s t contents it is = ap (λ (trains : List ℕ). with_trains trains (images_of it.settled)) is.trains ∙ sym (listed_paired (entries_of is.catalog) (images_of it.settled))
