-- A standby that was read, whose pages are known.
use Rattle.std.proofs.Common.{◌≡◌, ℕ, ◌≤◌, Bool, true, false, List, [], ◌∷◌, map, Option, Some, None, Result, Ok, refl, sym, ap, subst, ◌∙◌, arith}
use Rattle.std.specs.Prelude.{All, Contains}
use Rattle.std.specs.List.{AllByRecursion}
use Rattle.std.proofs.lemmas.List.Elements.{Contains-append_left, Contains-append_right}
use Rattle.std.proofs.lemmas.Option.{same_Some}
use Rattle.pm_types.specs.declared.fault.OpenFault.{OpenFault}
use Rattle.pm_disk.specs.Disk.{IfTold}
use Rattle.pm_image.specs.declared.settled.KeptPage.{KeptPage}
use Rattle.pm_image.specs.Graphs.{Graph, graph_of, used_pages}
use Rattle.pm_image.specs.Stands.{pages_of}
use Rattle.pm_image.proofs.FrameLaws.{found_of}
use Rattle.pm_shadow.specs.declared.page_use.PageUse.{PageUse}
use Rattle.pm_shadow.specs.declared.page_use.PageUse.TheVariants.{Current}
use Rattle.pm_shadow.specs.State.{IsListable, State, abandoned_in, keeps, keeps_by}
use Rattle.pm_shadow.specs.Copies.{AreUsed, KeepsGraph, current_graph}
use Rattle.pm_shadow.specs.Uses.{UsesOnlyListed}
use Rattle.pm_shadow.proofs.CopyLemmas.{abandoned_keeps, keeps_still, listed_graph}
use Rattle.pm_graphs.specs.Reading.{IsReadWhole, page_numbers}
use Rattle.pm_law_copies.proofs.Lists.{all_weaker}
use Rattle.pm_law_saving.proofs.Giving.{store_begins}
use Rattle.pm_reopen.proofs.OpenLaws.{cars_known, used_first, used_listable}
use Rattle.pm_saving.specs.Tied.{IsOnPage, IsTied}
use Rattle.pm_ship.specs.declared.store.StoreRead.{StoreRead}
use Rattle.pm_ship.specs.declared.standby.Standby.{Standby}
use Rattle.pm_ship.specs.Begun.{idle}
use Rattle.pm_ship.specs.Offers.{IsFound}
use Rattle.pm_ship.specs.Stores.{IsKnownFrom, IsPackedFrom, IsReadOf, IsReady, IsStandby}

all_on : (P : ℕ → Type 0) (cars : List KeptPage) → ((page : ℕ) → Contains (map (λ (kept : KeptPage). kept.page) cars) page → P page) → AllByRecursion (λ (kept : KeptPage). P kept.page) cars
all_on P [] at = tt
all_on P (kept ∷ cars) at = (
  at kept.page (Contains-append_left (kept.page ∷ []) (map (λ (kept : KeptPage). kept.page) cars) kept.page (0, omega arith, refl)),
  all_on P cars (λ page within. at page (Contains-append_right (kept.page ∷ []) (map (λ (kept : KeptPage). kept.page) cars) page within)),
)

pub ok_is : {a b : Graph} → ◌≡◌ {A = Result Graph OpenFault} (Ok a) (Ok b) → a ≡ b
ok_is same = cc

current_keeps : (known : Bool) (use_ : PageUse) → use_ ≡ Current → keeps_by known use_ ≡ true
current_keeps known use_ is = ap (keeps_by known) is

module _ (s : State) (contents : Option (List ℕ)) (read : StoreRead) (is : IsReadOf s contents read) where
  abbrev graph : Graph
  graph = record { catalog = is.catalog; cars = read.cars }

  graph_there : (bytes : List ℕ) → contents ≡ Some bytes → graph_of (pages_of bytes) s.header ≡ Ok graph
  graph_there bytes told = (found_of bytes (current_graph s graph) (is.found bytes told)).1

  module _ (used : List ℕ) (same : used ≡ read.pages.items) where
    used_is : used ≡ used_pages graph
    used_is = same ∙ is.taken.pages

    pub pages_listable : s.settled ≡ s.count → All (IsListable s) used
    pages_listable begun = used_listable s.count s.header.next is.catalog read.cars used used_is s begun is.whole

    pub pages_first : Contains used s.header.first
    pages_first = used_first s.count s.header.next is.catalog read.cars used used_is s.header.first is.first

    pub pages_used : IfTold contents (λ bytes. AreUsed s bytes used)
    pages_used bytes told = record {
      graph = graph;
      found = graph_there bytes told;
      all = λ page within. subst (λ (pages : List ℕ). Contains pages page) (sym used_is) within;
      only = λ page within. subst (λ (pages : List ℕ). Contains pages page) used_is within;
    }

    module _ (t : State) (ready : IsReady s contents) (begun : s.known ≡ false → s.settled ≡ s.count) (known : IsKnownFrom s t) (listed : s.known ≡ false → UsesOnlyListed used t.uses) where
      keeps_by_known : (b : Bool) → s.known ≡ b → (bytes : List ℕ) → contents ≡ Some bytes → KeepsGraph t bytes graph
      keeps_by_known true now bytes told =
          let right = ready.right now in
          let it : KeepsGraph s bytes right.2.0 = subst (λ (bs : List ℕ). KeepsGraph s bs right.2.0) (same_Some right.0 bytes (sym right.1 ∙ told)) right.2.1 in
          let mine : KeepsGraph s bytes graph = subst (KeepsGraph s bytes) (ok_is (sym it.found ∙ graph_there bytes told)) it in
          subst (λ (u : State). KeepsGraph u bytes graph) (sym (known.again now)) (keeps_still s (abandoned_in s) bytes graph (abandoned_keeps s now) mine)
      keeps_by_known false none bytes told =
          let used_now : AreUsed s bytes used = record {
            graph = graph;
            found = graph_there bytes told;
            all = λ page within. subst (λ (pages : List ℕ). Contains pages page) (sym used_is) within;
            only = λ page within. subst (λ (pages : List ℕ). Contains pages page) used_is within;
          } in
          subst (λ (u : State). KeepsGraph u bytes graph) (sym (known.first none)) (listed_graph s t.uses bytes used used_now (pages_listable (begun none)) (listed none))

      pub graph_kept : IfTold contents (λ bytes. KeepsGraph t bytes graph)
      graph_kept bytes told = keeps_by_known s.known refl bytes told

      on_by_known : (b : Bool) → s.known ≡ b → AllByRecursion (IsOnPage t) read.cars
      on_by_known true now =
          let right = ready.right now in
          let keeps_ = keeps_by_known true now right.0 right.1 in
          all_weaker (λ (kept : KeptPage). (2 ≤ kept.page) × (keeps t kept.page ≡ true)) (IsOnPage t) read.cars (λ kept on. record { from_2 = on.0; keeps = on.1 })
          (all_on (λ (page : ℕ). (2 ≤ page) × (keeps t page ≡ true)) read.cars
          (λ page within. let it = keeps_.kept page (Contains-append_right (page_numbers is.catalog) (map (λ (kept : KeptPage). kept.page) read.cars) page within) in (it.from_2, it.kept)))
      on_by_known false none =
          all_weaker (λ (kept : KeptPage). (2 ≤ kept.page) × (t.uses kept.page ≡ Current)) (IsOnPage t) read.cars (λ kept on. record { from_2 = on.0; keeps = current_keeps t.known (t.uses kept.page) on.1 })
          (cars_known is.catalog read.cars used used_is s t.uses (pages_listable (begun none)) (listed none))

      failed_by_known : (b : Bool) → s.known ≡ b → t.failed ≡ s.failed
      failed_by_known true now = ap (λ (u : State). u.failed) (known.again now)
      failed_by_known false none = ap (λ (u : State). u.failed) (known.first none)

      grown_by_known : (b : Bool) → s.known ≡ b → s.settled ≤ s.count → t.settled ≤ t.count
      grown_by_known true now within = subst (λ (u : State). u.settled ≤ u.count) (sym (known.again now)) within
      grown_by_known false none within = subst (λ (u : State). u.settled ≤ u.count) (sym (known.first none)) within

      read_tied : s.settled ≤ s.count → IsTied (idle read.cars) None t contents
      read_tied within =
          store_begins read.cars t contents (failed_by_known s.known refl ∙ ready.sound) known.known (grown_by_known s.known refl within) known.idle (on_by_known s.known refl)
          (λ bytes told. record { graph = graph; keeps = graph_kept bytes told; cars = refl })

      -- what holds of the standby then
      pub standby_read : s.settled ≤ s.count → (it : Standby) (pages : List ℕ) → IsPackedFrom read it pages → IsStandby s t contents it
      standby_read within it pages packed = record {
        catalog = is.catalog;
        whole = subst (λ (ks : List KeptPage). IsReadWhole s.count s.header.next is.catalog ks) (sym packed.settled) is.whole;
        trains = packed.trains ∙ is.taken.trains;
        roots = packed.roots ∙ is.taken.roots;
        places = packed.places;
        known = known;
        found = subst (λ (ks : List KeptPage). IfTold contents (λ bytes. IsFound s bytes (record { catalog = is.catalog; cars = ks }))) (sym packed.settled) is.found;
        keeps = subst (λ (ks : List KeptPage). IfTold contents (λ bytes. KeepsGraph t bytes (record { catalog = is.catalog; cars = ks }))) (sym packed.settled) graph_kept;
        tied = subst (λ (ks : List KeptPage). IsTied (idle ks) None t contents) (sym packed.settled) (read_tied within);
      }
