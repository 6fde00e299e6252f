-- What writing a copy beside that of a standby leaves.
use Rattle.std.specs.Prelude.{◌≡◌, ◌⊎◌, ℕ, ◌+◌, ◌<◌, ◌≤◌, Bool, List, [], ◌∷◌, Contains, length, Some}
use Rattle.std.specs.List.{AllByRecursion}
use Rattle.pm_disk.specs.Disk.{IfTold, LeavesOnly}
use Rattle.pm_disk.specs.declared.disk.Disk.{Ghosts}
use Rattle.pm_disk.specs.Made.{MadeAtMost, MadeMore}
use Rattle.pm_model.specs.World.{Copy}
use Rattle.pm_image.specs.declared.settled.KeptPage.{KeptPage}
use Rattle.pm_image.specs.Graphs.{Graph, images_of, used_pages}
use Rattle.pm_image.specs.Opening.{page_count, page_of}
use Rattle.pm_image.specs.Stands.{Opened, StandsForCopy}
use Rattle.pm_shadow.specs.State.{attached, other}
use Rattle.pm_shadow.specs.Copies.{KeepsGraph, current_graph}
use Rattle.pm_shadow.specs.Images.{shutting}
use Rattle.pm_shadow.specs.Pages.{disk_of, state}
use Rattle.pm_shadow.specs.declared.pages.Pages.{Pages}
use Rattle.pm_copies.specs.Apart.{AreApart}
use Rattle.pm_saving.specs.Progress.{Progress}
use Rattle.pm_saving.specs.Tied.{HasCopy, settled_on}
use Rattle.pm_ship.specs.declared.fault.Shipped.{Shipped}
use Rattle.pm_ship.specs.Begun.{IsOfferBegun}
use Rattle.pm_ship.specs.Cars.{cars_offered}
use Rattle.pm_ship.specs.Counting.{IsCount}
use Rattle.pm_ship.specs.Offers.{Offer, copy_offered}

-- no page of a copy that stands on this graph, and none of the headers'
pub record IsBeside (mine : Graph) (page : ℕ) : Type 0 where
  pub from_2 : 2 ≤ page
  pub apart : Contains (used_pages mine) page → ⊥

-- Of the pages that there were only so many are others, each beside the copy that was found there and none twice, and that
-- of the other header.
pub record ChangesFew (mine : Opened) (was now : List ℕ) (written : ℕ) : Type 0 where
  pub pages : List ℕ
  pub count : length pages ≡ written
  pub apart : AreApart pages
  pub beside : AllByRecursion (IsBeside mine.graph) pages
  pub only : (page : ℕ) → page < page_count was → (page ≡ other mine.current.slot → ⊥) → (Contains pages page → ⊥) → page_of now page ≡ page_of was page

-- the lowest page behind the headers' that is none of these
pub record IsLowestBeside (used : List ℕ) (page : ℕ) : Type 0 where
  pub from_2 : 2 ≤ page
  pub apart : Contains used page → ⊥
  pub lowest : (below : ℕ) → 2 ≤ below → below < page → Contains used below

-- each page is the lowest that is none of these, and none of those before it
abbrev pub AreLowestBeside : List ℕ → List ℕ → Type 0
AreLowestBeside used [] = Unit {0}
AreLowestBeside used (page ∷ pages) = IsLowestBeside used page × AreLowestBeside (page ∷ used) pages

-- The bytes are those before, with what is offered on these pages: a page for each car that the standby lacks, in the
-- order of the list, and then the catalog's, from the last to the first. Then the other gate was closed, where it was open;
-- and then the header was written in that slot, and the gate opened.
pub record IsLaidOn (offer : Offer) (mine : Opened) (closed : Bool) (pages was now : List ℕ) : Type 0 where
  pub begun : Progress
  pub is_begun : IsOfferBegun offer mine.graph.cars begun
  pub bytes : now ≡ settled_on (cars_offered offer) pages begun (attached mine.current.slot mine.current.header 0 closed) was

-- What is offered was written beside the copy that was found there, on the lowest pages that this does not use.
pub record LaysBeside (offer : Offer) (mine : Opened) (closed : Bool) (was now : List ℕ) (written : ℕ) : Type 0 where
  pub changes : ChangesFew mine was now written
  pub lowest : AreLowestBeside (used_pages mine.graph) changes.pages
  pub laid : IsLaidOn offer mine closed changes.pages was now

module _ {E : Type 0} {e : Ghosts E} where
  -- at every moment between, each image stands for the copy that the pages had
  abbrev pub LeavesCopy : Pages E e → Pages E e → Type 0
  LeavesCopy before after =
      (mine : Copy) (was : List ℕ) → e.contents (disk_of before) ≡ Some was → HasCopy (state before) was mine
      → LeavesOnly e.moment e.since (disk_of before) (disk_of after) (λ image. StandsForCopy image (state before).header.epoch mine)

  -- or for what is offered
  abbrev pub LeavesEitherOf : Offer → Pages E e → Pages E e → Type 0
  LeavesEitherOf offer before after =
      (mine : Copy) (was : List ℕ) → e.contents (disk_of before) ≡ Some was → HasCopy (state before) was mine
      → LeavesOnly e.moment e.since (disk_of before) (disk_of after) (λ image. StandsForCopy image (state before).header.epoch mine ⊎ StandsForCopy image offer.epoch (copy_offered offer))

  -- the pages have their copy still, where the disk tells its contents
  abbrev pub HaveStill : Pages E e → Pages E e → Type 0
  HaveStill before after =
      (mine : Copy) (was : List ℕ) → e.contents (disk_of before) ≡ Some was → HasCopy (state before) was mine
      → IfTold (e.contents (disk_of after)) (λ now. HasCopy (state after) now mine)

  -- Their copy stands, at every moment between and then.
  pub record SparesCopy (before after : Pages E e) : Type 0 where
    pub leaves : LeavesCopy before after
    pub has : HaveStill before after
    pub epoch : (state after).header.epoch ≡ (state before).header.epoch

  -- What is offered is the copy of these pages now, and every image stands for it.
  pub record HasOffered (offer : Offer) (before after : Pages E e) : Type 0 where
    pub epoch : (state after).header.epoch ≡ offer.epoch
    pub next : (state after).header.next ≡ offer.next
    pub stands : IfTold (e.contents (disk_of before)) (λ was. (image : List ℕ) → e.image (disk_of after) image → StandsForCopy image offer.epoch (copy_offered offer))
    pub has : IfTold (e.contents (disk_of before)) (λ was. IfTold (e.contents (disk_of after)) (λ now. HasCopy (state after) now (copy_offered offer)))

  -- so many pages were written, and the header, whose other gate was closed before
  abbrev pub MakesPages : ℕ → Pages E e → Pages E e → Type 0
  MakesPages written before after =
      MadeMore (written + (shutting (state before) + 2)) (shutting (state before) + 2) 0 (e.made (disk_of before)) (e.made (disk_of after))

  -- It was written beside the copy of these cars.
  pub record IsLaid (offer : Offer) (settled : List KeptPage) (before after : Pages E e) (shipped : Shipped) : Type 0 where
    pub epoch : shipped.epoch ≡ offer.epoch
    pub has : HasOffered offer before after
    pub count : IsCount (images_of settled) offer shipped.written
    pub lays : (mine : Graph) (was now : List ℕ) → e.contents (disk_of before) ≡ Some was → KeepsGraph (state before) was mine
        → e.contents (disk_of after) ≡ Some now → LaysBeside offer (current_graph (state before) mine) (state before).closed was now shipped.written
    pub made : MakesPages shipped.written before after

  -- No more calls were made than the whole takes: a write for each page that a standby of these cars lacks and for each of
  -- the catalog, and those of the header.
  pub record WritesAtMost (offer : Offer) (settled : List KeptPage) (before after : Pages E e) : Type 0 where
    pub written : ℕ
    pub count : IsCount (images_of settled) offer written
    pub most : MadeAtMost (written + (shutting (state before) + 2)) (shutting (state before) + 2) (e.made (disk_of before)) (e.made (disk_of after))
