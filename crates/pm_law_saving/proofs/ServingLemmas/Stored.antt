-- What is stored holds as soon as it is known that it holds in some way.
use Rattle.std.proofs.Common.{◌≡◌, ℕ, ◌+◌, List, [], ◌∷◌, Option, Some, None, Result, Ok, Err, refl, subst}
use Rattle.std.specs.Coded.{Coded-set}
use Rattle.std.proofs.Math.Logic.{∥∥₁_elim, ∥∥₁_map}
use mathlib.Core.HLevel.{⊥_prop}
use Rattle.std.proofs.Props.{props}
use Rattle.pm_types.specs.declared.fault.OpenFault.{OpenFault}
use Rattle.pm_types.specs.declared.object.Slot.{Slot}
use Rattle.pm_types.specs.declared.object.Slot.TheVariants.{Live, Moved}
use Rattle.pm_layout.specs.Spelling.{IsNumbered, IsWithinLimits}
use Rattle.pm_model.specs.World.{Copy, copy_code}
use Rattle.pm_image.specs.declared.car.CarImage.{CarImage}
use Rattle.pm_image.specs.declared.catalog.CatEntry.{CatEntry}
use Rattle.pm_image.specs.declared.catalog.CatEntry.TheVariants.{Car, Root}
use Rattle.pm_image.specs.declared.settled.KeptPage.{KeptPage}
use Rattle.pm_image.specs.contracts.settled.KeptPage as kept_page
use Rattle.pm_image.specs.CarPages.{Ascend}
use Rattle.pm_image.specs.Graphs.{Graph, graph_of, copy_of as copy_of_graph}
use Rattle.pm_image.specs.Leading.{RootLeads, SlotLeads}
use Rattle.pm_image.specs.Stands.{pages_of}
use Rattle.pm_copies.specs.Accepted.{Differ, IsAccepted, NamesAscend, NeverFall}
use Rattle.pm_copies.specs.Listed.{Listed}
use Rattle.pm_shadow.specs.declared.page_use.PageUse.{PageUse}
use Rattle.pm_shadow.specs.declared.page_use.PageUse.TheVariants.{Claimed, Kept}
use Rattle.pm_shadow.specs.contracts.page_use.PageUse as page_use
use Rattle.pm_shadow.specs.State.{State}
use Rattle.pm_shadow.specs.Copies.{KeepsGraph}
use Rattle.pm_view.specs.View.{Cars}
use Rattle.pm_saving.specs.Progress.{Place, Clean, Unwritten, Written, PlacedCar, Progress, Saving, image_of}
use Rattle.pm_saving.specs.Paging.{Put}
use Rattle.pm_saving.specs.Beginning.{IsInProgress, StandsAs}
use Rattle.pm_saving.specs.Tied.{AreItsPages, AreSettled, HasCopy, IsBegun, IsTied, all_kept, all_puts}
use Rattle.pm_saving.specs.Serving.{Serving, world}
use Rattle.pm_saving.specs.Images.{IsStored}
use Rattle.pm_law_saving.proofs.ServingLemmas.Splitting.{Splits, coded_compared, decided_member, number_member, part, splits_all, splits_decided, splits_once}

-- ---- the graph behind a header is one

graph_in : (found : Result Graph OpenFault) → ∥ ((graph : Graph) × (found ≡ Ok graph)) ∥₁ → (graph : Graph) × (found ≡ Ok graph)
graph_in (Ok graph) known = (graph, refl)
graph_in (Err fault) known = absurd (∥∥₁_elim known ⊥_prop (λ is. let never : Err fault ≡ Ok is.0 = is.1 in cc never))

same_graph : (found : Result Graph OpenFault) (graph other : Graph) → found ≡ Ok graph → found ≡ Ok other → graph ≡ other
same_graph found graph other is also = cc (is, also)

-- it is kept, with whatever else is known of it
module _ (s : State) (bytes : List ℕ) (P : Graph → Type 0) (known : ∥ ((graph : Graph) × KeepsGraph s bytes graph × P graph) ∥₁) where
  found : (graph : Graph) × (graph_of (pages_of bytes) s.header ≡ Ok graph)
  found = graph_in (graph_of (pages_of bytes) s.header) (∥∥₁_map known (λ is. (is.0, is.1.found)))

  known_of : ∥ KeepsGraph s bytes found.0 × P found.0 ∥₁
  known_of = ∥∥₁_map known (λ is. subst (λ graph. KeepsGraph s bytes graph × P graph) (same_graph _ is.0 found.0 is.1.found found.1) (is.1, is.2))

  keeps : KeepsGraph s bytes found.0
  keeps = record {
    found = found.1;
    first = part known_of (number_member _ _) (λ is. is.0.first);
    kept = λ page within. part known_of (splits_once (hlevel props)) (λ is. is.0.kept page within);
    only = λ all page from_2 is_kept. part known_of (number_member _ _) (λ is. is.0.only all page from_2 is_kept);
  }

pub splits_settled : (settled : List KeptPage) (s : State) (bytes : List ℕ) → Splits (AreSettled settled s bytes)
splits_settled settled s bytes known =
    let parts : ∥ ((graph : Graph) × KeepsGraph s bytes graph × (graph.cars ≡ settled)) ∥₁ = ∥∥₁_map known (λ is. (is.graph, is.keeps, is.cars)) in
    let P : Graph → Type 0 = λ graph. graph.cars ≡ settled in
    record {
      graph = (found s bytes P parts).0;
      keeps = keeps s bytes P parts;
      cars = part (known_of s bytes P parts) (splits_once (hlevel props)) (λ is. is.1);
    }

pub splits_copy : (s : State) (bytes : List ℕ) (copy : Copy) → Splits (HasCopy s bytes copy)
splits_copy s bytes copy known =
    let parts : ∥ ((graph : Graph) × KeepsGraph s bytes graph × (copy ≡ copy_of_graph s.header.next graph)) ∥₁ = ∥∥₁_map known (λ is. (is.graph, is.keeps, is.is_copy)) in
    let P : Graph → Type 0 = λ graph. copy ≡ copy_of_graph s.header.next graph in
    record {
      graph = (found s bytes P parts).0;
      keeps = keeps s bytes P parts;
      is_copy = part (known_of s bytes P parts) (splits_once (Coded-set copy_code _ _)) (λ is. is.1);
    }

-- ---- what no rule refuses is accepted in one way

once_differ : (cars : List CarImage) → IsProp (Differ cars)
once_differ [] = hlevel props
once_differ (car ∷ cars) = hlevel (props, once_differ cars)

once_falling : (least : ℕ) (list : List Listed) → IsProp (NeverFall least list)
once_falling least [] = hlevel props
once_falling least (one ∷ others) = hlevel (props, once_falling one.0 others)

once_named : (before : Option (List ℕ)) (entries : List CatEntry) → IsProp (NamesAscend before entries)
once_named before [] = hlevel props
once_named before (Car car train page digest ∷ entries) = once_named before entries
once_named before (Root name at ∷ entries) = hlevel (props, once_named (Some name) entries)

once_ascend : (least : ℕ) (slots : List (ℕ × Slot)) → IsProp (Ascend least slots)
once_ascend least [] = hlevel props
once_ascend least ((number, slot) ∷ others) = hlevel (props, once_ascend (number + 1) others)

once_within : (most : ℕ) (slot : Slot) → IsProp (IsWithinLimits most slot)
once_within most (Live object) = hlevel props
once_within most (Moved to) = hlevel props

once_numbered : (slot : Slot) → IsProp (IsNumbered slot)
once_numbered (Live object) = hlevel props
once_numbered (Moved to) = hlevel props

once_slot : (cars : List CarImage) (slot : Slot) → IsProp (SlotLeads cars slot)
once_slot cars (Live object) = hlevel props
once_slot cars (Moved to) = hlevel props

once_root : (cars : List CarImage) (entry : CatEntry) → IsProp (RootLeads cars entry)
once_root cars (Car car train page digest) = hlevel props
once_root cars (Root name at) = hlevel props

once_accepted : (list : List Listed) (catalog : List CatEntry) (next : ℕ) → IsProp (IsAccepted list catalog next)
once_accepted list catalog next = hlevel (props, once_differ, once_falling, once_named, once_ascend, once_within, once_numbered, once_slot, once_root)

-- ---- a copy in progress

splits_place : (settled : List KeptPage) (image : CarImage) (place : Place) → Splits (StandsAs settled image place)
splits_place settled image (Clean kept) known = (
  part known (splits_decided (decided_member (coded_compared kept_page.the_row.coded) settled kept)) (λ is. is.0),
  part known (splits_once (hlevel props)) (λ is. is.1),
)
splits_place settled image Unwritten known = tt
splits_place settled image (Written kept) known = splits_once (hlevel props) known

splits_progress : (settled : List KeptPage) (cars : Cars) (progress : Progress) → Splits (IsInProgress settled cars progress)
splits_progress settled cars progress known = record {
  accepted = part known (splits_once (once_accepted _ _ _)) (λ is. is.accepted);
  numbered = part known (splits_once (hlevel props)) (λ is. is.numbered);
  copy_number = part known (splits_once (hlevel props)) (λ is. is.copy_number);
  names = part known (splits_once (hlevel props)) (λ is. is.names);
  stand = part known (splits_all (λ (one : PlacedCar). StandsAs settled (image_of cars one) one.place) (λ one. splits_place settled (image_of cars one) one.place) progress.cars) (λ is. is.stand);
  catalog = part known (splits_once (hlevel props)) (λ is. is.catalog);
}

splits_begun : (settled : List KeptPage) (progress : Option Progress) (frozen : Option Cars) (epoch : ℕ) → Splits (IsBegun settled progress frozen epoch)
splits_begun settled None None epoch known = tt
splits_begun settled None (Some cars) epoch known = ∥∥₁_elim known ⊥_prop (λ never. never)
splits_begun settled (Some progress) None epoch known = ∥∥₁_elim known ⊥_prop (λ never. never)
splits_begun settled (Some progress) (Some cars) epoch known = (part known (splits_progress settled cars progress) (λ is. is.0), part known (splits_once (hlevel props)) (λ is. is.1))

-- ---- the pages

same_use : (s : State) (page : ℕ) (use_ : PageUse) → IsProp (s.uses page ≡ use_)
same_use s page use_ = Coded-set page_use.the_row.coded (s.uses page) use_

splits_pages : (progress : Option Progress) (s : State) (contents : Option (List ℕ)) → Splits (AreItsPages progress s contents)
splits_pages progress s contents known = record {
  claimed = λ page is. part known (number_member _ _) (λ are. are.claimed page is);
  written = part known (splits_all (λ (put : Put). s.uses put.0 ≡ Claimed) (λ put. splits_once (same_use s put.0 Claimed)) (all_puts progress)) (λ are. are.written);
  apart = part known (splits_once (hlevel props)) (λ are. are.apart);
  read = part known (splits_once (hlevel props)) (λ are. are.read);
  kept = λ page is. part known (number_member _ _) (λ are. are.kept page is);
  are_kept = part known (splits_all (λ (page : ℕ). s.uses page ≡ Kept) (λ page. splits_once (same_use s page Kept)) (all_kept progress)) (λ are. are.are_kept);
}

pub splits_tied : (saving : Saving) (frozen : Option Cars) (s : State) (contents : Option (List ℕ)) → Splits (IsTied saving frozen s contents)
splits_tied saving frozen s contents known = record {
  sound = part known (splits_once (hlevel props)) (λ is. is.sound);
  known = part known (splits_once (hlevel props)) (λ is. is.known);
  grown = part known (splits_once (hlevel props)) (λ is. is.grown);
  current = λ bytes told. part known (splits_settled saving.settled s bytes) (λ is. is.current bytes told);
  on_pages = part known (splits_once (hlevel props)) (λ is. is.on_pages);
  pages = part known (splits_pages saving.progress s contents) (λ is. is.pages);
  begun = part known (splits_begun saving.settled saving.progress frozen s.header.epoch) (λ is. is.begun);
}

-- what is stored of an engine
pub splits_stored : (it : Serving) (s : State) (opened contents : Option (List ℕ)) → Splits (IsStored it s opened contents)
splits_stored it s opened contents known = record {
  tied = part known (splits_tied it.saving it.frozen s contents) (λ is. is.tied);
  numbered = part known (splits_once (hlevel props)) (λ is. is.numbered);
  has = λ first bytes told. part known (splits_copy s bytes (world it).settled_copy) (λ is. is.has first bytes told);
}
