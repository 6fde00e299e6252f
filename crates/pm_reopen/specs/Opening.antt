-- What stands once a space was opened, and why none was.
use Rattle.std.specs.Prelude.{◌≡◌, ◌≤◌, ℕ, List, Option, None, Err, true, false}
use Rattle.std.specs.List.{AllByRecursion}
use Rattle.pm_types.specs.declared.fault.OpenFault.{OpenFault}
use Rattle.pm_types.specs.declared.fault.OpenFault.TheVariants.{NotAStore, Version, Damaged, Malformed, Disk, Memory}
use Rattle.pm_disk.specs.Disk.{IfTold}
use Rattle.pm_image.specs.declared.settled.KeptPage.{KeptPage}
use Rattle.pm_image.specs.Opening.{page_count}
use Rattle.pm_image.specs.declared.catalog.CatEntry.{CatEntry}
use Rattle.pm_image.specs.Graphs.{Graph, images_of}
use Rattle.pm_image.specs.Stands.{opened}
use Rattle.pm_shadow.specs.declared.page_use.PageUse.TheVariants.{Current}
use Rattle.pm_shadow.specs.State.{State, known_by, IsIdle}
use Rattle.pm_shadow.specs.Copies.{KeepsGraph}
use Rattle.pm_view.specs.View.{SpaceView}
use Rattle.pm_copies.specs.Listed.{images}
use Rattle.pm_copies.specs.Accepted.{IsAccepted}
use Rattle.pm_copies.specs.Opened.{IsOpened, IsOpenedStore, listed_in}
use Rattle.pm_space.specs.declared.parts.Parts.{Parts}
use Rattle.pm_space.specs.Shown.{view}

-- where the pages of the current copy are known, they are those of a graph that stands behind the header
abbrev pub AreKnownRight : State → List ℕ → Type 0
AreKnownRight pages bytes = pages.known ≡ true → (graph : Graph) × KeepsGraph pages bytes graph

-- The space is what opening makes of the bytes, the cars are those that they list, each as its page spells it, and the
-- pages that these and the catalog stand on are the current copy's, and no others: these were not known before, or were
-- known right.
pub record OpensStore (old new : State) (bytes : List ℕ) (view : SpaceView) (cars : List KeptPage) : Type 0 where
  pub store : IsOpenedStore bytes view
  pub cars_are : cars ≡ store.found.graph.cars
  pub keeps : AreKnownRight old bytes → KeepsGraph new bytes store.found.graph

-- no cars are frozen, and the chooser is this one
pub record IsUnfrozen {F : Type 0} (parts : Parts F) (chooser : F) : Type 0 where
  pub frozen : parts.cars.frozen ≡ None
  pub place : parts.place ≡ chooser

-- Of any disk: no cars are frozen, and the chooser is this one. The space is what opening makes of entries and cars that
-- no rule refuses, and the cars are these. Where the pages were not known, each of these cars stands on one that is the
-- current copy's now.
pub record MakesSpace {F : Type 0} (old new : State) (parts : Parts F) (chooser : F) (cars : List KeptPage) : Type 0 where
  pub unfrozen : IsUnfrozen parts chooser
  pub entries : List CatEntry
  pub paired : images (listed_in entries (images_of cars)) ≡ images_of cars
  pub accepted : IsAccepted (listed_in entries (images_of cars)) entries old.header.next
  pub opened : IsOpened (listed_in entries (images_of cars)) entries old.header.next (view parts)
  pub on_pages : old.known ≡ false → AllByRecursion (λ (kept : KeptPage). (2 ≤ kept.page) × (new.uses kept.page ≡ Current)) cars

-- A space was opened of these cars: where the disk tells these contents it is what opening makes of them, with the cars
-- that they list; and of any disk it is what opening makes of the cars.
pub record OpensOf {F : Type 0} (contents : Option (List ℕ)) (old new : State) (parts : Parts F) (chooser : F) (cars : List KeptPage) : Type 0 where
  pub told : IfTold contents (λ bytes. OpensStore old new bytes (view parts) cars)
  pub made : MakesSpace old new parts chooser cars

-- a space was opened of cars that are not handed out
abbrev pub OpensAlone : {F : Type 0} → Option (List ℕ) → State → State → Parts F → F → Type 0
OpensAlone contents old new parts chooser = (cars : List KeptPage) × OpensOf contents old new parts chooser cars

-- Pages that were known are as they were, with all that is claimed or kept. Others are known now, and nothing is claimed
-- or kept.
pub record KnowsPages (old new : State) : Type 0 where
  pub again : old.known ≡ true → new ≡ old
  pub first : old.known ≡ false → new ≡ known_by old new.uses
  pub idle : old.known ≡ false → IsIdle new

-- these bytes are refused where the fault says so: it is the first rule that fails
abbrev pub IsRefusedBy : List ℕ → OpenFault → Type 0
IsRefusedBy bytes NotAStore = ⊥
IsRefusedBy bytes (Version version) = ⊥
IsRefusedBy bytes (Damaged page kept found) = opened bytes ≡ Err (Damaged page kept found)
IsRefusedBy bytes (Malformed page at) = opened bytes ≡ Err (Malformed page at)
IsRefusedBy bytes (Disk before after) = Unit {0}
IsRefusedBy bytes (Memory _) = Unit {0}

-- the disk failed, or memory ran out
abbrev pub IsNoRefusal : OpenFault → Type 0
IsNoRefusal NotAStore = ⊥
IsNoRefusal (Version version) = ⊥
IsNoRefusal (Damaged page kept found) = ⊥
IsNoRefusal (Malformed page at) = ⊥
IsNoRefusal (Disk before after) = Unit {0}
IsNoRefusal (Memory _) = Unit {0}

-- Why no space was opened of these pages, whose disk holds these bytes.
pub record IsUnopened (pages : State) (bytes : List ℕ) (fault : OpenFault) : Type 0 where
  -- the bytes are refused, where the disk has the pages that are counted, as it does unless a write failed
  pub refused : pages.count ≡ page_count bytes → IsRefusedBy bytes fault
  -- and a copy whose pages are there is not
  pub kept : (graph : Graph) → KeepsGraph pages bytes graph → IsNoRefusal fault
