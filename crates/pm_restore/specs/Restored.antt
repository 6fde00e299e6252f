-- What a dump makes of a new store.
use Rattle.std.specs.Prelude.{◌≡◌, ◌⊎◌, ℕ, zero, suc, ◌+◌, ◌<◌, false, List, [], ◌∷◌, map, Option, Some, None}
use Rattle.pm_disk.specs.Disk.{IfTold, LeavesOnly}
use Rattle.pm_disk.specs.declared.disk.Disk.{Ghosts}
use Rattle.pm_disk.specs.Made.{MadeMore}
use Rattle.pm_model.specs.World.{Copy, empty_copy}
use Rattle.pm_model.specs.Copying.{copied}
use Rattle.pm_image.specs.declared.car.CarImage.{CarImage}
use Rattle.pm_image.specs.Stands.{StandsForCopy}
use Rattle.pm_shadow.specs.State.{State, new_store}
use Rattle.pm_shadow.specs.Copies.{KeepsGraph}
use Rattle.pm_shadow.specs.Pages.{disk_of, state}
use Rattle.pm_shadow.specs.declared.pages.Pages.{Pages}
use Rattle.pm_copies.specs.Plans.{graph_of_plan}
use Rattle.pm_law_copies.specs.Layout.Examples.{nothing}
use Rattle.pm_saving.specs.Progress as seen
use Rattle.pm_saving.specs.Progress.{Progress, Saving, copy_of}
use Rattle.pm_saving.specs.Paging.{left}
use Rattle.pm_saving.specs.Tied.{HasCopy, IsTied, settled_on}
use Rattle.pm_save.specs.declared.progress.place.Place.TheVariants.{Unwritten}
use Rattle.pm_save.specs.declared.progress.place.PlacedCar.{PlacedCar}
use Rattle.pm_dump.specs.Dump.{Dump, copy_of_dump}
use Rattle.pm_restore.specs.Packing.Packing.{packed_cars, packed_names}
use Rattle.pm_restore.specs.Parts.{cars_of_dump}

-- the copy that a dump is: its roots, and the objects that they reach
abbrev pub copy_in_dump : Dump → Copy
copy_in_dump dump = copied (copy_of_dump dump).heap (copy_of_dump dump).roots dump.next

-- so many cars that stand on no page yet, all in train 1, the first one with this number
abbrev pub open_cars : ℕ → ℕ → List PlacedCar
open_cars number zero = []
open_cars number (suc count) = record { train = 1; number = number; place = Unwritten } ∷ open_cars (number + 1) count

-- a car of the copy as it begins: in train 1, on no page
abbrev pub open_car : CarImage → seen.PlacedCar
open_car car = record { train = 1; number = car.number; place = seen.Unwritten }

-- the copy of a dump as it begins, under number 1
abbrev pub dump_progress : Dump → Progress
dump_progress dump = record { number = 1; cars = map open_car (packed_cars dump); roots = packed_names dump; next_id = dump.next; kept = false; parts = [] }

-- so many pages one behind the other, from this one on
abbrev pub pages_from : ℕ → ℕ → List ℕ
pages_from page zero = []
pages_from page (suc count) = page ∷ pages_from (page + 1) count

-- These bytes of a new store once a dump is settled in it: its cars and then its catalog stand on the pages from page 3
-- on, in the order in which they are written.
abbrev pub restored_in : Dump → List ℕ → List ℕ
restored_in dump bytes = settled_on (cars_of_dump dump) (pages_from 3 (left (dump_progress dump))) (dump_progress dump) new_store bytes

-- These are the pages of a store that was just made; and where the disk tells its contents, the graph of no entry stands
-- behind its header.
pub record IsNewStore (s : State) (contents : Option (List ℕ)) : Type 0 where
  pub is_new : s ≡ new_store
  pub nothing_laid : IfTold contents (λ bytes. KeepsGraph new_store bytes (graph_of_plan nothing))

-- The copy of a dump is in progress under number 1, and nothing of it was written. What holds between calls holds again.
pub record BeginsDump (dump : Dump) (it : Saving) : Type 0 where
  pub progress : Progress
  pub is_progress : it.progress ≡ Some progress
  pub is_begun : progress ≡ dump_progress dump
  pub copy : copy_of (cars_of_dump dump) progress ≡ copy_in_dump dump
  pub tied : (s : State) (contents : Option (List ℕ)) → s.header.epoch < 1 → IsTied (record { settled = []; progress = None }) None s contents → IsTied it (Some (cars_of_dump dump)) s contents

module _ {D : Type 0} {g : Ghosts D} where
  -- Copy 1 is settled, and it is the dump's: every image stands for it, and it stands behind the current header. What
  -- the disk holds is what it held, with the cars and the catalog on the pages from page 3 on: one write for each, two
  -- for the header, and two syncs.
  pub record IsRestored (dump : Dump) (before after : Pages D g) : Type 0 where
    pub number : (state after).header.epoch ≡ 1
    pub stands : IfTold (g.contents (disk_of before)) (λ was. (left : List ℕ) → g.image (disk_of after) left → StandsForCopy left 1 (copy_in_dump dump))
    pub has : IfTold (g.contents (disk_of before)) (λ was. IfTold (g.contents (disk_of after)) (λ bytes. HasCopy (state after) bytes (copy_in_dump dump)))
    pub laid : IfTold (g.contents (disk_of before)) (λ was. g.contents (disk_of after) ≡ Some (restored_in dump was))
    pub made : MadeMore (left (dump_progress dump) + 2) 2 0 (g.made (disk_of before)) (g.made (disk_of after))

  -- at every moment between the image stands for the empty copy that the store was made with
  abbrev pub LeavesEmpty : Pages D g → Pages D g → Type 0
  LeavesEmpty before after =
      IfTold (g.contents (disk_of before)) (λ was. LeavesOnly g.moment g.since (disk_of before) (disk_of after) (λ image. StandsForCopy image 0 empty_copy))

  -- or for copy 1, the dump's
  abbrev pub LeavesEither : Dump → Pages D g → Pages D g → Type 0
  LeavesEither dump before after =
      IfTold (g.contents (disk_of before)) (λ was. LeavesOnly g.moment g.since (disk_of before) (disk_of after) (λ image. StandsForCopy image 0 empty_copy ⊎ StandsForCopy image 1 (copy_in_dump dump)))
