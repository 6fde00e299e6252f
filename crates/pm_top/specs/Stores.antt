-- How making a store, and how restoring a dump leaves the disk, and which calls of the disk that takes.
use Rattle.std.specs.Prelude.{◌≡◌, ◌⊎◌, ℕ, ◌+◌, ◌<◌, List, length, Some}
use Rattle.pm_disk.specs.declared.disk.Disk as disk
use Rattle.pm_disk.specs.Disk.{IfTold, LeavesOnly, SameImages}
use Rattle.pm_disk.specs.Made.{Made, MadeAtMost, MadeMore}
use Rattle.pm_model.specs.World.{empty_copy}
use Rattle.pm_image.specs.Stands.{StandsForCopy}
use Rattle.pm_image.specs.Blank.{blank_store}
use Rattle.pm_shadow.specs.Init.{KeepsBytes, MakesInOrder, shut_store}
use Rattle.pm_saving.specs.Paging.{left}
use Rattle.pm_dump.specs.Dump.{Dump}
use Rattle.pm_restore.specs.Restored.{copy_in_dump, dump_progress, restored_in}
use Rattle.pm_runs.specs.declared.ends.ended.Detail.{Detail}
use Rattle.pm_runs.specs.declared.ends.ended.Detail.TheVariants.{Fine, Device, NotEmpty, Memory}
use Rattle.pm_types.specs.Memory.{no_memory}

-- Making a store takes four writes and two syncs; where none is made it takes no more.
abbrev pub CallsToMake : Detail → Made → Made → Type 0
CallsToMake Fine before after = MadeMore 4 2 0 before after
CallsToMake detail before after = MadeAtMost 4 2 before after

-- Settling a dump in it takes a write for each page of the dump, two for the header, and two syncs; where it is not settled
-- it takes no more.
abbrev pub CallsToSettle : Dump → Detail → Made → Made → Type 0
CallsToSettle dump Fine before after = MadeMore (left (dump_progress dump) + 2) 2 0 before after
CallsToSettle dump detail before after = MadeAtMost (left (dump_progress dump) + 2) 2 before after

module _ {D : Type 0} (d : disk.Ghosts D) where
  -- By which calls a store is made: so many; and where the disk told no byte the fourth write, of the gate, is made only
  -- behind the sync of the other three.
  pub record CallsMaking (start end : D) (detail : Detail) : Type 0 where
    pub made : CallsToMake detail (d.made start) (d.made end)
    pub order : IfTold (d.contents start) (λ bytes. length bytes ≡ 0 → MakesInOrder d shut_store start end)

  -- How making a store leaves the disk, by how it ended.
  abbrev pub LeavesMade : D → D → Detail → Type 0
  -- a store was made on a disk that was empty, and each image stands for copy 0, of nothing
  LeavesMade start end Fine =
      (bytes : List ℕ) → d.contents start ≡ Some bytes
      → (length bytes ≡ 0) × (d.contents end ≡ Some blank_store)
      × ((left : List ℕ) → d.image end left → StandsForCopy left 0 empty_copy)
  -- the disk holds so many bytes, and all is as it was
  LeavesMade start end (NotEmpty n) =
      (0 < n) × ((bytes : List ℕ) → d.contents start ≡ Some bytes → n ≡ length bytes)
      × (d.contents end ≡ d.contents start) × SameImages (d.image start) (d.image end)
  -- nothing was written to a disk that is empty
  LeavesMade start end (Memory opened _) = (d.contents end ≡ d.contents start) × SameImages (d.image start) (d.image end)
  -- the disk failed: where it told of some byte, nothing was written
  LeavesMade start end (Device before after opened) =
      KeepsBytes (d.contents start) (d.contents end) (d.image start) (d.image end)
  LeavesMade start end detail = ⊥

  -- How settling a dump leaves a store that was just made, by how it ended: where it is done, copy 1 is the last one, and it
  -- is the dump's, restricted to what its names reach; where memory ran out the empty copy 0 stands.
  abbrev pub LeavesSettled : Dump → D → D → Detail → Type 0
  LeavesSettled dump made end Fine = IfTold (d.contents made) (λ was.
      LeavesOnly d.moment d.since made end (λ image. StandsForCopy image 0 empty_copy ⊎ StandsForCopy image 1 (copy_in_dump dump))
      × (d.contents end ≡ Some (restored_in dump was))
      × ((left : List ℕ) → d.image end left → StandsForCopy left 1 (copy_in_dump dump)))
  LeavesSettled dump made end (Device before after opened) = IfTold (d.contents made) (λ was.
      LeavesOnly d.moment d.since made end (λ image. StandsForCopy image 0 empty_copy ⊎ StandsForCopy image 1 (copy_in_dump dump)))
  LeavesSettled dump made end (Memory opened _) = IfTold (d.contents made) (λ was.
      LeavesOnly d.moment d.since made end (λ image. StandsForCopy image 0 empty_copy))
  LeavesSettled dump made end detail = ⊥

  -- A store was made on a disk that was empty, and then the dump was settled in it.
  pub record MakesAndSettles (dump : Dump) (start end : D) (detail : Detail) : Type 0 where
    pub made : D
    pub calls : CallsMaking start made Fine
    pub store : LeavesMade start made Fine
    pub settles : LeavesSettled dump made end detail
    pub settling : CallsToSettle dump detail (d.made made) (d.made end)

  -- No store was made.
  pub record MakesNone (start end : D) (detail : Detail) : Type 0 where
    pub leaves : LeavesMade start end detail
    pub calls : CallsMaking start end detail

  -- How restoring a dump leaves the disk, by how it ended: where it was not read, the disk is not called. Memory may have run
  -- out before.
  abbrev pub LeavesRestored : Dump → D → D → Detail → Type 0
  LeavesRestored dump start end Fine = MakesAndSettles dump start end Fine
  LeavesRestored dump start end (NotEmpty n) = MakesNone start end (NotEmpty n)
  LeavesRestored dump start end (Device before after opened) =
      MakesNone start end (Device before after opened) ⊎ MakesAndSettles dump start end (Device before after opened)
  LeavesRestored dump start end (Memory opened _) =
      (end ≡ start) ⊎ (MakesNone start end (Memory opened no_memory) ⊎ MakesAndSettles dump start end (Memory opened no_memory))
  LeavesRestored dump start end detail = end ≡ start
