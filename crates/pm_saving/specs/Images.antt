-- What a crash may leave of the disk of an engine.
use Rattle.std.specs.Prelude.{◌≡◌, ◌⊎◌, ℕ, ◌≤◌, List, Contains, Option, Some, IsSome}
use Rattle.pm_types.specs.declared.entry.Entry.{Entry}
use Rattle.pm_disk.specs.Disk.{IfTold}
use Rattle.pm_model.specs.World.{World, Copy}
use Rattle.pm_model.specs.Journal.{chain}
use Rattle.pm_image.specs.Stands.{StandsForCopy}
use Rattle.pm_shadow.specs.State.{State}
use Rattle.pm_saving.specs.Tied.{HasCopy, IsTied}
use Rattle.pm_saving.specs.Serving.{Serving, opening, world}

-- the bytes stand for the copy that has settled in this world, whole
abbrev pub IsSettledCopy : World → List ℕ → Type 0
IsSettledCopy world image = StandsForCopy image world.settled world.settled_copy

-- the bytes stand for the copy that is in progress in this world, whole
abbrev pub IsCopyInProgress : World → List ℕ → Type 0
IsCopyInProgress world image = (begun : ℕ × Copy) × (world.saving ≡ Some begun) × StandsForCopy image begun.0 begun.1

-- the bytes stand for a member of the journal's chain of settled copies, whole
abbrev pub IsOfChain : World → List Entry → List ℕ → Type 0
IsOfChain start journal image = (kept : ℕ × Copy) × Contains (chain start journal) kept × StandsForCopy image kept.0 kept.1

-- the same of the last acknowledged copy; or, where a call answered that the disk failed, of the copy in progress
abbrev pub IsLast : Serving → List ℕ → Type 0
IsLast it image = IsSettledCopy (world it) image ⊎ (IsSome it.stopped × IsCopyInProgress (world it) image)

-- the same of a member of the chain; or, where a call answered that the disk failed, of the copy in progress
abbrev pub IsOfRun : Serving → List ℕ → Type 0
IsOfRun it image = IsOfChain (opening it) it.journal image ⊎ (IsSome it.stopped × IsCopyInProgress (world it) image)

-- the disk tells its contents
abbrev pub IsTold : Option (List ℕ) → Type 0
IsTold contents = (bytes : List ℕ) × (contents ≡ Some bytes)

-- What a crash may leave, where the disk told its contents when it was opened: now the last acknowledged copy, and at any
-- moment since the opening one that was acknowledged; where a call answered that the disk failed, the copy in progress too.
-- It tells its contents still, and its clock has not gone back. Of a disk that tells nothing nothing is said.
pub record KeepsImages {D : Type 0} (contents : D → Option (List ℕ)) (image : D → List ℕ → Type 0) (moment : D → ℕ) (since : D → ℕ → List ℕ → Type 0) (opened : D) (it : Serving) (disk : D) : Type 0 where
  pub later : IsTold (contents opened) → moment opened ≤ moment disk
  pub told : IsTold (contents opened) → IsTold (contents disk)
  pub now : IsTold (contents opened) → (left : List ℕ) → image disk left → IsLast it left
  pub ever : IsTold (contents opened) → (left : List ℕ) → since disk (moment opened) left → IsOfRun it left

-- While no call has answered that the disk failed: saver, frozen cars and pages fit one another, the current header has
-- the number of the copy that has settled, and, where the disk told its contents when it was opened, that copy stands
-- behind it.
pub record IsStored (it : Serving) (s : State) (opened contents : Option (List ℕ)) : Type 0 where
  pub tied : IsTied it.saving it.frozen s contents
  pub numbered : s.header.epoch ≡ (world it).settled
  pub has : IsTold opened → IfTold contents (λ bytes. HasCopy s bytes (world it).settled_copy)
