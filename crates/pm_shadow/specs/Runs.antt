-- What runs of calls of a disk leave.
use Rattle.std.specs.Prelude.{◌≡◌, ℕ, List, Option}
use Rattle.pm_disk.specs.Writes.{Torn}
use Rattle.pm_disk.specs.Disk.{IfTold, SameImages, LeavesOnly}

-- a crash leaves what the disk holds, and nothing else
abbrev pub IsSynced : Option (List ℕ) → (List ℕ → Type 0) → Type 0
IsSynced contents image = IfTold contents (λ bytes. (left : List ℕ) → image left → left ≡ bytes)

-- an image from before, with the write of n bytes cut short in it
abbrev pub IsCut : ℕ → ℕ → (List ℕ → Type 0) → List ℕ → Type 0
IsCut at n images left = (was : List ℕ) × images was × Torn at n was left

-- nothing was written: the contents and the images are those from before, and at no moment since were there others
pub record OnlyLooks {D : Type 0} (contents : D → Option (List ℕ)) (image : D → List ℕ → Type 0) (moment : D → ℕ) (since : D → ℕ → List ℕ → Type 0) (old new : D) : Type 0 where
  pub told : contents new ≡ contents old
  pub images : SameImages (image old) (image new)
  pub leaves : LeavesOnly moment since old new (image old)
