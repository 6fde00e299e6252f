-- A disk with a fuse keeps the laws of a disk, as its inner disk does.
use Rattle.std.specs.Prelude.{◌≡◌, ℕ, ◌+◌, ◌≤◌, min, List}
use Rattle.std.proofs.Common.{arith}
use Rattle.pm_disk.specs.Fuse.FuseDisk.{inner_of, moment_of, MayHaveLeft}
use Rattle.pm_disk.specs.declared.fuse.fuse_disk.FuseDisk.{FuseDisk}

module _ {D : Type 0} (image : D → List ℕ → Type 0) (moment : D → ℕ) (since : D → ℕ → List ℕ → Type 0) where
  pub counts_now_of : ((disk : D) (t : ℕ) (bytes : List ℕ) → t ≤ moment disk → image disk bytes → since disk t bytes)
      → (disk : FuseDisk D) (t : ℕ) (bytes : List ℕ) → t ≤ moment_of moment disk → image (inner_of disk) bytes → MayHaveLeft moment since disk t bytes
  counts_now_of law disk t bytes le here = law (inner_of disk) (min t (moment (inner_of disk))) bytes (omega arith) here

  pub only_now_of : ((disk : D) (bytes : List ℕ) → since disk (moment disk) bytes → image disk bytes)
      → (disk : FuseDisk D) (bytes : List ℕ) → MayHaveLeft moment since disk (moment_of moment disk) bytes → image (inner_of disk) bytes
  only_now_of law disk bytes left = law (inner_of disk) bytes (rw (at_inner (moment (inner_of disk)) _) at left)
    where
      at_inner : (now more : ℕ) → min (now + more) now ≡ now
      at_inner now more = omega arith

module _ {D : Type 0} (moment : D → ℕ) (since : D → ℕ → List ℕ → Type 0) where
  pub earlier_of : ((disk : D) (s t : ℕ) (bytes : List ℕ) → s ≤ t → since disk t bytes → since disk s bytes)
      → (disk : FuseDisk D) (s t : ℕ) (bytes : List ℕ) → s ≤ t → MayHaveLeft moment since disk t bytes → MayHaveLeft moment since disk s bytes
  earlier_of law disk s t bytes le left =
      let now = moment (inner_of disk) in
      law (inner_of disk) (min s now) (min t now) bytes (omega (arith, le)) left
