-- What the calls of a disk say of its images, its clock and its count.
use Rattle.std.specs.Prelude.{◌≡◌, ◌⊎◌, ℕ, ◌+◌, ◌<◌, ◌≤◌, Bool, true, List, Option, Some, Result, MatchResult}
use Rattle.pm_types.specs.Counts.{Rose}
use Rattle.pm_disk.specs.Images.{IsBytes}
use Rattle.pm_disk.specs.Writes.{Torn}

-- P holds of the contents, where they are told
abbrev pub IfTold : Option (List ℕ) → (List ℕ → Type 0) → Type 0
IfTold contents P = (bytes : List ℕ) → contents ≡ Some bytes → P bytes

-- a crash leaves what it might have left before, and nothing else
pub record SameImages (old new : List ℕ → Type 0) : Type 0 where
  pub no_more : (image : List ℕ) → new image → old image
  pub no_fewer : (image : List ℕ) → old image → new image

-- each image now is an image from before with the write cut short in it
abbrev pub OnlyTorn : ℕ → ℕ → (List ℕ → Type 0) → (List ℕ → Type 0) → Type 0
OnlyTorn at n old new = (image : List ℕ) → new image → (was : List ℕ) × old was × Torn at n was image

-- each image from before with the write cut short in it, by any bytes, is an image now
abbrev pub AllTorn : ℕ → ℕ → (List ℕ → Type 0) → (List ℕ → Type 0) → Type 0
AllTorn at n old new = (was image : List ℕ) → old was → Torn at n was image → IsBytes image → new image

-- Time goes on: a crash since t might have left what it might have left before the call, or what it may leave now.
pub record Elapses (before now : ℕ) (past since : ℕ → List ℕ → Type 0) (images : List ℕ → Type 0) : Type 0 where
  pub later : before < now
  pub nothing_else : (t : ℕ) (image : List ℕ) → t ≤ before → since t image → past t image ⊎ images image
  pub keeps : (t : ℕ) (image : List ℕ) → t ≤ before → past t image → since t image

-- one failure was counted: the count has risen, and by no more than one
abbrev pub IsCounted : ℕ → ℕ → Type 0
IsCounted before after = Rose before after × (after ≤ before + 1)

-- the count stands still at Ok, and one failure was counted otherwise
abbrev pub HasCause : {T E : Type 0} → ℕ → ℕ → Result T E → Type 0
HasCause before after result = MatchResult result (λ _. after ≡ before) (λ _. IsCounted before after)

-- each image since the disk was old has P, and none other has come
pub record LeavesOnly {D : Type 0} (moment : D → ℕ) (since : D → ℕ → List ℕ → Type 0) (old new : D) (P : List ℕ → Type 0) : Type 0 where
  pub later : moment old ≤ moment new
  pub each : (image : List ℕ) → since new (moment old) image → P image
  -- for a run that began earlier
  pub before : (t : ℕ) (image : List ℕ) → t ≤ moment old → since new t image → since old t image ⊎ P image

-- the image passes the test
abbrev pub Passes : (List ℕ → Bool) → List ℕ → Type 0
Passes test image = test image ≡ true
