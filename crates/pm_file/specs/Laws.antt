-- A disk over a file keeps the laws of a disk, as the file keeps its own.
use Rattle.std.specs.Prelude.{◌≡◌, ℕ, ◌-◌, ◌≤◌, List, Option, Some, None}
use Rattle.std.proofs.Common.{subst, arith}
use Rattle.pm_disk.specs.Images.{IsBytes}
use Rattle.pm_file.specs.Calls.{told_in, left_in, since_in}

module _ {H : Type 0} (left : H → List ℕ → Type 0) (since : H → ℕ → List ℕ → Type 0) (lying : List ℕ → Type 0) where
  pub counts_now_in : ((held : H) (calls : ℕ) (bytes : List ℕ) → left held bytes → since held calls bytes)
      → (file : Option H) (calls : ℕ) (bytes : List ℕ) → left_in left lying file bytes → since_in since lying file calls bytes
  counts_now_in law None calls bytes is = is
  counts_now_in law (Some held) calls bytes is = law held calls bytes is

  only_at : ((held : H) (bytes : List ℕ) → since held 0 bytes → left held bytes)
      → (file : Option H) (bytes : List ℕ) → since_in since lying file 0 bytes → left_in left lying file bytes
  only_at law None bytes is = is
  only_at law (Some held) bytes is = law held bytes is

  pub only_now_in : ((held : H) (bytes : List ℕ) → since held 0 bytes → left held bytes)
      → (file : Option H) (now : ℕ) (bytes : List ℕ) → since_in since lying file (now - now) bytes → left_in left lying file bytes
  only_now_in law file now bytes is = only_at law file bytes (subst (λ calls. since_in since lying file calls bytes) (none_left now) is)
    where
      none_left : (n : ℕ) → n - n ≡ 0
      none_left n = omega arith

module _ {H : Type 0} (since : H → ℕ → List ℕ → Type 0) (lying : List ℕ → Type 0) where
  pub earlier_in : ((held : H) (more fewer : ℕ) (bytes : List ℕ) → fewer ≤ more → since held fewer bytes → since held more bytes)
      → (file : Option H) (now s t : ℕ) (bytes : List ℕ) → s ≤ t → since_in since lying file (now - t) bytes → since_in since lying file (now - s) bytes
  earlier_in law None now s t bytes le is = is
  earlier_in law (Some held) now s t bytes le is = law held (now - s) (now - t) bytes (omega (arith, le)) is

  pub leaves_bytes_in : ((held : H) (calls : ℕ) (bytes : List ℕ) → since held calls bytes → IsBytes bytes)
      → ((bytes : List ℕ) → lying bytes → IsBytes bytes) → (file : Option H) (calls : ℕ) (bytes : List ℕ) → since_in since lying file calls bytes → IsBytes bytes
  leaves_bytes_in law lies None calls bytes is = lies bytes is
  leaves_bytes_in law lies (Some held) calls bytes is = law held calls bytes is

module _ {H : Type 0} (told : H → Option (List ℕ)) (left : H → List ℕ → Type 0) (untouched : Option (List ℕ)) (lying : List ℕ → Type 0) where
  pub contents_stay_in : ((held : H) (bytes : List ℕ) → told held ≡ Some bytes → left held bytes)
      → ((bytes : List ℕ) → untouched ≡ Some bytes → lying bytes) → (file : Option H) (bytes : List ℕ) → told_in told untouched file ≡ Some bytes → left_in left lying file bytes
  contents_stay_in law lies None bytes is = lies bytes is
  contents_stay_in law lies (Some held) bytes is = law held bytes is
