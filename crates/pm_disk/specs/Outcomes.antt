-- How the calls of a disk in memory are noted, and how they end.
use Rattle.std.specs.Prelude.{◌≡◌, ◌⊎◌, ℕ, Bool, List, [], ◌∷◌, ◌++◌, if◌then◌else◌, IsOk, IsErr, Result, MatchResult, MatchBool}
use Rattle.pm_disk.specs.Disk.{IsCounted}
use Rattle.pm_disk.specs.Writes.{written}
use Rattle.pm_disk.specs.declared.call.DiskCall.{DiskCall}
use Rattle.pm_disk.specs.declared.call.DiskCall.TheVariants.{Len, Read, Write, Sync}

-- Ok(true) was made, Ok(false) was to fail, and an error was refused memory; the counts follow
abbrev pub EndsAs : {E T F : Type 0} → Result Bool E → ℕ → ℕ → ℕ → ℕ → Result T F → Type 0
EndsAs outcome faults faults' refused refused' result = MatchResult outcome
    (λ fine. (refused' ≡ refused) × MatchBool fine (IsOk result × (faults' ≡ faults)) (IsErr result × IsCounted faults faults'))
    (λ _. IsCounted refused refused' × IsCounted faults faults' × IsErr result)

-- the call was noted, or nothing was
abbrev pub IsGrown : DiskCall → List DiskCall → List DiskCall → Type 0
IsGrown call old new = (new ≡ old) ⊎ (new ≡ old ++ call ∷ [])

-- nothing was done, or the write was noted, and made where it was not to fail
abbrev pub IsWritten : Bool → ℕ → List ℕ → List DiskCall → List DiskCall → List ℕ → List ℕ → Type 0
IsWritten fails at bytes old new shown shown' =
    ((new ≡ old) × (shown' ≡ shown)) ⊎ ((new ≡ old ++ Write at bytes ∷ []) × (shown' ≡ (if fails then shown else written at bytes shown)))

-- the call is no write
abbrev pub IsQuiet : DiskCall → Type 0
IsQuiet Len = Unit {0}
IsQuiet (Read at len) = Unit {0}
IsQuiet (Write at bytes) = ⊥
IsQuiet Sync = Unit {0}

-- the call changes nothing, whether it fails or not
abbrev pub IsLook : DiskCall → Type 0
IsLook Len = Unit {0}
IsLook (Read at len) = Unit {0}
IsLook (Write at bytes) = ⊥
IsLook Sync = ⊥
