-- Why an engine with a nursery answers no more.
use Rattle.std.specs.Prelude.{◌≡◌, ℕ, Option, Some, None}
use Rattle.pm_young.specs.declared.halt.Halt.{Halt}
use Rattle.pm_young.specs.declared.halt.HaltCause.{HaltCause}
use Rattle.pm_young.specs.declared.halt.HaltCause.TheVariants.{Disk, Memory}

-- the disk's count of failed calls then, where it was the disk that failed
abbrev pub count_of : HaltCause → ℕ → Option ℕ
count_of Disk count = Some count
count_of Memory count = None

abbrev pub stopped_by : Option Halt → Option ℕ
stopped_by None = None
stopped_by (Some halt) = count_of halt.cause halt.count

-- it was want of memory
abbrev pub IsForMemory : Option Halt → Type 0
IsForMemory None = ⊥
IsForMemory (Some halt) = halt.cause ≡ Memory

-- it was the disk
abbrev pub IsForDisk : Option Halt → Type 0
IsForDisk None = ⊥
IsForDisk (Some halt) = halt.cause ≡ Disk
