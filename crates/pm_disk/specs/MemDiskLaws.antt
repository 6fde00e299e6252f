-- A disk in memory keeps the laws of a disk.
use Rattle.std.specs.Prelude.{◌≡◌, ℕ, ◌≤◌, List, Some}
use Rattle.std.proofs.Common.{inl, subst}
use Rattle.pm_disk.specs.Images.{IsBytes}
use Rattle.pm_disk.specs.History.{left_now, left_earlier, left_bytes}
use Rattle.pm_disk.specs.Made.{numbers}
use Rattle.pm_disk.specs.MemDisk.{start_of, fails_of, calls_of, contents_of, MayLeave, moment_of, MayHaveLeft}
use Rattle.pm_disk.specs.declared.mem_disk.MemDisk.{MemDisk}

pub counts_now_of : (disk : MemDisk) (t : ℕ) (bytes : List ℕ) → t ≤ moment_of disk → MayLeave disk bytes → MayHaveLeft disk t bytes
counts_now_of disk t bytes le now = inl now

pub only_now_of : (disk : MemDisk) (bytes : List ℕ) → MayHaveLeft disk (moment_of disk) bytes → MayLeave disk bytes
only_now_of disk bytes left = left_now (start_of disk) (fails_of disk) (calls_of disk) (numbers disk.moments.marks) bytes left

pub earlier_of : (disk : MemDisk) (s t : ℕ) (bytes : List ℕ) → s ≤ t → MayHaveLeft disk t bytes → MayHaveLeft disk s bytes
earlier_of disk s t bytes le left = left_earlier (start_of disk) (fails_of disk) (calls_of disk) (numbers disk.moments.marks) s t bytes le left

pub contents_stay_of : (disk : MemDisk) (bytes : List ℕ) → Some (contents_of disk) ≡ Some bytes → MayLeave disk bytes
contents_stay_of disk bytes told =
    let same : contents_of disk ≡ bytes = cc in
    subst (λ (it : List ℕ). MayLeave disk it) same disk.sound.contents

pub leaves_bytes_of : (disk : MemDisk) (t : ℕ) (bytes : List ℕ) → MayHaveLeft disk t bytes → IsBytes bytes
leaves_bytes_of disk t bytes left = left_bytes (start_of disk) (fails_of disk) (calls_of disk) (numbers disk.moments.marks) t bytes left
