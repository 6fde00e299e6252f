-- What the pages of a store show.
use Rattle.std.specs.Prelude.{◌≡◌, false, List, ℕ, Some, Result, Ok, Err}
use Rattle.pm_disk.specs.declared.disk.Disk.{Ghosts}
use Rattle.pm_shadow.specs.declared.pages.Pages.{Pages}
use Rattle.pm_shadow.specs.State.{State}
use Rattle.pm_shadow.specs.Uses.{use_of}
use Rattle.pm_shadow.specs.Images.{IsSoundState}

module _ {D : Type 0} {g : Ghosts D} where
  abbrev pub state : Pages D g → State
  state it = record { slot = it.slot; header = it.header; settled = it.settled; count = it.count; known = it.known; uses = use_of it.table.uses.items; closed = it.closed; failed = it.failed }

  abbrev pub disk_of : Pages D g → D
  disk_of it = it.disk

  -- the disk that is left: that of the pages, or the one that is handed back
  abbrev pub disk_left : {F : Type 0} → Result (Pages D g) (D × F) → D
  disk_left (Ok it) = disk_of it
  disk_left (Err handed) = handed.0

  -- while no publish has failed, whatever a crash leaves has the current header and the current copy's pages
  pub current_kept : (it : Pages D g) → (state it).failed ≡ false → (bytes : List ℕ) → g.contents (disk_of it) ≡ Some bytes → IsSoundState (state it) bytes (g.image (disk_of it))
  current_kept it fine bytes told = it.sound fine bytes told
