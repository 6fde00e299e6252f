-- What one crash leaves of a disk in memory.
use Rattle.std.specs.Prelude.{◌≡◌, ℕ, length}
use Rattle.pm_disk.specs.Replay.{Held, picked}
use Rattle.pm_disk.specs.declared.crash.Crashed.{Crashed}

-- these are the contents of what a disk holds, the image that this pick gives, and the number of the writes since the last sync that were made
pub record Follows (pick : ℕ) (held : Held) (crashed : Crashed) : Type 0 where
  pub contents : crashed.contents.items ≡ held.contents
  pub image : crashed.image.items ≡ picked pick 0 held.changes held.synced
  pub writes : crashed.writes ≡ length held.changes
