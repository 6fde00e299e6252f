-- How many syncs, writes and reads past the end were made, whatever they answered, and when the last sync was made.
use Rattle.std.specs.Prelude.{◌≡◌, ℕ, ◌+◌, ◌≤◌, Bool, true, false, List, [], ◌∷◌, length, map, Option, Some, None, Result, OnOk, if◌then◌else◌}
use Rattle.pm_disk.specs.Reads.{reads_past}
use Rattle.pm_disk.specs.declared.mark.Mark.{Mark}
use Rattle.pm_disk.specs.declared.mark.CallKind.{CallKind}
use Rattle.pm_disk.specs.declared.mark.CallKind.TheVariants.{Sync, Write, ReadPastEnd, Look}

-- the numbers of the syncs, of the writes, and of the reads past the end of what the disk told; and the moment right
-- before the last sync, 0 where there was none
pub record Made : Type 0 where
  pub syncs : ℕ
  pub writes : ℕ
  pub past : ℕ
  pub synced : ℕ

-- no call was made
abbrev pub none_made : Made
none_made = record { syncs = 0; writes = 0; past = 0; synced = 0 }

-- One sync more, made at this moment. Each call advances the clock, so no call came between this moment and the sync.
abbrev pub with_sync : ℕ → Made → Made
with_sync moment made = record made { syncs = made.syncs + 1; synced = moment }

-- one write more
abbrev pub with_write : Made → Made
with_write made = record made { writes = made.writes + 1 }

-- one read past the end more
abbrev pub with_past : Made → Made
with_past made = record made { past = made.past + 1 }

-- one call of a kind more, made at this moment
abbrev pub with_kind : CallKind → ℕ → Made → Made
with_kind Sync moment made = with_sync moment made
with_kind Write moment made = with_write made
with_kind ReadPastEnd moment made = with_past made
with_kind Look moment made = made

-- what kind of read it is that reaches past the end of what the disk told, or does not
abbrev pub read_kind : Bool → CallKind
read_kind true = ReadPastEnd
read_kind false = Look

-- one read of n bytes from a place on more, of a disk that tells these contents
abbrev pub with_read : Option (List ℕ) → ℕ → ℕ → Made → Made
with_read None at n made = made
with_read (Some bytes) at n made = if reads_past at n bytes then with_past made else made

-- so many writes, syncs and reads past the end were made more; the moment of the last sync stays free
pub record MadeMore (more_writes more_syncs more_past : ℕ) (before after : Made) : Type 0 where
  pub writes : after.writes ≡ before.writes + more_writes
  pub syncs : after.syncs ≡ before.syncs + more_syncs
  pub past : after.past ≡ before.past + more_past

-- so many writes and syncs at most were made more, and no read past the end
pub record MadeAtMost (most_writes most_syncs : ℕ) (before after : Made) : Type 0 where
  pub writes : after.writes ≤ before.writes + most_writes
  pub syncs : after.syncs ≤ before.syncs + most_syncs
  pub past : after.past ≡ before.past

-- After Ok so many writes and syncs were made more. Whatever is answered, no more than these were made, and no read past
-- the end.
pub record MakesCalls {T E : Type 0} (writes syncs : ℕ) (before after : Made) (result : Result T E) : Type 0 where
  pub done : OnOk result (MadeMore writes syncs 0 before after)
  pub most : MadeAtMost writes syncs before after

-- the numbers of the marks of a clock
abbrev pub numbers : List Mark → List ℕ
numbers marks = map (λ mark. mark.number) marks

-- what the marks of a clock count
abbrev pub made_in : List Mark → Made
made_in [] = none_made
made_in (mark ∷ marks) = with_kind mark.kind (length (numbers marks)) (made_in marks)
