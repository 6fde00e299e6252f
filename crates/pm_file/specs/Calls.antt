-- What the calls of a file say, and what a disk over it tells.
use Rattle.std.specs.Prelude.{◌≡◌, ◌⊎◌, ℕ, ◌+◌, suc, nat_lt, List, [], ◌∷◌, length, Option, Some, None, Result, Ok, Err, IsErr, if◌then◌else◌}
use Rattle.pm_disk.specs.Disk.{SameImages}
use Rattle.pm_disk.specs.Reads.{reads_past}
use Rattle.pm_disk.specs.Made.{Made, made_in}
use Rattle.pm_disk.specs.declared.mark.Mark.{Mark}
use Rattle.pm_disk.specs.declared.mark.CallKind.{CallKind}

-- One call more was made: a crash since one call more might have left what it might have left before, or what it may leave
-- now.
pub record Ticks (past since : ℕ → List ℕ → Type 0) (images : List ℕ → Type 0) : Type 0 where
  pub nothing_else : (calls : ℕ) (image : List ℕ) → since (suc calls) image → past calls image ⊎ images image
  pub keeps : (calls : ℕ) (image : List ℕ) → past calls image → since (suc calls) image

-- each of these stands as it did, for a crash
abbrev pub SameEach : {K : Type 0} → (K → List ℕ → Type 0) → (K → List ℕ → Type 0) → Type 0
SameEach {K} old new = (k : K) → SameImages (old k) (new k)

-- the number of reads past the end after one more of n bytes from a place on, where these contents are told
abbrev pub past_after : Option (List ℕ) → ℕ → ℕ → ℕ → ℕ
past_after None at n past = past
past_after (Some bytes) at n past = if reads_past at n bytes then past + 1 else past

-- what the file that is held tells of its contents, or, where none is held, what is told of its path
abbrev pub told_in : {H : Type 0} → (H → Option (List ℕ)) → Option (List ℕ) → Option H → Option (List ℕ)
told_in told lying None = lying
told_in told lying (Some held) = told held

-- what a crash may leave of the file that is held, or, where none is held, of its path
abbrev pub left_in : {H : Type 0} → (H → List ℕ → Type 0) → (List ℕ → Type 0) → Option H → List ℕ → Type 0
left_in left lying None = lying
left_in left lying (Some held) = left held

-- what a crash since so many calls may have left of it; a file that is not held does not change
abbrev pub since_in : {H : Type 0} → (H → ℕ → List ℕ → Type 0) → (List ℕ → Type 0) → Option H → ℕ → List ℕ → Type 0
since_in since lying None calls = lying
since_in since lying (Some held) calls = since held calls

-- the reads past the end of the file that is held
abbrev pub past_in : {H : Type 0} → (H → ℕ) → Option H → ℕ
past_in past None = 0
past_in past (Some held) = past held

-- The reads past the end of these contents among the calls that reached no file. The mark of such a read has its end as
-- number, that of any other call has 0.
abbrev pub missed_past : Option (List ℕ) → List Mark → ℕ
missed_past None marks = 0
missed_past (Some bytes) [] = 0
missed_past (Some bytes) (mark ∷ marks) = (if nat_lt (length bytes) mark.number then 1 else 0) + missed_past (Some bytes) marks

-- what was made of a disk with this clock, of which so many reads past the end are known
abbrev pub made_with : ℕ → List Mark → Made
made_with past marks = record { syncs = (made_in marks).syncs; writes = (made_in marks).writes; past = past; synced = (made_in marks).synced }

-- a file is held
abbrev pub IsHeld : {H : Type 0} → Option H → Type 0
IsHeld None = ⊥
IsHeld (Some held) = Unit {0}

-- one mark more, of this kind; its number is 0 where the call reached the file, and this one otherwise
abbrev pub MarksCall : {T E : Type 0} → CallKind → ℕ → List Mark → List Mark → Result T E → Type 0
MarksCall kind end before after (Ok _) = after ≡ record { number = 0; kind = kind } ∷ before
MarksCall kind end before after (Err _) = after ≡ record { number = end; kind = kind } ∷ before

-- the one is Ok with the same value as the other, or neither is Ok
abbrev pub SameOk : {T E F : Type 0} → Result T E → Result T F → Type 0
SameOk (Ok value) result = result ≡ Ok value
SameOk (Err error) result = IsErr result
