-- What `restore FILE` answers of the bytes that the source told.
use Rattle.std.specs.Prelude.{◌≡◌, ℕ, ◌<◌, ◌≤◌, false, List, [], length, Option, Some}
use Rattle.pm_types.specs.declared.limits.TheConstants.{SOURCE_BYTES}
use Rattle.pm_script.specs.declared.fault.ScriptFault.TheVariants.{TooLong}
use Rattle.pm_dump.specs.declared.fault.DumpFault.{DumpFault}
use Rattle.pm_dump.specs.Dump.{Dump}
use Rattle.pm_dump.specs.Spelled.{Spells}
use Rattle.pm_dump.specs.Sound.{IsSoundDump}
use Rattle.pm_dump.specs.Answers.{IsDumpFault}
use Rattle.pm_runs.specs.declared.ends.ended.Detail.{Detail}
use Rattle.pm_runs.specs.declared.ends.ended.Detail.TheVariants.{Fine, Script, Dump as BadDump, Reading, Device, NotEmpty, Memory}
use Rattle.pm_runs.specs.Ends.Ends.{IsOfDump}

-- a dump was read, and the disk was called
abbrev pub HasDump : Detail → Type 0
HasDump Fine = Unit {0}
HasDump (Device before after opened) = Unit {0}
HasDump (NotEmpty bytes) = Unit {0}
HasDump detail = ⊥

-- the source was surely read to its end
abbrev pub IsReadWhole : Detail → Type 0
IsReadWhole (BadDump fault) = Unit {0}
IsReadWhole detail = HasDump detail

-- bytes that are refused have this fault, or are too many
abbrev pub IsDumpEnd : List ℕ → Detail → Type 0
IsDumpEnd bytes (BadDump fault) = IsDumpFault fault bytes
IsDumpEnd bytes (Script fault) = SOURCE_BYTES < length bytes
IsDumpEnd bytes detail = Unit {0}

-- Bytes with this fault are refused for it, unless memory ran out or the source failed.
abbrev pub EndsForDump : DumpFault → Detail → Type 0
EndsForDump fault (BadDump told) = told ≡ fault
EndsForDump fault (Reading before after) = Unit {0}
EndsForDump fault (Memory opened _) = Unit {0}
EndsForDump fault detail = ⊥

-- So are bytes that are too many.
abbrev pub EndsTooLong : Detail → Type 0
EndsTooLong (Script fault) = fault ≡ TooLong
EndsTooLong (Reading before after) = Unit {0}
EndsTooLong (Memory opened _) = Unit {0}
EndsTooLong detail = ⊥

-- how reading a dump may stop the program
abbrev pub EndsUnrestored : Detail → Type 0
EndsUnrestored (Script fault) = fault ≡ TooLong
EndsUnrestored (BadDump fault) = IsOfDump fault
EndsUnrestored (Reading before after) = Unit {0}
EndsUnrestored (Memory opened _) = opened ≡ false
EndsUnrestored detail = ⊥

-- how settling a dump may end, and making a store for it
abbrev pub EndsSettling : Detail → Type 0
EndsSettling Fine = Unit {0}
EndsSettling (Device before after opened) = opened ≡ false
EndsSettling (NotEmpty bytes) = Unit {0}
EndsSettling (Memory opened _) = opened ≡ false
EndsSettling detail = ⊥

-- What is said of bytes: they are refused for no fault but the one that they have, and where they have one they are refused.
pub record RefusesBytes (bytes : List ℕ) (detail : Detail) : Type 0 where
  pub refused : IsDumpEnd bytes detail
  pub told : (fault : DumpFault) → length bytes ≤ SOURCE_BYTES → IsDumpFault fault bytes → EndsForDump fault detail
  pub long : SOURCE_BYTES < length bytes → EndsTooLong detail

-- What restoring answers of these bytes, of which this is left. Where a dump was read it is this one.
pub record ReadsDump (dump : Dump) (bytes : List ℕ) (left : Option (List ℕ)) (detail : Detail) : Type 0 where
  pub refuses : RefusesBytes bytes detail
  -- past the dump the bytes spell it
  pub spelled : HasDump detail → Spells bytes dump
  -- and past the source it was read to its end
  pub emptied : IsReadWhole detail → left ≡ Some []

-- the source tells that it holds a dump
pub record HoldsDump (told : Option (List ℕ)) : Type 0 where
  pub bytes : List ℕ
  pub is_told : told ≡ Some bytes
  pub short : length bytes ≤ SOURCE_BYTES
  pub dump : Dump
  pub spelled : Spells bytes dump
  pub sound : IsSoundDump dump
