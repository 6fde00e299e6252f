-- How the program ends.
use Rattle.std.specs.Prelude.{◌≡◌, ℕ, Bool, true, false, codes, decimal, List, [], ◌++◌, Option, Some, None}
use Rattle.std.specs.Option.{is_some}
use Rattle.hex.specs.Hex.{encode_lower}
use Rattle.pm_types.specs.Memory.{no_memory}
use Rattle.pm_types.specs.Counts.{ShowsRise}
use Rattle.pm_types.specs.declared.fault.OpenFault.{OpenFault}
use Rattle.pm_types.specs.declared.fault.OpenFault.TheVariants.{NotAStore, Version, Damaged, Malformed, Disk, Memory as NoRoom}
use Rattle.pm_types.specs.declared.fault.InitFault.{InitFault}
use Rattle.pm_types.specs.declared.fault.InitFault.TheVariants.{NotEmpty as NotEmptied, Disk as InitDisk, Memory as InitMemory}
use Rattle.pm_dump.specs.declared.fault.DumpCause.{DumpCause}
use Rattle.pm_dump.specs.declared.fault.DumpCause.TheVariants as dump_cause
use Rattle.pm_dump.specs.declared.fault.DumpFault.{DumpFault}
use Rattle.pm_dump.specs.declared.fault.DumpFault.TheVariants as dump_fault
use Rattle.pm_save.specs.declared.progress.fault.SaveFault.{SaveFault}
use Rattle.pm_save.specs.declared.progress.fault.SaveFault.TheVariants as save_fault
use Rattle.pm_ship.specs.declared.fault.Shipped.{Shipped}
use Rattle.pm_ship.specs.declared.fault.ShipFault.{ShipFault}
use Rattle.pm_ship.specs.declared.fault.ShipFault.TheVariants as ship_fault
use Rattle.pm_script.specs.declared.fault.Cause.{Cause}
use Rattle.pm_script.specs.declared.fault.Cause.TheVariants as cause
use Rattle.pm_script.specs.declared.fault.ScriptFault.{ScriptFault}
use Rattle.pm_script.specs.declared.fault.ScriptFault.TheVariants.{Line as BadLine, TooManyLines, TooLong, Memory as ScriptMemory}
use Rattle.pm_engine.specs.declared.events.stop.Stop.{Stop}
use Rattle.pm_engine.specs.declared.events.stop.Stop.TheVariants.{Memory as StopMemory, Writing as StopWriting, Device as StopDevice}
use Rattle.pm_engine.specs.declared.tally.Tally.{Tally}
use Rattle.pm_young.specs.declared.tally.YoungTally.{YoungTally}
use Rattle.pm_runs.specs.declared.ends.ended.Detail.{Detail}
use Rattle.pm_runs.specs.declared.ends.ended.Detail.TheVariants.{Fine, Usage, Script, Dump as BadDump, Reading, Writing, Device, NotEmpty, Refused, Standby, Ahead, Foreign, OtherDevice, Memory}

-- the exit status of each end
abbrev pub status_of : Detail → ℕ
status_of Fine = 0
status_of Usage = 1
status_of (Script fault) = 2
status_of (BadDump fault) = 2
status_of (Reading before after) = 3
status_of (Writing before after) = 4
status_of (Device before after opened) = 5
status_of (NotEmpty bytes) = 6
status_of (Refused fault) = 6
status_of (Standby fault) = 6
status_of (Ahead to from) = 6
status_of (Foreign number) = 6
status_of (OtherDevice before after) = 5
status_of (Memory opened _) = 7

-- the text of a refusal, on standard error, behind these words
abbrev pub refused_so : List ℕ → OpenFault → List ℕ
refused_so front NotAStore = front ++ codes "not a store\n"
refused_so front (Version version) = front ++ codes "version " ++ decimal version ++ codes "\n"
refused_so front (Damaged page kept found) =
    front ++ codes "damaged page " ++ decimal page ++ codes " kept " ++ encode_lower kept
    ++ codes " found " ++ encode_lower found ++ codes "\n"
refused_so front (Malformed page at) = front ++ codes "malformed page " ++ decimal page ++ codes " at " ++ decimal at ++ codes "\n"
refused_so front (Disk before after) = front ++ codes "disk fault\n"
refused_so front (NoRoom _) = front ++ codes "no memory\n"

-- that of a store, and that of a standby
abbrev pub refusal_line : OpenFault → List ℕ
refusal_line fault = refused_so (codes "pmos: ") fault

abbrev pub standby_line : OpenFault → List ℕ
standby_line fault = refused_so (codes "pmos: standby ") fault

-- the word for what is wrong with a line
abbrev pub cause_word : Cause → List ℕ
cause_word cause.LineTooLong = codes "too-long"
cause_word cause.Client = codes "client"
cause_word cause.Word = codes "word"
cause_word cause.Count = codes "count"
cause_word cause.Number = codes "number"
cause_word cause.Hex = codes "hex"
cause_word cause.Name = codes "name"

-- the text of a bad script, on standard error
abbrev pub script_line : ScriptFault → List ℕ
script_line (BadLine number cause) = codes "pmos: script line " ++ decimal number ++ codes " " ++ cause_word cause ++ codes "\n"
script_line TooManyLines = codes "pmos: script too many lines\n"
script_line TooLong = codes "pmos: script too long\n"
script_line (ScriptMemory _) = codes "pmos: no memory\n"

-- the word for what is wrong with a line of a dump
abbrev pub dump_word : DumpCause → List ℕ
dump_word dump_cause.Form = codes "form"
dump_word dump_cause.Order = codes "order"
dump_word dump_cause.Limit = codes "limit"
dump_word dump_cause.Dangling = codes "dangling"

-- the text of a bad dump, on standard error
abbrev pub dump_line : DumpFault → List ℕ
dump_line (dump_fault.Line number cause) = codes "pmos: dump line " ++ decimal number ++ codes " " ++ dump_word cause ++ codes "\n"
dump_line (dump_fault.Memory _) = codes "pmos: no memory\n"

-- the line that tells what was shipped
abbrev pub shipped_line : Shipped → List ℕ
shipped_line shipped = codes "shipped " ++ decimal shipped.epoch ++ codes " " ++ decimal shipped.written ++ codes "\n"

-- the text of each end, on standard error
abbrev pub detail_line : Detail → List ℕ
detail_line Fine = []
detail_line Usage = codes "pmos: usage\n"
detail_line (Script fault) = script_line fault
detail_line (BadDump fault) = dump_line fault
detail_line (Reading before after) = codes "pmos: read fault\n"
detail_line (Writing before after) = codes "pmos: write fault\n"
detail_line (Device before after opened) = codes "pmos: disk fault\n"
detail_line (NotEmpty bytes) = codes "pmos: not empty " ++ decimal bytes ++ codes "\n"
detail_line (Refused fault) = refusal_line fault
detail_line (Standby fault) = standby_line fault
detail_line (Ahead to from) = codes "pmos: standby ahead " ++ decimal to ++ codes " " ++ decimal from ++ codes "\n"
detail_line (Foreign number) = codes "pmos: standby foreign " ++ decimal number ++ codes "\n"
detail_line (OtherDevice before after) = codes "pmos: standby disk fault\n"
detail_line (Memory opened _) = codes "pmos: no memory\n"

-- the source's count of faults rose where the source failed, and else stands still
abbrev pub ShowsReading : Detail → ℕ → ℕ → Type 0
ShowsReading (Reading before after) count_before count_after = ShowsRise before after count_before count_after
ShowsReading detail count_before count_after = count_after ≡ count_before

-- the sink's rose where the sink failed, and may have risen while the replies so far were written that an end for
-- want of memory or of the disk leaves; else it stands still
abbrev pub ShowsWriting : Detail → ℕ → ℕ → Type 0
ShowsWriting (Writing before after) count_before count_after = ShowsRise before after count_before count_after
ShowsWriting (Memory opened _) count_before count_after = Unit {0}
ShowsWriting (Device before after opened) count_before count_after = Unit {0}
ShowsWriting detail count_before count_after = count_after ≡ count_before

-- the disk's rose where the disk failed, and else stands still
abbrev pub ShowsDevice : Detail → ℕ → ℕ → Type 0
ShowsDevice (Device before after opened) count_before count_after = ShowsRise before after count_before count_after
ShowsDevice detail count_before count_after = count_after ≡ count_before

-- that of the standby's disk rose where that failed, and else stands still
abbrev pub ShowsOther : Detail → ℕ → ℕ → Type 0
ShowsOther (OtherDevice before after) count_before count_after = ShowsRise before after count_before count_after
ShowsOther detail count_before count_after = count_after ≡ count_before

-- a store is refused by a rule of its bytes: a disk that fails and want of memory are ends of their own, and there is no
-- store that is sound and yet not opened
abbrev pub IsOfStore : OpenFault → Type 0
IsOfStore (Disk before after) = ⊥
IsOfStore (NoRoom _) = ⊥
IsOfStore fault = Unit {0}

-- a script is refused for what stands in it
abbrev pub IsOfScript : ScriptFault → Type 0
IsOfScript (ScriptMemory _) = ⊥
IsOfScript fault = Unit {0}

-- and a dump
abbrev pub IsOfDump : DumpFault → Type 0
IsOfDump (dump_fault.Memory _) = ⊥
IsOfDump fault = Unit {0}

abbrev pub NamesRule : Detail → Type 0
NamesRule (Refused fault) = IsOfStore fault
NamesRule (Standby fault) = IsOfStore fault
NamesRule (Script fault) = IsOfScript fault
NamesRule (BadDump fault) = IsOfDump fault
NamesRule detail = Unit {0}

-- there is a tally, of an engine or of one with a nursery
abbrev pub is_tallied : Option Tally → Option YoungTally → Bool
is_tallied None young = is_some young
is_tallied (Some tally) young = true

-- there is none, or one
abbrev pub OneTally : Option Tally → Option YoungTally → Type 0
OneTally None young = Unit {0}
OneTally (Some tally) None = Unit {0}
OneTally (Some tally) (Some young) = ⊥

-- whether a store was opened for a run is told where memory ran out or the disk failed
abbrev pub ShowsOpened : Detail → Option Tally → Option YoungTally → Type 0
ShowsOpened (Device before after opened) tally young = opened ≡ is_tallied tally young
ShowsOpened (Memory opened _) tally young = opened ≡ is_tallied tally young
ShowsOpened detail tally young = Unit {0}

-- memory ran out
abbrev pub RanShort : Detail → Type 0
RanShort (Memory opened _) = Unit {0}
RanShort detail = ⊥

-- the sink failed
abbrev pub IsUnwritten : Detail → Type 0
IsUnwritten (Writing before after) = Unit {0}
IsUnwritten detail = ⊥

-- why a run of lines stopped that ended so, if it did
abbrev pub stop_in : Detail → Option Stop
stop_in (Writing before after) = Some StopWriting
stop_in (Device before after opened) = Some StopDevice
stop_in (Memory opened _) = Some (StopMemory no_memory)
stop_in detail = None

-- how the program ends after a run of lines, by the counts of the disk and of the sink before and after it
abbrev pub ended_by : Option Stop → ℕ → ℕ → ℕ → ℕ → Detail
ended_by None disk_before disk_after sink_before sink_after = Fine
ended_by (Some (StopMemory _)) disk_before disk_after sink_before sink_after = Memory true no_memory
ended_by (Some StopWriting) disk_before disk_after sink_before sink_after = Writing sink_before sink_after
ended_by (Some StopDevice) disk_before disk_after sink_before sink_after = Device disk_before disk_after true

-- how the program ends where a script is not read
abbrev pub not_read : ScriptFault → Detail
not_read (BadLine number cause) = Script (BadLine number cause)
not_read TooManyLines = Script TooManyLines
not_read TooLong = Script TooLong
not_read (ScriptMemory _) = Memory false no_memory

-- how the program ends where a dump is not read
abbrev pub no_dump : DumpFault → Detail
no_dump (dump_fault.Line number cause) = BadDump (dump_fault.Line number cause)
no_dump (dump_fault.Memory _) = Memory false no_memory

-- how the program ends where a dump is not settled, by the counts of the disk before and after
abbrev pub not_settled : SaveFault → ℕ → ℕ → Detail
not_settled save_fault.Disk before after = Device before after false
not_settled (save_fault.Memory _) before after = Memory false no_memory

-- how the program ends where a store is not opened
abbrev pub not_opened : OpenFault → Detail
not_opened NotAStore = Refused NotAStore
not_opened (Version version) = Refused (Version version)
not_opened (Damaged page kept found) = Refused (Damaged page kept found)
not_opened (Malformed page at) = Refused (Malformed page at)
not_opened (Disk before after) = Device before after false
not_opened (NoRoom _) = Memory false no_memory

-- how the program ends where no store is made
abbrev pub not_made : InitFault → Detail
not_made (NotEmptied bytes) = NotEmpty bytes
not_made (InitDisk before after) = Device before after false
not_made (InitMemory _) = Memory false no_memory

-- how the program ends where nothing is shipped
abbrev pub not_shipped : ShipFault → Detail
not_shipped (ship_fault.From fault) = Refused fault
not_shipped (ship_fault.To fault) = Standby fault
not_shipped (ship_fault.Ahead to from) = Ahead to from
not_shipped (ship_fault.Foreign number) = Foreign number
not_shipped (ship_fault.Disk before after) = Device before after false
not_shipped (ship_fault.OtherDisk before after) = OtherDevice before after
not_shipped (ship_fault.Memory _) = Memory false no_memory
