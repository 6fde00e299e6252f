-- What the reader of dumps answers.
use Rattle.std.specs.Prelude.{◌≡◌, ℕ, List, Result, Ok, Err}
use Rattle.pm_dump.specs.declared.fault.DumpFault.{DumpFault}
use Rattle.pm_dump.specs.declared.fault.DumpFault.TheVariants as dump_fault
use Rattle.pm_dump.specs.Faults.{FaultOf}

-- the fault is the one that the bytes have
abbrev pub IsDumpFault : DumpFault → List ℕ → Type 0
IsDumpFault (dump_fault.Line number cause) bytes = FaultOf bytes number cause
IsDumpFault (dump_fault.Memory _) bytes = ⊥

-- what the reader answered is this, unless memory ran out
abbrev pub Answers : {X : Type 0} → Result X DumpFault → Result X DumpFault → Type 0
Answers (Ok x) read = read ≡ Ok x
Answers (Err (dump_fault.Memory _)) read = Unit {0}
Answers (Err fault) read = read ≡ Err fault
