-- Bytes have one fault at most, and a script has none.
use Rattle.std.proofs.Common.{◌≡◌, ℕ, List}
use Rattle.pm_script.specs.declared.fault.ScriptFault.{ScriptFault}
use Rattle.pm_script.specs.declared.line.Line.{Line}
use Rattle.pm_script.specs.Script.{IsScript}
use Rattle.pm_script.specs.Bad.{IsBad}
use Rattle.pm_script.proofs.Dialects.{plain_reading}
use Rattle.pm_script.proofs.Faults.{one_fault_of, no_fault_of}

-- bytes have one fault at most
pub one_fault : (bytes : List ℕ) (a b : ScriptFault) → IsBad a bytes → IsBad b bytes → a ≡ b
one_fault bytes a b is_a is_b = one_fault_of plain_reading bytes a b is_a is_b

-- a script has none
pub no_fault : (bytes : List ℕ) (f : ScriptFault) (lines : List Line) → IsBad f bytes → IsScript bytes lines → ⊥
no_fault bytes f lines is script = no_fault_of plain_reading bytes f lines is script
