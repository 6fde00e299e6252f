-- Scripts for a run with a nursery: one list of lines at most, which keeps the limits, or one fault.
use Rattle.std.proofs.Common.{◌≡◌, ℕ, List, arith}
use Rattle.pm_script.specs.declared.fault.ScriptFault.{ScriptFault}
use Rattle.pm_script.specs.declared.line.YoungLine.{YoungLine}
use Rattle.pm_script.specs.declared.line.YoungLine.TheVariants.{Base, Young}
use Rattle.pm_script.specs.Lines.{lines_of, spoken}
use Rattle.pm_script.specs.Words.{IsFirst}
use Rattle.pm_script.specs.Bad.{IsYoungBad}
use Rattle.pm_script.specs.Young.{young_first_of, IsYoungBody, IsYoungScript, IsUnwatched, AreYoungLines}
use Rattle.pm_script.proofs.Dialects.{young_reading}
use Rattle.pm_script.proofs.Readings.{one_of, as_few, each_has}
use Rattle.pm_script.proofs.Faults.{one_fault_of, no_fault_of}

-- bytes are a script of one list of lines at most
pub one_young_reading : (bytes : List ℕ) (a b : List YoungLine) → IsYoungScript bytes a → IsYoungScript bytes b → a ≡ b
one_young_reading bytes a b is_a is_b = one_of young_reading bytes a b is_a is_b

begins : (body : List ℕ) (l : YoungLine) → IsYoungBody body l → IsFirst (young_first_of l)
begins body (Base l) is = is.0.first
begins body Young is = tt

no_watch : (body : List ℕ) (l : YoungLine) → IsYoungBody body l → IsUnwatched l
no_watch body (Base l) is = is.1
no_watch body Young is = tt

-- a script's lines are few, each client is one of the eight, and none asks for the watch
pub lines_of_young_script : (bytes : List ℕ) (lines : List YoungLine) → IsYoungScript bytes lines → AreYoungLines lines
lines_of_young_script bytes lines is =
    let le = as_few IsYoungBody (lines_of bytes) lines is.each in
    record {
      few = omega (arith, le, is.few);
      clients = each_has IsYoungBody (λ line. IsFirst (young_first_of line)) begins (spoken (lines_of bytes)) lines is.each;
      unwatched = each_has IsYoungBody IsUnwatched no_watch (spoken (lines_of bytes)) lines is.each;
    }

-- bytes have one fault at most
pub one_young_fault : (bytes : List ℕ) (a b : ScriptFault) → IsYoungBad a bytes → IsYoungBad b bytes → a ≡ b
one_young_fault bytes a b is_a is_b = one_fault_of young_reading bytes a b is_a is_b

-- a script has none
pub no_young_fault : (bytes : List ℕ) (f : ScriptFault) (lines : List YoungLine) → IsYoungBad f bytes → IsYoungScript bytes lines → ⊥
no_young_fault bytes f lines is script = no_fault_of young_reading bytes f lines is script
