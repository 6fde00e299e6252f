-- Bytes are a script of one list of lines at most, and these keep the limits.
use Rattle.std.proofs.Common.{◌≡◌, ℕ, List, arith}
use Rattle.pm_script.specs.declared.line.Line.{Line}
use Rattle.pm_script.specs.Lines.{lines_of, spoken}
use Rattle.pm_script.specs.Words.{IsFirst}
use Rattle.pm_script.specs.Script.{first_of, IsBody, IsScript, AreLines}
use Rattle.pm_script.proofs.Dialects.{plain_reading}
use Rattle.pm_script.proofs.Readings.{one_of, as_few, each_has}

-- bytes are a script of one list of lines at most
pub one_reading : (bytes : List ℕ) (a b : List Line) → IsScript bytes a → IsScript bytes b → a ≡ b
one_reading bytes a b is_a is_b = one_of plain_reading bytes a b is_a is_b

-- a script's lines are few, and each client is one of the eight
pub lines_of_script : (bytes : List ℕ) (lines : List Line) → IsScript bytes lines → AreLines lines
lines_of_script bytes lines is =
    let le = as_few IsBody (lines_of bytes) lines is.each in
    record { few = omega (arith, le, is.few); clients = each_has IsBody (λ line. IsFirst (first_of line)) (λ body line says. says.first) (spoken (lines_of bytes)) lines is.each }
