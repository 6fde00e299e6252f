-- From what was read of words to what a line is.
use Rattle.std.proofs.Common.{◌≡◌, ℕ, ◌^◌, count_by, Result, Ok, Err, OnOk, IfErr, Bool, false, if◌then◌else◌, ◌≤◌, List, length, nat_eq, Option, Some, None, ap, subst, arith}
use Rattle.std.proofs.lemmas.List.Splits.{length-slice_split}
use Rattle.std.proofs.lemmas.List.Sums.{count_by-le-length}
use Rattle.std.specs.List.{slice_split}
use Rattle.pm_types.specs.Memory.{no_memory}
use Rattle.pm_types.specs.NameFaults.{IsFirstFault}
use Rattle.pm_types.specs.declared.name.NameFault.{NameFault}
use Rattle.pm_types.specs.declared.name.NameFault.TheVariants.{Memory}
use Rattle.pm_script.specs.Values.{is_name, name_of}
use Rattle.pm_script.proofs.NameTests.{fault_fails}
use Rattle.pm_script.specs.Lines.{words_of}
use Rattle.pm_dump.specs.declared.fault.DumpCause.TheVariants as why
use Rattle.pm_dump.specs.declared.fault.DumpCause.{DumpCause}
use Rattle.pm_types.specs.declared.caused.Fault.{Fault}
use Rattle.pm_types.specs.declared.caused.Fault.TheVariants as line_fault
use Rattle.pm_dump.specs.Dump.{DumpLine}
use Rattle.pm_dump.specs.Faults.{MayStand}
use Rattle.pm_dump.specs.Reading.{line_at}
use Rattle.pm_dump.specs.Read.{ReadsLine, FailsLine, ReadsWords, FailsWords, HasNoForm}
use Rattle.pm_dump.proofs.LineLaws.{line_found, line_again}

pub reads_line : (before after : List DumpLine) (body : List ℕ) → ReadsWords before (line_at (words_of body)) after → ReadsLine before body after
reads_line before after body it = record { line = it.line; good = record { spelled = line_found (words_of body) it.line it.found; placed = it.placed }; is = it.is }

no_form : (before : List DumpLine) (read : Option DumpLine) (line : DumpLine) → HasNoForm before read → read ≡ Some line → MayStand before line → ⊥
no_form before None line has is may = absurd (cc is)
no_form before (Some other) line has is may = has (subst (MayStand before) (let same : line ≡ other = cc is in same) may)

pub fails_line : (f : Fault DumpCause) (before : List DumpLine) (body : List ℕ) → FailsWords before (line_at (words_of body)) f → FailsLine before body f
fails_line (line_fault.Bad why.Form) before body it = λ line spelled may. no_form before (line_at (words_of body)) line it (line_again line (words_of body) spelled) may
fails_line (line_fault.Bad why.Order) before body it = record { line = it.0; spelled = line_found (words_of body) it.0 it.1; may = it.2; fails = it.3 }
fails_line (line_fault.Bad why.Limit) before body it = record { line = it.0; spelled = line_found (words_of body) it.0 it.1; may = it.2; ordered = it.3; fails = it.4 }
fails_line (line_fault.Bad why.Dangling) before body it = it
fails_line (line_fault.Memory _) before body it = tt

not_taken : {A : Type 0} (b : Bool) (x : A) → b ≡ false → (if b then Some x else None) ≡ None
not_taken b x is = ap (λ b. if b then Some x else None) is

-- what has a fault of a name is no name
pub no_name : (fault : NameFault) (word : List ℕ) → IsFirstFault fault word → (fault ≡ Memory no_memory → ⊥) → name_of word ≡ None
no_name fault word is other = not_taken (is_name word) word (fault_fails fault word is other)

pub on_ok : {T E P Q : Type 0} (r : Result T E) → (P → Q) → OnOk r P → OnOk r Q
on_ok (Ok x) so is = so is
on_ok (Err e) so is = tt

pub if_err : {T E : Type 0} (P Q : E → Type 0) (r : Result T E) → ((e : E) → P e → Q e) → IfErr r P → IfErr r Q
if_err P Q (Ok x) so is = tt
if_err P Q (Err e) so is = so e is

count_le : (p : ℕ → Bool) (xs : List ℕ) → count_by p xs ≤ length xs
count_le p xs = count_by-le-length p xs

-- a line within the limit of a source has few words
pub few_words : (line : List ℕ) → length line ≤ 268435456 → length (slice_split (λ b. nat_eq b 32) line) ≤ 2 ^ 32
few_words line short = omega (arith, length-slice_split (λ b. nat_eq b 32) line, count_le (λ b. nat_eq b 32) line, short)
