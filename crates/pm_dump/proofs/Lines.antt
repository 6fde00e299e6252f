-- Lines that are read one after the other.
use Rattle.std.proofs.Common.{◌≡◌, inl, ℕ, zero, suc, ◌<◌, ◌==◌, Bool, true, false, List, [], ◌∷◌, ◌++◌, length, nat_eq, refl, sym, subst, arith}
use Rattle.std.proofs.lemmas.Bool.{eqb-true}
use Rattle.std.proofs.lemmas.List.Splits.{length-slice_split}
use Rattle.pm_model.specs.Heap.{Object}
use Rattle.pm_dump.specs.declared.fault.DumpCause.{DumpCause}
use Rattle.pm_dump.specs.declared.fault.DumpCause.TheVariants as why
use Rattle.pm_dump.specs.declared.fault.DumpFault.{DumpFault}
use Rattle.pm_dump.specs.declared.fault.DumpFault.TheVariants as dump_fault
use Rattle.pm_dump.specs.Dump.{DumpLine, HeadLine, object_lines, root_lines, EndLine}
use Rattle.pm_dump.specs.Spelled.{pieces_of, AreLinePieces, SpellsLines}
use Rattle.pm_dump.specs.Faults.{IsEnded, AreInPlace, IsLineFault, IsFaultAmong}
use Rattle.pm_dump.specs.Read.{FailsAt, FailsLines}
use Rattle.pm_dump.proofs.Behind.{seen, onto, onto_seen}

-- what was read so far of bytes, of which these are left, behind the lines before, the next of which has this number
pub record ReadSoFar (bytes left : List ℕ) (before : List DumpLine) (start : ℕ) : Type 0 where
  pub fault : (number : ℕ) (cause : DumpCause) → IsFaultAmong before start (pieces_of left) number cause → IsFaultAmong [] 1 (pieces_of bytes) number cause
  pub lines : (lines : List DumpLine) → AreLinePieces lines (pieces_of left) → AreInPlace before lines → SpellsLines bytes (onto before lines) × AreInPlace [] (onto before lines)

here_fault : (before : List DumpLine) (start : ℕ) (body : List ℕ) (pieces : List (List ℕ)) (number : ℕ) (cause : DumpCause) → 0 < length pieces → number ≡ start → IsLineFault before body cause → IsFaultAmong before start (body ∷ pieces) number cause
here_fault before start body [] number cause some is bad = absurd (omega (arith, some))
here_fault before start body (next ∷ pieces) number cause some is bad = inl (is, bad)

some_pieces : (bytes : List ℕ) → 0 < length (pieces_of bytes)
some_pieces bytes = omega (arith, length-slice_split (λ b. nat_eq b 10) bytes)

-- a bad line ends all
pub fails_here : (f : DumpFault) (bytes left body rest : List ℕ) (before : List DumpLine) (start : ℕ) → ReadSoFar bytes left before start → pieces_of left ≡ body ∷ pieces_of rest → FailsAt before body start f → FailsLines bytes f
fails_here (dump_fault.Line number cause) bytes left body rest before start so cut fails =
    so.fault number cause
    (subst (λ (pieces : List (List ℕ)). IsFaultAmong before start pieces number cause) (sym cut) (here_fault before start body (pieces_of rest) number cause (some_pieces rest) fails.0 fails.1))
fails_here (dump_fault.Memory _) bytes left body rest before start so cut fails = tt

-- what is left behind the last newline must be nothing, behind the end
pub fails_last : (bytes left : List ℕ) (before : List DumpLine) (start : ℕ) → ReadSoFar bytes left before start → pieces_of left ≡ left ∷ [] → (left ≡ [] → IsEnded before → ⊥) → IsFaultAmong [] 1 (pieces_of bytes) start why.Form
fails_last bytes left before start so cut never =
    so.fault start why.Form (subst (λ (pieces : List (List ℕ)). IsFaultAmong before start pieces start why.Form) (sym cut) (refl, refl, never))

pub nothing : (left : List ℕ) → (length left == 0) ≡ true → left ≡ []
nothing [] is = refl
nothing (byte ∷ left) is = absurd (let bad : suc (length left) ≡ 0 = eqb-true (suc (length left)) 0 is in omega (arith, bad))

pub something : (left : List ℕ) → (length left == 0) ≡ false → left ≡ [] → ⊥
something [] is none = let bad : true ≡ false = is in cc bad
something (byte ∷ left) is none = cc none

-- all lines, up to the end
pub read_all : (bytes left : List ℕ) (ended : Bool) (roots : List (List ℕ × ℕ)) (objects : List (ℕ × Object)) (next start : ℕ) → ReadSoFar bytes left (seen ended roots objects next) start → pieces_of left ≡ left ∷ [] → left ≡ [] → ended ≡ true
    → (next ≡ 0 → ended ≡ false) → SpellsLines bytes (HeadLine next ∷ (object_lines objects ++ (root_lines roots ++ EndLine ∷ []))) × AreInPlace [] (HeadLine next ∷ (object_lines objects ++ (root_lines roots ++ EndLine ∷ [])))
read_all bytes left false roots objects next start so cut none ended first = absurd (cc ended)
read_all bytes left true roots objects zero start so cut none ended first = absurd (let bad : true ≡ false = first refl in cc bad)
read_all bytes left true roots objects (suc next) start so cut none ended first =
    let lines = so.lines [] (subst (AreLinePieces []) (sym cut) none) tt in
    subst (λ (lines : List DumpLine). SpellsLines bytes lines × AreInPlace [] lines) (onto_seen roots objects (suc next) (omega arith)) lines
