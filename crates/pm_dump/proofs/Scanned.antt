-- Pieces are good lines up to the end, or one is the first that is bad, and not both.
use Rattle.std.proofs.Common.{◌≡◌, ◌⊎◌, inl, inr, ℕ, ◌+◌, ◌<◌, List, [], ◌∷◌, length, nat_eq, refl, sym, subst, ◌∙◌, arith}
use Rattle.std.proofs.lemmas.List.Splits.{length-slice_split}
use Rattle.pm_script.specs.Lines.{words_of}
use Rattle.pm_dump.specs.declared.fault.DumpCause.{DumpCause}
use Rattle.pm_dump.specs.declared.fault.DumpCause.TheVariants as why
use Rattle.pm_dump.specs.Dump.{DumpLine}
use Rattle.pm_dump.specs.Spelled.{pieces_of, AreLinePieces}
use Rattle.pm_dump.specs.Faults.{IsEnded, AreInPlace, IsGoodLine, IsFaultAmong}
use Rattle.pm_dump.proofs.Decided.{Decided}
use Rattle.pm_dump.proofs.LineLaws.{one_line}
use Rattle.pm_dump.proofs.Judged.{Judged, judged, one_good, not_good, one_cause, ended_decided}

-- what is told of pieces: the lines that they are, or the first that is bad
abbrev pub Scanned : List DumpLine → ℕ → List (List ℕ) → Type 0
Scanned before start pieces = ((lines : List DumpLine) × AreLinePieces lines pieces × AreInPlace before lines) ⊎ ((number : ℕ) × (cause : DumpCause) × IsFaultAmong before start pieces number cause)

last_piece : (before : List DumpLine) (start : ℕ) (piece : List ℕ) → Decided (IsEnded before) → Scanned before start (piece ∷ [])
last_piece before start [] (inl ended) = inl ([], refl, ended)
last_piece before start [] (inr never) = inr (start, why.Form, (refl, refl, λ is ended. never ended))
last_piece before start (byte ∷ piece) ended = inr (start, why.Form, (refl, refl, λ is ended. cc is))

one_more : (before : List DumpLine) (start : ℕ) (piece next : List ℕ) (pieces : List (List ℕ)) (line : DumpLine) → IsGoodLine before piece line → Scanned (line ∷ before) (start + 1) (next ∷ pieces) → Scanned before start (piece ∷ next ∷ pieces)
one_more before start piece next pieces line good (inl (lines, spelled, placed)) = inl (line ∷ lines, (good.spelled, spelled), (good.placed, placed))
one_more before start piece next pieces line good (inr (number, cause, bad)) = inr (number, cause, inr (line, good, bad))

scan_by : (before : List DumpLine) (start : ℕ) (piece next : List ℕ) (pieces : List (List ℕ)) → Judged before piece → ((line : DumpLine) → Scanned (line ∷ before) (start + 1) (next ∷ pieces)) → Scanned before start (piece ∷ next ∷ pieces)
scan_by before start piece next pieces (inl (line, good)) more = one_more before start piece next pieces line good (more line)
scan_by before start piece next pieces (inr (cause, bad)) more = inr (start, cause, inl (refl, bad))

scan : (before : List DumpLine) (start : ℕ) (piece : List ℕ) (pieces : List (List ℕ)) → Scanned before start (piece ∷ pieces)
scan before start piece [] = last_piece before start piece (ended_decided before)
scan before start piece (next ∷ pieces) = scan_by before start piece next pieces (judged before piece) (λ line. scan (line ∷ before) (start + 1) next pieces)

some_scanned : (pieces : List (List ℕ)) → 0 < length pieces → Scanned [] 1 pieces
some_scanned [] some = absurd (omega (arith, some))
some_scanned (piece ∷ pieces) some = scan [] 1 piece pieces

-- bytes are good lines up to the end, or one is the first that is bad
pub scanned : (bytes : List ℕ) → Scanned [] 1 (pieces_of bytes)
scanned bytes = some_scanned (pieces_of bytes) (let count = length-slice_split (λ b. nat_eq b 10) bytes in omega (arith, count))

-- one line is the first that is bad, for one cause
pub one_among : (before : List DumpLine) (start : ℕ) (pieces : List (List ℕ)) (m n : ℕ) (c d : DumpCause) → IsFaultAmong before start pieces m c → IsFaultAmong before start pieces n d → (m ≡ n) × (c ≡ d)
one_among before start [] m n c d a b = absurd a
one_among before start (piece ∷ []) m n c d a b = (a.0 ∙ sym b.0, a.1 ∙ sym b.1)
one_among before start (piece ∷ next ∷ pieces) m n c d (inl a) (inl b) = (a.0 ∙ sym b.0, one_cause c d before piece a.1 b.1)
one_among before start (piece ∷ next ∷ pieces) m n c d (inl a) (inr b) = absurd (not_good c before piece b.0 a.1 b.1)
one_among before start (piece ∷ next ∷ pieces) m n c d (inr a) (inl b) = absurd (not_good d before piece a.0 b.1 a.1)
one_among before start (piece ∷ next ∷ pieces) m n c d (inr (line, good, a)) (inr (other, better, b)) =
    one_among (line ∷ before) (start + 1) (next ∷ pieces) m n c d a
    (subst (λ (l : DumpLine). IsFaultAmong (l ∷ before) (start + 1) (next ∷ pieces) n d) (one_good before piece other line better good) b)

-- good lines have none that is bad
pub not_among : (before : List DumpLine) (start : ℕ) (pieces : List (List ℕ)) (lines : List DumpLine) (n : ℕ) (c : DumpCause) → AreLinePieces lines pieces → AreInPlace before lines → IsFaultAmong before start pieces n c → ⊥
not_among before start [] lines n c spelled placed bad = bad
not_among before start (piece ∷ []) [] n c spelled placed bad = bad.2 spelled placed
not_among before start (piece ∷ []) (line ∷ []) n c spelled placed bad = spelled.1
not_among before start (piece ∷ []) (line ∷ other ∷ lines) n c spelled placed bad = spelled.1
not_among before start (piece ∷ next ∷ pieces) [] n c spelled placed bad = spelled
not_among before start (piece ∷ next ∷ pieces) (line ∷ lines) n c spelled placed (inl bad) = not_good c before piece line bad.1 (record { spelled = spelled.0; placed = placed.0 })
not_among before start (piece ∷ next ∷ pieces) (line ∷ lines) n c spelled placed (inr (other, good, bad)) =
    not_among (line ∷ before) (start + 1) (next ∷ pieces) lines n c spelled.1 placed.1
    (subst (λ (l : DumpLine). IsFaultAmong (l ∷ before) (start + 1) (next ∷ pieces) n c) (one_line (words_of piece) other line good.spelled spelled.0) bad)

-- pieces are one list of lines at most
pub one_lines : (pieces : List (List ℕ)) (a b : List DumpLine) → AreLinePieces a pieces → AreLinePieces b pieces → a ≡ b
one_lines [] [] [] is_a is_b = refl
one_lines [] [] (y ∷ ys) is_a is_b = absurd is_a
one_lines [] (x ∷ xs) ys is_a is_b = absurd is_a
one_lines (piece ∷ pieces) [] [] is_a is_b = refl
one_lines (piece ∷ []) [] (y ∷ []) is_a is_b = absurd is_b.1
one_lines (piece ∷ []) [] (y ∷ z ∷ ys) is_a is_b = absurd is_b.1
one_lines (piece ∷ next ∷ pieces) [] (y ∷ ys) is_a is_b = absurd is_a
one_lines (piece ∷ []) (x ∷ []) ys is_a is_b = absurd is_a.1
one_lines (piece ∷ []) (x ∷ z ∷ xs) ys is_a is_b = absurd is_a.1
one_lines (piece ∷ next ∷ pieces) (x ∷ xs) [] is_a is_b = absurd is_b
one_lines (piece ∷ next ∷ pieces) (x ∷ xs) (y ∷ ys) is_a is_b = λ i. one_line (words_of piece) x y is_a.0 is_b.0 i ∷ one_lines (next ∷ pieces) xs ys is_a.1 is_b.1 i
