-- The fault that is told of bytes is the first that applies, and the first that applies is told, whatever a line stands for.
use Rattle.std.proofs.Common.{◌≡◌, ◌⊎◌, inl, inr, ℕ, suc, ◌+◌, ◌<◌, ◌≤◌, Bool, true, false, cond, not, List, [], ◌∷◌, ◌++◌, length, Result, Ok, Err, refl, ap, sym, subst, ◌∙◌, arith, nat_lt, if◌then◌else◌}
use Rattle.pm_types.specs.Memory.{no_memory}
use Rattle.pm_types.specs.Results.{◌>>=◌}
use Rattle.pm_script.specs.declared.fault.Cause.{Cause}
use Rattle.pm_script.specs.declared.fault.ScriptFault.{ScriptFault}
use Rattle.pm_script.specs.declared.fault.ScriptFault.TheVariants as fault
use Rattle.pm_script.specs.Lines.{lines_of, is_silent, spoken}
use Rattle.pm_script.specs.Reading.{Stops, numbered, lines_at, script_at}
use Rattle.pm_script.specs.Script.{StandFor, IsScriptOf}
use Rattle.pm_script.specs.Bad.{IsBadAmong, IsBadOf}
use Rattle.pm_script.proofs.ResultSteps.{first_err}
use Rattle.pm_script.proofs.Readings.{IsReading, numbered_ok, not_many, are_many, script_many, script_few, script_again}
use Rattle.pm_types.proofs.Results.{either_fails}

-- one line, and those after it
abbrev then_lines : {L : Type 0} (read : List ℕ → Result L Cause) → ℕ → List ℕ → List (List ℕ) → Result (List L) ScriptFault
then_lines read n body bodies = numbered n (read body) >>= λ line. lines_at read (n + 1) bodies >>= λ lines. Ok (line ∷ lines)

-- some line is bad
abbrev BadLine : {L : Type 0} (says : List ℕ → L → Type 0) (why : Cause → List ℕ → Type 0) → ℕ → List (List ℕ) → ScriptFault → Type 0
BadLine says why start bodies f = (number : ℕ) × (c : Cause) × (f ≡ fault.Line number c) × IsBadAmong says why start bodies number c

numbered_err : {L : Type 0} (n : ℕ) (read : Result L Cause) (f : ScriptFault) → numbered n read ≡ Err f → (c : Cause) × (read ≡ Err c) × (f ≡ fault.Line n c)
numbered_err n (Ok line) f is = absurd cc
numbered_err n (Err c) f is = let same : fault.Line n c ≡ f = cc is in (c, refl, sym same)

later : {L : Type 0} (says : List ℕ → L → Type 0) (why : Cause → List ℕ → Type 0) (start : ℕ) (body : List ℕ) (bodies : List (List ℕ)) (f : ScriptFault) (silent : Bool) (lines : List L) → is_silent body ≡ silent → StandFor says (cond (not silent) (body ∷ []) []) lines → (bad : BadLine says why (start + 1) bodies f)
    → StandFor says (cond (not silent) (body ∷ spoken bad.3.before) (spoken bad.3.before)) (lines ++ bad.3.lines) → BadLine says why start (body ∷ bodies) f
later says why start body bodies f silent lines is are bad all =
    let among = bad.3 in (
      bad.0,
      bad.1,
      bad.2,
      record {
        before = body ∷ among.before;
        body = among.body;
        after = among.after;
        there = ap (λ rest. body ∷ rest) among.there;
        counted = among.counted ∙ omega arith;
        lines = lines ++ among.lines;
        good = subst (λ (b : Bool). StandFor says (cond (not b) (body ∷ spoken among.before) (spoken among.before)) (lines ++ among.lines)) (sym is) all;
        speaks = among.speaks;
        is_bad = among.is_bad;
      },
    )

spoken_err : {L : Type 0} {read : List ℕ → Result L Cause} {says : List ℕ → L → Type 0} {why : Cause → List ℕ → Type 0} → IsReading read says why → (start : ℕ) (body : List ℕ) (bodies : List (List ℕ)) (f : ScriptFault) → is_silent body ≡ false
    → (numbered start (read body) ≡ Err f) ⊎ ((line : L) × (numbered start (read body) ≡ Ok line) × ((lines_at read (start + 1) bodies >>= λ lines. Ok (line ∷ lines)) ≡ Err f))
    → (lines_at read (start + 1) bodies ≡ Err f → BadLine says why (start + 1) bodies f) → BadLine says why start (body ∷ bodies) f
spoken_err {read = read} r start body bodies f spoken (inl err) more =
    let it = numbered_err start (read body) f err in
    (start, it.0, it.2, record { before = []; body = body; after = bodies; there = refl; counted = omega arith; lines = []; good = tt; speaks = spoken; is_bad = r.why_found body it.0 it.1 })
spoken_err {read = read} {says = says} {why = why} r start body bodies f spoken (inr (line, told, err)) more =
    let is = r.found body line (numbered_ok start (read body) line told) in
    let bad = more (first_err (lines_at read (start + 1) bodies) (λ lines. line ∷ lines) f err) in
    later says why start body bodies f false (line ∷ []) spoken (is, tt) bad (is, bad.3.good)

err_by : {L : Type 0} {read : List ℕ → Result L Cause} {says : List ℕ → L → Type 0} {why : Cause → List ℕ → Type 0} → IsReading read says why → (start : ℕ) (body : List ℕ) (bodies : List (List ℕ)) (f : ScriptFault) (silent : Bool) → is_silent body ≡ silent → (if silent then lines_at read (start + 1) bodies else then_lines read start body bodies) ≡ Err f
    → (lines_at read (start + 1) bodies ≡ Err f → BadLine says why (start + 1) bodies f) → BadLine says why start (body ∷ bodies) f
err_by {says = says} {why = why} r start body bodies f true is err more = let bad = more err in later says why start body bodies f true [] is tt bad bad.3.good
err_by {read = read} r start body bodies f false is err more =
    spoken_err r start body bodies f is (either_fails (numbered start (read body)) (λ line. lines_at read (start + 1) bodies >>= λ lines. Ok (line ∷ lines)) f err) more

-- where lines are not read, one is bad, and the first such is told
bad_line : {L : Type 0} {read : List ℕ → Result L Cause} {says : List ℕ → L → Type 0} {why : Cause → List ℕ → Type 0} → IsReading read says why → (start : ℕ) (bodies : List (List ℕ)) (f : ScriptFault) → lines_at read start bodies ≡ Err f → BadLine says why start bodies f
bad_line r start [] f err = absurd cc
bad_line r start (body ∷ bodies) f err = err_by r start body bodies f (is_silent body) refl err (bad_line r (start + 1) bodies f)

bad_by : {L : Type 0} {read : List ℕ → Result L Cause} {says : List ℕ → L → Type 0} {why : Cause → List ℕ → Type 0} → IsReading read says why → (bytes : List ℕ) (f : ScriptFault) (test : Bool) → length bytes ≤ 268435456 → nat_lt 65536 (length (lines_of bytes)) ≡ test → (if test then Err fault.TooManyLines else lines_at read 1 (lines_of bytes)) ≡ Err f → IsBadOf says why f bytes
bad_by {says = says} {why = why} r bytes f true short many err =
    let same : fault.TooManyLines ≡ f = cc err in subst (λ (f : ScriptFault). IsBadOf says why f bytes) same (short, are_many 65536 (length (lines_of bytes)) many)
bad_by {says = says} {why = why} r bytes f false short many err =
    let bad = bad_line r 1 (lines_of bytes) f err in
    subst (λ (f : ScriptFault). IsBadOf says why f bytes) (sym bad.2) (short, not_many 65536 (length (lines_of bytes)) many, bad.3)

-- the fault that is told is the first that applies
pub bad_found : {L : Type 0} {read : List ℕ → Result L Cause} {says : List ℕ → L → Type 0} {why : Cause → List ℕ → Type 0} → IsReading read says why → (bytes : List ℕ) (f : ScriptFault) → length bytes ≤ 268435456 → script_at read bytes ≡ Err f → IsBadOf says why f bytes
unfolding script_at
bad_found r bytes f short err = bad_by r bytes f (nat_lt 65536 (length (lines_of bytes))) short refl err

err_before : {L : Type 0} {read : List ℕ → Result L Cause} {says : List ℕ → L → Type 0} {why : Cause → List ℕ → Type 0} → IsReading read says why → (start : ℕ) (b : List ℕ) (bodies : List (List ℕ)) (f : ScriptFault) (silent : Bool) (before : List (List ℕ)) (lines : List L) → StandFor says (cond (not silent) (b ∷ spoken before) (spoken before)) lines
    → ((ls : List L) → StandFor says (spoken before) ls → lines_at read (start + 1) bodies ≡ Err f) → (if silent then lines_at read (start + 1) bodies else then_lines read start b bodies) ≡ Err f
err_before r start b bodies f true before lines are more = more lines are
err_before r start b bodies f false before [] are more = absurd are
err_before {L} {read = read} r start b bodies f false before (line ∷ lines) are more =
    ap (λ (r : Result L Cause). numbered start r >>= λ line. lines_at read (start + 1) bodies >>= λ lines. Ok (line ∷ lines)) (r.again b line are.0)
    ∙ ap (λ (r : Result (List L) ScriptFault). r >>= λ lines. Ok (line ∷ lines)) (more lines are.1)

moved : (start n : ℕ) → start + 1 + n ≡ start + suc n
moved start n = omega arith

err_behind : {L : Type 0} {read : List ℕ → Result L Cause} {says : List ℕ → L → Type 0} {why : Cause → List ℕ → Type 0} → IsReading read says why → (start : ℕ) (before rest : List (List ℕ)) (f : ScriptFault) (lines : List L) → StandFor says (spoken before) lines → lines_at read (start + length before) rest ≡ Err f → lines_at read start (before ++ rest) ≡ Err f
err_behind {read = read} r start [] rest f lines are err = ap (λ n. lines_at read n rest) (let same : start ≡ start + 0 = omega arith in same) ∙ err
err_behind {read = read} r start (b ∷ before) rest f lines are err =
    err_before r start b (before ++ rest) f (is_silent b) before lines are (λ ls each. err_behind r (start + 1) before rest f ls each (ap (λ n. lines_at read n rest) (moved start (length before)) ∙ err))

err_here : {L : Type 0} (read : List ℕ → Result L Cause) (n : ℕ) (body : List ℕ) (after : List (List ℕ)) (c : Cause) → is_silent body ≡ false → read body ≡ Err c → lines_at read n (body ∷ after) ≡ Err (fault.Line n c)
err_here {L} read n body after c spoken err =
    ap (λ b. if b then lines_at read (n + 1) after else then_lines read n body after) spoken
    ∙ ap (λ (r : Result L Cause). numbered n r >>= λ line. lines_at read (n + 1) after >>= λ lines. Ok (line ∷ lines)) err

among_again : {L : Type 0} {read : List ℕ → Result L Cause} {says : List ℕ → L → Type 0} {why : Cause → List ℕ → Type 0} → IsReading read says why → (start : ℕ) (bodies : List (List ℕ)) (number : ℕ) (c : Cause) → IsBadAmong says why start bodies number c → lines_at read start bodies ≡ Err (fault.Line number c)
among_again {read = read} r start bodies number c is =
    ap (lines_at read start) is.there
    ∙ err_behind r start is.before (is.body ∷ is.after) (fault.Line number c) is.lines is.good
    (subst (λ (n : ℕ). lines_at read n (is.body ∷ is.after) ≡ Err (fault.Line number c)) is.counted (err_here read number is.body is.after c is.speaks (r.why_again c is.body is.is_bad)))

-- the first fault that applies is told
pub bad_again : {L : Type 0} {read : List ℕ → Result L Cause} {says : List ℕ → L → Type 0} {why : Cause → List ℕ → Type 0} → IsReading read says why → (f : ScriptFault) (bytes : List ℕ) → length bytes ≤ 268435456 → IsBadOf says why f bytes → script_at read bytes ≡ Err f
bad_again {read = read} r (fault.Line number c) bytes short is = script_few read bytes is.1 ∙ among_again r 1 (lines_of bytes) number c is.2
bad_again {read = read} r fault.TooManyLines bytes short is = script_many read bytes is.1
bad_again r fault.TooLong bytes short is = absurd (omega (arith, short, is))
bad_again r (fault.Memory _) bytes short is = absurd is

read_long : {L : Type 0} (says : List ℕ → L → Type 0) (why : Cause → List ℕ → Type 0) (f : ScriptFault) (bytes : List ℕ) → 268435456 < length bytes → IsBadOf says why f bytes → f ≡ fault.TooLong
read_long says why (fault.Line number c) bytes long is = absurd (omega (arith, long, is.0))
read_long says why fault.TooManyLines bytes long is = absurd (omega (arith, long, is.0))
read_long says why fault.TooLong bytes long is = refl
read_long says why (fault.Memory _) bytes long is = absurd is

short_one : {L : Type 0} {read : List ℕ → Result L Cause} {says : List ℕ → L → Type 0} {why : Cause → List ℕ → Type 0} → IsReading read says why → (bytes : List ℕ) (a b : ScriptFault) → length bytes ≤ 268435456 → IsBadOf says why a bytes → IsBadOf says why b bytes → a ≡ b
short_one {L} r bytes a b short is_a is_b =
    let same : ◌≡◌ {A = Result (List L) ScriptFault} (Err a) (Err b) = sym (bad_again r a bytes short is_a) ∙ bad_again r b bytes short is_b in
    cc same

one_by : {L : Type 0} {read : List ℕ → Result L Cause} {says : List ℕ → L → Type 0} {why : Cause → List ℕ → Type 0} → IsReading read says why → (bytes : List ℕ) (a b : ScriptFault) → (268435456 < length bytes) ⊎ (length bytes ≤ 268435456) → IsBadOf says why a bytes → IsBadOf says why b bytes → a ≡ b
one_by {says = says} {why = why} r bytes a b (inl long) is_a is_b = read_long says why a bytes long is_a ∙ sym (read_long says why b bytes long is_b)
one_by r bytes a b (inr short) is_a is_b = short_one r bytes a b short is_a is_b

either : (m n : ℕ) → (m < n) ⊎ (n ≤ m)
either m n = grind arith

-- bytes have one fault at most
pub one_fault_of : {L : Type 0} {read : List ℕ → Result L Cause} {says : List ℕ → L → Type 0} {why : Cause → List ℕ → Type 0} → IsReading read says why → (bytes : List ℕ) (a b : ScriptFault) → IsBadOf says why a bytes → IsBadOf says why b bytes → a ≡ b
one_fault_of r bytes a b is_a is_b = one_by r bytes a b (either 268435456 (length bytes)) is_a is_b

-- a script has none
pub no_fault_of : {L : Type 0} {read : List ℕ → Result L Cause} {says : List ℕ → L → Type 0} {why : Cause → List ℕ → Type 0} → IsReading read says why → (bytes : List ℕ) (f : ScriptFault) (lines : List L) → IsBadOf says why f bytes → IsScriptOf says bytes lines → ⊥
no_fault_of {L} r bytes f lines is script =
    let same : ◌≡◌ {A = Result (List L) ScriptFault} (Err f) (Ok lines) = sym (bad_again r f bytes script.short is) ∙ script_again r bytes lines script in
    cc same

-- where the reader ends in a fault, it is the first that applies
pub bad_stops : {L : Type 0} {read : List ℕ → Result L Cause} {says : List ℕ → L → Type 0} {why : Cause → List ℕ → Type 0} → IsReading read says why → (f : ScriptFault) (bytes : List ℕ) → length bytes ≤ 268435456 → Stops {X = List L} f (script_at read bytes) → (f ≡ fault.Memory no_memory) ⊎ IsBadOf says why f bytes
bad_stops r (fault.Line number c) bytes short stops = inr (bad_found r bytes (fault.Line number c) short stops)
bad_stops r fault.TooManyLines bytes short stops = inr (bad_found r bytes fault.TooManyLines short stops)
bad_stops r fault.TooLong bytes short stops = inr (bad_found r bytes fault.TooLong short stops)
bad_stops r (fault.Memory _) bytes short stops = inl refl

-- the first that applies is the one that it ends in
pub fault_told : {L : Type 0} {read : List ℕ → Result L Cause} {says : List ℕ → L → Type 0} {why : Cause → List ℕ → Type 0} → IsReading read says why → (f first : ScriptFault) (bytes : List ℕ) → length bytes ≤ 268435456 → Stops {X = List L} f (script_at read bytes) → IsBadOf says why first bytes → Stops {X = List L} f (Err first)
fault_told r (fault.Line number c) first bytes short stops is = sym (bad_again r first bytes short is) ∙ stops
fault_told r fault.TooManyLines first bytes short stops is = sym (bad_again r first bytes short is) ∙ stops
fault_told r fault.TooLong first bytes short stops is = sym (bad_again r first bytes short is) ∙ stops
fault_told r (fault.Memory _) first bytes short stops is = tt

-- where it reads lines, none applies
pub ok_told : {L : Type 0} {read : List ℕ → Result L Cause} {says : List ℕ → L → Type 0} {why : Cause → List ℕ → Type 0} → IsReading read says why → (first : ScriptFault) (bytes : List ℕ) (lines : List L) → length bytes ≤ 268435456 → script_at read bytes ≡ Ok lines → IsBadOf says why first bytes → ⊥
ok_told {L} r first bytes lines short told is =
    let same : ◌≡◌ {A = Result (List L) ScriptFault} (Err first) (Ok lines) = sym (bad_again r first bytes short is) ∙ told in
    cc same
