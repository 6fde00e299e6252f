-- Bytes are read as the lines of which they are a script, and as no others, whatever a line stands for.
use Rattle.std.proofs.Common.{◌≡◌, ℕ, ◌+◌, ◌<◌, ◌≤◌, Bool, true, false, cond, not, List, [], ◌∷◌, length, Result, Ok, Err, refl, ap, sym, subst, ◌∙◌, arith, nat_lt, if◌then◌else◌}
use Rattle.std.proofs.lemmas.Bool.Decides.{nat_tests}
use Rattle.std.specs.List.{AllByRecursion}
use Rattle.pm_types.specs.Results.{◌>>=◌}
use Rattle.pm_types.proofs.Results.{bind_ok}
use Rattle.pm_script.specs.declared.fault.Cause.{Cause}
use Rattle.pm_script.specs.declared.fault.ScriptFault.{ScriptFault}
use Rattle.pm_script.specs.declared.fault.ScriptFault.TheVariants.{TooManyLines}
use Rattle.pm_script.specs.declared.fault.ScriptFault.TheVariants as fault
use Rattle.pm_script.specs.Lines.{lines_of, is_silent, spoken}
use Rattle.pm_script.specs.Reading.{Stops, numbered, lines_at, script_at}
use Rattle.pm_script.specs.Script.{StandFor, IsScriptOf}

-- a body is read as what it stands for, and as nothing else; and where it is bad, its cause is told, and no other
pub record IsReading {L : Type 0} (read : List ℕ → Result L Cause) (says : List ℕ → L → Type 0) (why : Cause → List ℕ → Type 0) : Type 0 where
  pub found : (body : List ℕ) (line : L) → read body ≡ Ok line → says body line
  pub again : (body : List ℕ) (line : L) → says body line → read body ≡ Ok line
  pub why_found : (body : List ℕ) (c : Cause) → read body ≡ Err c → why c body
  pub why_again : (c : Cause) (body : List ℕ) → why c body → read body ≡ Err c

-- one line, and those after it
then_lines : {L : Type 0} (read : List ℕ → Result L Cause) → ℕ → List ℕ → List (List ℕ) → Result (List L) ScriptFault
then_lines read n body bodies = numbered n (read body) >>= λ line. lines_at read (n + 1) bodies >>= λ lines. Ok (line ∷ lines)

pub numbered_ok : {L : Type 0} (n : ℕ) (read : Result L Cause) (line : L) → numbered n read ≡ Ok line → read ≡ Ok line
numbered_ok n (Ok x) line is = cc
numbered_ok n (Err e) line is = absurd cc

found_by : {L : Type 0} {read : List ℕ → Result L Cause} {says : List ℕ → L → Type 0} {why : Cause → List ℕ → Type 0} → IsReading read says why → (n : ℕ) (body : List ℕ) (bodies : List (List ℕ)) (lines : List L) (silent : Bool) → (if silent then lines_at read (n + 1) bodies else then_lines read n body bodies) ≡ Ok lines
    → ((ls : List L) → lines_at read (n + 1) bodies ≡ Ok ls → StandFor says (spoken bodies) ls) → StandFor says (cond (not silent) (body ∷ spoken bodies) (spoken bodies)) lines
unfolding then_lines
found_by r n body bodies lines true is more = more lines is
found_by {L} {read = read} {says = says} r n body bodies lines false is more =
    let first = bind_ok (numbered n (read body)) (λ line. lines_at read (n + 1) bodies >>= λ lines. Ok (line ∷ lines)) lines is in
    let rest = bind_ok (lines_at read (n + 1) bodies) (λ lines. Ok (first.0 ∷ lines)) lines first.2 in
    let all : first.0 ∷ rest.0 ≡ lines = cc (rest.2) in
    subst (StandFor says (body ∷ spoken bodies)) all (r.found body first.0 (numbered_ok n (read body) first.0 first.1), more rest.0 rest.1)

lines_found : {L : Type 0} {read : List ℕ → Result L Cause} {says : List ℕ → L → Type 0} {why : Cause → List ℕ → Type 0} → IsReading read says why → (n : ℕ) (bodies : List (List ℕ)) (lines : List L) → lines_at read n bodies ≡ Ok lines → StandFor says (spoken bodies) lines
unfolding then_lines
lines_found {says = says} r n [] lines is = let none : [] ≡ lines = cc is in subst (StandFor says []) none tt
lines_found r n (body ∷ bodies) lines is = found_by r n body bodies lines (is_silent body) is (lines_found r (n + 1) bodies)

again_by : {L : Type 0} {read : List ℕ → Result L Cause} {says : List ℕ → L → Type 0} {why : Cause → List ℕ → Type 0} → IsReading read says why → (n : ℕ) (body : List ℕ) (bodies : List (List ℕ)) (lines : List L) (silent : Bool) → StandFor says (cond (not silent) (body ∷ spoken bodies) (spoken bodies)) lines
    → ((ls : List L) → StandFor says (spoken bodies) ls → lines_at read (n + 1) bodies ≡ Ok ls) → (if silent then lines_at read (n + 1) bodies else then_lines read n body bodies) ≡ Ok lines
unfolding then_lines
again_by r n body bodies lines true are more = more lines are
again_by r n body bodies [] false are more = absurd are
again_by {L} {read = read} r n body bodies (line ∷ lines) false are more =
    ap (λ (r : Result L Cause). numbered n r >>= λ line. lines_at read (n + 1) bodies >>= λ lines. Ok (line ∷ lines)) (r.again body line are.0)
    ∙ ap (λ (r : Result (List L) ScriptFault). r >>= λ lines. Ok (line ∷ lines)) (more lines are.1)

lines_again : {L : Type 0} {read : List ℕ → Result L Cause} {says : List ℕ → L → Type 0} {why : Cause → List ℕ → Type 0} → IsReading read says why → (n : ℕ) (bodies : List (List ℕ)) (lines : List L) → StandFor says (spoken bodies) lines → lines_at read n bodies ≡ Ok lines
unfolding then_lines
lines_again r n [] [] are = refl
lines_again r n [] (line ∷ lines) are = absurd are
lines_again r n (body ∷ bodies) lines are = again_by r n body bodies lines (is_silent body) are (lines_again r (n + 1) bodies)

many : (m n : ℕ) → m < n → nat_lt m n ≡ true
many m n lt = grind (arith, nat_tests)

few : (m n : ℕ) → n ≤ m → nat_lt m n ≡ false
few m n le = grind (arith, nat_tests)

pub not_many : (m n : ℕ) → nat_lt m n ≡ false → n ≤ m
not_many m n is = grind (arith, nat_tests)

pub are_many : (m n : ℕ) → nat_lt m n ≡ true → m < n
are_many m n is = grind (arith, nat_tests)

-- too many lines
pub script_many : {L : Type 0} (read : List ℕ → Result L Cause) (bytes : List ℕ) → 65536 < length (lines_of bytes) → script_at read bytes ≡ Err TooManyLines
unfolding script_at
script_many read bytes lt = ap (λ b. if b then Err TooManyLines else lines_at read 1 (lines_of bytes)) (many 65536 (length (lines_of bytes)) lt)

-- not too many
pub script_few : {L : Type 0} (read : List ℕ → Result L Cause) (bytes : List ℕ) → length (lines_of bytes) ≤ 65536 → script_at read bytes ≡ lines_at read 1 (lines_of bytes)
unfolding script_at
script_few read bytes le = ap (λ b. if b then Err TooManyLines else lines_at read 1 (lines_of bytes)) (few 65536 (length (lines_of bytes)) le)

few_by : {L : Type 0} (read : List ℕ → Result L Cause) (bytes : List ℕ) (lines : List L) (test : Bool) → nat_lt 65536 (length (lines_of bytes)) ≡ test → (if test then Err TooManyLines else lines_at read 1 (lines_of bytes)) ≡ Ok lines
    → (length (lines_of bytes) ≤ 65536) × (lines_at read 1 (lines_of bytes) ≡ Ok lines)
few_by read bytes lines true so is = absurd cc
few_by read bytes lines false so is = (not_many 65536 (length (lines_of bytes)) so, is)

-- what is read is a script
pub script_found : {L : Type 0} {read : List ℕ → Result L Cause} {says : List ℕ → L → Type 0} {why : Cause → List ℕ → Type 0} → IsReading read says why → (bytes : List ℕ) (lines : List L) → length bytes ≤ 268435456 → script_at read bytes ≡ Ok lines → IsScriptOf says bytes lines
unfolding script_at
script_found {read = read} r bytes lines short is =
    let here = few_by read bytes lines (nat_lt 65536 (length (lines_of bytes))) refl is in
    record { short = short; few = here.0; each = lines_found r 1 (lines_of bytes) lines here.1 }

-- a script is read
pub script_again : {L : Type 0} {read : List ℕ → Result L Cause} {says : List ℕ → L → Type 0} {why : Cause → List ℕ → Type 0} → IsReading read says why → (bytes : List ℕ) (lines : List L) → IsScriptOf says bytes lines → script_at read bytes ≡ Ok lines
script_again {read = read} r bytes lines is = script_few read bytes is.few ∙ lines_again r 1 (lines_of bytes) lines is.each

-- bytes are a script of one list of lines at most
pub one_of : {L : Type 0} {read : List ℕ → Result L Cause} {says : List ℕ → L → Type 0} {why : Cause → List ℕ → Type 0} → IsReading read says why → (bytes : List ℕ) (a b : List L) → IsScriptOf says bytes a → IsScriptOf says bytes b → a ≡ b
one_of {L} r bytes a b is_a is_b =
    let same : ◌≡◌ {A = Result (List L) ScriptFault} (Ok a) (Ok b) = sym (script_again r bytes a is_a) ∙ script_again r bytes b is_b in
    cc same

as_few_by : {L : Type 0} (says : List ℕ → L → Type 0) (body : List ℕ) (bodies : List (List ℕ)) (lines : List L) (silent : Bool) → StandFor says (cond (not silent) (body ∷ spoken bodies) (spoken bodies)) lines
    → ((ls : List L) → StandFor says (spoken bodies) ls → length ls ≤ length bodies) → length lines ≤ length (body ∷ bodies)
as_few_by says body bodies lines true are more = let le = more lines are in omega (arith, le)
as_few_by says body bodies [] false are more = absurd are
as_few_by says body bodies (line ∷ lines) false are more = let le = more lines are.1 in omega (arith, le)

-- lines are no more than bodies
pub as_few : {L : Type 0} (says : List ℕ → L → Type 0) (bodies : List (List ℕ)) (lines : List L) → StandFor says (spoken bodies) lines → length lines ≤ length bodies
as_few says [] [] are = omega arith
as_few says [] (line ∷ lines) are = absurd are
as_few says (body ∷ bodies) lines are = as_few_by says body bodies lines (is_silent body) are (as_few says bodies)

-- and each has what follows of its body
pub each_has : {L : Type 0} (says : List ℕ → L → Type 0) (P : L → Type 0) → ((body : List ℕ) (line : L) → says body line → P line) → (bodies : List (List ℕ)) (lines : List L) → StandFor says bodies lines → AllByRecursion P lines
each_has says P has [] [] are = tt
each_has says P has [] (line ∷ lines) are = absurd are
each_has says P has (body ∷ bodies) [] are = absurd are
each_has says P has (body ∷ bodies) (line ∷ lines) are = (has body line are.0, each_has says P has bodies lines are.1)

-- a fault of the reader is none of a script's
pub not_stopped : {L : Type 0} {read : List ℕ → Result L Cause} {says : List ℕ → L → Type 0} {why : Cause → List ℕ → Type 0} → IsReading read says why → (f : ScriptFault) (bytes : List ℕ) (lines : List L) → Stops {X = List L} f (script_at read bytes) → IsScriptOf says bytes lines → Stops {X = List L} f (Ok lines)
not_stopped r (fault.Line number cause) bytes lines stops is = sym (script_again r bytes lines is) ∙ stops
not_stopped r fault.TooManyLines bytes lines stops is = sym (script_again r bytes lines is) ∙ stops
not_stopped r fault.TooLong bytes lines stops is = sym (script_again r bytes lines is) ∙ stops
not_stopped r (fault.Memory _) bytes lines stops is = tt
