-- Lines that are read one after the other, and how the last newline is left out.
use Rattle.std.proofs.Common.{◌≡◌, ℕ, ◌+◌, ◌-◌, ◌<◌, ◌==◌, Bool, true, false, cond, ◌&&◌, List, [], ◌∷◌, ◌++◌, length, drop, take, get_or, Option, Some, None, Result, Ok, Err, refl, sym, ap, ◌∙◌, arith, nat_eq, Bor, if◌then◌else◌}
use Rattle.std.proofs.lemmas.Bool.Decides.{nat_tests}
use Rattle.std.proofs.lemmas.List.{at_drop_more, at_drop_all, append-nil, take-append-drop}
use Rattle.std.specs.Option.{MatchOption, unwrap_or}
use Rattle.std.specs.List.{slice_split, onto_first}
use Rattle.std.specs.Cmp.Lexicographic.{pointwise}
use Rattle.pm_types.specs.Results.{◌>>=◌}
use Rattle.pm_types.proofs.Fronts.{with_front, regroup}
use Rattle.pm_script.specs.declared.fault.Cause.{Cause}
use Rattle.pm_script.specs.declared.fault.ScriptFault.{ScriptFault}
use Rattle.pm_script.specs.declared.fault.ScriptFault.TheVariants as fault
use Rattle.pm_script.specs.Lines.{lines_of, is_silent}
use Rattle.pm_script.specs.Reading.{Stops, numbered, lines_at}

-- the parts between newlines
abbrev pub parts : List ℕ → List (List ℕ)
parts bytes = slice_split (λ b. nat_eq b 10) bytes

turn : {L : Type 0} (read : List ℕ → Result L Cause) (left more : List (List ℕ)) (m : ℕ) (body : List ℕ) → left ≡ body ∷ more
    → lines_at read m left ≡ (if is_silent body then lines_at read (m + 1) more else (numbered m (read body) >>= λ line. lines_at read (m + 1) more >>= λ lines. Ok (line ∷ lines)))
turn read left more m body is = ap (lines_at read m) is

-- a line that says nothing is passed over
pub passed_over : {L : Type 0} (read : List ℕ → Result L Cause) (front : List L) (left more : List (List ℕ)) (all : Result (List L) ScriptFault) (m : ℕ) (body : List ℕ) → left ≡ body ∷ more → is_silent body ≡ true
    → with_front front (lines_at read m left) ≡ all → with_front front (lines_at read (m + 1) more) ≡ all
passed_over read front left more all m body is silent so =
    sym (ap (with_front front) (turn read left more m body is ∙ ap (λ b. if b then lines_at read (m + 1) more else (numbered m (read body) >>= λ line. lines_at read (m + 1) more >>= λ lines. Ok (line ∷ lines))) silent)) ∙ so

spoken_turn : {L : Type 0} (read : List ℕ → Result L Cause) (front : List L) (left more : List (List ℕ)) (all : Result (List L) ScriptFault) (m : ℕ) (body : List ℕ) → left ≡ body ∷ more → is_silent body ≡ false
    → with_front front (lines_at read m left) ≡ all → with_front front (numbered m (read body) >>= λ line. lines_at read (m + 1) more >>= λ lines. Ok (line ∷ lines)) ≡ all
spoken_turn read front left more all m body is spoken so =
    sym (ap (with_front front) (turn read left more m body is ∙ ap (λ b. if b then lines_at read (m + 1) more else (numbered m (read body) >>= λ line. lines_at read (m + 1) more >>= λ lines. Ok (line ∷ lines))) spoken)) ∙ so

-- one line more
pub line_more : {L : Type 0} (read : List ℕ → Result L Cause) (front : List L) (line : L) (left more : List (List ℕ)) (all : Result (List L) ScriptFault) (m : ℕ) (body : List ℕ) → left ≡ body ∷ more → is_silent body ≡ false
    → with_front front (lines_at read m left) ≡ all → numbered m (read body) ≡ Ok line → with_front (front ++ line ∷ []) (lines_at read (m + 1) more) ≡ all
line_more {L} read front line left more all m body is spoken so told =
    sym (regroup front line (lines_at read (m + 1) more))
    ∙ ap (λ (r : Result L ScriptFault). with_front front (r >>= λ line. lines_at read (m + 1) more >>= λ lines. Ok (line ∷ lines))) (sym told)
    ∙ spoken_turn read front left more all m body is spoken so

stopped : {L : Type 0} (read : List ℕ → Result L Cause) (front : List L) (left more : List (List ℕ)) (all : Result (List L) ScriptFault) (m : ℕ) (body : List ℕ) (f : ScriptFault) → left ≡ body ∷ more → is_silent body ≡ false
    → with_front front (lines_at read m left) ≡ all → numbered m (read body) ≡ Err f → all ≡ Err f
stopped {L} read front left more all m body f is spoken so told =
    sym (spoken_turn read front left more all m body is spoken so)
    ∙ ap (λ (r : Result L ScriptFault). with_front front (r >>= λ line. lines_at read (m + 1) more >>= λ lines. Ok (line ∷ lines))) told

-- a bad line ends all
pub bad_ends : {L : Type 0} (read : List ℕ → Result L Cause) (f : ScriptFault) (front : List L) (left more : List (List ℕ)) (all : Result (List L) ScriptFault) (m : ℕ) (body : List ℕ) → left ≡ body ∷ more → is_silent body ≡ false
    → with_front front (lines_at read m left) ≡ all → Stops {X = L} f (numbered m (read body)) → Stops {X = List L} f all
bad_ends read (fault.Line number cause) front left more all m body is spoken so told = stopped read front left more all m body (fault.Line number cause) is spoken so told
bad_ends read fault.TooManyLines front left more all m body is spoken so told = stopped read front left more all m body fault.TooManyLines is spoken so told
bad_ends read fault.TooLong front left more all m body is spoken so told = stopped read front left more all m body fault.TooLong is spoken so told
bad_ends read (fault.Memory _) front left more all m body is spoken so told = tt

-- all lines are read
pub lines_done : {L : Type 0} (read : List ℕ → Result L Cause) (front : List L) (left : List (List ℕ)) (all : Result (List L) ScriptFault) (m : ℕ) → left ≡ [] → with_front front (lines_at read m left) ≡ all → all ≡ Ok front
lines_done {L} read front left all m is so =
    sym so ∙ ap (λ bodies. with_front front (lines_at read m bodies)) is ∙ ap (λ (ls : List L). Ok ls) (append-nil front)

-- a newline at the end ends the last line
newline_last : (xs : List ℕ) → lines_of (xs ++ 10 ∷ []) ≡ parts xs
newline_last [] = refl
newline_last (x ∷ xs) = ap (λ ls. if nat_eq x 10 then [] ∷ ls else onto_first x ls) (newline_last xs)

one_line : (x : ℕ) (test : Bool) → test ≡ false → (if test then [] ∷ [] else onto_first x []) ≡ cond test ([] ∷ ([] ∷ [])) (onto_first x ([] ∷ []))
one_line x true is = absurd cc
one_line x false is = refl

-- bytes after the last newline are one more line
other_last : (xs : List ℕ) (y : ℕ) → nat_eq y 10 ≡ false → lines_of (xs ++ y ∷ []) ≡ parts (xs ++ y ∷ [])
other_last [] y other = one_line y (nat_eq y 10) other
other_last (x ∷ xs) y other = ap (λ ls. if nat_eq x 10 then [] ∷ ls else onto_first x ls) (other_last xs y other)

last_of : (bytes : List ℕ) → 0 < length bytes → drop (length bytes - 1) bytes ≡ get_or bytes (length bytes - 1) 0 ∷ []
last_of bytes some =
    at_drop_more (λ xs. xs) bytes (length bytes - 1) 0 (omega arith) ∙ ap (λ xs. get_or bytes (length bytes - 1) 0 ∷ xs) (at_drop_all (λ xs. xs) bytes (length bytes - 1 + 1) (omega arith))

with_last : (bytes : List ℕ) → 0 < length bytes → bytes ≡ take (length bytes - 1) bytes ++ get_or bytes (length bytes - 1) 0 ∷ []
with_last bytes some = sym (take-append-drop (length bytes - 1) bytes) ∙ ap (λ xs. take (length bytes - 1) bytes ++ xs) (last_of bytes some)

byte_by : (x y : ℕ) (b : Bool) → ((x == y) && true) ≡ b → nat_eq x y ≡ b
byte_by x y b is = grind (arith, nat_tests)

same_byte : (x y : ℕ) → nat_eq x y ≡ true → x ≡ y
same_byte x y is = grind (arith, nat_tests)

-- what stands before a last newline, or all
pub before_last : (bytes : List ℕ) (whole found : Bor (List ℕ)) (r : Option (Bor (List ℕ))) → 0 < length bytes → whole.now ≡ bytes
    → MatchOption r (pointwise ◌==◌ (drop (length bytes - 1) bytes) (10 ∷ []) ≡ false) (λ x. (pointwise ◌==◌ (drop (length bytes - 1) bytes) (10 ∷ []) ≡ true) × (x.now ≡ take (length bytes - 1) bytes) × (length x.now + 1 ≡ length bytes))
    → found ≡ unwrap_or r whole → parts found.now ≡ lines_of bytes
before_last bytes whole found (Some x) some all is so =
    let last = get_or bytes (length bytes - 1) 0 in
    let newline : last ≡ 10 = same_byte last 10 (byte_by last 10 true (ap (λ xs. pointwise ◌==◌ xs (10 ∷ [])) (sym (last_of bytes some)) ∙ is.0)) in
    ap (λ (b : Bor (List ℕ)). parts b.now) so ∙ ap parts is.1 ∙ sym (newline_last (take (length bytes - 1) bytes))
    ∙ ap lines_of (ap (λ b. take (length bytes - 1) bytes ++ b ∷ []) (sym newline) ∙ sym (with_last bytes some))
before_last bytes whole found None some all is so =
    let last = get_or bytes (length bytes - 1) 0 in
    let other : nat_eq last 10 ≡ false = byte_by last 10 false (ap (λ xs. pointwise ◌==◌ xs (10 ∷ [])) (sym (last_of bytes some)) ∙ is) in
    ap (λ (b : Bor (List ℕ)). parts b.now) so ∙ ap parts all ∙ ap parts (with_last bytes some) ∙ sym (other_last (take (length bytes - 1) bytes) last other) ∙ ap lines_of (sym (with_last bytes some))
