-- Lines that are spelled are read again.
use Rattle.std.proofs.Common.{◌≡◌, ℕ, ◌≤◌, Bool, true, false, cond, not, List, [], ◌∷◌, ◌++◌, length, map, refl, ap, sym, subst, ◌∙◌, arith, nat_eq, append_assoc, if◌then◌else◌}
use Rattle.std.proofs.lemmas.List.{length-map}
use Rattle.std.specs.List.{AllByRecursion, flat_map, onto_first}
use Rattle.pm_script.specs.declared.line.Line.{Line}
use Rattle.pm_script.specs.declared.line.YoungLine.{YoungLine}
use Rattle.pm_script.specs.declared.line.YoungLine.TheVariants.{Base, Young}
use Rattle.pm_script.specs.Lines.{lines_of, is_silent, spoken, ended}
use Rattle.pm_script.specs.Words.{Value, Register, Number, Hex, Name, IsSpelled, AreSpelled, IsValue, value_word}
use Rattle.pm_script.specs.Script.{said, IsBody, StandFor, IsScriptOf, IsScript, IsLine, spelling, text_of, HasSpelling}
use Rattle.pm_script.specs.Young.{IsYoungBody, IsYoungScript, IsYoungLine, young_spelling, young_text_of, HasYoungSpelling}
use Rattle.pm_script.proofs.HexDigits.{printed_again}
use Rattle.pm_script.proofs.PlainWords.{Lacks}
use Rattle.pm_script.proofs.BodyLaws.{spelling_spoken, spelling_lacks}
use Rattle.pm_script.proofs.Dialects.{body_spells, young_spells}

value_spelled : (v : Value) → IsValue v → IsSpelled v (value_word v)
value_spelled (Register register) is = (is, refl)
value_spelled (Number number) is = (is, refl)
value_spelled (Hex bytes) is = printed_again bytes is
value_spelled (Name name) is = (is, refl)

values_spelled : (values : List Value) → AllByRecursion IsValue values → AreSpelled values (map value_word values)
values_spelled [] are = tt
values_spelled (v ∷ values) are = (value_spelled v are.0, values_spelled values are.1)

line_spelled : (line : Line) → IsLine line → length (spelling line) ≤ 16384 → IsBody (spelling line) line
line_spelled line is short = record { words = map value_word (said line).1; first = is.first; values = values_spelled (said line).1 is.values; joined = refl; short = short }

-- a line without a newline, and the lines after it
cut_by : (b : ℕ) (body : List ℕ) (ls : List (List ℕ)) (test : Bool) → test ≡ false → (if test then [] ∷ (body ∷ ls) else onto_first b (body ∷ ls)) ≡ (b ∷ body) ∷ ls
cut_by b body ls true is = absurd cc
cut_by b body ls false is = refl

cut_first : (body rest : List ℕ) → Lacks 10 body → lines_of (body ++ 10 ∷ rest) ≡ body ∷ lines_of rest
cut_first [] rest lacks = refl
cut_first (b ∷ body) rest lacks =
    ap (λ ls. if nat_eq b 10 then [] ∷ ls else onto_first b ls) (cut_first body rest lacks.1) ∙ cut_by b body (lines_of rest) (nat_eq b 10) lacks.0

regrouped : (body rest : List ℕ) → ended body ++ rest ≡ body ++ 10 ∷ rest
regrouped body rest = append_assoc body (10 ∷ []) rest

-- lines that are spelled: each stands for what it is the spelling of, says something, and has no newline
record AreSpelt {L : Type 0} (spelled : L → List ℕ) (says : List ℕ → L → Type 0) (lines : List L) : Type 0 where
  each : AllByRecursion (λ line. says (spelled line) line) lines
  speak : AllByRecursion (λ line. is_silent (spelled line) ≡ false) lines
  lack : AllByRecursion (λ line. Lacks 10 (spelled line)) lines

lines_again : {L : Type 0} (spelled : L → List ℕ) (lines : List L) → AllByRecursion (λ line. Lacks 10 (spelled line)) lines → lines_of (flat_map (λ line. ended (spelled line)) lines) ≡ map spelled lines
lines_again spelled [] are = refl
lines_again spelled (line ∷ lines) are =
    ap lines_of (regrouped (spelled line) (flat_map (λ line. ended (spelled line)) lines))
    ∙ cut_first (spelled line) (flat_map (λ line. ended (spelled line)) lines) are.0 ∙ ap (λ rest. spelled line ∷ rest) (lines_again spelled lines are.1)

all_spoken : {L : Type 0} (spelled : L → List ℕ) (lines : List L) → AllByRecursion (λ line. is_silent (spelled line) ≡ false) lines → spoken (map spelled lines) ≡ map spelled lines
all_spoken spelled [] are = refl
all_spoken spelled (line ∷ lines) are =
    ap (λ b. cond (not b) (spelled line ∷ spoken (map spelled lines)) (spoken (map spelled lines))) are.0
    ∙ ap (λ rest. spelled line ∷ rest) (all_spoken spelled lines are.1)

bodies_again : {L : Type 0} (spelled : L → List ℕ) (says : List ℕ → L → Type 0) (lines : List L) → AllByRecursion (λ line. says (spelled line) line) lines → StandFor says (map spelled lines) lines
bodies_again spelled says [] are = tt
bodies_again spelled says (line ∷ lines) are = (are.0, bodies_again spelled says lines are.1)

text_of_spelt : {L : Type 0} (spelled : L → List ℕ) (says : List ℕ → L → Type 0) (lines : List L) → AreSpelt spelled says lines → length lines ≤ 65536 → length (flat_map (λ line. ended (spelled line)) lines) ≤ 268435456
    → IsScriptOf says (flat_map (λ line. ended (spelled line)) lines) lines
text_of_spelt spelled says lines are few short =
    let cut = lines_again spelled lines are.lack in
    let long : length (lines_of (flat_map (λ line. ended (spelled line)) lines)) ≡ length lines = ap length cut ∙ length-map lines spelled in
    record {
      short = short;
      few = omega (arith, long, few);
      each = subst (λ (bodies : List (List ℕ)). StandFor says bodies lines) (sym (ap spoken cut ∙ all_spoken spelled lines are.speak)) (bodies_again spelled says lines are.each);
    }

each_spelt : (lines : List Line) → AllByRecursion IsLine lines → AllByRecursion (λ line. length (spelling line) ≤ 16384) lines → AreSpelt spelling IsBody lines
each_spelt [] are narrow = record { each = tt; speak = tt; lack = tt }
each_spelt (line ∷ lines) are narrow =
    let here = line_spelled line are.0 narrow.0 in
    let spells = body_spells (spelling line) line here in
    let rest = each_spelt lines are.1 narrow.1 in
    record {
      each = (here, rest.each);
      speak = (spelling_spoken _ _ _ _ _ spells, rest.speak);
      lack = (spelling_lacks _ _ _ _ _ spells, rest.lack);
    }

-- lines that keep the limits are those of their text
pub text_read : (lines : List Line) → HasSpelling lines → IsScript (text_of lines) lines
text_read lines has = text_of_spelt spelling IsBody lines (each_spelt lines has.each has.narrow) has.few has.short

young_spelled : (line : YoungLine) → IsYoungLine line → length (young_spelling line) ≤ 16384 → IsYoungBody (young_spelling line) line
young_spelled (Base line) is short = (line_spelled line is.0 short, is.1)
young_spelled Young is short = refl

young_spelt : (lines : List YoungLine) → AllByRecursion IsYoungLine lines → AllByRecursion (λ line. length (young_spelling line) ≤ 16384) lines → AreSpelt young_spelling IsYoungBody lines
young_spelt [] are narrow = record { each = tt; speak = tt; lack = tt }
young_spelt (line ∷ lines) are narrow =
    let here = young_spelled line are.0 narrow.0 in
    let spells = young_spells (young_spelling line) line here in
    let rest = young_spelt lines are.1 narrow.1 in
    record {
      each = (here, rest.each);
      speak = (spelling_spoken _ _ _ _ _ spells, rest.speak);
      lack = (spelling_lacks _ _ _ _ _ spells, rest.lack);
    }

-- the same of lines for a run with a nursery
pub young_text_read : (lines : List YoungLine) → HasYoungSpelling lines → IsYoungScript (young_text_of lines) lines
young_text_read lines has = text_of_spelt young_spelling IsYoungBody lines (young_spelt lines has.each has.narrow) has.few has.short
