-- The lines of each dialect: a body is read as what it stands for, and its cause is told where it stands for none.
use Rattle.std.proofs.Common.{◌≡◌, ℕ, ◌≤◌, true, false, List, [], ◌∷◌, length, codes, refl, ap, ◌∙◌, arith}
use Rattle.std.specs.List.{join_with_byte}
use Rattle.pm_types.specs.declared.command.Cmd.TheVariants as cmd
use Rattle.pm_script.specs.declared.verb.Dialect.TheVariants as dialect
use Rattle.pm_script.specs.declared.line.Line.{Line}
use Rattle.pm_script.specs.declared.line.Line.TheVariants as line
use Rattle.pm_script.specs.declared.line.YoungLine.{YoungLine}
use Rattle.pm_script.specs.declared.line.YoungLine.TheVariants.{Base, Young}
use Rattle.pm_script.specs.Words.{belongs, AreSpelled}
use Rattle.pm_script.specs.Script.{said, first_of, IsBody}
use Rattle.pm_script.specs.Bad.{IsCause}
use Rattle.pm_script.specs.Reading.{line_at, young_line_at}
use Rattle.pm_script.specs.Young.{asks_watch, young_said, young_first_of, IsYoungBody}
use Rattle.pm_script.proofs.SaidLaws.{line_belongs}
use Rattle.pm_script.proofs.TakingLaws.{plain_grammar, young_grammar}
use Rattle.pm_script.proofs.BodyLaws.{Spells, spelling_found, spelling_again}
use Rattle.pm_script.proofs.CauseLaws.{cause_found, cause_again}
use Rattle.pm_script.proofs.Readings.{IsReading}

-- what the body of a line of a script spells
pub body_spells : (body : List ℕ) (l : Line) → IsBody body l → Spells dialect.Plain body (first_of l) (said l).0 (said l).1
body_spells body l is = record { words = is.words; first = is.first; may = line_belongs l; spelled = is.values; joined = is.joined; short = is.short }

is_body : (body : List ℕ) (l : Line) → Spells dialect.Plain body (first_of l) (said l).0 (said l).1 → IsBody body l
is_body body l is = record { words = is.words; first = is.first; values = is.spelled; joined = is.joined; short = is.short }

-- the lines of a script
pub plain_reading : IsReading line_at IsBody (IsCause dialect.Plain)
plain_reading = record {
  found = λ body l read. is_body body l (spelling_found plain_grammar body l read);
  again = λ body l is. spelling_again plain_grammar body l (body_spells body l is);
  why_found = cause_found plain_grammar;
  why_again = cause_again plain_grammar;
}

-- a line that belongs where a nursery runs asks for no watch
unwatched : (l : Line) → belongs dialect.Young (first_of l) (said l).0 ≡ true → asks_watch l ≡ false
unwatched (line.Client c cmd.Watch) may = absurd cc
unwatched (line.Client c command) may = refl
unwatched (line.Gc count) may = refl
unwatched (line.Flush count) may = refl

may_stand : (l : Line) → asks_watch l ≡ false → belongs dialect.Young (first_of l) (said l).0 ≡ true
may_stand (line.Client c cmd.Watch) is = absurd cc
may_stand (line.Client c command) is = refl
may_stand (line.Gc count) is = refl
may_stand (line.Flush count) is = refl

no_values : (words : List (List ℕ)) → AreSpelled [] words → words ≡ []
no_values [] are = refl
no_values (word ∷ words) are = absurd are

two_words : (body : List ℕ) → body ≡ codes "! young" → length body ≤ 16384
two_words body is = let long : length body ≡ 7 = ap length is in omega (arith, long)

-- what the body of a line for a run with a nursery spells
pub young_spells : (body : List ℕ) (l : YoungLine) → IsYoungBody body l → Spells dialect.Young body (young_first_of l) (young_said l).0 (young_said l).1
young_spells body (Base l) is = record { words = is.0.words; first = is.0.first; may = may_stand l is.1; spelled = is.0.values; joined = is.0.joined; short = is.0.short }
young_spells body Young is = record { words = []; first = tt; may = refl; spelled = tt; joined = is; short = two_words body is }

is_young_body : (body : List ℕ) (l : YoungLine) → Spells dialect.Young body (young_first_of l) (young_said l).0 (young_said l).1 → IsYoungBody body l
is_young_body body (Base l) is = (record { words = is.words; first = is.first; values = is.spelled; joined = is.joined; short = is.short }, unwatched l is.may)
is_young_body body Young is = is.joined ∙ ap (λ words. join_with_byte 32 (codes "!" ∷ codes "young" ∷ words)) (no_values is.words is.spelled)

-- the lines of a script for a run with a nursery
pub young_reading : IsReading young_line_at IsYoungBody (IsCause dialect.Young)
young_reading = record {
  found = λ body l read. is_young_body body l (spelling_found young_grammar body l read);
  again = λ body l is. spelling_again young_grammar body l (young_spells body l is);
  why_found = cause_found young_grammar;
  why_again = cause_again young_grammar;
}
