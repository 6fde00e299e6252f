use Rattle.std.proofs.Common.{subst, ℕ, List, Ok, Err}
use Rattle.std.specs.Str.Parse.{ParsesUnsigned}
use Rattle.pm_script.proofs.Numerals.{numeral_utf8}
use Rattle.pm_dump.proofs.Numbers.{parsed, unparsed}
use Rattle.pm_dump.proofs.words.value_of.Goals as goal

pub returns-in-Ok-parse : goal.returns-in-Ok-parse
returns-in-Ok-parse c =
    parsed ℕ c.args.numeral.now c.in-Ok-parse.value c.requires
    (subst (λ (word : List ℕ). ParsesUnsigned {E = ℕ} 64 10 word (Ok c.in-Ok-parse.value)) c.in-Ok.ensures.cases.0 c.in-Ok-parse.ensures.value.0)

pub returns-in-Err-parse : goal.returns-in-Err-parse
returns-in-Err-parse c =
    unparsed ℕ c.args.numeral.now 0 c.requires
    (subst (λ (word : List ℕ). ParsesUnsigned {E = ℕ} 64 10 word (Err 0)) c.in-Ok.ensures.cases.0 c.in-Err-parse.ensures.value.0)

pub returns-in-Err : goal.returns-in-Err
returns-in-Err c = absurd (c.in-Err.ensures.cases.0 (numeral_utf8 c.args.numeral.now c.requires))
