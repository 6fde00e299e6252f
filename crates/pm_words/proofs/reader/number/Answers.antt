use Rattle.std.proofs.Common.{◌≡◌, ℕ, Ok, Err, Result, decimal, arith, sym, ap, ◌∙◌}
use Rattle.std.proofs.lemmas.Fmt.{parse-decimal}
use Rattle.pm_words.proofs.reader.number.Goals as goal

pub returns-in-Err-clause-none : goal.returns-in-Err-clause-none
returns-in-Err-clause-none c seed is =
    let small = is.small in
    let read : ◌≡◌ {A = Result ℕ ℕ} (Err 0) (Ok seed) = parse-decimal {E = ℕ} 32 seed c.args.word.now (Err 0) is.small (omega arith) is.spelled c.in-Err.ensures.value.0 in
    cc read

pub returns-else-is_spelled-clause-none : goal.returns-else-is_spelled-clause-none
returns-else-is_spelled-clause-none c seed is =
    let small = is.small in
    let read : ◌≡◌ {A = Result ℕ ℕ} (Ok c.in-Ok.number) (Ok seed) = parse-decimal {E = ℕ} 32 seed c.args.word.now (Ok c.in-Ok.number) is.small (omega arith) is.spelled c.in-Ok.ensures.value.0 in
    let same : c.in-Ok.number ≡ seed = cc read in
    c.is_spelled.ensures.no c.if-is_spelled.false (is.spelled ∙ ap decimal (sym same))
