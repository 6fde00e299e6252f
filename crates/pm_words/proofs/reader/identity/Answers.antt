use Rattle.std.proofs.Common.{◌≡◌, arith}
use Rattle.pm_words.proofs.Commands.{one_number}
use Rattle.pm_words.proofs.reader.identity.Goals as goal

pub returns-else-number-gt0-clause-none : goal.returns-else-number-gt0-clause-none
returns-else-number-gt0-clause-none c id is =
    let same : c.in_ok-number.number ≡ id = one_number c.args.word.now c.in_ok-number.number id c.in_ok-number.ensures.some is.is_number in
    let some = is.some in
    omega (arith, same, some, c.if-number-gt0.false)
