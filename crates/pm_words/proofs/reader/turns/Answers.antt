use Rattle.std.proofs.Common.{◌≡◌, arith}
use Rattle.pm_words.proofs.Commands.{one_number, number_of_turns}
use Rattle.pm_words.proofs.reader.turns.Goals as goal

pub returns-else-number-le-MOST_TURNS-clause-none : goal.returns-else-number-le-MOST_TURNS-clause-none
returns-else-number-le-MOST_TURNS-clause-none c turns is =
    let same : c.in_ok-number.number ≡ turns = one_number c.args.word.now c.in_ok-number.number turns c.in_ok-number.ensures.some (number_of_turns c.args.word.now turns is) in
    let few = is.few in
    omega (arith, same, few, c.if-number-le-MOST_TURNS.false)
