use Rattle.pm_dump.specs.Read.{words_in, dump_in}
use Rattle.pm_dump.proofs.PartsLemmas.{head_again}
use Rattle.pm_dump.proofs.line.read_head.Goals as goal

pub returns-then-parts-gt0-clause-err : goal.returns-then-parts-gt0-clause-err
returns-then-parts-gt0-clause-err c =
    let parts = c.args.parts.now in
    head_again parts.ended (dump_in parts).roots (dump_in parts).objects parts.next c.in-Some.next (words_in c.args.words) c.if-parts-gt0.true c.in-Some.ensures
