use Rattle.pm_script.proofs.TakingLaws.{counted_some, counted_none}
use Rattle.pm_script.proofs.body.are_left.Goals as goal

pub returns-then-count-gt0 : goal.returns-then-count-gt0
returns-then-count-gt0 c = counted_some c.args.words c.in-Some.text c.count_byte.result c.args.count c.in-Some.is c.count_byte.ensures c.if-count-gt0.true

pub returns-else-count-gt0 : goal.returns-else-count-gt0
returns-else-count-gt0 c = counted_none c.args.words c.in-Some.text c.args.count c.in-Some.is c.if-count-gt0.false
