use Rattle.pm_graphs.proofs.SettledLemmas.BehindLaws.{other_front, same_front}
use Rattle.pm_graphs.proofs.settled.behind.behind.Goals as goal

pub returns-then-ne : goal.returns-then-ne
returns-then-ne c = other_front c.args.bytes.now c.args.text.now c.in-Some.front.now c.ne.result c.in-Some.ensures.cases.1 c.ne.ensures c.if-ne.true

pub returns : goal.returns
returns c = same_front c.args.bytes.now c.args.text.now c.in-Some.front.now c.in-Some.rest.now c.ne.result c.in-Some.ensures.cases.1 c.in-Some.ensures.cases.2 c.ne.ensures c.if-ne.false
