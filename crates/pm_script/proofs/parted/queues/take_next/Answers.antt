use Rattle.pm_script.proofs.PartedLemmas.Beside.{queue_there, took_first, took_none, took_one}
use Rattle.pm_script.proofs.parted.queues.take_next.Goals as goal

pub returns-clause-still : goal.returns-clause-still
returns-clause-still c = took_none c.args.queues.now c.args.client c.index-queues-client.result c.pop_front.new.self c.requires c.pop_front.result c.pop_front.ensures.items

pub returns-clause-some : goal.returns-clause-some
returns-clause-some c = took_first c.args.queues.now c.args.client c.index-queues-client.result c.pop_front.new.self c.requires c.pop_front.result c.pop_front.ensures.items

pub returns-clause-others : goal.returns-clause-others
returns-clause-others c = λ other apart. queue_there c.args.queues.now c.args.client c.pop_front.new.self other apart

pub returns-clause-fewer : goal.returns-clause-fewer
returns-clause-fewer c = took_one c.args.queues.now c.args.client c.index-queues-client.result c.pop_front.new.self c.requires c.pop_front.result c.pop_front.ensures.items
