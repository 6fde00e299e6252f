use Rattle.std.specs.VecDeque.{deque_items}
use Rattle.std.proofs.Common.{ap, sym, ◌∙◌}
use Rattle.pm_script.proofs.PartedLemmas.Beside.{queue_first, queue_read}
use Rattle.pm_script.proofs.parted.queues.next_of.Goals as goal

pub returns-clause-some : goal.returns-clause-some
returns-clause-some c =
    let q = c.index-queues-client.result in
    queue_first (λ cmd. cmd.now) _ q.items q.len c.front.result (queue_read c.args.queues.now c.args.client q c.requires ∙ ap deque_items (sym c.index-queues-client.is)) q.ok.0 c.front.ensures.variant c.front.ensures.lookup
