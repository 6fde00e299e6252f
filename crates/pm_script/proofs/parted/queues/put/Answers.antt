use Rattle.std.proofs.Common.{List, [], ◌∷◌, ◌++◌, ap, sym, ◌∙◌, arith, length, length-append, get_or}
use Rattle.pm_types.specs.declared.command.Cmd.{Cmd}
use Rattle.pm_script.proofs.PartedLemmas.Beside.{queue_count, queue_here, queue_read, queue_there}
use Rattle.pm_script.proofs.parted.queues.put.Goals as goal

pub returns-in_err-push_back-clause-others : goal.returns-in_err-push_back-clause-others
returns-in_err-push_back-clause-others c = λ other apart. queue_there c.args.queues.now c.args.client c.push_back.new.self other apart

pub returns-clause-last : goal.returns-clause-last
returns-clause-last c =
    queue_here c.args.queues.now c.args.client c.push_back.new.self c.requires ∙ c.in_ok-push_back.ensures.items
    ∙ ap (λ (cmds : List Cmd). cmds ++ c.args.cmd ∷ []) (sym (queue_read c.args.queues.now c.args.client c.index-queues-client.result c.requires))

pub returns-clause-others : goal.returns-clause-others
returns-clause-others c = λ other apart. queue_there c.args.queues.now c.args.client c.push_back.new.self other apart

pub returns-clause-more : goal.returns-clause-more
returns-clause-more c =
    let was = get_or c.args.queues.now c.args.client c.index-queues-client.result in
    let changed = queue_count c.args.queues.now c.args.client c.index-queues-client.result c.push_back.new.self c.requires in
    let longer = ap (length {A = Cmd}) c.in_ok-push_back.ensures.items in
    let grown = length-append was.items (c.args.cmd ∷ []) in
    omega (arith, changed, longer, grown)
