use Rattle.std.proofs.Common.{◌≡◌, true, false, sym, rules}
use Rattle.pm_remset.specs.Grouped.{names}
use Rattle.pm_remset.proofs.Naming.{take_kept, take_dropped, others_kept, still, never}
use Rattle.pm_remset.proofs.group.take_from.Goals as goal

pub returns-in_err-named-clause-index : goal.returns-in_err-named-clause-index
returns-in_err-named-clause-index c =
    take_kept c.args.group c.args.list.now c.args.index.now c.requires c.args.source c.take.new.self c.take.ensures.after
    (never c.args.list.now c.take.new.self c.args.source (sym c.in_err-named.ensures.value))

pub returns-then-not-names-clause-index : goal.returns-then-not-names-clause-index
returns-then-not-names-clause-index c =
    let gone : names c.in_ok-named.named c.take.new.self ≡ false = search rules in
    take_dropped c.args.group c.args.list.now c.args.index.now c.requires c.args.source c.take.new.self c.take.ensures.after
    c.in_ok-named.named (sym c.in_ok-named.ensures.value) gone c.remove.new.self c.remove.ensures.updates

pub returns-then-not-names-clause-others : goal.returns-then-not-names-clause-others
returns-then-not-names-clause-others c = others_kept c.args.group c.in_ok-named.named false c.args.index.now c.remove.new.self c.remove.ensures.updates

pub returns-else-not-names-clause-index : goal.returns-else-not-names-clause-index
returns-else-not-names-clause-index c =
    let has : names c.in_ok-named.named c.take.new.self ≡ true = search rules in
    take_kept c.args.group c.args.list.now c.args.index.now c.requires c.args.source c.take.new.self c.take.ensures.after
    (still c.args.list.now c.take.new.self c.args.source c.in_ok-named.named (sym c.in_ok-named.ensures.value) has)
