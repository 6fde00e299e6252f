use Rattle.std.proofs.Common.{◌≡◌, Some, None, true, false, sym, ◌∙◌, rules}
use Rattle.std.specs.FinMap.{get}
use Rattle.pm_remset.specs.Grouped.{names}
use Rattle.pm_remset.proofs.Naming.{put_kept, put_dropped, put_in_vain, put_undone, others_kept, both_kept, still, never}
use Rattle.pm_remset.proofs.group.put_in.Goals as goal

pub returns-in-Ok-None-clause-index : goal.returns-in-Ok-None-clause-index
returns-in-Ok-None-clause-index c =
    let was : get c.args.list.now c.args.source ≡ None = sym c.in-Ok-None.ensures.old ∙ c.in-Ok-None.field-0-is in
    put_kept c.args.group c.args.list.now c.args.index.now c.requires c.args.source c.args.slot c.insert.new.self c.in_ok-insert.ensures.updates
    c.exchange.new.self c.in-Ok-None.ensures.ok (never c.args.list.now c.exchange.new.self c.args.source was)

pub returns-in-Ok-None-clause-others : goal.returns-in-Ok-None-clause-others
returns-in-Ok-None-clause-others c = others_kept c.args.group c.args.slot true c.args.index.now c.insert.new.self c.in_ok-insert.ensures.updates

pub returns-then-not-names-clause-index : goal.returns-then-not-names-clause-index
returns-then-not-names-clause-index c =
    let was : get c.args.list.now c.args.source ≡ Some c.in-Ok-Some.old = sym c.in-Ok-Some.ensures.old ∙ c.in-Ok-Some.field-0-is in
    let gone : names c.in-Ok-Some.old c.exchange.new.self ≡ false = search rules in
    put_dropped c.args.group c.args.list.now c.args.index.now c.requires c.args.source c.args.slot c.insert.new.self c.in_ok-insert.ensures.updates
    c.exchange.new.self c.in-Ok-Some.ensures.ok c.in-Ok-Some.old was gone c.remove.new.self c.remove.ensures.updates

pub returns-then-not-names-clause-others : goal.returns-then-not-names-clause-others
returns-then-not-names-clause-others c =
    both_kept c.args.group c.args.index.now c.insert.new.self c.remove.new.self (others_kept c.args.group c.args.slot true c.args.index.now c.insert.new.self c.in_ok-insert.ensures.updates)
    (others_kept c.args.group c.in-Ok-Some.old false c.insert.new.self c.remove.new.self c.remove.ensures.updates)

pub returns-else-not-names-clause-index : goal.returns-else-not-names-clause-index
returns-else-not-names-clause-index c =
    let was : get c.args.list.now c.args.source ≡ Some c.in-Ok-Some.old = sym c.in-Ok-Some.ensures.old ∙ c.in-Ok-Some.field-0-is in
    let has : names c.in-Ok-Some.old c.exchange.new.self ≡ true = search rules in
    put_kept c.args.group c.args.list.now c.args.index.now c.requires c.args.source c.args.slot c.insert.new.self c.in_ok-insert.ensures.updates
    c.exchange.new.self c.in-Ok-Some.ensures.ok (still c.args.list.now c.exchange.new.self c.args.source c.in-Ok-Some.old was has)

pub returns-else-not-names-clause-others : goal.returns-else-not-names-clause-others
returns-else-not-names-clause-others c = others_kept c.args.group c.args.slot true c.args.index.now c.insert.new.self c.in_ok-insert.ensures.updates

pub returns-then-not-names-2-clause-index : goal.returns-then-not-names-2-clause-index
returns-then-not-names-2-clause-index c =
    let none : names c.args.slot c.exchange.new.self ≡ false = search rules in
    put_undone c.args.group c.args.list.now c.args.index.now c.requires c.args.source c.args.slot c.insert.new.self c.in_ok-insert.ensures.updates
    c.exchange.new.self c.in-Err.ensures.err none c.remove-then-not-names-2.new.self c.remove-then-not-names-2.ensures.updates

pub returns-then-not-names-2-clause-others : goal.returns-then-not-names-2-clause-others
returns-then-not-names-2-clause-others c =
    both_kept c.args.group c.args.index.now c.insert.new.self c.remove-then-not-names-2.new.self (others_kept c.args.group c.args.slot true c.args.index.now c.insert.new.self c.in_ok-insert.ensures.updates)
    (others_kept c.args.group c.args.slot false c.insert.new.self c.remove-then-not-names-2.new.self c.remove-then-not-names-2.ensures.updates)

pub returns-else-not-names-2-clause-index : goal.returns-else-not-names-2-clause-index
returns-else-not-names-2-clause-index c =
    let has : names c.args.slot c.exchange.new.self ≡ true = search rules in
    put_in_vain c.args.group c.args.list.now c.args.index.now c.requires c.args.source c.args.slot c.insert.new.self c.in_ok-insert.ensures.updates
    c.exchange.new.self c.in-Err.ensures.err has

pub returns-else-not-names-2-clause-others : goal.returns-else-not-names-2-clause-others
returns-else-not-names-2-clause-others c = others_kept c.args.group c.args.slot true c.args.index.now c.insert.new.self c.in_ok-insert.ensures.updates
