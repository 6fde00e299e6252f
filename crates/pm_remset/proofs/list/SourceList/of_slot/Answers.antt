use Rattle.std.proofs.Common.{◌≤◌, length, sym, ap, subst, ◌∙◌, rules}
use Rattle.std.specs.FinMap.{from_entries}
use Rattle.std.proofs.Math.ListN.{drop_of_length-le}
use Rattle.pm_types.specs.Orders.{source_cmp}
use Rattle.pm_remset.specs.Listed.{IsInOrder}
use Rattle.pm_remset.proofs.Lists.{gathers_all, named_appended}
use Rattle.pm_remset.proofs.list.SourceList.of_slot.Goals as goal

pub returns-clause-ok : goal.returns-clause-ok
returns-clause-ok c =
    let es = c.deref-entry-items.result.now in
    let same = c.deref-entry-items.ensures.value in
    let all : length es ≤ c.loop-entry.entry-index = search rules in
    named_appended c.args.self.now es (ap (from_entries {R = source_cmp}) same ∙ c.self.view_is) (subst IsInOrder (sym same) c.self.invariant) c.args.slot c.args.out.now.items c.loop-entry.out.items
    (gathers_all c.args.slot c.args.out.now.items c.loop-entry.out.items es _ (drop_of_length-le es all) c.loop-entry.invariant)
