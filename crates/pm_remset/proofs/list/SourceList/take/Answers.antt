use Rattle.std.proofs.Common.{◌≡◌, sym, ap, subst, ◌∙◌, rules, get_or, Some}
use Rattle.std.specs.FinMap as map
use Rattle.pm_types.specs.Orders.{source_cmp}
use Rattle.pm_remset.specs.Listed.{Entry, IsInOrder, IsEntry, IsGap}
use Rattle.pm_remset.proofs.Lists.{got, entry_found, gap_found, taken, none_taken, in_order_remove}
use Rattle.pm_remset.proofs.list.SourceList.take.Goals as goal

pub invariant_of-self : goal.invariant_of-self
invariant_of-self c = subst IsInOrder (sym c.remove-entry.ensures.items) (in_order_remove c.self.inside.entries.items c.in-Ok.at c.self.invariant)

pub returns-in-Ok-clause-value : goal.returns-in-Ok-clause-value
returns-in-Ok-clause-value c =
    let es = c.self.inside.entries.items in
    let is : IsEntry es c.args.source c.in-Ok.at = search rules in
    let e : Entry = c.remove-entry.result in
    let was : e ≡ get_or es c.in-Ok.at e = search rules in
    ap Some c.slot.ensures ∙ ap (λ (x : Entry). Some x.1) was ∙ sym (entry_found es c.self.invariant c.args.source c.in-Ok.at e is) ∙ sym (got es c.args.source) ∙ ap (λ s. map.get s c.args.source) c.self.view_is

pub returns-in-Ok-clause-after : goal.returns-in-Ok-clause-after
returns-in-Ok-clause-after c =
    let es = c.self.inside.entries.items in
    let is : IsEntry es c.args.source c.in-Ok.at = search rules in
    ap (map.from_entries {R = source_cmp}) c.remove-entry.ensures.items
    ∙ taken es c.self.invariant c.args.source c.in-Ok.at c.remove-entry.result is
    ∙ ap (λ s. map.remove s c.args.source) c.self.view_is

pub returns-in-Err-clause-value : goal.returns-in-Err-clause-value
returns-in-Err-clause-value c =
    let es = c.self.inside.entries.items in
    let gap : IsGap es c.args.source c.in-Err.field-0 = search rules in
    sym (gap_found es c.self.invariant c.args.source c.in-Err.field-0 gap) ∙ sym (got es c.args.source) ∙ ap (λ s. map.get s c.args.source) c.self.view_is

pub returns-in-Err-clause-after : goal.returns-in-Err-clause-after
returns-in-Err-clause-after c =
    let es = c.self.inside.entries.items in
    let gap : IsGap es c.args.source c.in-Err.field-0 = search rules in
    none_taken c.args.self.now c.args.source (ap (λ s. map.get s c.args.source) (sym c.self.view_is) ∙ got es c.args.source ∙ gap_found es c.self.invariant c.args.source c.in-Err.field-0 gap)
