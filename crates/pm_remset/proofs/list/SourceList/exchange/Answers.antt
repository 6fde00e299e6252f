use Rattle.std.proofs.Common.{◌≡◌, sym, ap, subst, ◌∙◌, rules, set, get_or, Some}
use Rattle.std.specs.FinMap as map
use Rattle.std.specs.List.{insert}
use Rattle.pm_types.specs.Orders.{source_cmp}
use Rattle.pm_remset.specs.Listed.{Entry, IsInOrder, IsEntry, IsGap}
use Rattle.pm_remset.proofs.Lists.{got, entry_found, gap_found, put_new, put_old, in_order_insert, in_order_set}
use Rattle.pm_remset.proofs.list.SourceList.exchange.Goals as goal

pub invariant_of-self : goal.invariant_of-self
invariant_of-self c =
    let es = c.self.inside.entries.items in
    let is : IsEntry es c.args.source c.in-Ok.at = search rules in
    let old : c.index_mut.result.now ≡ get_or es c.in-Ok.at c.index_mut.result.now = search rules in
    subst (λ (e : Entry). IsInOrder (set es c.in-Ok.at e)) (sym (c.set_slot.ensures ∙ ap (λ (e : Entry). (e.0, c.args.slot)) old)) (in_order_set es c.self.invariant c.args.source c.in-Ok.at c.index_mut.result.now is c.args.slot)

pub invariant_of-self-in-Err : goal.invariant_of-self-in-Err
invariant_of-self-in-Err c =
    let es = c.self.inside.entries.items in
    let gap : IsGap es c.args.source c.in-Err.at = search rules in
    subst IsInOrder (sym (c.in_ok-insert-in-Err.ensures.items ∙ ap (insert es c.in-Err.at) c.new.ensures)) (in_order_insert es c.in-Err.at c.args.source c.args.slot c.self.invariant gap)

pub returns-in-Ok-clause-ok : goal.returns-in-Ok-clause-ok
returns-in-Ok-clause-ok c =
    let es = c.self.inside.entries.items in
    let is : IsEntry es c.args.source c.in-Ok.at = search rules in
    let old : c.index_mut.result.now ≡ get_or es c.in-Ok.at c.index_mut.result.now = search rules in
    ap (λ (e : Entry). map.from_entries {R = source_cmp} (set es c.in-Ok.at e)) (c.set_slot.ensures ∙ ap (λ (e : Entry). (e.0, c.args.slot)) old)
    ∙ put_old es c.self.invariant c.args.source c.in-Ok.at c.index_mut.result.now is c.args.slot
    ∙ ap (λ s. map.insert s c.args.source c.args.slot) c.self.view_is

pub returns-in_ok-insert-in-Err-clause-ok : goal.returns-in_ok-insert-in-Err-clause-ok
returns-in_ok-insert-in-Err-clause-ok c =
    let es = c.self.inside.entries.items in
    let gap : IsGap es c.args.source c.in-Err.at = search rules in
    ap (map.from_entries {R = source_cmp}) (c.in_ok-insert-in-Err.ensures.items ∙ ap (insert es c.in-Err.at) c.new.ensures)
    ∙ put_new es c.self.invariant c.args.source c.in-Err.at c.args.slot gap
    ∙ ap (λ s. map.insert s c.args.source c.args.slot) c.self.view_is

pub returns-in-Ok-clause-old : goal.returns-in-Ok-clause-old
returns-in-Ok-clause-old c =
    let es = c.self.inside.entries.items in
    let is : IsEntry es c.args.source c.in-Ok.at = search rules in
    let e : Entry = c.index.result.now in
    let was : e ≡ get_or es c.in-Ok.at e = search rules in
    ap Some c.slot-old.ensures ∙ ap (λ (x : Entry). Some x.1) was ∙ sym (entry_found es c.self.invariant c.args.source c.in-Ok.at e is) ∙ sym (got es c.args.source) ∙ ap (λ s. map.get s c.args.source) c.self.view_is

pub returns-in_ok-insert-in-Err-clause-old : goal.returns-in_ok-insert-in-Err-clause-old
returns-in_ok-insert-in-Err-clause-old c =
    let es = c.self.inside.entries.items in
    let gap : IsGap es c.args.source c.in-Err.at = search rules in
    sym (gap_found es c.self.invariant c.args.source c.in-Err.at gap) ∙ sym (got es c.args.source) ∙ ap (λ s. map.get s c.args.source) c.self.view_is
