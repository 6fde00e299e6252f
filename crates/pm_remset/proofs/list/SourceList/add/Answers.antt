use Rattle.std.proofs.Common.{◌≡◌, cond, sym, ap, subst, ◌∙◌, rules, false, true}
use Rattle.std.specs.Option.{is_some}
use Rattle.std.specs.FinMap as map
use Rattle.pm_types.specs.declared.source.RefSource.TheVariants.{Root}
use Rattle.pm_types.specs.Orders.{source_cmp}
use Rattle.pm_remset.specs.Listed.{IsInOrder, IsEntry, IsGap}
use Rattle.pm_remset.proofs.Lists.{got, entry_found, gap_found, put_new, in_order_insert}
use Rattle.pm_remset.proofs.list.SourceList.add.Goals as goal

pub invariant_of-self-in-Err : goal.invariant_of-self-in-Err
invariant_of-self-in-Err c =
    let es = c.self.inside.entries.items in
    let gap : IsGap es c.args.entry.0 c.in-Err.at = subst (λ x. IsGap es x c.in-Err.at) c.source.ensures (search rules) in
    subst IsInOrder (sym (c.in_ok-insert-in-Err.ensures.items)) (in_order_insert es c.in-Err.at c.args.entry.0 c.args.entry.1 c.self.invariant gap)

pub returns-in_ok-insert-in-Err : goal.returns-in_ok-insert-in-Err
returns-in_ok-insert-in-Err c =
    let es = c.self.inside.entries.items in
    let gap : IsGap es c.args.entry.0 c.in-Err.at = subst (λ x. IsGap es x c.in-Err.at) c.source.ensures (search rules) in
    let new : is_some (map.get c.args.self.now c.args.entry.0) ≡ false
    = ap (λ s. is_some (map.get s c.args.entry.0)) (sym c.self.view_is) ∙ ap is_some (got es c.args.entry.0 ∙ gap_found es c.self.invariant c.args.entry.0 c.in-Err.at gap) in
    ap (map.from_entries {R = source_cmp}) (c.in_ok-insert-in-Err.ensures.items)
    ∙ put_new es c.self.invariant c.args.entry.0 c.in-Err.at c.args.entry.1 gap
    ∙ ap (λ s. map.insert s c.args.entry.0 c.args.entry.1) c.self.view_is
    ∙ sym (ap (λ b. cond b c.args.self.now (map.insert c.args.self.now c.args.entry.0 c.args.entry.1)) new)

pub returns-in-Ok : goal.returns-in-Ok
returns-in-Ok c =
    let es = c.self.inside.entries.items in
    let is : IsEntry es c.args.entry.0 c.in-Ok.field-0 = subst (λ x. IsEntry es x c.in-Ok.field-0) c.source.ensures (search rules) in
    let known : is_some (map.get c.args.self.now c.args.entry.0) ≡ true
    = ap (λ s. is_some (map.get s c.args.entry.0)) (sym c.self.view_is) ∙ ap is_some (got es c.args.entry.0 ∙ entry_found es c.self.invariant c.args.entry.0 c.in-Ok.field-0 (Root 0, 0) is) in
    sym (ap (λ b. cond b c.args.self.now (map.insert c.args.self.now c.args.entry.0 c.args.entry.1)) known)
