use Rattle.std.proofs.Common.{◌≡◌, ℕ, ◌+◌, Some, None, true, false, refl, sym, ap, ◌∙◌}
use Rattle.std.specs.Option.{is_some}
use Rattle.std.specs.FinMap.{get, insert, empty, len, get-empty}
use Rattle.pm_types.specs.declared.source.RefSource.{RefSource}
use Rattle.pm_types.specs.Orders.{source_cmp}
use Rattle.pm_remset.specs.Grouped.{group_name, joined}
use Rattle.pm_remset.proofs.Naming.{put_kept, put_undone, others_kept, both_kept, never}
use Rattle.pm_remset.proofs.Regrouped.{joined_put, grouped_still, one_more, own_put, own_empty, as_empty, index_empty, undone_still, empty_names}
use Rattle.pm_remset.proofs.trees.SourceTrees.put_first.Goals as goal

pub invariant_of-self-in-Ok : goal.invariant_of-self-in-Ok
invariant_of-self-in-Ok c =
    let m = c.self.inside.groups in
    let g = c.group_of-group.result in
    let in_it : group_name c.args.source ≡ g = sym c.group_of-group.ensures in
    let none : (x : RefSource) → group_name x ≡ g → get (joined m.entries) x ≡ None = λ x is. ap (λ s. get s x) c.self.view_is ∙ c.requires x (is ∙ sym in_it) in
    let n = c.insert-2.new.self in
    let after = c.put.new.self in
    let was = as_empty m c.insert-2.ensures.was_ordered c.self.inside.index c.self.inside.count c.self.invariant g none in
    let is : after ≡ insert empty c.args.source c.args.slot = c.in_ok-put.ensures.ok ∙ ap (λ s. insert s c.args.source c.args.slot) c.new-list.ensures in
    let own : (x : RefSource) (k : ℕ) → get after x ≡ Some k → group_name x ≡ g = own_put empty g c.args.source c.args.slot in_it (own_empty g) after is in
    let kept = index_empty m c.insert-2.ensures.was_ordered c.self.inside.index c.self.inside.count c.self.invariant g none in
    grouped_still m n c.insert-2.ensures.was_ordered c.insert-2.ensures.ordered c.self.inside.index c.self.inside.count c.self.invariant g empty after was c.in-Ok.ensures.updates own c.insert.new.self
    (put_kept g empty c.self.inside.index kept c.args.source c.args.slot c.insert.new.self c.in_ok-insert.ensures.updates after is (never empty after c.args.source (get-empty source_cmp c.args.source)))
    (others_kept g c.args.slot true c.self.inside.index c.insert.new.self c.in_ok-insert.ensures.updates) (c.self.inside.count + 1)
    (ap (λ k. k + 1) c.self.invariant.counted
    ∙ sym (one_more (joined m.entries) c.args.source c.args.slot (ap is_some (none c.args.source in_it)))
    ∙ ap len (sym (joined_put m n c.insert-2.ensures.was_ordered c.insert-2.ensures.ordered c.self.inside.index c.self.inside.count c.self.invariant g empty after was c.in-Ok.ensures.updates own c.args.source in_it c.args.slot is)))

pub returns-in-Ok-clause-ok : goal.returns-in-Ok-clause-ok
returns-in-Ok-clause-ok c =
    let m = c.self.inside.groups in
    let g = c.group_of-group.result in
    let in_it : group_name c.args.source ≡ g = sym c.group_of-group.ensures in
    let none : (x : RefSource) → group_name x ≡ g → get (joined m.entries) x ≡ None = λ x is. ap (λ s. get s x) c.self.view_is ∙ c.requires x (is ∙ sym in_it) in
    let n = c.insert-2.new.self in
    let after = c.put.new.self in
    let was = as_empty m c.insert-2.ensures.was_ordered c.self.inside.index c.self.inside.count c.self.invariant g none in
    let is : after ≡ insert empty c.args.source c.args.slot = c.in_ok-put.ensures.ok ∙ ap (λ s. insert s c.args.source c.args.slot) c.new-list.ensures in
    let own : (x : RefSource) (k : ℕ) → get after x ≡ Some k → group_name x ≡ g = own_put empty g c.args.source c.args.slot in_it (own_empty g) after is in
    joined_put m n c.insert-2.ensures.was_ordered c.insert-2.ensures.ordered c.self.inside.index c.self.inside.count c.self.invariant g empty after was c.in-Ok.ensures.updates own c.args.source in_it c.args.slot is ∙ ap (λ s. insert s c.args.source c.args.slot) c.self.view_is

pub invariant_of-self-in-Err : goal.invariant_of-self-in-Err
invariant_of-self-in-Err c =
    let m = c.self.inside.groups in
    let g = c.group_of-group.result in
    let in_it : group_name c.args.source ≡ g = sym c.group_of-group.ensures in
    let none : (x : RefSource) → group_name x ≡ g → get (joined m.entries) x ≡ None = λ x is. ap (λ s. get s x) c.self.view_is ∙ c.requires x (is ∙ sym in_it) in
    let kept = index_empty m c.insert-2.ensures.was_ordered c.self.inside.index c.self.inside.count c.self.invariant g none in
    undone_still m c.insert-2.ensures.was_ordered c.self.inside.index c.self.inside.count c.self.invariant g none c.insert-2.new.self c.in-Err.ensures.err c.remove.new.self
    (put_undone g empty c.self.inside.index kept c.args.source c.args.slot c.insert.new.self c.in_ok-insert.ensures.updates empty refl (empty_names c.args.slot) c.remove.new.self c.remove.ensures.updates)
    (both_kept g c.self.inside.index c.insert.new.self c.remove.new.self (others_kept g c.args.slot true c.self.inside.index c.insert.new.self c.in_ok-insert.ensures.updates)
    (others_kept g c.args.slot false c.insert.new.self c.remove.new.self c.remove.ensures.updates))
