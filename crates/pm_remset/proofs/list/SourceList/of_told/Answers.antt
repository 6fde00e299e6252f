use Rattle.std.proofs.Common.{◌≡◌, [], ◌∷◌, ◌++◌, sym, ap, subst, ◌∙◌, rules}
use Rattle.pm_remset.specs.Gathered.{gathered}
use Rattle.pm_remset.specs.Listed.{Entry, IsInOrder}
use Rattle.pm_remset.proofs.Added.{IsOver, over_begins, over_ends, over_added, gathered_last}
use Rattle.pm_remset.proofs.Lists.{none_in_order, none_listed}
use Rattle.pm_remset.proofs.list.SourceList.of_told.Goals as goal

pub invariant_of-list : goal.invariant_of-list
invariant_of-list c = subst IsInOrder (sym c.in_ok-with_capacity.ensures.items) none_in_order

pub loop-entry-init : goal.loop-entry-init
loop-entry-init c = over_begins _ (gathered c.args.told.items) (none_listed c.in_ok-with_capacity.field-0.items c.in_ok-with_capacity.ensures.items)

pub loop-entry-preserved : goal.loop-entry-preserved
loop-entry-preserved c =
    let e : Entry = c.in-Some.entry in
    let rest = gathered c.pop.new.self.items in
    let all = gathered c.args.told.items in
    let split : c.loop-entry.told.items ≡ c.pop.new.self.items ++ e ∷ [] = c.in-Some.ensures.items in
    let over : IsOver c.loop-entry.list (gathered c.loop-entry.told.items) all = c.loop-entry.invariant in
    subst (λ set. IsOver set rest all) (sym c.in_ok-add.ensures)
    (over_added c.loop-entry.list rest all e (subst (λ left. IsOver c.loop-entry.list left all) (ap gathered split ∙ gathered_last c.pop.new.self.items e) over))

pub returns : goal.returns
returns c =
    let none : c.loop-entry.told.items ≡ [] = search rules in
    over_ends c.loop-entry.list (gathered c.loop-entry.told.items) (gathered c.args.told.items) (ap gathered none) c.loop-entry.invariant
