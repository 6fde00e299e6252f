use Rattle.std.proofs.Common.{◌≡◌, ◌<◌, ◌≤◌, length, get_or, Some, sym, subst, rules}
use Rattle.pm_remset.specs.Listed.{Entry, IsFirstFrom}
use Rattle.pm_remset.specs.Remembered.{FindsAtOrAfter}
use Rattle.pm_remset.proofs.Lists.{found_from, none_from}
use Rattle.pm_remset.proofs.list.SourceList.at_or_after.Goals as goal

pub returns-then-at-len : goal.returns-then-at-len
returns-then-at-len c =
    let es = c.self.inside.entries.items in
    let first : IsFirstFrom es c.args.from c.first_from-at.result = search rules in
    let within : c.first_from-at.result < length es = search rules in
    let e : Entry = c.index-entry.result.now in
    let is : e ≡ get_or es c.first_from-at.result e = search rules in
    subst (λ (x : Entry). FindsAtOrAfter c.args.self.now c.args.from (Some x)) (λ i. (sym c.source.ensures i, sym c.slot.ensures i))
    (found_from c.args.self.now es c.self.view_is c.self.invariant c.args.from c.first_from-at.result first e within is)

pub returns-else-at-len : goal.returns-else-at-len
returns-else-at-len c =
    let es = c.self.inside.entries.items in
    let first : IsFirstFrom es c.args.from c.first_from-at.result = search rules in
    let all : length es ≤ c.first_from-at.result = search rules in
    none_from c.args.self.now es c.self.view_is c.self.invariant c.args.from c.first_from-at.result first all
