use Rattle.std.proofs.Common.{sym, subst}
use Rattle.pm_nursery.specs.Rows.{IsAt, IsGap}
use Rattle.pm_nursery.specs.Turned.{Takes, Pair, holder_cmp}
use Rattle.pm_nursery.proofs.Rows.{not_taken, sorted_remove, taken_there}
use Rattle.pm_nursery.proofs.Together.{holders_total, holders_antisymmetric}
use Rattle.pm_nursery.proofs.index.take.Goals as goal

pub returns-in-Ok-clause-taken : goal.returns-in-Ok-clause-taken
returns-in-Ok-clause-taken c =
    let before = c.args.pairs.now.items in
    let pair : Pair = (c.args.id, c.args.place) in
    let is : IsAt before pair c.in-Ok.at = subst (λ xs. IsAt xs pair c.in-Ok.at) c.deref.ensures.value c.in-Ok.ensures.found in
    subst (Takes before pair) (sym c.remove.ensures.items)
    (record { rise = sorted_remove holders_total holders_antisymmetric before c.in-Ok.at c.requires.ordered; each = taken_there holders_total holders_antisymmetric before c.in-Ok.at pair c.requires.ordered is })

pub returns-in_default-clause-taken : goal.returns-in_default-clause-taken
returns-in_default-clause-taken c =
    let before = c.args.pairs.now.items in
    let pair : Pair = (c.args.id, c.args.place) in
    let gap : IsGap holder_cmp before pair c.in_default.field-0 = subst (λ xs. IsGap holder_cmp xs pair c.in_default.field-0) c.deref.ensures.value c.in_default.ensures.absent in
    record { rise = c.requires.ordered; each = not_taken holders_total holders_antisymmetric before pair c.in_default.field-0 gap }
