use Rattle.std.proofs.Common.{sym, subst}
use Rattle.pm_nursery.specs.Turned.{Adds, Pair, holder_cmp}
use Rattle.pm_nursery.specs.Rows.{IsAt, IsGap}
use Rattle.pm_nursery.proofs.Rows.{at_place, put_there, sorted_insert}
use Rattle.pm_nursery.proofs.Together.{holders_total, holders_antisymmetric}
use Rattle.pm_nursery.proofs.index.add.Goals as goal

pub returns-in-Ok : goal.returns-in-Ok
returns-in-Ok c =
    let before = c.args.pairs.now.items in
    let pair : Pair = (c.args.id, c.args.place) in
    let gap : IsGap holder_cmp before pair c.in-Err.at = subst (λ xs. IsGap holder_cmp xs pair c.in-Err.at) c.deref.ensures.value c.in-Err.ensures.absent in
    subst (Adds before pair) (sym c.in-Ok.ensures.items)
    (record { rise = sorted_insert holders_total holders_antisymmetric before c.in-Err.at pair c.requires.ordered gap; each = put_there holders_total holders_antisymmetric before c.in-Err.at pair })

pub returns-in_default : goal.returns-in_default
returns-in_default c =
    let before = c.args.pairs.now.items in
    let pair : Pair = (c.args.id, c.args.place) in
    let is : IsAt before pair c.in_default.field-0 = subst (λ xs. IsAt xs pair c.in_default.field-0) c.deref.ensures.value c.in_default.ensures.found in
    let there = at_place holders_total holders_antisymmetric before pair c.in_default.field-0 is in
    absurd (cc (there, c.requires.new))
