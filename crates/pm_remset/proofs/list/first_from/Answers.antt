use Rattle.std.proofs.Common.{rules}
use Rattle.pm_remset.specs.Listed.{IsEntry, IsGap}
use Rattle.pm_remset.proofs.Lists.{first_at_entry, first_at_gap}
use Rattle.pm_remset.proofs.list.first_from.Goals as goal

pub returns-in-Ok : goal.returns-in-Ok
returns-in-Ok c =
    let is : IsEntry c.args.entries.now c.args.from c.in-Ok.at = search rules in
    first_at_entry c.args.entries.now c.requires c.args.from c.in-Ok.at is

pub returns-in-Err : goal.returns-in-Err
returns-in-Err c =
    let gap : IsGap c.args.entries.now c.args.from c.in-Err.at = search rules in
    first_at_gap c.args.entries.now c.args.from c.in-Err.at gap
