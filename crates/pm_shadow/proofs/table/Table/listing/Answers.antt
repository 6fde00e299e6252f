use Rattle.std.proofs.Common.{ap, ◌∙◌}
use Rattle.pm_shadow.specs.Uses.{marked}
use Rattle.pm_shadow.proofs.TableLemmas.{is_listed}
use Rattle.pm_shadow.proofs.table.Table.listing.Goals as goal

pub returns : goal.returns
returns c = is_listed c.args.pages.now c.mark_all.new.uses.items c.needed-len.result (c.mark_all.ensures.marked ∙ ap (marked c.args.pages.now) c.in_ok-uses.ensures) c.requires c.needed-len.ensures
