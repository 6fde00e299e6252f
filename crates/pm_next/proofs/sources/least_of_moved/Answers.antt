use Rattle.std.proofs.Common.{Some, None, ap}
use Rattle.pm_next.specs.Sought.{has_moved}
use Rattle.pm_next.proofs.Searches.{of_moved, of_still}
use Rattle.pm_next.proofs.sources.least_of_moved.Goals as goal

pub returns-in-Some : goal.returns-in-Some
returns-in-Some c = of_moved c.args.set.now c.args.slot (has_moved c.args.content.now) (Some c.in-Some.source) (ap has_moved c.in-Moved.is) c.in-Some.ensures

pub returns-in-None : goal.returns-in-None
returns-in-None c = of_moved c.args.set.now c.args.slot (has_moved c.args.content.now) None (ap has_moved c.in-Moved.is) c.in-None.ensures

pub returns-in-Live : goal.returns-in-Live
returns-in-Live c = of_still c.args.set.now c.args.slot (has_moved c.args.content.now) (ap has_moved c.in-Live.is)
