use Rattle.std.proofs.Common.{sym, ap, ◌∙◌}
use Rattle.pm_view.specs.Events.{has_change}
use Rattle.pm_space.proofs.Fronts.{waits, none_waits}
use Rattle.pm_next.proofs.Fixes.{has_front, no_front}
use Rattle.pm_next.proofs.finding.has_change.Goals as goal

pub returns-in_default : goal.returns-in_default
returns-in_default c = sym (ap has_change (none_waits c.args.links.now c.args.car (sym c.in_default.ensures)))

pub returns-in-Some-front : goal.returns-in-Some-front
returns-in-Some-front c = has_front c.in-Some.links.now.queue.changes _ c.in-Some-front.ensures ∙ sym (ap has_change (waits c.args.links.now c.args.car c.in-Some.links.now c.in-Some.links.now (sym c.in-Some.ensures)))

pub returns-in-None : goal.returns-in-None
returns-in-None c = no_front c.in-Some.links.now.queue.changes c.in-None.ensures ∙ sym (ap has_change (waits c.args.links.now c.args.car c.in-Some.links.now c.in-Some.links.now (sym c.in-Some.ensures)))
