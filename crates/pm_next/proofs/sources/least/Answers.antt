use Rattle.std.proofs.Common.{sym, ap, ◌∙◌}
use Rattle.std.specs.Option.{unwrap_or}
use Rattle.std.specs.FinMap.{entries, empty}
use Rattle.pm_view.specs.Events.{first_of}
use Rattle.pm_space.specs.Linked.{set_of}
use Rattle.pm_space.specs.Shown.{view}
use Rattle.pm_space.proofs.Linking.{at_car, not_at_car}
use Rattle.pm_next.proofs.Searches.{least_is}
use Rattle.pm_next.proofs.Fixes.{no_least}
use Rattle.pm_next.proofs.sources.least.Goals as goal

pub returns-in-Some : goal.returns-in-Some
returns-in-Some g c =
    least_is c.in-Some.links.now.set _ c.at_or_after.ensures
    ∙ sym (ap (λ o. first_of (entries (unwrap_or o empty))) (at_car set_of c.args.parts.now.links c.args.car c.in-Some.links.now (sym c.in-Some.ensures)))

pub returns-in-None : goal.returns-in-None
returns-in-None g c = no_least (view c.args.parts.now) c.args.car (not_at_car set_of c.args.parts.now.links c.args.car (sym c.in-None.ensures))
