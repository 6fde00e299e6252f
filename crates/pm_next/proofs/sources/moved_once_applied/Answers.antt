use Rattle.std.proofs.Common.{sym, ◌∙◌}
use Rattle.pm_space.specs.Shown.{view}
use Rattle.pm_next.proofs.sources.moved_once_applied.Goals as goal

pub returns-else-front_names_gone-clause-applied : goal.returns-else-front_names_gone-clause-applied
returns-else-front_names_gone-clause-applied g c =
    c.only_the_slot_that_moved_last_is_named.ensures.applies (view c.args.space.now.parts) c.args.car 0 0 c.args.space.now.moved (sym c.front_names_gone.ensures ∙ c.if-front_names_gone.false) c.args.space.now.sole
