use Rattle.std.proofs.Common.{inl, inr}
use Rattle.pm_talk.proofs.events.collect_behind.Goals as goal

pub returns-in-Ok-clause-made : goal.returns-in-Ok-clause-made
returns-in-Ok-clause-made g c = inl c.in-Ok.ensures.all

pub returns-in-Err-clause-made : goal.returns-in-Err-clause-made
returns-in-Err-clause-made g c = inr c.in-Err.ensures.fewer
