use Rattle.std.proofs.Common.{ap, ◌∙◌, not}
use Rattle.std.specs.Option.{is_some}
use Rattle.pm_next.proofs.Beyond.{beyond_is}
use Rattle.pm_next.proofs.skipping.is_beyond.Goals as goal

pub returns-in-Some : goal.returns-in-Some
returns-in-Some g c = ap (λ o. not (is_some o)) c.in-Some.ensures ∙ beyond_is c.args.parts.now.trains.trains c.args.train c.args.source

pub returns-in-None : goal.returns-in-None
returns-in-None g c = ap (λ o. not (is_some o)) c.in-None.ensures ∙ beyond_is c.args.parts.now.trains.trains c.args.train c.args.source
