use Rattle.pm_model.proofs.AnswerLaws.{refusal_keeps}
use Rattle.pm_model.proofs.laws.refusals_keep_the_world.Goals as goal

pub returns : goal.returns
returns c world client cmd is = refusal_keeps world client cmd is
