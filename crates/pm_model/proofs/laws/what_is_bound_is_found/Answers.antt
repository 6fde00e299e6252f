use Rattle.pm_model.proofs.AnswerLaws.{bound_is_found, unbound_is_not_found}
use Rattle.pm_model.proofs.laws.what_is_bound_is_found.Goals as goal

pub returns-clause-unbound : goal.returns-clause-unbound
returns-clause-unbound c world client other to name = unbound_is_not_found world client other to name

pub returns-clause-bound : goal.returns-clause-bound
returns-clause-bound c world client reg other to name is = bound_is_found world client reg other to name is
