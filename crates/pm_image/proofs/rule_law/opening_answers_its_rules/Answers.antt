use Rattle.pm_image.proofs.RuleLaws.{graph_fault, opened_fault}
use Rattle.pm_image.proofs.rule_law.opening_answers_its_rules.Goals as goal

pub returns-clause-graph : goal.returns-clause-graph
returns-clause-graph c = graph_fault

pub returns-clause-bytes : goal.returns-clause-bytes
returns-clause-bytes c = opened_fault
