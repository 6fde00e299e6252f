use Rattle.pm_image.proofs.LeadLaws.{graph_leads}
use Rattle.pm_image.proofs.rule_law.addresses_lead_to_objects.Goals as goal

pub returns-clause-cars : goal.returns-clause-cars
returns-clause-cars c = λ pages header graph is. (graph_leads pages header graph is).0

pub returns-clause-roots : goal.returns-clause-roots
returns-clause-roots c = λ pages header graph is. (graph_leads pages header graph is).1
