use Rattle.pm_image.proofs.FrameLaws.{graph_too, bytes_too}
use Rattle.pm_image.proofs.law.other_pages_do_not_matter.Goals as goal

pub returns-clause-graph : goal.returns-clause-graph
returns-clause-graph c a b header graph is same = graph_too a b header graph is same

pub returns-clause-bytes : goal.returns-clause-bytes
returns-clause-bytes c = bytes_too
