use Rattle.std.proofs.Common.{Err, sym, subst}
use Rattle.pm_types.specs.declared.fault.OpenFault.{OpenFault}
use Rattle.pm_image.specs.Graphs.{graph_of}
use Rattle.pm_shadow.specs.Pages.{disk_of}
use Rattle.pm_graphs.specs.Reading.{store_of}
use Rattle.pm_graphs.specs.Reopening.{IsGraph, IsGraphFault}
use Rattle.pm_graphs.proofs.OpenLaws.{graph_answer, graph_cause}
use Rattle.pm_graphs.proofs.opening.read_graph.Goals as goal

pub returns-in-Err-clause-graph : goal.returns-in-Err-clause-graph
returns-in-Err-clause-graph g c bytes told =
    let graph = graph_of (store_of c.args.pages.now.count bytes) c.args.pages.now.header in
    subst (λ (fault : OpenFault). IsGraph (Err fault) graph) (sym c.open_fault.ensures)
    (graph_answer c.in-Err.fault c.faults-before.result c.faults-after.result (g.D.Disk.count (disk_of c.args.pages.now)) (g.D.Disk.count (disk_of c.read_whole.new.pages)) graph c.in-Err.ensures.counts (c.in-Err.ensures.gives bytes told))

pub returns-in-Err-clause-cause : goal.returns-in-Err-clause-cause
returns-in-Err-clause-cause g c =
    subst (IsGraphFault (g.D.Disk.count (disk_of c.args.pages.now)) (g.D.Disk.count (disk_of c.read_whole.new.pages))) (sym c.open_fault.ensures)
    (graph_cause c.in-Err.fault c.faults-before.result c.faults-after.result (g.D.Disk.count (disk_of c.args.pages.now)) (g.D.Disk.count (disk_of c.read_whole.new.pages)) c.faults-before.ensures c.faults-after.ensures c.in-Err.ensures.counts)
