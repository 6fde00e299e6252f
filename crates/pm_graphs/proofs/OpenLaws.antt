-- Why no graph was read.
use Rattle.std.proofs.Common.{◌≡◌, ℕ, List, Result, Err, sym, subst}
use Rattle.pm_types.specs.declared.fault.OpenFault.{OpenFault}
use Rattle.pm_types.specs.Counts.{Rose}
use Rattle.pm_image.specs.declared.settled.KeptPage.{KeptPage}
use Rattle.pm_image.specs.Graphs.{Catalog, Graph}
use Rattle.pm_graphs.specs.Reopening.{IsGraph, IsGraphFault, open_fault}
use Rattle.pm_graphs.specs.declared.fault.ReadFault.{ReadFault}
use Rattle.pm_graphs.specs.declared.fault.ReadFault.TheVariants.{Damaged as DamagedPage, Malformed as MalformedPage, Failed, Memory}
use Rattle.pm_graphs.specs.Reading.{Fails, Counts}

pub graph_answer : (fault : ReadFault) (b a before after : ℕ) (graph : Result Graph OpenFault) → Counts {X = Catalog × List KeptPage} before after (Err fault) → Fails {X = Graph} fault graph → IsGraph (Err (open_fault fault b a)) graph
graph_answer (DamagedPage page kept found) b a before after graph counts is = is
graph_answer (MalformedPage page at) b a before after graph counts is = is
graph_answer Failed b a before after graph counts is = tt
graph_answer (Memory _) b a before after graph counts is = tt

shown : (b a before after : ℕ) → b ≡ before → a ≡ after → Rose before after → Rose b a
shown b a before after first last rose = subst (λ (n : ℕ). Rose n a) (sym first) (subst (Rose before) (sym last) rose)

pub graph_cause : (fault : ReadFault) (b a before after : ℕ) → b ≡ before → a ≡ after → Counts {X = Catalog × List KeptPage} before after (Err fault) → IsGraphFault before after (open_fault fault b a)
graph_cause (DamagedPage page kept found) b a before after first last counts = counts
graph_cause (MalformedPage page at) b a before after first last counts = counts
graph_cause Failed b a before after first last counts = (first, last, shown b a before after first last counts)
graph_cause (Memory _) b a before after first last counts = counts
