use Rattle.std.proofs.Common.{◌++◌, map, ◌∙◌}
use Rattle.pm_image.specs.declared.settled.KeptPage.{KeptPage}
use Rattle.pm_reopen.proofs.opening.build_graph.Goals as goal

pub returns-clause-pages : goal.returns-clause-pages
returns-clause-pages g c = c.in_ok-used.ensures ∙ (λ i. c.in_ok-numbers.ensures.numbers i ++ map (λ (kept : KeptPage). kept.page) (c.as_slice.ensures i))
