use Rattle.std.proofs.Common.{◌++◌, List, ℕ, replicate, ap, ◌∙◌}
use Rattle.pm_shadow.proofs.BlankLemmas.{blank_catalog_is}
use Rattle.pm_shadow.proofs.making.catalog_page.Goals as goal

pub returns-clause-items : goal.returns-clause-items
returns-clause-items c = c.in_ok-page.ensures.items ∙ blank_catalog_is (c.copy_from_slice.new.self ++ replicate {A = ℕ} 42 0) (ap (λ (t : List ℕ). t ++ replicate {A = ℕ} 42 0) c.copy_from_slice.ensures.after)
