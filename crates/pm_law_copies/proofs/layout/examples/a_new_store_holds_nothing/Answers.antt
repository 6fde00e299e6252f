use Rattle.pm_law_copies.proofs.LayoutLemmas.Nothing.{holds_nothing}
use Rattle.pm_law_copies.proofs.layout.examples.a_new_store_holds_nothing.Goals as goal

pub returns : goal.returns
returns c = holds_nothing
