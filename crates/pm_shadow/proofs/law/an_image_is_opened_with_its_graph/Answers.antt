use Rattle.pm_shadow.proofs.CopyLemmas.{held_opened, held_keeps, renewed_opened, renewed_keeps, keeps_still}
use Rattle.pm_shadow.proofs.law.an_image_is_opened_with_its_graph.Goals as goal

pub returns-clause-held : goal.returns-clause-held
returns-clause-held c = held_opened

pub returns-clause-still : goal.returns-clause-still
returns-clause-still c = held_keeps

pub returns-clause-renewed : goal.returns-clause-renewed
returns-clause-renewed c = renewed_opened

pub returns-clause-next : goal.returns-clause-next
returns-clause-next c = renewed_keeps

pub returns-clause-same : goal.returns-clause-same
returns-clause-same c = keeps_still
