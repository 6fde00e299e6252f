use Rattle.pm_law_copies.proofs.LayoutLemmas.Growing.{cut_begins, cut_full, cut_room}
use Rattle.pm_law_copies.proofs.layout.cuts.cutting_goes_on_at_the_last_page.Goals as goal

pub returns-clause-begins : goal.returns-clause-begins
returns-clause-begins c = cut_begins

pub returns-clause-room : goal.returns-clause-room
returns-clause-room c = cut_room

pub returns-clause-full : goal.returns-clause-full
returns-clause-full c = cut_full
