use Rattle.std.proofs.Common.{[], sym, ◌∙◌}
use Rattle.std.proofs.lemmas.List.{append-nil}
use Rattle.std.specs.List.{flat_map}
use Rattle.pm_image.specs.CarPages.{record_spelling}
use Rattle.pm_graphs.proofs.settled.matching.spell.Goals as goal

pub returns-in-None-clause-no : goal.returns-in-None-clause-no
returns-in-None-clause-no c is all same = c.in-None.ensures all [] (same ∙ sym (append-nil (flat_map record_spelling c.args.slots.now)))
