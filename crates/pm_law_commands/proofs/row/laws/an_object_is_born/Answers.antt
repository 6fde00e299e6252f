use Rattle.std.proofs.Common.{refl}
use Rattle.pm_view.specs.Represents.{meaning}
use Rattle.pm_law_commands.proofs.RowLemmas.Born.{born_gives}
use Rattle.pm_law_commands.proofs.row.laws.an_object_is_born.Goals as goal

pub returns-clause-law : goal.returns-clause-law
returns-clause-law c = λ view number object law may vacant. (born_gives view number object law may vacant).law

pub returns-clause-world : goal.returns-clause-world
returns-clause-world c = λ view world number object law stands may vacant unknown. (born_gives view number object law may vacant).world world (meaning view object) stands unknown refl
