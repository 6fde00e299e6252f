use Rattle.pm_make.specs.Made.{made_lines}
use Rattle.pm_make.proofs.Counts.{made_few, made_spelled}
use Rattle.pm_make.proofs.laws.a_seed_gives_a_script.Goals as goal

pub returns-clause-script : goal.returns-clause-script
returns-clause-script c seed turns few = c.spelled_lines_are_read_again.ensures (made_lines seed turns) (made_spelled seed turns few)

pub returns-clause-few : goal.returns-clause-few
returns-clause-few c = made_few
