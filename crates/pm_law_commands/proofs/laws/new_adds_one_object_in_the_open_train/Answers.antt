use Rattle.pm_law_commands.proofs.Added.{new_adds}
use Rattle.pm_law_commands.proofs.laws.new_adds_one_object_in_the_open_train.Goals as goal

pub returns : goal.returns
returns c = λ view client reg count bytes picks law small reg_small picked made. new_adds view law client reg count picks.car bytes picked.car made
