use Rattle.pm_law_commands.proofs.Objects.{row_keeps_objects}
use Rattle.pm_law_commands.proofs.laws.every_command_but_new_leaves_objects_where_they_stand.Goals as goal

pub returns : goal.returns
returns c = λ view client cmd picks other. row_keeps_objects view client cmd picks other
