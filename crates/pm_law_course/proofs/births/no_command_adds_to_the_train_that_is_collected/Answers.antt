use Rattle.pm_view.specs.Rows.{spent, birthplace}
use Rattle.pm_view.specs.Commands.{fresh}
use Rattle.pm_law_commands.proofs.Added.{new_adds}
use Rattle.pm_law_course.proofs.Bearing.{command_adds_none, collected_apart}
use Rattle.pm_law_course.proofs.births.no_command_adds_to_the_train_that_is_collected.Goals as goal

pub returns-clause-same : goal.returns-clause-same
returns-clause-same c = λ view client cmd picks law few regs picked. (command_adds_none view law client few cmd picks regs picked).same

pub returns-clause-none : goal.returns-clause-none
returns-clause-none c = λ view client id train cmd picks law few regs picked is placed. (command_adds_none view law client few cmd picks regs picked).none id train is placed

pub returns-clause-born : goal.returns-clause-born
returns-clause-born c = λ view client reg count bytes picks law few low picked made.
    let added = new_adds view law client reg count picks.car bytes picked.car made in
    (birthplace (spent view) picks.car (fresh view count bytes), record { kept = added.free; here = added.here }, added.home)

pub returns-clause-apart : goal.returns-clause-apart
returns-clause-apart c = collected_apart
