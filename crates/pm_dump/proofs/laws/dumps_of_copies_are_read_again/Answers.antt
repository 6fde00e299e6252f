use Rattle.pm_dump.proofs.Copies.{copy_sound, copy_spelled}
use Rattle.pm_dump.proofs.laws.dumps_of_copies_are_read_again.Goals as goal

pub returns-clause-sound : goal.returns-clause-sound
returns-clause-sound c = copy_sound

pub returns-clause-spelled : goal.returns-clause-spelled
returns-clause-spelled c = copy_spelled
