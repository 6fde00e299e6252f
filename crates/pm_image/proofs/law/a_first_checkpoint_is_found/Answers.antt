use Rattle.pm_image.proofs.FirstLaws.{first_stands}
use Rattle.pm_image.proofs.law.a_first_checkpoint_is_found.Goals as goal

pub returns : goal.returns
returns c = first_stands
