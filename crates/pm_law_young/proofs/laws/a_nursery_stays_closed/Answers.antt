use Rattle.pm_law_young.proofs.laws.a_nursery_stays_closed.Goals as goal
use Rattle.pm_nursery.proofs.Sound.{born_sound, changed_sound, closed_sound, forgotten_sound, held_sound}

pub returns-clause-object : goal.returns-clause-object
returns-clause-object c = λ nursery id object sound there small names. changed_sound nursery sound id object there small names

pub returns-clause-born : goal.returns-clause-born
returns-clause-born c = λ nursery id object sound fewer small names. born_sound nursery sound id object fewer small names

pub returns-clause-held : goal.returns-clause-held
returns-clause-held c = λ nursery client reg id sound is_client is_number there. held_sound nursery sound client reg id is_client is_number there

pub returns-clause-forgotten : goal.returns-clause-forgotten
returns-clause-forgotten c = λ nursery client reg sound. forgotten_sound nursery sound client reg

pub returns-clause-closed : goal.returns-clause-closed
returns-clause-closed c = λ nursery client sound. closed_sound nursery sound client
