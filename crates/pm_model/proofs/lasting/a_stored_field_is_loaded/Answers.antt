use Rattle.pm_model.proofs.LastingLaws.{stored_is_there, cleared_is_null, swapped_is_there, loaded_is_told, field_lasts}
use Rattle.pm_model.proofs.lasting.a_stored_field_is_loaded.Goals as goal

pub returns-clause-stored : goal.returns-clause-stored
returns-clause-stored c world client reg index value is = stored_is_there world client reg index value is

pub returns-clause-cleared : goal.returns-clause-cleared
returns-clause-cleared c world client reg index is = cleared_is_null world client reg index is

pub returns-clause-swapped : goal.returns-clause-swapped
returns-clause-swapped c world client reg index old value is = swapped_is_there world client reg index old value is

pub returns-clause-loaded : goal.returns-clause-loaded
returns-clause-loaded c world client to reg index id content is there = loaded_is_told world client to reg index id content is there

pub returns-clause-lasts : goal.returns-clause-lasts
returns-clause-lasts c world journal id index content closed is untouched = field_lasts world journal id index content closed is untouched
