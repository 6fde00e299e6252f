use Rattle.pm_model.proofs.TellingLaws.{new_told, copy_told, find_told, id_told, drop_told, close_told, put_told, watch_told}
use Rattle.pm_model.proofs.telling.replies_tell_what_was_done.Goals as goal

pub returns-clause-new : goal.returns-clause-new
returns-clause-new c world client reg count id bytes is = new_told world client reg count id bytes is

pub returns-clause-copied : goal.returns-clause-copied
returns-clause-copied c world client to reg id is = copy_told world client to reg id is

pub returns-clause-found : goal.returns-clause-found
returns-clause-found c world client to id name is = find_told world client to id name is

pub returns-clause-told : goal.returns-clause-told
returns-clause-told c world client reg id is = id_told world client reg id is

pub returns-clause-dropped : goal.returns-clause-dropped
returns-clause-dropped c world client reg is = drop_told world client reg is

pub returns-clause-closed : goal.returns-clause-closed
returns-clause-closed c world client register = close_told world client register

pub returns-clause-put : goal.returns-clause-put
returns-clause-put c world client reg at bytes is = put_told world client reg at bytes is

pub returns-clause-watching : goal.returns-clause-watching
returns-clause-watching c world client number is = watch_told world client number is
