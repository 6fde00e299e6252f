use Rattle.std.proofs.Common.{◌∙◌, sym}
use Rattle.pm_dump.proofs.WordLemmas.{root_read, root_no_id, root_name_lacks}
use Rattle.pm_dump.proofs.line.root_parts.Goals as goal

pub returns-in-Ok-clause-ok : goal.returns-in-Ok-clause-ok
returns-in-Ok-clause-ok c = root_read c.args.name.now c.args.number.now c.in-Ok.name c.in-Some.id c.in-Ok.ensures.ok (sym c.in-Some.is ∙ c.identity.ensures)

pub returns-in-Err-clause-err : goal.returns-in-Err-clause-err
returns-in-Err-clause-err c = root_name_lacks c.in-Err.fault c.args.name.now c.args.number.now c.in-Err.ensures.err

pub returns-in-None-clause-err : goal.returns-in-None-clause-err
returns-in-None-clause-err c = root_no_id c.args.name.now c.args.number.now (sym c.in-None.is ∙ c.identity.ensures)
