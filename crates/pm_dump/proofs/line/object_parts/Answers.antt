use Rattle.std.proofs.Common.{◌∙◌, sym}
use Rattle.pm_dump.specs.Read.{words_in}
use Rattle.pm_dump.proofs.WordLemmas.{object_read, object_no_id, object_no_fields, object_bytes_lack}
use Rattle.pm_dump.proofs.line.object_parts.Goals as goal

pub returns-in-Ok-clause-ok : goal.returns-in-Ok-clause-ok
returns-in-Ok-clause-ok c =
    object_read c.args.number.now c.args.count.now c.args.hex.now (words_in c.args.words) c.in-Some.id c.in-Some-counted_fields.count c.in-Ok.bytes.items (sym c.in-Some.is ∙ c.identity.ensures) c.in-Some-counted_fields.ensures c.in-Ok.ensures.ok

pub returns-in-Err-clause-err : goal.returns-in-Err-clause-err
returns-in-Err-clause-err c = object_bytes_lack c.in-Err.fault c.args.number.now c.args.count.now c.args.hex.now (words_in c.args.words) c.in-Err.ensures.err

pub returns-in-None-counted_fields-clause-err : goal.returns-in-None-counted_fields-clause-err
returns-in-None-counted_fields-clause-err c = object_no_fields c.args.number.now c.args.count.now c.args.hex.now (words_in c.args.words) c.in-None-counted_fields.ensures

pub returns-in-None-clause-err : goal.returns-in-None-clause-err
returns-in-None-clause-err c = object_no_id c.args.number.now c.args.count.now c.args.hex.now (words_in c.args.words) (sym c.in-None.is ∙ c.identity.ensures)
