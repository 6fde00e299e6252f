use Rattle.std.proofs.Common.{◌∙◌, Ok, sym, ap, subst}
use Rattle.pm_script.proofs.Dialects.{plain_reading}
use Rattle.pm_script.proofs.Faults.{bad_stops, fault_told, ok_told}
use Rattle.std.proofs.lemmas.Result.{err_from_is_err_and}
use Rattle.pm_script.specs.Script.{IsScript}
use Rattle.pm_script.proofs.Readings.{script_found, script_again, not_stopped}
use Rattle.pm_script.proofs.ScriptLaws.{lines_of_script}
use Rattle.pm_script.proofs.script.read_script.Goals as goal

pub returns-in_err-lines-clause-only : goal.returns-in_err-lines-clause-only
returns-in_err-lines-clause-only c lines is =
    let p = err_from_is_err_and c.from_residual.result c.from_residual.ensures.1 in
    rw (p.1, p.2) (not_stopped plain_reading c.in_err-lines.field-0.0 c.args.bytes.now lines c.in_err-lines.ensures is)

pub from_vec-requires : goal.from_vec-requires
from_vec-requires c = lines_of_script c.args.bytes.now c.in_ok-lines.lines.items (script_found plain_reading c.args.bytes.now c.in_ok-lines.lines.items c.requires c.in_ok-lines.ensures)

pub returns-clause-found : goal.returns-clause-found
returns-clause-found c = subst (IsScript c.args.bytes.now) (sym c.from_vec.ensures) (script_found plain_reading c.args.bytes.now c.in_ok-lines.lines.items c.requires c.in_ok-lines.ensures)

pub returns-clause-only : goal.returns-clause-only
returns-clause-only c lines is = sym (script_again plain_reading c.args.bytes.now lines is) ∙ c.in_ok-lines.ensures ∙ ap Ok (sym c.from_vec.ensures)

pub returns-in_err-lines-clause-bad : goal.returns-in_err-lines-clause-bad
returns-in_err-lines-clause-bad c =
    let p = err_from_is_err_and c.from_residual.result c.from_residual.ensures.1 in
    rw (p.1, p.2) (bad_stops plain_reading c.in_err-lines.field-0.0 c.args.bytes.now c.requires c.in_err-lines.ensures)

pub returns-in_err-lines-clause-told : goal.returns-in_err-lines-clause-told
returns-in_err-lines-clause-told c fault is =
    let p = err_from_is_err_and c.from_residual.result c.from_residual.ensures.1 in
    rw (p.1, p.2) (fault_told plain_reading c.in_err-lines.field-0.0 fault c.args.bytes.now c.requires c.in_err-lines.ensures is)

pub returns-clause-told : goal.returns-clause-told
returns-clause-told c fault is = absurd (ok_told plain_reading fault c.args.bytes.now c.in_ok-lines.lines.items c.requires c.in_ok-lines.ensures is)
