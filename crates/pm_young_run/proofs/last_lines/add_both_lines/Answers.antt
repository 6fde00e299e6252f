use Rattle.std.proofs.Common.{[], ◌++◌, List, ℕ, append_assoc, subst, ◌∙◌}
use Rattle.std.proofs.lemmas.Result.{err_from_is_err_and, on_err_weaker, on_ok_weaker}
use Rattle.pm_model.specs.Text.{tail}
use Rattle.pm_serial.specs.Output.Gathered.{gathered}
use Rattle.pm_serial.specs.Output.Writing.{GoesOn, PutsPart}
use Rattle.pm_serial.proofs.OutputLemmas.Gathering.{goes_then, part_longer, part_then}
use Rattle.pm_young_run.specs.Writing.{young_line}
use Rattle.pm_young_run.proofs.last_lines.add_both_lines.Goals as goal

pub returns-in_err-add_tail-clause-part : goal.returns-in_err-add_tail-clause-part
returns-in_err-add_tail-clause-part g c =
    let p = err_from_is_err_and c.from_residual.result c.from_residual.ensures.1 in
    let a = c.args in
    let end = tail a.steps a.completed a.standing [] in
    let line = young_line a.young a.entered in
    rw p.1 (subst (PutsPart (g.K.Sink.written a.sink.now) (g.K.Sink.written c.add_tail.new.sink))
    (append_assoc (gathered a.output.now) end line) (part_longer line _ _ (gathered a.output.now ++ end)
    c.in_err-add_tail.ensures.part))

pub returns-clause-adds : goal.returns-clause-adds
returns-clause-adds g c =
    let a = c.args in
    let end = tail a.steps a.completed a.standing [] in
    let line = young_line a.young a.entered in
    on_ok_weaker c.add_line.result
    (λ more. goes_then end line _ _ _ _ _ _ c.in_ok-add_tail.ensures.adds
    (subst (λ (piece : List ℕ). GoesOn piece (g.K.Sink.written c.add_tail.new.sink)
    (g.K.Sink.written c.add_line.new.sink) (gathered c.add_tail.new.output) (gathered c.add_line.new.self))
    (c.as_slice.ensures.value ∙ c.young_line.ensures) more))
    c.add_line.ensures.adds

pub returns-clause-part : goal.returns-clause-part
returns-clause-part g c =
    let a = c.args in
    let end = tail a.steps a.completed a.standing [] in
    let line = young_line a.young a.entered in
    on_err_weaker c.add_line.result (λ some. part_then end line _ _ _ _ _ c.in_ok-add_tail.ensures.adds
    (part_longer line _ _ _ some)) c.add_line.ensures.part
