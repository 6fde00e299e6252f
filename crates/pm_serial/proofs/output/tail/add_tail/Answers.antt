use Rattle.std.proofs.Common.{◌++◌, List, ℕ, subst, ◌∙◌}
use Rattle.std.specs.List.{flat_map}
use Rattle.std.proofs.lemmas.Result.{err_from_is_err_and, on_err_weaker, on_ok_weaker}
use Rattle.pm_model.specs.Text.{end_line, watch_line}
use Rattle.pm_serial.specs.Output.Gathered.{gathered}
use Rattle.pm_serial.specs.Output.Writing.{GoesOn}
use Rattle.pm_serial.proofs.OutputLemmas.Gathering.{goes_then, part_longer, part_then}
use Rattle.pm_serial.proofs.output.tail.add_tail.Goals as goal

pub returns-in_err-add_line-clause-part : goal.returns-in_err-add_line-clause-part
returns-in_err-add_line-clause-part g c =
    let p = err_from_is_err_and c.from_residual.result c.from_residual.ensures.1 in
    rw p.1 (part_longer (end_line c.args.steps c.args.completed c.args.standing ++ flat_map watch_line c.args.lines.now) _ _ _ c.in_err-add_line.ensures.part)

pub returns-clause-adds : goal.returns-clause-adds
returns-clause-adds g c =
    let a = c.args in
    let line = end_line a.steps a.completed a.standing in
    let first = subst (λ (piece : List ℕ). GoesOn piece (g.K.Sink.written a.sink.now) (g.K.Sink.written c.add_line.new.sink) (gathered a.output.now) (gathered c.add_line.new.self)) (c.as_slice.ensures.value ∙ c.end_line.ensures) c.in_ok-add_line.ensures.adds in
    on_ok_weaker c.add_watches.result (λ more. goes_then line (flat_map watch_line a.lines.now) _ _ _ _ _ _ first more) c.add_watches.ensures.adds

pub returns-clause-part : goal.returns-clause-part
returns-clause-part g c =
    let a = c.args in
    let line = end_line a.steps a.completed a.standing in
    let first = subst (λ (piece : List ℕ). GoesOn piece (g.K.Sink.written a.sink.now) (g.K.Sink.written c.add_line.new.sink) (gathered a.output.now) (gathered c.add_line.new.self)) (c.as_slice.ensures.value ∙ c.end_line.ensures) c.in_ok-add_line.ensures.adds in
    on_err_weaker c.add_watches.result (λ more. part_then line (flat_map watch_line a.lines.now) _ _ _ _ _ first more) c.add_watches.ensures.part
