use Rattle.std.proofs.Common.{◌≡◌, ℕ, List, [], ◌++◌, OnErr, OnOk, length, subst}
use Rattle.pm_model.specs.Text.{tail}
use Rattle.pm_serial.specs.Output.Gathered.{gathered}
use Rattle.pm_serial.specs.Output.Writing.{GoesOn, PutsPart}
use Rattle.pm_young.specs.Seen.{young_tally_in}
use Rattle.pm_young_run.specs.Writing.{young_line, young_tail_of}
use Rattle.pm_young_run.proofs.last_lines.add_last_lines.Goals as goal

pub returns-clause-adds : goal.returns-clause-adds
returns-clause-adds g c =
    let is : tail c.steps-steps.result c.completed-completed.result c.standing-standing.result [] ++ young_line
    c.young-young.result (length c.entered-ids.result.now) ≡ young_tail_of (young_tally_in c.args.engine.now) =
    (λ i. tail (c.steps-steps.ensures i) (c.completed-completed.ensures i) (c.standing-standing.ensures i) [] ++
    young_line (c.young-young.ensures i) (length (c.entered-ids.ensures i))) in
    subst (λ (t : List ℕ). OnOk c.add_both_lines.result (GoesOn t (g.K.Sink.written c.args.sink.now)
    (g.K.Sink.written c.add_both_lines.new.sink) (gathered c.args.output.now)
    (gathered c.add_both_lines.new.output))) is c.add_both_lines.ensures.adds

pub returns-clause-part : goal.returns-clause-part
returns-clause-part g c =
    let is : tail c.steps-steps.result c.completed-completed.result c.standing-standing.result [] ++ young_line
    c.young-young.result (length c.entered-ids.result.now) ≡ young_tail_of (young_tally_in c.args.engine.now) =
    (λ i. tail (c.steps-steps.ensures i) (c.completed-completed.ensures i) (c.standing-standing.ensures i) [] ++
    young_line (c.young-young.ensures i) (length (c.entered-ids.ensures i))) in
    subst (λ (t : List ℕ). OnErr c.add_both_lines.result (PutsPart (g.K.Sink.written c.args.sink.now)
    (g.K.Sink.written c.add_both_lines.new.sink) (gathered c.args.output.now ++ t))) is
    c.add_both_lines.ensures.part
