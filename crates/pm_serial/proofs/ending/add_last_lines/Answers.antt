use Rattle.std.proofs.Common.{◌≡◌, ℕ, List, ◌++◌, OnErr, OnOk, subst, ◌∙◌}
use Rattle.pm_model.specs.Text.{tail}
use Rattle.pm_engine.specs.Shown.{serving, tally_in}
use Rattle.pm_serial.specs.Output.Gathered.{gathered}
use Rattle.pm_serial.specs.Output.Writing.{GoesOn, PutsPart}
use Rattle.pm_serial.specs.Writing.{tail_of}
use Rattle.pm_serial.proofs.ending.add_last_lines.Goals as goal

pub returns-clause-adds : goal.returns-clause-adds
returns-clause-adds g c =
    let is : tail c.steps-steps.result c.completed-completed.result c.standing-standing.result c.as_slice.result.now ≡ tail_of (tally_in (serving c.args.engine.now)) =
    (λ i. tail (c.steps-steps.ensures i) (c.completed-completed.ensures i) (c.standing-standing.ensures i) ((c.as_slice.ensures.value ∙ c.lines-lines.ensures.told) i)) in
    subst (λ (t : List ℕ). OnOk c.add_tail.result (GoesOn t (g.K.Sink.written c.args.sink.now) (g.K.Sink.written c.add_tail.new.sink) (gathered c.args.output.now) (gathered c.add_tail.new.output))) is c.add_tail.ensures.adds

pub returns-clause-part : goal.returns-clause-part
returns-clause-part g c =
    let is : tail c.steps-steps.result c.completed-completed.result c.standing-standing.result c.as_slice.result.now ≡ tail_of (tally_in (serving c.args.engine.now)) =
    (λ i. tail (c.steps-steps.ensures i) (c.completed-completed.ensures i) (c.standing-standing.ensures i) ((c.as_slice.ensures.value ∙ c.lines-lines.ensures.told) i)) in
    subst (λ (t : List ℕ). OnErr c.add_tail.result (PutsPart (g.K.Sink.written c.args.sink.now) (g.K.Sink.written c.add_tail.new.sink) (gathered c.args.output.now ++ t))) is c.add_tail.ensures.part
