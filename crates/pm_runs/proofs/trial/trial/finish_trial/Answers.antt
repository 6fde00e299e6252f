use Rattle.std.proofs.Common.{◌≡◌, ℕ, List, ◌++◌, Some, length, subst, ◌∙◌}
use Rattle.pm_engine.specs.Shown.{serving, tally_in}
use Rattle.pm_serial.specs.Output.Gathered.{gathered}
use Rattle.pm_serial.specs.Output.Writing.{GoesOn, PutsAll, PutsPart}
use Rattle.pm_serial.specs.Writing.{tail_of}
use Rattle.pm_runs.specs.Trial.Trials.{shown_digest}
use Rattle.pm_runs.proofs.TrialLemmas.Trying.{all_finished, all_put, on_err, on_ok, part_of_none, some_put, where_failed}
use Rattle.pm_runs.proofs.trial.trial.finish_trial.Goals as goal

pub returns-in_err-add_line-clause-part : goal.returns-in_err-add_line-clause-part
returns-in_err-add_line-clause-part g c =
    let written = g.K.Sink.written in
    let whole = shown_digest c.args.digest.now ++ tail_of (tally_in (serving c.args.engine.now)) in
    where_failed (PutsPart (written c.args.sink.now) (written c.add_line.new.sink) whole) c.from_residual.result
    (part_of_none whole (gathered c.args.output.now) (written c.args.sink.now) (written c.add_line.new.sink) c.requires c.in_err-add_line.ensures.part)

pub returns-clause-all : goal.returns-clause-all
returns-clause-all g c =
    let written = g.K.Sink.written in
    let piece = shown_digest c.args.digest.now in
    let tail = tail_of (tally_in (serving c.args.engine.now)) in
    let mid = c.add_line.new in
    let end = c.finish_with_last_lines.new.sink in
    let line : c.as_slice.result.now ≡ piece = c.as_slice.ensures.value ∙ c.digest_line.ensures in
    let on = subst (λ (t : List ℕ). GoesOn t (written c.args.sink.now) (written mid.sink) (gathered c.args.output.now) (gathered mid.self)) line c.in_ok-add_line.ensures.adds in
    on_ok (PutsAll (written mid.sink) (written end) (gathered mid.self ++ tail)) (PutsAll (written c.args.sink.now) (written end) (piece ++ tail)) c.finish_with_last_lines.result
    (all_put piece tail (gathered c.args.output.now) (gathered mid.self) (written c.args.sink.now) (written mid.sink) c.requires on (written end)) c.finish_with_last_lines.ensures.all

pub returns-clause-finished : goal.returns-clause-finished
returns-clause-finished g c =
    let written = g.K.Sink.written in
    let finished = g.K.Sink.finished in
    let piece = shown_digest c.args.digest.now in
    let tail = tail_of (tally_in (serving c.args.engine.now)) in
    let mid = c.add_line.new in
    let end = c.finish_with_last_lines.new.sink in
    let line : c.as_slice.result.now ≡ piece = c.as_slice.ensures.value ∙ c.digest_line.ensures in
    let on = subst (λ (t : List ℕ). GoesOn t (written c.args.sink.now) (written mid.sink) (gathered c.args.output.now) (gathered mid.self)) line c.in_ok-add_line.ensures.adds in
    on_ok ((bytes : List ℕ) → written mid.sink ≡ Some bytes → finished end ≡ length (bytes ++ (gathered mid.self ++ tail)))
    ((bytes : List ℕ) → written c.args.sink.now ≡ Some bytes → finished end ≡ length (bytes ++ (piece ++ tail))) c.finish_with_last_lines.result
    (all_finished piece tail (gathered c.args.output.now) (gathered mid.self) (written c.args.sink.now) (written mid.sink) c.requires on (finished end)) c.finish_with_last_lines.ensures.finished

pub returns-clause-part : goal.returns-clause-part
returns-clause-part g c =
    let written = g.K.Sink.written in
    let piece = shown_digest c.args.digest.now in
    let tail = tail_of (tally_in (serving c.args.engine.now)) in
    let mid = c.add_line.new in
    let end = c.finish_with_last_lines.new.sink in
    let line : c.as_slice.result.now ≡ piece = c.as_slice.ensures.value ∙ c.digest_line.ensures in
    let on = subst (λ (t : List ℕ). GoesOn t (written c.args.sink.now) (written mid.sink) (gathered c.args.output.now) (gathered mid.self)) line c.in_ok-add_line.ensures.adds in
    on_err (PutsPart (written mid.sink) (written end) (gathered mid.self ++ tail)) (PutsPart (written c.args.sink.now) (written end) (piece ++ tail)) c.finish_with_last_lines.result
    (some_put piece tail (gathered c.args.output.now) (gathered mid.self) (written c.args.sink.now) (written mid.sink) c.requires on (written end)) c.finish_with_last_lines.ensures.part
