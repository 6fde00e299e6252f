use Rattle.std.proofs.Common.{◌≡◌, ℕ, List, ◌++◌, Some, Result, Ok, Err, OnErr, OnOk, length}
use Rattle.pm_engine.specs.Shown.{serving, tally_in}
use Rattle.pm_serial.specs.Output.Gathered.{gathered}
use Rattle.pm_serial.specs.Output.Writing.{PutsAll, PutsPart}
use Rattle.pm_serial.specs.Writing.{tail_of}
use Rattle.pm_serial.proofs.Gathering.{all_then, finished_then, some_then}
use Rattle.pm_serial.proofs.ending.finish_with_last_lines.Goals as goal

on_ok : {T E : Type 0} (P Q : Type 0) (result : Result T E) → (P → Q) → OnOk result P → OnOk result Q
on_ok P Q (Ok x) goes p = goes p
on_ok P Q (Err e) goes p = tt

on_err : {T E : Type 0} (P Q : Type 0) (result : Result T E) → (P → Q) → OnErr result P → OnErr result Q
on_err P Q (Ok x) goes p = tt
on_err P Q (Err e) goes p = goes p

pub returns-clause-all : goal.returns-clause-all
returns-clause-all g c =
    let written = g.K.Sink.written in
    let tail = tail_of (tally_in (serving c.args.engine.now)) in
    let mid = c.add_last_lines.new in
    on_ok (PutsAll (written mid.sink) (written c.finish.new.sink) (gathered mid.output)) (PutsAll (written c.args.sink.now) (written c.finish.new.sink) (gathered c.args.output.now ++ tail)) c.finish.result
    (all_then tail (written c.args.sink.now) (written mid.sink) (written c.finish.new.sink) (gathered c.args.output.now) (gathered mid.output) c.in_ok-add_last_lines.ensures.adds) c.finish.ensures.all

pub returns-clause-finished : goal.returns-clause-finished
returns-clause-finished g c =
    let written = g.K.Sink.written in
    let finished = g.K.Sink.finished in
    let tail = tail_of (tally_in (serving c.args.engine.now)) in
    let mid = c.add_last_lines.new in
    on_ok ((bytes : List ℕ) → written mid.sink ≡ Some bytes → finished c.finish.new.sink ≡ length (bytes ++ gathered mid.output))
    ((bytes : List ℕ) → written c.args.sink.now ≡ Some bytes → finished c.finish.new.sink ≡ length (bytes ++ (gathered c.args.output.now ++ tail))) c.finish.result
    (finished_then tail (written c.args.sink.now) (written mid.sink) (gathered c.args.output.now) (gathered mid.output) (finished c.finish.new.sink) c.in_ok-add_last_lines.ensures.adds) c.finish.ensures.finished

pub returns-clause-part : goal.returns-clause-part
returns-clause-part g c =
    let written = g.K.Sink.written in
    let tail = tail_of (tally_in (serving c.args.engine.now)) in
    let mid = c.add_last_lines.new in
    on_err (PutsPart (written mid.sink) (written c.finish.new.sink) (gathered mid.output)) (PutsPart (written c.args.sink.now) (written c.finish.new.sink) (gathered c.args.output.now ++ tail)) c.finish.result
    (some_then tail (written c.args.sink.now) (written mid.sink) (written c.finish.new.sink) (gathered c.args.output.now) (gathered mid.output) c.in_ok-add_last_lines.ensures.adds) c.finish.ensures.part
