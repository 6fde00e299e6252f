use Rattle.std.proofs.Common.{◌≡◌, ℕ, List, ◌++◌, Some, OnErr, OnOk, length, ap, sym, subst, ◌∙◌}
use Rattle.std.proofs.lemmas.List.{append-nil}
use Rattle.pm_engine.specs.Shown.{Total, serving, tally_in}
use Rattle.pm_serial.specs.Output.Gathered.{gathered}
use Rattle.pm_serial.specs.Output.Writing.{PutsAll, PutsPart}
use Rattle.pm_serial.specs.declared.behind.Behind.{Behind}
use Rattle.pm_serial.specs.declared.behind.Behind.TheVariants.{Nothing, LastLines}
use Rattle.pm_serial.specs.Writing.{tail_of, text_behind}
use Rattle.pm_serial.proofs.ending.finish_run.Goals as goal

-- what is gathered, with nothing behind it
alone : (gathered : List ℕ) (behind : Behind) (total : Total) → behind ≡ Nothing → gathered ≡ gathered ++ text_behind behind total
alone gathered behind total is = sym (ap (λ (b : Behind). gathered ++ text_behind b total) is ∙ append-nil gathered)

-- and with the last lines behind it
with_lines : (gathered : List ℕ) (behind : Behind) (total : Total) → behind ≡ LastLines → gathered ++ tail_of total ≡ gathered ++ text_behind behind total
with_lines gathered behind total is = sym (ap (λ (b : Behind). gathered ++ text_behind b total) is)

pub returns-in-Nothing-clause-all : goal.returns-in-Nothing-clause-all
returns-in-Nothing-clause-all g c =
    subst (λ (t : List ℕ). OnOk c.finish.result (PutsAll (g.K.Sink.written c.args.sink.now) (g.K.Sink.written c.finish.new.sink) t)) (alone (gathered c.args.output.now) c.args.behind (tally_in (serving c.args.engine.now)) c.in-Nothing.is)
    c.finish.ensures.all

pub returns-in-Nothing-clause-finished : goal.returns-in-Nothing-clause-finished
returns-in-Nothing-clause-finished g c =
    subst (λ (t : List ℕ). OnOk c.finish.result ((bytes : List ℕ) → g.K.Sink.written c.args.sink.now ≡ Some bytes → g.K.Sink.finished c.finish.new.sink ≡ length (bytes ++ t)))
    (alone (gathered c.args.output.now) c.args.behind (tally_in (serving c.args.engine.now)) c.in-Nothing.is) c.finish.ensures.finished

pub returns-in-Nothing-clause-part : goal.returns-in-Nothing-clause-part
returns-in-Nothing-clause-part g c =
    subst (λ (t : List ℕ). OnErr c.finish.result (PutsPart (g.K.Sink.written c.args.sink.now) (g.K.Sink.written c.finish.new.sink) t)) (alone (gathered c.args.output.now) c.args.behind (tally_in (serving c.args.engine.now)) c.in-Nothing.is)
    c.finish.ensures.part

pub returns-in-LastLines-clause-all : goal.returns-in-LastLines-clause-all
returns-in-LastLines-clause-all g c =
    subst (λ (t : List ℕ). OnOk c.finish_with_last_lines.result (PutsAll (g.K.Sink.written c.args.sink.now) (g.K.Sink.written c.finish_with_last_lines.new.sink) t))
    (with_lines (gathered c.args.output.now) c.args.behind (tally_in (serving c.args.engine.now)) c.in-LastLines.is) c.finish_with_last_lines.ensures.all

pub returns-in-LastLines-clause-finished : goal.returns-in-LastLines-clause-finished
returns-in-LastLines-clause-finished g c =
    subst (λ (t : List ℕ). OnOk c.finish_with_last_lines.result ((bytes : List ℕ) → g.K.Sink.written c.args.sink.now ≡ Some bytes → g.K.Sink.finished c.finish_with_last_lines.new.sink ≡ length (bytes ++ t)))
    (with_lines (gathered c.args.output.now) c.args.behind (tally_in (serving c.args.engine.now)) c.in-LastLines.is) c.finish_with_last_lines.ensures.finished

pub returns-in-LastLines-clause-part : goal.returns-in-LastLines-clause-part
returns-in-LastLines-clause-part g c =
    subst (λ (t : List ℕ). OnErr c.finish_with_last_lines.result (PutsPart (g.K.Sink.written c.args.sink.now) (g.K.Sink.written c.finish_with_last_lines.new.sink) t))
    (with_lines (gathered c.args.output.now) c.args.behind (tally_in (serving c.args.engine.now)) c.in-LastLines.is) c.finish_with_last_lines.ensures.part
