use Rattle.std.proofs.Common.{◌∙◌, ◌++◌, ap, sym, subst, List, ℕ, Some}
use Rattle.pm_io.specs.Streams.{AppendsPart}
use Rattle.pm_runs.specs.declared.ends.ended.Detail.{Detail}
use Rattle.pm_runs.specs.Ends.Ends.{detail_line}
use Rattle.pm_top.specs.Program.{Tells}
use Rattle.pm_top.proofs.Programs.{told_none, told_all, told_part}
use Rattle.pm_top.proofs.shell.tell.Goals as goal

pub returns-in-Fine : goal.returns-in-Fine
returns-in-Fine g c =
    subst (λ (d : Detail). Tells g.E.Sink c.args.errors.now c.args.errors.now (detail_line d)) (sym c.in-Fine.is) (told_none g.E.Sink c.args.errors.now)

pub returns-in-Ok : goal.returns-in-Ok
returns-in-Ok g c =
    told_all g.E.Sink c.args.errors.now c.put.new.self (detail_line c.args.detail.now)
    (λ before told. c.in-Ok.ensures.appended before told ∙ ap (λ (piece : List ℕ). Some (before ++ piece)) (c.as_slice.ensures.value ∙ c.line_of.ensures))

pub returns-in-Err : goal.returns-in-Err
returns-in-Err g c =
    told_part g.E.Sink c.args.errors.now c.put.new.self (detail_line c.args.detail.now)
    (λ before told. subst (λ (piece : List ℕ). AppendsPart before piece (g.E.Sink.written c.put.new.self)) (c.as_slice.ensures.value ∙ c.line_of.ensures) (c.in-Err.ensures.failed before told))
    c.in-Err.ensures.cause
