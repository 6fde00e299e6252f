use Rattle.std.proofs.Common.{◌∙◌, ◌+◌, length, sym, ap, arith}
use Rattle.std.proofs.lemmas.Result.{err_from_is_err_and}
use Rattle.pm_script.specs.Lines.{parts_in}
use Rattle.pm_script.specs.Reading.{body_at, lines_at}
use Rattle.pm_script.proofs.ReadLines.{parts, passed_over, line_more, bad_ends, lines_done}
use Rattle.pm_script.proofs.lines.read_lines.Goals as goal

pub overflow_add-number : goal.overflow_add-number
overflow_add-number g c = omega (arith, ap length c.in-Some.ensures, c.loop-body.invariant.count)

pub returns-in_err-line : goal.returns-in_err-line
returns-in_err-line g c =
    let p = err_from_is_err_and c.from_residual-in_err-line.result c.from_residual-in_err-line.ensures.1 in
    rw (p.1, p.2)
    (bad_ends (body_at g.L.Said.dialect g.L.Said.asked) c.in_err-line.field-0.0 c.loop-body.lines.items (parts_in 10 c.loop-body.rest) (parts_in 10 c.in-Some.after) (lines_at (body_at g.L.Said.dialect g.L.Said.asked) 1 (parts c.args.bytes.now)) (c.loop-body.number + 1) c.in-Some.body.now
    c.in-Some.ensures (sym c.is_silent.ensures ∙ c.if-is_silent.false) c.loop-body.invariant.read c.in_err-line.ensures)

pub loop-body-preserved-then-is_silent : goal.loop-body-preserved-then-is_silent
loop-body-preserved-then-is_silent g c = record {
  count = omega (arith, ap length c.in-Some.ensures, c.loop-body.invariant.count);
  read =
      passed_over (body_at g.L.Said.dialect g.L.Said.asked) c.loop-body.lines.items (parts_in 10 c.loop-body.rest) (parts_in 10 c.in-Some.after) (lines_at (body_at g.L.Said.dialect g.L.Said.asked) 1 (parts c.args.bytes.now)) (c.loop-body.number + 1) c.in-Some.body.now
      c.in-Some.ensures (sym c.is_silent.ensures ∙ c.if-is_silent.true) c.loop-body.invariant.read;
}

pub loop-body-preserved : goal.loop-body-preserved
loop-body-preserved g c = record {
  count = omega (arith, ap length c.in-Some.ensures, c.loop-body.invariant.count);
  read =
      rw c.in_ok-push.ensures.items
      (line_more (body_at g.L.Said.dialect g.L.Said.asked) c.loop-body.lines.items c.in_ok-line.line (parts_in 10 c.loop-body.rest) (parts_in 10 c.in-Some.after) (lines_at (body_at g.L.Said.dialect g.L.Said.asked) 1 (parts c.args.bytes.now)) (c.loop-body.number + 1) c.in-Some.body.now
      c.in-Some.ensures (sym c.is_silent.ensures ∙ c.if-is_silent.false) c.loop-body.invariant.read c.in_ok-line.ensures);
}

pub returns : goal.returns
returns g c = lines_done (body_at g.L.Said.dialect g.L.Said.asked) c.loop-body.lines.items (parts_in 10 c.loop-body.rest) (lines_at (body_at g.L.Said.dialect g.L.Said.asked) 1 (parts c.args.bytes.now)) (c.loop-body.number + 1) c.in_default.ensures c.loop-body.invariant.read
