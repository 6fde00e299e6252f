use Rattle.std.proofs.Common.{sym, arith}
use Rattle.std.proofs.lemmas.Result.{err_from_is_err_and}
use Rattle.pm_layout.specs.Reading.{fields_at}
use Rattle.pm_layout.proofs.Loop.{goes_on, ends, is_done, fails_as, fields_can}
use Rattle.pm_layout.proofs.reading.fields_at.Goals as goal

pub returns-in_err-field : goal.returns-in_err-field
returns-in_err-field c =
    let p = err_from_is_err_and c.from_residual-in_err-field.result c.from_residual-in_err-field.ensures.1 in
    rw (p.1, p.2) (fails_as c.in_err-field.field-0.0 _ (ends c.args.bytes.now c.in_err-field.field-0.0 c.loop.fields.items c.args.count c.loop.counter c.loop.place (fields_at c.args.bytes.now c.args.count c.args.start) c.loop-test.true (sym c.in_err-field.ensures) c.loop.invariant.so_far))

pub loop-preserved : goal.loop-preserved
loop-preserved c = record {
  so_far = rw c.in_ok-push.ensures.items (goes_on c.args.bytes.now c.loop.fields.items c.args.count c.loop.counter c.loop.place c.in_ok-field.field (fields_at c.args.bytes.now c.args.count c.args.start) c.loop-test.true (sym c.in_ok-field.ensures) c.loop.invariant.so_far);
  inside = omega arith;
}

pub returns : goal.returns
returns c = rw c.from_vec.ensures (is_done c.args.bytes.now c.loop.fields.items c.args.count c.loop.counter c.loop.place (fields_at c.args.bytes.now c.args.count c.args.start) c.loop-test.false c.loop.invariant.so_far)

pub returns-in_err-fields : goal.returns-in_err-fields
returns-in_err-fields c =
    let p = err_from_is_err_and c.from_residual.result c.from_residual.ensures.1 in
    rw (p.1, p.2) (fields_can c.args.count c.args.bytes.now c.args.start)

pub returns-in_err-push : goal.returns-in_err-push
returns-in_err-push c =
    let p = err_from_is_err_and c.from_residual-in_err-push.result c.from_residual-in_err-push.ensures.1 in
    rw (p.1, p.2) (fields_can c.args.count c.args.bytes.now c.args.start)
