use Rattle.std.proofs.Common.{◌∙◌, sym, ap, map, arith}
use Rattle.std.proofs.lemmas.Result.{err_from_is_err_and}
use Rattle.pm_dump.specs.Read.{dump_in, before_in, root_shown}
use Rattle.pm_dump.proofs.Behind.{seen_not_ended}
use Rattle.pm_dump.proofs.Lines.{fails_here, fails_last, read_all, nothing}
use Rattle.pm_dump.proofs.PartsLemmas.{none_shown}
use Rattle.pm_dump.proofs.read.read_lines.Goals as goal

pub read_numbered-requires-clause-short : goal.read_numbered-requires-clause-short
read_numbered-requires-clause-short c = let shorter = c.in-Some.ensures.shorter in let all = c.loop-line.invariant.short in let short = c.requires.short in omega (arith, shorter, all, short)

pub returns-in_err-read_numbered-clause-err : goal.returns-in_err-read_numbered-clause-err
returns-in_err-read_numbered-clause-err c =
    let p = err_from_is_err_and c.from_residual.result c.from_residual.ensures.1 in
    rw (p.1, p.2)
    (fails_here c.in_err-read_numbered.field-0.0 c.args.bytes.now c.loop-line.left.now c.in-Some.line.now c.in-Some.rest.now (before_in c.loop-line.parts) c.loop-line.number c.loop-line.invariant.so c.in-Some.ensures.parts
    c.in_err-read_numbered.ensures.err)

pub returns-then-not-parts-clause-err : goal.returns-then-not-parts-clause-err
returns-then-not-parts-clause-err c =
    let parts = c.loop-line.parts in
    let kept = c.loop-line.invariant.kept in
    fails_last c.args.bytes.now c.loop-line.left.now (before_in parts) c.loop-line.number c.loop-line.invariant.so c.in_default.ensures.parts
    (λ is ended.
    seen_not_ended parts.ended (dump_in parts).roots (dump_in parts).objects parts.next (λ zero. none_shown parts.places.items parts.fields.items parts.bytes.items (kept.no_objects zero)) (λ zero. ap (map root_shown) (kept.no_roots zero))
    c.if-not-parts.true ended)

pub returns-clause-spelled : goal.returns-clause-spelled
returns-clause-spelled c =
    let parts = c.loop-line.parts in
    (read_all c.args.bytes.now c.loop-line.left.now parts.ended (dump_in parts).roots (dump_in parts).objects parts.next c.loop-line.number c.loop-line.invariant.so c.in_default.ensures.parts
    (nothing c.loop-line.left.now (sym c.is_empty.ensures ∙ c.if-not-is_empty.false)) c.if-not-parts.false c.loop-line.invariant.kept.no_end).0

pub returns-clause-placed : goal.returns-clause-placed
returns-clause-placed c =
    let parts = c.loop-line.parts in
    (read_all c.args.bytes.now c.loop-line.left.now parts.ended (dump_in parts).roots (dump_in parts).objects parts.next c.loop-line.number c.loop-line.invariant.so c.in_default.ensures.parts
    (nothing c.loop-line.left.now (sym c.is_empty.ensures ∙ c.if-not-is_empty.false)) c.if-not-parts.false c.loop-line.invariant.kept.no_end).1
