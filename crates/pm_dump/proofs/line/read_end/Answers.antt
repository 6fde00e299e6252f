use Rattle.std.proofs.Common.{◌∙◌, sym, ap, map}
use Rattle.pm_dump.specs.Read.{words_in, dump_in, before_in, root_shown}
use Rattle.pm_dump.proofs.PartsLemmas.{end_spelled_more, end_closed, end_put, not_both, none_shown}
use Rattle.pm_dump.proofs.line.read_end.Goals as goal

pub returns-then-not-is_spent-clause-err : goal.returns-then-not-is_spent-clause-err
returns-then-not-is_spent-clause-err c = end_spelled_more (before_in c.args.parts.now) (words_in c.args.words) (sym c.is_spent.ensures ∙ c.if-not-is_spent.true)

pub returns-then-not-is_open-clause-err : goal.returns-then-not-is_open-clause-err
returns-then-not-is_open-clause-err c =
    let parts = c.args.parts.now in
    end_closed parts.ended (dump_in parts).roots (dump_in parts).objects parts.next (words_in c.args.words) (sym c.is_spent.ensures ∙ c.if-not-is_spent.false)
    (λ zero. none_shown parts.places.items parts.fields.items parts.bytes.items (c.requires.no_objects zero)) (λ zero. ap (map root_shown) (c.requires.no_roots zero))
    (λ opened. not_both c.is_open.result (c.is_open.ensures.1 opened) c.if-not-is_open.true)

pub returns-clause-ok : goal.returns-clause-ok
returns-clause-ok c =
    let parts = c.args.parts.now in
    let opened = c.is_open.ensures.0 c.if-not-is_open.false in
    end_put parts.ended (dump_in parts).roots (dump_in parts).objects parts.next (words_in c.args.words) (sym c.is_spent.ensures ∙ c.if-not-is_spent.false) opened.0 opened.1
