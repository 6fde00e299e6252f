use Rattle.std.proofs.Common.{◌<◌, List, sym, map, subst, arith, length}
use Rattle.pm_dump.specs.declared.parts.DumpRoot.{DumpRoot}
use Rattle.pm_dump.specs.Read.{words_in, dump_in, before_in, root_shown, IsAboveRoots}
use Rattle.pm_dump.specs.Reading.{root_at}
use Rattle.pm_dump.proofs.PartsLemmas.{root_behind, root_over, root_put, root_pushed, roots_long, not_both}
use Rattle.pm_dump.proofs.line.read_root.Goals as goal

pub returns-then-not-rises-clause-err : goal.returns-then-not-rises-clause-err
returns-then-not-rises-clause-err c =
    let parts = c.args.parts.now in
    let opened = c.is_open.ensures.0 c.if-not-is_open.false in
    root_behind parts.ended (dump_in parts).roots (dump_in parts).objects parts.next c.in_ok-name.id (words_in c.args.words) c.in_ok-name.name c.in_ok-name.ensures.ok opened.0 opened.1
    (λ above. not_both c.rises.result (c.rises.ensures.1 (subst (λ (rs : List DumpRoot). IsAboveRoots (map root_shown rs) c.in_ok-name.name) (sym c.deref.ensures.value) above)) c.if-not-rises.true)

pub returns-then-id-parts-clause-err : goal.returns-then-id-parts-clause-err
returns-then-id-parts-clause-err c =
    let parts = c.args.parts.now in
    let opened = c.is_open.ensures.0 c.if-not-is_open.false in
    root_over parts.ended (dump_in parts).roots (dump_in parts).objects parts.next c.in_ok-name.id (words_in c.args.words) c.in_ok-name.name c.in_ok-name.ensures.ok opened.0 opened.1
    (subst (λ (rs : List DumpRoot). IsAboveRoots (map root_shown rs) c.in_ok-name.name) c.deref.ensures.value (c.rises.ensures.0 c.if-not-rises.false)) c.requires.last
    (λ lt few. let le = c.if-id-parts.true in omega (arith, lt, le))

pub returns-then-len-ge-ROOTS-clause-err : goal.returns-then-len-ge-ROOTS-clause-err
returns-then-len-ge-ROOTS-clause-err c =
    let parts = c.args.parts.now in
    let opened = c.is_open.ensures.0 c.if-not-is_open.false in
    root_over parts.ended (dump_in parts).roots (dump_in parts).objects parts.next c.in_ok-name.id (words_in c.args.words) c.in_ok-name.name c.in_ok-name.ensures.ok opened.0 opened.1
    (subst (λ (rs : List DumpRoot). IsAboveRoots (map root_shown rs) c.in_ok-name.name) c.deref.ensures.value (c.rises.ensures.0 c.if-not-rises.false)) c.requires.last
    (λ lt few. let le = c.if-len-ge-ROOTS.true in let long = roots_long parts.roots.items in omega (arith, few, le, long, c.len.ensures))

pub returns-clause-ok : goal.returns-clause-ok
returns-clause-ok c =
    let parts = c.args.parts.now in
    let opened = c.is_open.ensures.0 c.if-not-is_open.false in
    let long = roots_long parts.roots.items in
    let few : length (map root_shown parts.roots.items) < 4096 = (let lt = c.if-len-ge-ROOTS.false in omega (arith, lt, long, c.len.ensures)) in
    root_pushed parts.ended parts.roots.items c.push.new.self.items (record { name = c.in_ok-name.name; id = c.in_ok-name.id }) (dump_in parts).objects parts.next (before_in parts) (root_at (words_in c.args.words)) c.in_ok-push.ensures.items
    (root_put parts.ended (dump_in parts).roots (dump_in parts).objects parts.next c.in_ok-name.id (words_in c.args.words) c.in_ok-name.name c.in_ok-name.ensures.ok opened.0 opened.1
    (subst (λ (rs : List DumpRoot). IsAboveRoots (map root_shown rs) c.in_ok-name.name) c.deref.ensures.value (c.rises.ensures.0 c.if-not-rises.false)) c.requires.last c.if-id-parts.false few)
