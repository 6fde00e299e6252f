use Rattle.std.proofs.Common.{sym, ap, ◌∙◌, arith}
use Rattle.std.proofs.lemmas.Result.{err_from_is_err_and}
use Rattle.pm_image.specs.CatalogPages.{meeting, entries_at}
use Rattle.pm_image.proofs.CatalogLoop.{goes_on, ends, is_done, meets_more, ends_inside, has_room, one_more_root}
use Rattle.pm_image.proofs.catalog_reading.entries_at.Goals as goal

pub returns-in_err-entry-clause-exact : goal.returns-in_err-entry-clause-exact
returns-in_err-entry-clause-exact c =
    let p = err_from_is_err_and c.from_residual.result c.from_residual.ensures.1 in
    rw (p.1, p.2)
    (ends c.args.count c.loop.met c.args.page.now c.in_err-entry.field-0.0 c.loop.entries.items c.args.len c.loop.counter c.loop.place (entries_at c.args.count c.args.met.now c.args.page.now c.args.len c.args.start) c.loop-test.true c.in_err-entry.ensures c.loop.invariant.so_far)

pub meet-requires : goal.meet-requires
meet-requires c = one_more_root c.args.count c.loop.met c.args.page.now c.loop.place c.in_ok-entry.entry c.in_ok-entry.next (λ i. omega (arith, c.type_inv.page i)) (omega arith) c.requires.whole c.in_ok-entry.ensures c.loop.invariant.room

pub loop-preserved : goal.loop-preserved
loop-preserved c = record {
  so_far = rw (c.in_ok-push.ensures.items, c.in_ok-meet.ensures)
      (goes_on c.args.count c.loop.met c.args.page.now c.loop.entries.items c.args.len c.loop.counter c.loop.place c.in_ok-entry.next c.in_ok-entry.entry (entries_at c.args.count c.args.met.now c.args.page.now c.args.len c.args.start) c.loop-test.true c.in_ok-entry.ensures c.loop.invariant.so_far);
  met = rw (c.in_ok-push.ensures.items, c.in_ok-meet.ensures) (ap (λ m. meeting m c.in_ok-entry.entry) c.loop.invariant.met ∙ sym (meets_more c.args.met.now c.loop.entries.items c.in_ok-entry.entry));
  inside = let end = ends_inside c.args.count c.loop.met c.args.page.now c.loop.place c.in_ok-entry.entry c.in_ok-entry.next (λ i. omega (arith, c.type_inv.page i)) c.in_ok-entry.ensures in omega arith;
  room = rw c.in_ok-meet.ensures (has_room c.args.count c.loop.met c.args.page.now c.loop.place c.in_ok-entry.entry c.in_ok-entry.next (λ i. omega (arith, c.type_inv.page i)) (omega arith) c.in_ok-entry.ensures c.loop.invariant.room);
}

pub returns-clause-exact : goal.returns-clause-exact
returns-clause-exact c = rw c.from_vec.ensures (is_done c.args.count c.loop.met c.args.page.now c.loop.entries.items c.args.len c.loop.counter c.loop.place (entries_at c.args.count c.args.met.now c.args.page.now c.args.len c.args.start) c.loop-test.false c.loop.invariant.so_far)
