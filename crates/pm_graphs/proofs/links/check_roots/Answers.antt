use Rattle.std.proofs.Common.{◌+◌, ℕ, drop, sym, ap, ◌∙◌, arith}
use Rattle.std.proofs.lemmas.Result.{err_from_is_err_and}
use Rattle.pm_image.specs.declared.catalog_kind.TheConstants.{ENTRIES}
use Rattle.pm_image.specs.CatalogPages.{catalog_used, entry_size}
use Rattle.pm_image.specs.Graphs.{root_sites}
use Rattle.pm_graphs.specs.Linking.{linked_by}
use Rattle.pm_graphs.proofs.Lists.{drop_here}
use Rattle.pm_graphs.proofs.Walks.{walk_on, walk_stop, walk_done, root_at, root_step, root_none, used_entries, led_place}
use Rattle.pm_graphs.proofs.links.check_roots.Goals as goal

pub check_root-requires : goal.check_root-requires
check_root-requires c =
    let l = c.loop-entry in
    let entries = c.args.entries.now in
    let here = ap catalog_used (drop_here entries l.entry-index c.entry-item.result c.loop-entry-test.true c.entry-item.is) in
    let rest = used_entries (drop (l.entry-index + 1) entries) in
    omega (arith, here, rest, l.invariant.place, c.requires)

pub returns-in_err-check_root : goal.returns-in_err-check_root
returns-in_err-check_root c =
    let l = c.loop-entry in
    let entries = c.args.entries.now in
    let p = err_from_is_err_and c.from_residual.result c.from_residual.ensures.1 in
    rw (p.1, p.2) (sym (walk_stop c.args.leads.now (root_sites c.args.page) (root_at c.args.page) entry_size (root_step c.args.page) (root_none c.args.page) entries ENTRIES l.at l.entry-index l.invariant.so_far
    c.entry-item.result (led_place c.in_err-check_root.field-0.0) (drop_here entries l.entry-index c.entry-item.result c.loop-entry-test.true c.entry-item.is) (sym c.in_err-check_root.ensures)))

pub loop-entry-preserved : goal.loop-entry-preserved
loop-entry-preserved c =
    let l = c.loop-entry in
    let entries = c.args.entries.now in
    let entry = c.entry-item.result in
    let here = drop_here entries l.entry-index entry c.loop-entry-test.true c.entry-item.is in
    let used = ap catalog_used here in
    let size = c.entry_bytes-at.ensures in
    record {
      place = omega (arith, used, size, l.invariant.place);
      so_far = walk_on c.args.leads.now (root_sites c.args.page) (root_at c.args.page) entry_size (root_step c.args.page) (root_none c.args.page) entries ENTRIES l.at l.entry-index l.invariant.so_far entry here (sym c.in_ok-check_root.ensures)
          ∙ ap (λ (n : ℕ). linked_by c.args.leads.now (root_sites c.args.page (l.at + n) (drop (l.entry-index + 1) entries))) (sym size);
    }

pub returns : goal.returns
returns c =
    let l = c.loop-entry in
    let low = c.loop-entry-test.false in
    sym (walk_done c.args.leads.now (root_sites c.args.page) (root_at c.args.page) entry_size (root_step c.args.page) (root_none c.args.page) c.args.entries.now ENTRIES l.at l.entry-index l.invariant.so_far (omega arith))
