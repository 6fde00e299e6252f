use Rattle.std.proofs.Common.{◌≤◌, ℕ, List, sym, ap, ◌∙◌, arith, subst}
use Rattle.std.proofs.lemmas.Result.{err_from_is_err_and}
use Rattle.pm_types.specs.declared.limits.TheConstants.{PAGE_BYTES}
use Rattle.pm_image.specs.declared.catalog_kind.TheConstants.{ENTRIES}
use Rattle.pm_image.specs.declared.catalog.CatEntry.{CatEntry}
use Rattle.pm_image.specs.CatalogPages.{catalog_used}
use Rattle.pm_graphs.specs.Linking.{linked_by}
use Rattle.pm_image.specs.declared.catalog.CatalogPage.{CatalogPage}
use Rattle.pm_image.specs.Graphs.{root_sites}
use Rattle.pm_graphs.proofs.Lists.{drop_here, all_at}
use Rattle.pm_graphs.proofs.Walks.{walk_on, walk_stop, walk_done, listed, listed_one, no_size, listed_step, listed_none, led_place}
use Rattle.pm_graphs.proofs.links.check_catalog.Goals as goal

pub check_roots-requires : goal.check_roots-requires
check_roots-requires c =
    let l = c.loop-page in
    let fits = all_at (λ (page : ℕ × CatalogPage). catalog_used page.1.entries ≤ PAGE_BYTES) c.args.catalog.now l.page-index c.page-item.result c.loop-page-test.true c.page-item.is c.requires in
    subst (λ (es : List CatEntry). catalog_used es ≤ PAGE_BYTES) (sym c.as_slice.ensures) fits

pub returns-in_err-check_roots : goal.returns-in_err-check_roots
returns-in_err-check_roots c =
    let l = c.loop-page in
    let one = (λ (page : ℕ × CatalogPage). root_sites page.0 ENTRIES page.1.entries) in
    let p = err_from_is_err_and c.from_residual.result c.from_residual.ensures.1 in
    rw (p.1, p.2) (sym (walk_stop c.args.leads.now (listed one) (listed_one one) no_size (listed_step one) (listed_none one) c.args.catalog.now 0 0 l.page-index l.invariant.so_far
    c.page-item.result (led_place c.in_err-check_roots.field-0.0) (drop_here c.args.catalog.now l.page-index c.page-item.result c.loop-page-test.true c.page-item.is) (ap (λ (es : List CatEntry). linked_by c.args.leads.now (root_sites c.page-item.result.0 ENTRIES es)) (sym c.as_slice.ensures) ∙ sym c.in_err-check_roots.ensures)))

pub loop-page-preserved : goal.loop-page-preserved
loop-page-preserved c =
    let l = c.loop-page in
    let one = (λ (page : ℕ × CatalogPage). root_sites page.0 ENTRIES page.1.entries) in
    record {
      so_far = walk_on c.args.leads.now (listed one) (listed_one one) no_size (listed_step one) (listed_none one) c.args.catalog.now 0 0 l.page-index l.invariant.so_far
          c.page-item.result (drop_here c.args.catalog.now l.page-index c.page-item.result c.loop-page-test.true c.page-item.is) (ap (λ (es : List CatEntry). linked_by c.args.leads.now (root_sites c.page-item.result.0 ENTRIES es)) (sym c.as_slice.ensures) ∙ sym c.in_ok-check_roots.ensures);
    }

pub returns : goal.returns
returns c =
    let l = c.loop-page in
    let one = (λ (page : ℕ × CatalogPage). root_sites page.0 ENTRIES page.1.entries) in
    let low = c.loop-page-test.false in
    sym (walk_done c.args.leads.now (listed one) (listed_one one) no_size (listed_step one) (listed_none one) c.args.catalog.now 0 0 l.page-index l.invariant.so_far (omega arith))
