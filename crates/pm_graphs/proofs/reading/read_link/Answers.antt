use Rattle.std.proofs.Common.{ap, sym, subst, ◌∙◌}
use Rattle.std.proofs.lemmas.Result.{err_from_is_err_and}
use Rattle.pm_image.specs.declared.catalog.CatalogPage.{CatalogPage}
use Rattle.pm_shadow.specs.State.{State}
use Rattle.pm_graphs.specs.declared.fault.ReadFault.{ReadFault}
use Rattle.pm_graphs.specs.Reading.{Fails, store_of, link_at}
use Rattle.pm_graphs.proofs.ReadLaws.{link_kept, link_page, link_read}
use Rattle.pm_graphs.proofs.reading.read_link.Goals as goal

pub returns-in_err-read_kept-clause-gives : goal.returns-in_err-read_kept-clause-gives
returns-in_err-read_kept-clause-gives g c bytes told =
    let p = err_from_is_err_and c.from_residual.result c.from_residual.ensures.1 in
    rw (p.1, p.2) (link_kept (store_of c.args.pages.now.count bytes) c.args.met.now c.args.page c.args.kept.now c.in_err-read_kept.field-0.0 (c.in_err-read_kept.ensures.gives bytes told))

pub returns-in-Err-clause-gives : goal.returns-in-Err-clause-gives
returns-in-Err-clause-gives g c bytes told =
    subst (λ (fault : ReadFault). Fails {X = CatalogPage} fault (link_at (store_of c.args.pages.now.count bytes) c.args.met.now c.args.page c.args.kept.now)) (sym c.on_page.ensures)
    (link_page (store_of c.args.pages.now.count bytes) c.args.met.now c.args.page c.args.kept.now c.read_kept.new.buffer c.page_count-count.result c.in_ok-read_kept.field-0 c.in-Err.fault
    (c.in_ok-read_kept.ensures.gives bytes told) (c.in_ok-read_kept.ensures.read bytes told) (c.page_count-count.ensures ∙ ap (λ (s : State). s.count) c.in_ok-read_kept.ensures.looked.same) c.in-Err.ensures.exact)

pub returns-in-Ok-clause-gives : goal.returns-in-Ok-clause-gives
returns-in-Ok-clause-gives g c bytes told =
    link_read (store_of c.args.pages.now.count bytes) c.args.met.now c.args.page c.args.kept.now c.read_kept.new.buffer c.page_count-count.result c.in_ok-read_kept.field-0 c.in-Ok.read
    (c.in_ok-read_kept.ensures.gives bytes told) (c.in_ok-read_kept.ensures.read bytes told) (c.page_count-count.ensures ∙ ap (λ (s : State). s.count) c.in_ok-read_kept.ensures.looked.same) c.in-Ok.ensures.exact
