use Rattle.std.proofs.Common.{Ok, Some, sym, ap, subst, ◌∙◌}
use Rattle.std.proofs.lemmas.Result.{err_from_is_err_and}
use Rattle.pm_image.specs.declared.settled.KeptPage.{KeptPage}
use Rattle.pm_graphs.specs.declared.fault.ReadFault.{ReadFault}
use Rattle.pm_graphs.specs.Reading.{Fails, store_of, car_on, IsCar}
use Rattle.pm_graphs.proofs.PageLaws.{page_alone}
use Rattle.pm_graphs.proofs.ReadLaws.{car_kept, car_page, car_read}
use Rattle.pm_graphs.proofs.reading.read_car.Goals as goal

pub returns-in_err-read_kept-clause-gives : goal.returns-in_err-read_kept-clause-gives
returns-in_err-read_kept-clause-gives g c bytes told =
    let p = err_from_is_err_and c.from_residual.result c.from_residual.ensures.1 in
    rw (p.1, p.2) (car_kept c.args.most c.args.next (store_of c.args.pages.now.count bytes) c.args.met.now c.args.number c.args.page c.args.kept.now c.in_err-read_kept.field-0.0 (c.in_err-read_kept.ensures.gives bytes told))

pub returns-in-Err-clause-gives : goal.returns-in-Err-clause-gives
returns-in-Err-clause-gives g c bytes told =
    subst (λ (fault : ReadFault). Fails {X = KeptPage} fault (car_on c.args.most c.args.next (store_of c.args.pages.now.count bytes) c.args.met.now c.args.number c.args.page c.args.kept.now)) (sym c.on_page.ensures)
    (car_page c.args.most c.args.next (store_of c.args.pages.now.count bytes) c.args.met.now c.args.number c.args.page c.args.kept.now c.read_kept.new.buffer c.in_ok-read_kept.field-0 c.in-Err.fault
    (c.in_ok-read_kept.ensures.gives bytes told) (c.in_ok-read_kept.ensures.read bytes told) c.in-Err.ensures.exact)

pub of_page-requires-clause-has : goal.of_page-requires-clause-has
of_page-requires-clause-has g c = page_alone c.args.most c.args.next (Some c.args.number) c.args.met.now c.in-Ok.image c.requires.most c.requires.next c.in-Ok.ensures.fits

pub returns-in_ok-of_page-in-Ok-clause-gives : goal.returns-in_ok-of_page-in-Ok-clause-gives
returns-in_ok-of_page-in-Ok-clause-gives g c bytes told =
    car_read c.args.most c.args.next (store_of c.args.pages.now.count bytes) c.args.met.now c.args.number c.args.page c.args.kept.now c.read_kept.new.buffer c.in_ok-read_kept.field-0 c.in-Ok.image
    (c.in_ok-read_kept.ensures.gives bytes told) (c.in_ok-read_kept.ensures.read bytes told) c.in-Ok.ensures.exact
    ∙ ap Ok (sym c.in_ok-of_page-in-Ok.ensures)

pub returns-in_ok-of_page-in-Ok-clause-car : goal.returns-in_ok-of_page-in-Ok-clause-car
returns-in_ok-of_page-in-Ok-clause-car g c =
    subst (IsCar c.args.pages.now.count c.args.next) (sym c.in_ok-of_page-in-Ok.ensures)
    (record { there = c.requires.page; most = c.args.most; few = c.requires.most; met = c.args.met.now; number = c.args.number; has = c.in-Ok.ensures.fits })
