use Rattle.std.proofs.Common.{◌≡◌, ◌+◌, ◌++◌, ℕ, List, Ok, drop, take, sym, ap, subst, ◌∙◌, arith}
use Rattle.std.specs.List.{AllByRecursion}
use Rattle.std.specs.FinSet as set
use Rattle.std.proofs.lemmas.Result.{err_from_is_err_and}
use Rattle.pm_image.specs.declared.catalog.CatEntry.{CatEntry}
use Rattle.pm_image.specs.declared.settled.KeptPage.{KeptPage}
use Rattle.pm_image.specs.Graphs.{Catalog, cars_from, entries_of}
use Rattle.pm_shadow.specs.State.{State}
use Rattle.pm_graphs.specs.Reading.{Fails, store_of, IsCar, IsEntryThere, AreRead, LeadsOn}
use Rattle.pm_graphs.proofs.Lists.{drop_here, first_all, second_all}
use Rattle.pm_graphs.proofs.ChainLaws.{taken_more, entries_more, reads_done}
use Rattle.pm_graphs.proofs.LookedLaws.{looked_then}
use Rattle.pm_graphs.proofs.ReadLaws.{pages_on, pages_end, pages_done}
use Rattle.pm_types.proofs.Fronts.{with_front}
use Rattle.pm_graphs.proofs.reading.read_cars.Goals as goal

pub read_listed-requires-clause-pages : goal.read_listed-requires-clause-pages
read_listed-requires-clause-pages g c =
    let l = c.loop-page in
    let page = c.page-item.result in
    let count = ap (λ (s : State). s.count) l.invariant.looked.same in
    let P : ℕ → CatEntry → Type 0 = IsEntryThere in
    let there = subst (λ (ps : Catalog). AllByRecursion (P c.args.pages.now.count) (entries_of ps)) (drop_here c.args.catalog.now l.page-index page c.loop-page-test.true c.page-item.is) l.invariant.there in
    let these = first_all (P c.args.pages.now.count) page.1.entries (entries_of (drop (l.page-index + 1) c.args.catalog.now)) there in
    subst (λ (n : ℕ). AllByRecursion (P n) c.as_slice-entries.result.now) (sym count) (subst (AllByRecursion (P c.args.pages.now.count)) (sym c.as_slice-entries.ensures) these)

pub read_listed-requires-clause-cars : goal.read_listed-requires-clause-cars
read_listed-requires-clause-cars g c =
    let l = c.loop-page in
    subst (λ (n : ℕ). AllByRecursion (IsCar n c.args.next) l.cars) (sym (ap (λ (s : State). s.count) l.invariant.looked.same)) l.invariant.cars

pub returns-in_err-read_listed-clause-gives : goal.returns-in_err-read_listed-clause-gives
returns-in_err-read_listed-clause-gives g c bytes told =
    let l = c.loop-page in
    let page = c.page-item.result in
    let store = store_of c.args.pages.now.count bytes in
    let rest = entries_of (drop (l.page-index + 1) c.args.catalog.now) in
    let fault = c.in_err-read_listed.field-0.0 in
    let given = subst (λ (es : List CatEntry). Fails {X = List KeptPage} fault (with_front l.cars (cars_from c.args.most c.args.next store l.met (es ++ rest)))) c.as_slice-entries.ensures
    (subst (λ (n : ℕ). Fails {X = List KeptPage} fault (with_front l.cars (cars_from c.args.most c.args.next (store_of n bytes) l.met (c.as_slice-entries.result.now ++ rest)))) (ap (λ (s : State). s.count) l.invariant.looked.same)
    (c.in_err-read_listed.ensures.gives bytes (l.invariant.looked.looks.told ∙ told) rest)) in
    let p = err_from_is_err_and c.from_residual.result c.from_residual.ensures.1 in
    rw (p.1, p.2) (pages_end c.args.most c.args.next store l.met c.args.catalog.now l.page-index page l.cars fault (cars_from c.args.most c.args.next store set.empty (entries_of c.args.catalog.now))
    (drop_here c.args.catalog.now l.page-index page c.loop-page-test.true c.page-item.is) given (l.invariant.so_far bytes told))

pub loop-page-preserved : goal.loop-page-preserved
loop-page-preserved g c =
    let l = c.loop-page in
    let page = c.page-item.result in
    let count = ap (λ (s : State). s.count) l.invariant.looked.same in
    let here = drop_here c.args.catalog.now l.page-index page c.loop-page-test.true c.page-item.is in
    let rest = entries_of (drop (l.page-index + 1) c.args.catalog.now) in
    let done = c.read_listed.new.cars in
    let after = c.read_listed.new.met in
    record {
      looked = looked_then c.args.pages.now l.pages c.read_listed.new.pages l.invariant.looked c.in_ok-read_listed.ensures.looked;
      counted = c.in_ok-read_listed.ensures.counts ∙ l.invariant.counted;
      so_far = λ bytes told.
          let store = store_of c.args.pages.now.count bytes in
          let given = subst (λ (es : List CatEntry). with_front done (cars_from c.args.most c.args.next store after rest) ≡ with_front l.cars (cars_from c.args.most c.args.next store l.met (es ++ rest))) c.as_slice-entries.ensures
          (subst (λ (n : ℕ). with_front done (cars_from c.args.most c.args.next (store_of n bytes) after rest) ≡ with_front l.cars (cars_from c.args.most c.args.next (store_of n bytes) l.met (c.as_slice-entries.result.now ++ rest))) count
          (c.in_ok-read_listed.ensures.gives bytes (l.invariant.looked.looks.told ∙ told) rest)) in
          pages_on c.args.most c.args.next store l.met after c.args.catalog.now l.page-index page l.cars done (cars_from c.args.most c.args.next store set.empty (entries_of c.args.catalog.now)) here given (l.invariant.so_far bytes told);
      reads =
          let so_far = c.in_ok-read_listed.ensures.reads set.empty (entries_of (take l.page-index c.args.catalog.now)) l.invariant.reads in
          let es = ap (λ (es : List CatEntry). entries_of (take l.page-index c.args.catalog.now) ++ es) c.as_slice-entries.ensures ∙ sym (entries_more (take l.page-index c.args.catalog.now) page) ∙ ap entries_of (sym (taken_more c.args.catalog.now l.page-index page c.loop-page-test.true c.page-item.is)) in
          subst (λ (es : List CatEntry). LeadsOn c.args.most c.args.next set.empty es done after) es so_far;
      there = second_all (IsEntryThere c.args.pages.now.count) page.1.entries rest (subst (λ (ps : Catalog). AllByRecursion (IsEntryThere c.args.pages.now.count) (entries_of ps)) here l.invariant.there);
      cars = subst (λ (n : ℕ). AllByRecursion (IsCar n c.args.next) done) count c.in_ok-read_listed.ensures.cars;
    }

pub returns-clause-gives : goal.returns-clause-gives
returns-clause-gives g c bytes told =
    let l = c.loop-page in
    let store = store_of c.args.pages.now.count bytes in
    let low = c.loop-page-test.false in
    pages_done c.args.most c.args.next store l.met c.args.catalog.now l.page-index l.cars (cars_from c.args.most c.args.next store set.empty (entries_of c.args.catalog.now)) (omega arith) (l.invariant.so_far bytes told)
    ∙ ap (λ (cars : List KeptPage). Ok cars) (sym c.in_ok-mapped.ensures)

pub returns-clause-cars : goal.returns-clause-cars
returns-clause-cars g c = subst (AllByRecursion (IsCar c.args.pages.now.count c.args.next)) (sym c.in_ok-mapped.ensures) c.loop-page.invariant.cars

pub returns-clause-reads : goal.returns-clause-reads
returns-clause-reads g c =
    let l = c.loop-page in
    let low = c.loop-page-test.false in
    subst (λ (cars : List KeptPage). AreRead c.args.most c.args.next set.empty (entries_of c.args.catalog.now) cars) (sym c.in_ok-mapped.ensures)
    (reads_done c.args.most c.args.next set.empty l.met c.args.catalog.now l.page-index l.cars (omega arith) l.invariant.reads)
