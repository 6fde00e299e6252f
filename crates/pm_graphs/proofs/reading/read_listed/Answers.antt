use Rattle.std.proofs.Common.{◌≡◌, ◌+◌, ◌++◌, [], ◌∷◌, ℕ, List, drop, take, append_assoc, Option, Ok, sym, ap, subst, ◌∙◌, arith}
use Rattle.std.specs.List.{AllByRecursion}
use Rattle.std.specs.Prelude.{IfSome}
use Rattle.std.proofs.lemmas.Result.{err_from_is_err_and}
use Rattle.pm_image.specs.declared.catalog.CatEntry.{CatEntry}
use Rattle.pm_image.specs.CarPages.{Numbers}
use Rattle.pm_graphs.proofs.ChainLaws.{leads_more, taken_more}
use Rattle.pm_image.specs.declared.settled.KeptPage.{KeptPage}
use Rattle.pm_image.specs.Graphs.{cars_from}
use Rattle.pm_shadow.specs.State.{State}
use Rattle.pm_graphs.specs.Reading.{Fails, store_of, entry_car, car_list, with_car, IsCar, LeadsOn}
use Rattle.pm_graphs.proofs.Lists.{drop_here, all_both, all_listed}
use Rattle.pm_graphs.proofs.LookedLaws.{looked_then}
use Rattle.pm_graphs.proofs.ReadLaws.{cars_on, cars_end, page_done}
use Rattle.pm_types.proofs.Fronts.{with_front}
use Rattle.pm_graphs.proofs.reading.read_listed.Goals as goal

pub returns-in_err-car-clause-gives : goal.returns-in_err-car-clause-gives
returns-in_err-car-clause-gives g c bytes told rest =
    let l = c.loop-entry in
    let store = store_of c.args.pages.now.count bytes in
    let entry = c.entry-item.result in
    let fault = c.in_err-car.field-0.0 in
    let given = subst (λ (n : ℕ). Fails {X = Option KeptPage} fault (entry_car c.args.most c.args.next (store_of n bytes) l.met entry)) (ap (λ (s : State). s.count) l.invariant.looked.same)
    (c.in_err-car.ensures.gives bytes (l.invariant.looked.looks.told ∙ told)) in
    let p = err_from_is_err_and c.from_residual.result c.from_residual.ensures.1 in
    rw (p.1, p.2) (cars_end c.args.most c.args.next store l.met c.args.entries.now rest l.entry-index entry l.cars fault (with_front c.args.cars.now (cars_from c.args.most c.args.next store c.args.met.now (c.args.entries.now ++ rest)))
    (drop_here c.args.entries.now l.entry-index entry c.loop-entry-test.true c.entry-item.is) given (l.invariant.so_far bytes told rest))

pub loop-entry-preserved : goal.loop-entry-preserved
loop-entry-preserved g c =
    let l = c.loop-entry in
    let entry = c.entry-item.result in
    let count = ap (λ (s : State). s.count) l.invariant.looked.same in
    record {
      looked = looked_then c.args.pages.now l.pages c.read_entry.new.pages l.invariant.looked c.in_ok-car.ensures.looked;
      counted = c.in_ok-car.ensures.counts ∙ l.invariant.counted;
      so_far = λ bytes told rest.
          let store = store_of c.args.pages.now.count bytes in
          let given = subst (λ (n : ℕ). entry_car c.args.most c.args.next (store_of n bytes) l.met entry ≡ Ok c.in_ok-car.car) count (c.in_ok-car.ensures.gives bytes (l.invariant.looked.looks.told ∙ told)) in
          (λ i. with_front (c.in_ok-push.ensures.ok i) (cars_from c.args.most c.args.next store (c.in_ok-car.ensures.met i) (drop (l.entry-index + 1) c.args.entries.now ++ rest)))
          ∙ cars_on c.args.most c.args.next store l.met c.args.entries.now rest l.entry-index entry c.in_ok-car.car l.cars (with_front c.args.cars.now (cars_from c.args.most c.args.next store c.args.met.now (c.args.entries.now ++ rest)))
          (drop_here c.args.entries.now l.entry-index entry c.loop-entry-test.true c.entry-item.is) given (l.invariant.so_far bytes told rest);
      reads = λ begun done leads.
          let one = leads_more c.args.most c.args.next begun l.met (done ++ take l.entry-index c.args.entries.now) l.cars entry c.in_ok-car.car c.in_ok-car.ensures.reads (l.invariant.reads begun done leads) in
          let es = append_assoc done (take l.entry-index c.args.entries.now) (entry ∷ []) ∙ ap (λ (es : List CatEntry). done ++ es) (sym (taken_more c.args.entries.now l.entry-index entry c.loop-entry-test.true c.entry-item.is)) in
          let all = subst (λ (es : List CatEntry). LeadsOn c.args.most c.args.next begun es (l.cars ++ car_list c.in_ok-car.car) (with_car l.met c.in_ok-car.car)) es one in
          let pushed = subst (λ (ks : List KeptPage). LeadsOn c.args.most c.args.next begun (done ++ take (l.entry-index + 1) c.args.entries.now) ks (with_car l.met c.in_ok-car.car)) (sym c.in_ok-push.ensures.ok) all in
          subst (λ (m : Numbers). LeadsOn c.args.most c.args.next begun (done ++ take (l.entry-index + 1) c.args.entries.now) c.push.new.self m) (sym c.in_ok-car.ensures.met) pushed;
      cars =
          let P : KeptPage → Type 0 = IsCar c.args.pages.now.count c.args.next in
          let one = subst (λ (n : ℕ). IfSome c.in_ok-car.car (IsCar n c.args.next)) count c.in_ok-car.ensures.car in
          subst (λ (ks : List KeptPage). AllByRecursion P ks) (sym c.in_ok-push.ensures.ok) (all_both P l.cars (car_list c.in_ok-car.car) l.invariant.cars (all_listed P c.in_ok-car.car one));
    }

pub returns-clause-gives : goal.returns-clause-gives
returns-clause-gives g c bytes told rest =
    let l = c.loop-entry in
    let store = store_of c.args.pages.now.count bytes in
    let low = c.loop-entry-test.false in
    page_done c.args.most c.args.next store l.met c.args.entries.now rest l.entry-index l.cars (with_front c.args.cars.now (cars_from c.args.most c.args.next store c.args.met.now (c.args.entries.now ++ rest))) (omega arith) (l.invariant.so_far bytes told rest)
