use Rattle.std.proofs.Common.{rules, refl, ◌≡◌, ◌<◌, ◌≤◌, List, true, length, get_or, Option, Some, None, sym, ap, ◌∙◌, subst}
use Rattle.std.specs.Prelude.{IfOk, IfSome, IsSome, OnErr, option_map}
use Rattle.std.specs.List.{AllByRecursion, slice_get}
use Rattle.pm_image.specs.declared.settled.KeptPage.{KeptPage}
use Rattle.pm_view.specs.View.{Cars}
use Rattle.pm_saving.specs.Progress.{catalog_left, image_at, image_of}
use Rattle.pm_saving.specs.Paging.{NextPage as SeenPage, CarPage, next_after, next_page, part_before}
use Rattle.pm_saving.specs.Tied.{HasPage}
use Rattle.pm_save.specs.declared.progress.place.PlacedCar.{PlacedCar}
use Rattle.pm_save.specs.declared.progress.place.InProgress.{InProgress}
use Rattle.pm_save.specs.declared.progress.next.Ready.{Ready}
use Rattle.pm_save.specs.Progress.Seen.{car_seen, progress_seen}
use Rattle.pm_save.specs.Progress.Kept.{IsKept, IsPlaced, is_open}
use Rattle.pm_save.specs.Progress.Next.{IsFound, next_seen}
use Rattle.pm_save.proofs.ProgressLemmas.Slices.{got, got_none, on_err}
use Rattle.pm_save.proofs.ProgressLemmas.Placed.{all_before, all_placed, first_found, none_open}
use Rattle.pm_save.proofs.progress.next.ready_next.Goals as goal

-- a car is next
car_next : (settled : List KeptPage) (cars : Cars) (it : InProgress) (items : List PlacedCar) (one : PlacedCar) → IsKept settled it → IsFound it → it.placed < length items → one ≡ get_or items it.placed one → items ≡ it.cars.items
    → next_page cars (progress_seen settled it) ≡ Some (CarPage (image_of cars (car_seen settled one)))
car_next settled cars it items one kept found low is same =
    let at : slice_get it.cars.items it.placed ≡ Some one = ap (λ (items : List PlacedCar). slice_get items it.placed) (sym same) ∙ got items it.placed one low is in
    let here : is_open one.place ≡ true = subst (λ (one : Option PlacedCar). IfSome one (λ (one : PlacedCar). is_open one.place ≡ true)) at found.here in
    ap (next_after cars (progress_seen settled it)) (first_found settled it.cars.items it.placed one kept.within found.before at here)

-- none is
no_car : (settled : List KeptPage) (cars : Cars) (it : InProgress) (items : List PlacedCar) → IsKept settled it → IsFound it → length items ≤ it.placed → items ≡ it.cars.items
    → AllByRecursion IsPlaced it.cars.items × (next_page cars (progress_seen settled it) ≡ part_before (catalog_left (progress_seen settled it)) (progress_seen settled it))
no_car settled cars it items kept found past same =
    let at : slice_get it.cars.items it.placed ≡ None = ap (λ (items : List PlacedCar). slice_get items it.placed) (sym same) ∙ got_none items it.placed past in
    let placed = all_before it.cars.items it.placed found.before at in
    (placed, ap (next_after cars (progress_seen settled it)) (none_open (progress_seen settled it).cars (all_placed settled it.cars.items kept.within placed)))

pub car_page-requires : goal.car_page-requires
car_page-requires g c =
    let it = c.args.it.now in
    let settled = c.args.settled.now in
    let one = c.in-Some.one.now in
    let lookup = c.in-Some.ensures.lookup in
    let low = lookup.3.0 in
    let next = car_next settled (g.C.Frozen.cars c.args.frozen.now) it c.deref.result.now one c.requires.kept c.requires.found low lookup.1 c.deref.ensures.value in
    let may : HasPage (CarPage (image_at (g.C.Frozen.cars c.args.frozen.now) one.number)) = subst (λ (next : Option SeenPage). IfSome next HasPage) next c.requires.may in
    may

pub returns-in_ok-car_page-in-Some-clause-next : goal.returns-in_ok-car_page-in-Some-clause-next
returns-in_ok-car_page-in-Some-clause-next g c =
    let lookup = c.in-Some.ensures.lookup in
    car_next c.args.settled.now (g.C.Frozen.cars c.args.frozen.now) c.args.it.now c.deref.result.now c.in-Some.one.now c.requires.kept c.requires.found lookup.3.0 lookup.1 c.deref.ensures.value
    ∙ ap (λ next. Some (next_seen next)) (sym c.in_ok-car_page-in-Some.ensures.next)

pub part_page-requires-clause-placed : goal.part_page-requires-clause-placed
part_page-requires-clause-placed g c = let l = c.in-None.ensures.lookup in let r = c.requires in
    (no_car c.args.settled.now (g.C.Frozen.cars c.args.frozen.now) c.args.it.now c.deref.result.now c.requires.kept c.requires.found (search rules) c.deref.ensures.value).0

pub part_page-requires-clause-may : goal.part_page-requires-clause-may
part_page-requires-clause-may g c =
    let next = (no_car c.args.settled.now (g.C.Frozen.cars c.args.frozen.now) c.args.it.now c.deref.result.now c.requires.kept c.requires.found (search rules) c.deref.ensures.value).1 in
    subst (λ (next : Option SeenPage). IfSome next HasPage) next c.requires.may

pub returns-in-None-clause-next : goal.returns-in-None-clause-next
returns-in-None-clause-next g c =
    let next = (no_car c.args.settled.now (g.C.Frozen.cars c.args.frozen.now) c.args.it.now c.deref.result.now c.requires.kept c.requires.found (search rules) c.deref.ensures.value).1 in
    subst (λ (next : Option SeenPage). IfOk c.part_page.result (λ page. next ≡ option_map (λ (page : Ready). next_seen page.next) page)) (sym next) c.part_page.ensures.next

pub returns-in_err-car_page-in-Some-clause-err : goal.returns-in_err-car_page-in-Some-clause-err
returns-in_err-car_page-in-Some-clause-err g c =
    let lookup = c.in-Some.ensures.lookup in
    let next = car_next c.args.settled.now (g.C.Frozen.cars c.args.frozen.now) c.args.it.now c.deref.result.now c.in-Some.one.now c.requires.kept c.requires.found lookup.3.0 lookup.1 c.deref.ensures.value in
    on_err (IsSome (next_page (g.C.Frozen.cars c.args.frozen.now) (progress_seen c.args.settled.now c.args.it.now))) c.from_residual.result (subst (λ (next : Option SeenPage). IsSome next) (sym next) refl)

pub returns-in-None-clause-err : goal.returns-in-None-clause-err
returns-in-None-clause-err g c =
    let next = (no_car c.args.settled.now (g.C.Frozen.cars c.args.frozen.now) c.args.it.now c.deref.result.now c.requires.kept c.requires.found (search rules) c.deref.ensures.value).1 in
    subst (λ (next : Option SeenPage). OnErr c.part_page.result (IsSome next)) (sym next) c.part_page.ensures.err
