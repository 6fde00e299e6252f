use Rattle.std.proofs.Common.{◌+◌, ℕ, List, Some, None, drop, map, ap, sym, subst, ◌∙◌}
use Rattle.pm_trains.specs.Trains.{Trains, train_of}
use Rattle.pm_reopen.proofs.RebuildLemmas.Ends.{drop_here}
use Rattle.pm_reopen.specs.Rebuild.Lists.{placed_of}
use Rattle.pm_reopen.specs.Rebuild.Trains.{with_kept, with_all_kept, HaveOwnNumbers, AreNew}
use Rattle.pm_reopen.proofs.RebuildLemmas.TrainLaws.{places, places_apart, all_in, all_still_new, none_yet, walked_to_end}
use Rattle.pm_reopen.proofs.rebuild.trains.make_trains.Goals as goal

pub loop-one-init : goal.loop-one-init
loop-one-init c = record {
  so_far = ap (with_all_kept None (places c.args.cars.now)) c.in_ok-trains.ensures.trains;
  has = λ some. cc;
  apart = places_apart (map placed_of c.args.cars.now) c.requires;
  are_new = subst (λ (t : Trains). AreNew t.trains (places c.args.cars.now)) (sym c.in_ok-trains.ensures.trains) (none_yet (places c.args.cars.now));
}

pub put_car-requires-clause-is_new : goal.put_car-requires-clause-is_new
put_car-requires-clause-is_new c =
    let l = c.loop-one in
    let here = ap places (drop_here c.args.cars.now l.one-index c.one-item.result c.loop-one-test.true c.one-item.is) in
    ap (train_of l.trains.trains) c.number.ensures ∙ (subst (AreNew l.trains.trains) here l.invariant.are_new).0

pub loop-one-preserved : goal.loop-one-preserved
loop-one-preserved c =
    let l = c.loop-one in
    let cars = c.args.cars.now in
    let one = c.one-item.result in
    let rest = places (drop (l.one-index + 1) cars) in
    let here = ap places (drop_here cars l.one-index one c.loop-one-test.true c.one-item.is) in
    let apart = subst HaveOwnNumbers here l.invariant.apart in
    let new = subst (AreNew l.trains.trains) here l.invariant.are_new in
    let put = c.in_ok-put_car.ensures.trains ∙ ap (λ (n : ℕ). with_kept l.last (one.0, n) l.trains) c.number.ensures in
    record {
      so_far = ap (with_all_kept (Some one.0) rest) put ∙ ap (λ (left : List (ℕ × ℕ)). with_all_kept l.last left l.trains) (sym here) ∙ l.invariant.so_far;
      has = λ _. c.in_ok-put_car.ensures.has;
      apart = apart.1;
      are_new = subst (λ (t : Trains). AreNew t.trains rest) (sym put) (all_still_new l.last (one.0, one.1.car.number) l.trains rest apart.0 new.1);
    }

pub returns : goal.returns
returns c =
    let l = c.loop-one in
    let low = c.loop-one-test.false in
    c.in_ok-close.ensures ∙ sym (walked_to_end c.args.cars.now l.one-index l.last l.trains low) ∙ l.invariant.so_far ∙ all_in (places c.args.cars.now)
