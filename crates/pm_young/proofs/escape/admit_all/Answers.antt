use Rattle.std.proofs.Common.{List, ℕ, length, take, get_or, refl, ap, sym, subst, ◌∙◌, append-nil, arith}
use Rattle.std.proofs.lemmas.Grind.{common_steps}
use Rattle.pm_view.specs.View.{SpaceView}
use Rattle.pm_space.specs.Shown.{view}
use Rattle.pm_young.specs.Bringing.{Enters, EntersPart}
use Rattle.pm_young.proofs.Admitted.{adds_none, admitted_all, admitted_rows, admitting_more, admitting_none, may_come_next, on_err}
use Rattle.pm_young.proofs.Listed.{among_here}
use Rattle.pm_young.proofs.escape.admit_all.Goals as goal

pub returns-in_err-places-clause-part : goal.returns-in_err-places-clause-part
returns-in_err-places-clause-part g c =
    let v = view c.args.space.now.parts in
    let part : EntersPart v v c.args.entered.now.items c.reserve.new.self.items c.args.ids.now = (0, record { entered = c.reserve.ensures.items ∙ sym (append-nil c.args.entered.now.items); adds = adds_none v v refl }) in
    on_err c.from_residual-in_err-places.result part

pub loop-id-init : goal.loop-id-init
loop-id-init g c = record {
  so_far =
      admitting_none (view c.args.space.now.parts) (view c.args.space.now.parts) c.args.nursery.now.objects c.args.ids.now c.args.entered.now.items c.reserve.new.self.items c.in_ok-places.places.items
      refl c.in_ok-places.ensures.items c.reserve.ensures.items;
  rest = record { frozen = refl; place = refl };
  room = let enough = c.in_ok-reserve.ensures.ok in let same = ap (λ (xs : List ℕ). length xs) c.reserve.ensures.items in grind (arith, common_steps, enough, same);
  place_room = c.in_ok-places.ensures.capacity;
}

pub admit_one-requires-clause-young : goal.admit_one-requires-clause-young
admit_one-requires-clause-young g c = c.requires.young (get_or c.args.ids.now c.loop-id.id-index 0) (among_here c.args.ids.now c.loop-id.id-index c.loop-id-test.true)

pub admit_one-requires-clause-may : goal.admit_one-requires-clause-may
admit_one-requires-clause-may g c =
    may_come_next (view c.args.space.now.parts) (view c.loop-id.space.parts) c.args.nursery.now.objects c.args.ids.now c.args.entered.now.items c.loop-id.entered.items c.loop-id.places.items c.loop-id.id-index c.loop-id-test.true
    c.requires.ascending c.requires.may c.loop-id.invariant.so_far

pub returns-in_err-place-clause-part : goal.returns-in_err-place-clause-part
returns-in_err-place-clause-part g c =
    let v = view c.args.space.now.parts in
    let part : EntersPart v (view c.admit_one.new.space.parts) c.args.entered.now.items c.loop-id.entered.items c.args.ids.now =
    (c.loop-id.id-index, subst (λ (x : SpaceView). Enters v x c.args.entered.now.items c.loop-id.entered.items (take c.loop-id.id-index c.args.ids.now)) (sym c.in_err-place.ensures.err) c.loop-id.invariant.so_far.entered) in
    on_err c.from_residual-in_err-place.result part

pub loop-id-preserved : goal.loop-id-preserved
loop-id-preserved g c = record {
  so_far =
      admitting_more (view c.args.space.now.parts) (view c.loop-id.space.parts) (view c.admit_one.new.space.parts) c.args.nursery.now.objects c.args.ids.now c.args.entered.now.items c.loop-id.entered.items c.push_reserved.new.self.items
      c.loop-id.places.items c.push_reserved-in-loop-id.new.self.items c.loop-id.id-index c.loop-id-test.true c.in_ok-place.place c.in_ok-place.ensures.objects c.admit_one.ensures.next c.in_ok-place.ensures.worlds c.in_ok-place.ensures.row
      (c.requires.young (get_or c.args.ids.now c.loop-id.id-index 0) (among_here c.args.ids.now c.loop-id.id-index c.loop-id-test.true)) c.requires.ascending
      c.push_reserved.ensures.items c.push_reserved-in-loop-id.ensures.items c.loop-id.invariant.so_far;
  rest = record { frozen = c.admit_one.ensures.rest.frozen ∙ c.loop-id.invariant.rest.frozen; place = c.admit_one.ensures.rest.place ∙ c.loop-id.invariant.rest.place };
  room = let was = c.loop-id.invariant.room in let same = c.push_reserved.ensures.capacity in grind (arith, was, same);
  place_room = let was = c.loop-id.invariant.place_room in let same = c.push_reserved-in-loop-id.ensures.capacity in grind (arith, was, same);
}

pub returns-clause-worlds : goal.returns-clause-worlds
returns-clause-worlds g c =
    admitted_all (view c.args.space.now.parts) (view c.loop-id.space.parts) c.args.nursery.now.objects c.args.ids.now c.args.entered.now.items c.loop-id.entered.items c.loop-id.places.items c.loop-id.id-index c.loop-id-test.false c.loop-id.invariant.so_far

pub returns-clause-rows : goal.returns-clause-rows
returns-clause-rows g c =
    admitted_rows (view c.args.space.now.parts) (view c.loop-id.space.parts) c.args.nursery.now.objects c.args.ids.now c.args.entered.now.items c.loop-id.entered.items c.loop-id.places.items c.loop-id.id-index c.loop-id-test.false c.loop-id.invariant.so_far
