use Rattle.std.proofs.Common.{get_or, refl, subst, ◌∙◌, ◌<◌, ◌≤◌}
use Rattle.pm_space.specs.Shown.{view}
use Rattle.pm_young.proofs.Holding.{held_all, held_more, held_none}
use Rattle.pm_young.proofs.Linked.{keeps_still, stands_there}
use Rattle.pm_young.proofs.Rows.{held_rows_all, held_rows_next}
use Rattle.pm_young.proofs.escape.hold_all.Goals as goal

pub loop-index-init : goal.loop-index-init
loop-index-init g c = record {
  so_far = held_none (view c.args.space.now.parts) c.args.nursery.now.registers c.args.ids.now;
  rows = refl;
  rest = record { frozen = refl; place = refl };
}

pub hold_one-requires : goal.hold_one-requires
hold_one-requires g c = record {
  place =
      keeps_still (view c.args.space.now.parts) (view c.loop-index.space.parts) c.loop-index.invariant.so_far.keeps (get_or c.args.ids.now c.loop-index.index 0) _
      (stands_there (view c.args.space.now.parts) c.args.ids.now c.args.places.now c.loop-index.index _ c.requires.places c.requires.as_many
      (subst (λ n. c.loop-index.index < n) c.requires.as_many c.loop-index-test.true));
}

pub loop-index-preserved : goal.loop-index-preserved
loop-index-preserved g c = record {
  so_far =
      held_more (view c.args.space.now.parts) (view c.loop-index.space.parts) (view c.hold_one.new.space.parts) c.args.nursery.now.registers c.args.ids.now c.loop-index.index
      (subst (λ n. c.loop-index.index < n) c.requires.as_many c.loop-index-test.true) c.in_ok-hold_one.ensures.worlds c.hold_one.ensures.objects c.hold_one.ensures.next c.loop-index.invariant.so_far;
  rows =
      held_rows_next (view c.args.space.now.parts) (view c.loop-index.space.parts) (view c.hold_one.new.space.parts) c.args.nursery.now.registers c.args.ids.now c.args.places.now c.loop-index.index _
      (subst (λ n. c.loop-index.index < n) c.requires.as_many c.loop-index-test.true) c.requires.as_many c.loop-index.invariant.rows c.in_ok-hold_one.ensures.row;
  rest = record { frozen = c.hold_one.ensures.rest.frozen ∙ c.loop-index.invariant.rest.frozen; place = c.hold_one.ensures.rest.place ∙ c.loop-index.invariant.rest.place };
}

pub returns-clause-worlds : goal.returns-clause-worlds
returns-clause-worlds g c = held_all (view c.args.space.now.parts) (view c.loop-index.space.parts) c.args.nursery.now.registers c.args.ids.now c.loop-index.index
    (subst (λ n. n ≤ c.loop-index.index) c.requires.as_many c.loop-index-test.false) c.loop-index.invariant.so_far

pub returns-clause-rows : goal.returns-clause-rows
returns-clause-rows g c =
    held_rows_all (view c.args.space.now.parts) (view c.loop-index.space.parts) c.args.nursery.now.registers c.args.ids.now c.args.places.now c.loop-index.index
    (subst (λ n. n ≤ c.loop-index.index) c.requires.as_many c.loop-index-test.false) c.requires.as_many c.loop-index.invariant.rows
