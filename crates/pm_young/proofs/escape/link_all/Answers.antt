use Rattle.std.proofs.Common.{refl, ◌∙◌}
use Rattle.pm_space.specs.Shown.{view}
use Rattle.pm_young.specs.Rows.{placed_among}
use Rattle.pm_young.proofs.Linked.{linking_all, linking_more, linking_none, places_still, stands_blank}
use Rattle.pm_young.proofs.Rows.{all_links_all, all_links_next}
use Rattle.pm_young.proofs.escape.link_all.Goals as goal

pub loop-index-init : goal.loop-index-init
loop-index-init g c = record {
  so_far = linking_none (view c.args.space.now.parts) c.args.nursery.now.objects c.args.ids.now;
  rows = refl;
  rest = record { frozen = refl; place = refl };
}

pub link_one-requires-clause-places : goal.link_one-requires-clause-places
link_one-requires-clause-places g c = places_still (view c.args.space.now.parts) (view c.loop-index.space.parts) c.args.ids.now c.args.places.now c.loop-index.invariant.so_far.keeps c.requires.places

pub link_one-requires-clause-stands : goal.link_one-requires-clause-stands
link_one-requires-clause-stands g c =
    stands_blank (view c.args.space.now.parts) (view c.loop-index.space.parts) c.args.nursery.now.objects c.args.ids.now c.loop-index.index c.loop-index-test.true c.requires.ascending c.requires.young c.loop-index.invariant.so_far c.requires.stands

pub loop-index-preserved : goal.loop-index-preserved
loop-index-preserved g c = record {
  so_far =
      linking_more (view c.args.space.now.parts) (view c.loop-index.space.parts) c.args.nursery.now.objects c.args.ids.now c.loop-index.index c.loop-index-test.true c.requires.ascending c.requires.young c.loop-index.invariant.so_far
      (view c.link_one.new.space.parts) c.in_ok-link_one.ensures.worlds c.link_one.ensures.objects c.link_one.ensures.next;
  rows =
      all_links_next (view c.args.space.now.parts) (view c.loop-index.space.parts) (view c.link_one.new.space.parts) c.args.nursery.now.objects (placed_among c.args.ids.now c.args.places.now) c.args.ids.now c.args.places.now c.loop-index.index _
      c.loop-index-test.true c.requires.as_many c.loop-index.invariant.rows c.in_ok-link_one.ensures.row;
  rest = record { frozen = c.link_one.ensures.rest.frozen ∙ c.loop-index.invariant.rest.frozen; place = c.link_one.ensures.rest.place ∙ c.loop-index.invariant.rest.place };
}

pub returns-clause-worlds : goal.returns-clause-worlds
returns-clause-worlds g c = linking_all (view c.args.space.now.parts) (view c.loop-index.space.parts) c.args.nursery.now.objects c.args.ids.now c.loop-index.index c.loop-index-test.false c.loop-index.invariant.so_far

pub returns-clause-rows : goal.returns-clause-rows
returns-clause-rows g c =
    all_links_all (view c.args.space.now.parts) (view c.loop-index.space.parts) c.args.nursery.now.objects (placed_among c.args.ids.now c.args.places.now) c.args.ids.now c.args.places.now c.loop-index.index
    c.loop-index-test.false c.requires.as_many c.loop-index.invariant.rows
