use Rattle.std.proofs.Common.{ap, ◌∙◌, true, cond}
use Rattle.std.specs.BTreeMap.{is_at}
use Rattle.pm_nursery.specs.Turned.{holder_cmp}
use Rattle.pm_nursery.proofs.Together.{stays_out}
use Rattle.pm_nursery.proofs.index.exchange.Goals as goal

pub add-requires-clause-new : goal.add-requires-clause-new
add-requires-clause-new c = c.take.ensures.taken.each (c.args.new, c.args.place) ∙ stays_out (is_at (holder_cmp (c.args.old, c.args.place)) (c.args.new, c.args.place)) _ c.requires.new

pub returns : goal.returns
returns c = record {
  rise = c.add.ensures.rise;
  each = λ q. c.add.ensures.each q ∙ ap (cond (is_at (holder_cmp (c.args.new, c.args.place)) q) true) (c.take.ensures.taken.each q);
}
