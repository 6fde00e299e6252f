use Rattle.std.proofs.Common.{refl, sym, ◌∙◌}
use Rattle.pm_trains.specs.Trains.{train_of}
use Rattle.pm_space.specs.Shown.{view}
use Rattle.pm_next.proofs.WaysLemmas.Links.{links_of}
use Rattle.pm_next.proofs.WaysLemmas.Choices.{none_home}
use Rattle.pm_next.proofs.ways.ways.home.Goals as goal

pub returns-then-not-has : goal.returns-then-not-has
returns-then-not-has g c =
    let p = c.args.parts.now in
    none_home (train_of p.trains.trains c.args.car) (sym (links_of (view p) p.links refl c.requires c.args.car) ∙ sym c.has.ensures ∙ c.if-not-has.true)

pub train_of-requires : goal.train_of-requires
train_of-requires g c =
    let p = c.args.parts.now in
    sym (links_of (view p) p.links refl c.requires c.args.car) ∙ sym c.has.ensures ∙ c.if-not-has.false
