use Rattle.std.proofs.Common.{refl, sym, ap, ◌∙◌}
use Rattle.pm_space.specs.Shown.{view}
use Rattle.pm_next.specs.Ways.Ways.{naming_train}
use Rattle.pm_next.proofs.WaysLemmas.Links.{links_of}
use Rattle.pm_next.proofs.WaysLemmas.Choices.{none_named}
use Rattle.pm_next.proofs.ways.ways.naming_train.Goals as goal

pub returns-then-not-has : goal.returns-then-not-has
returns-then-not-has g c =
    let p = c.args.parts.now in
    none_named p.trains.trains c.args.train c.in-Field.at c.in-Field.index (sym (links_of (view p) p.links refl c.requires c.in-Field.at.car) ∙ sym c.has.ensures ∙ c.if-not-has.true)
    ∙ sym (ap (naming_train p.trains.trains c.args.train) c.in-Field.is)

pub train_of-home-requires : goal.train_of-home-requires
train_of-home-requires g c =
    let p = c.args.parts.now in
    sym (links_of (view p) p.links refl c.requires c.in-Field.at.car) ∙ sym c.has.ensures ∙ c.if-not-has.false
