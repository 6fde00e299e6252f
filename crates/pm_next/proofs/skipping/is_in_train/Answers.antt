use Rattle.std.proofs.Common.{refl, sym, ◌∙◌}
use Rattle.pm_space.specs.Shown.{view}
use Rattle.pm_space.proofs.Aside.{found_among}
use Rattle.pm_next.proofs.WaysLemmas.Links.{links_of}
use Rattle.pm_next.proofs.Beyond.{no_links}
use Rattle.pm_next.proofs.skipping.is_in_train.Goals as goal

pub returns-then-not-has : goal.returns-then-not-has
returns-then-not-has g c =
    let p = c.args.parts.now in
    no_links p.trains.trains c.args.car c.args.train c.sound.ensures.single (sym (links_of (view p) p.links refl c.requires c.args.car) ∙ sym c.has.ensures ∙ c.if-not-has.true)

pub train_of-requires : goal.train_of-requires
train_of-requires g c =
    let p = c.args.parts.now in
    sym (links_of (view p) p.links refl c.requires c.args.car) ∙ sym c.has.ensures ∙ c.if-not-has.false

pub returns : goal.returns
returns g c =
    let p = c.args.parts.now in
    found_among p.trains.trains c.args.car c.train_of.result c.args.train c.train_of.ensures.train (λ k. c.a_car_is_found_where_it_stands.ensures p.trains c.args.car k c.sound.ensures)
