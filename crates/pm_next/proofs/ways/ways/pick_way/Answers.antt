use Rattle.std.proofs.Common.{◌≡◌, ap, subst, ◌∙◌, List, ◌∷◌, [], ℕ}
use Rattle.pm_types.specs.declared.source.RefSource.{RefSource}
use Rattle.pm_place.specs.Choosers.{IsPicked}
use Rattle.pm_view.specs.Candidates.{candidates}
use Rattle.pm_view.specs.Events.{ways_out}
use Rattle.pm_space.specs.Shown.{view}
use Rattle.pm_next.specs.Ways.Ways.{IsOnlyWay}
use Rattle.pm_next.proofs.WaysLemmas.Only.{only_is}
use Rattle.pm_next.proofs.ways.ways.pick_way.Goals as goal

pub returns-in-Some : goal.returns-in-Some
returns-in-Some g c =
    let v = view c.args.parts.now in
    let sources = c.in_ok-sources.sources.items in
    let is : IsOnlyWay v.trains.trains c.home-train.result sources c.in-Some.way = subst (λ (s : List RefSource). IsOnlyWay v.trains.trains c.home-train.result s c.in-Some.way) c.deref.ensures.value c.in-Some.ensures in
    let same : c.in-Some.way ∷ [] ≡ ways_out v c.args.at =
    only_is v c.requires.law c.home-train.result c.args.at sources c.in_ok-sources.ensures c.in-Some.way is ∙ ap (λ train. candidates v train c.args.at) c.home-train.ensures in
    subst (λ (ways : List ℕ). IsPicked g.F.Fn c.args.parts.now.place ways c.pick.result) same c.pick.ensures
