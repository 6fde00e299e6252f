use Rattle.std.proofs.Common.{◌≡◌, None, subst}
use Rattle.std.specs.Option.{IfSome, IfNone}
use Rattle.std.specs.FinMap.{get}
use Rattle.pm_copies.specs.Listed.{copy_in}
use Rattle.pm_space.specs.Shown.{view}
use Rattle.pm_walk.specs.Walked.{IsPlaceOf, IsBroadWalk}
use Rattle.pm_walk.proofs.PathsLemmas.Graph.{none_some}
use Rattle.pm_walk.proofs.PathsLemmas.Shortest.{shortest}
use Rattle.pm_walk.proofs.paths.finding.find_path.Goals as goal

pub returns-in-Some-clause-shortest : goal.returns-in-Some-clause-shortest
returns-in-Some-clause-shortest g c =
    let v = view c.args.space.now.parts in
    let walk = c.in_ok-walk.walk in
    let place = c.in-Some.place in
    let broad : IsBroadWalk v walk place = subst (λ o. IfSome o (IsBroadWalk v walk)) c.in-Some.is c.in_ok-walk.ensures.broad in
    let here : IsPlaceOf walk c.args.id place = subst (λ o. IfSome o (IsPlaceOf walk c.args.id)) c.in-Some.is c.in_ok-walk.ensures.found in
    let deep = c.in_ok-path-in-Some.ensures.deep in
    shortest v c.args.space.now.kept walk c.in_ok-walk.ensures.sound place broad c.args.id here deep.0 deep.2 c.in_ok-path-in-Some.path deep.1

pub returns-clause-none : goal.returns-clause-none
returns-clause-none g c =
    let v = view c.args.space.now.parts in
    let gone : get (copy_in v).heap c.args.id ≡ None = subst (λ o. IfNone o (get (copy_in v).heap c.args.id ≡ None)) c.in-None.is c.in_ok-walk.ensures.none in
    λ path is. none_some (get (copy_in v).heap c.args.id) gone (c.a_path_is_one_of_the_graph.ensures.kept v c.args.id path c.args.space.now.kept is)
