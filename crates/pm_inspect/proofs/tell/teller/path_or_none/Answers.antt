use Rattle.std.proofs.Common.{inl, inr, Option, subst}
use Rattle.std.specs.Option.{IfSome, IfNone}
use Rattle.pm_space.specs.Shown.{view}
use Rattle.pm_walk.specs.Paths.Paths.{Path, IsPath, IsShortestPath}
use Rattle.pm_inspect.proofs.tell.teller.path_or_none.Goals as goal

pub returns-in_ok-text-in-Some : goal.returns-in_ok-text-in-Some
returns-in_ok-text-in-Some g c =
    let v = view c.args.space.now.parts in
    let path = c.in-Some.path in
    let leads : IsPath v c.args.id path = subst (λ (o : Option Path). IfSome o (IsPath v c.args.id)) c.in-Some.is c.in_ok-found.ensures.some in
    let shortest : IsShortestPath v c.args.id path = subst (λ (o : Option Path). IfSome o (IsShortestPath v c.args.id)) c.in-Some.is c.in_ok-found.ensures.shortest in
    inl (record {
      path = path;
      leads = (c.a_path_is_one_of_the_graph.ensures.copy v c.args.id path c.args.space.now.kept).0 leads;
      shortest = λ other held. shortest other ((c.a_path_is_one_of_the_graph.ensures.copy v c.args.id other c.args.space.now.kept).1 held);
      is = c.in_ok-text-in-Some.ensures;
    })

pub returns-in_ok-text-in-None : goal.returns-in_ok-text-in-None
returns-in_ok-text-in-None g c =
    let v = view c.args.space.now.parts in
    let none : (path : Path) → IsPath v c.args.id path → ⊥ = subst (λ (o : Option Path). IfNone o ((path : Path) → IsPath v c.args.id path → ⊥)) c.in-None.is c.in_ok-found.ensures.none in
    inr (record {
      unreached = λ reached. let led = c.a_path_is_one_of_the_graph.ensures.path v c.args.id c.args.space.now.kept reached in none led.0 led.1;
      is = c.in_ok-text-in-None.ensures;
    })
