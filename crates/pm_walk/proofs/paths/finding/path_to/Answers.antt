use Rattle.std.proofs.Common.{◌≡◌, ◌∙◌, ◌++◌, ◌∷◌, [], arith, ap, sym, subst, reverse, rules}
use Rattle.std.specs.FinMap.{len-entries}
use Rattle.pm_space.specs.Shown.{view}
use Rattle.pm_walk.specs.Paths.Paths.{Path as Says, IsPath}
use Rattle.pm_walk.proofs.PathsLemmas.Back.{named_within, path_back}
use Rattle.pm_walk.proofs.paths.finding.path_to.Goals as goal

pub nth-requires : goal.nth-requires
nth-requires g c =
    let v = view c.args.space.now.parts in
    let back = c.in_ok-first.ensures.back in
    let same : c.from.result ≡ c.in_ok-first.first.index = search rules in
    let within = named_within v c.args.walk.now c.requires.sound back.place c.in_ok-first.first back.here back.named in
    omega (arith, same, within, len-entries v.roots)

pub returns-clause-path : goal.returns-clause-path
returns-clause-path g c =
    let v = view c.args.space.now.parts in
    let first = c.in_ok-first.first in
    let steps = c.in_ok-first.steps.items in
    let back = c.in_ok-first.ensures.back in
    let name = c.nth.result.0.now in
    let number : c.from.result ≡ first.index = search rules in
    let made : Says = record { name = name; steps = reverse (steps ++ record { index = 0; id = first.id } ∷ []) } in
    let is_path : IsPath v c.args.id made =
    path_back v c.args.walk.now c.requires.sound back.place first steps c.args.id name (c.nth.result.1, c.nth.result.2) back.here back.named back.leads (rw (sym number) c.nth.ensures) in
    let turned = c.reverse.ensures.items ∙ ap reverse c.in_ok-push.ensures.items in
    let same : made ≡ c.new.result = sym (c.new.ensures ∙ λ i. record { name = c.in_ok-copy.ensures i; steps = turned i }) in
    subst (IsPath v c.args.id) same is_path
