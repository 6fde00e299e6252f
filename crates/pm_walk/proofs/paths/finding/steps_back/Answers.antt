use Rattle.std.proofs.Common.{◌≡◌, suc, length, reverse, None, subst, sym, rules}
use Rattle.pm_space.specs.Shown.{view}
use Rattle.pm_walk.specs.Paths.Paths.{LeadsOn}
use Rattle.pm_walk.specs.Paths.ReadBack.{IsDeep}
use Rattle.pm_walk.proofs.PathsLemmas.Back.{none_more, one_longer, holder_there, holder_before, back_once, deep_once, deep_named}
use Rattle.pm_walk.proofs.paths.finding.steps_back.Goals as goal

pub found_at-found-requires-in-Some : goal.found_at-found-requires-in-Some
found_at-found-requires-in-Some g c = holder_there (view c.args.space.now.parts) c.args.walk.now c.requires.sound c.loop-found.at c.in-Some.from c.loop-found.found c.loop-found.invariant.here c.in-Some.is

pub loop-found-smaller : goal.loop-found-smaller
loop-found-smaller g c = holder_before (view c.args.space.now.parts) c.args.walk.now c.requires.sound c.loop-found.at c.in-Some.from c.loop-found.found c.loop-found.invariant.here c.in-Some.is

pub loop-found-preserved : goal.loop-found-preserved
loop-found-preserved g c =
    let v = view c.args.space.now.parts in
    let walk = c.args.walk.now in
    let one = c.loop-found.found in
    let before = c.found_at-found-in-Some.result in
    let old = c.loop-found.steps.items in
    let kept = c.loop-found.invariant in
    record {
      here = c.found_at-found-in-Some.ensures;
      leads =
          subst (λ ss. LeadsOn v before.at before.id (reverse ss) c.args.id) (sym c.in_ok-push.ensures.items)
          (back_once v walk c.requires.sound c.loop-found.at c.in-Some.from one before old c.args.id kept.here c.in-Some.is c.found_at-found-in-Some.ensures kept.leads);
      deep = λ n deep.
          subst (λ k. IsDeep walk.found.items k c.args.place) (one_longer old c.push.new.self.items (record { index = one.index; id = one.id }) n c.in_ok-push.ensures.items)
          (kept.deep (suc n) (deep_once v walk c.requires.sound c.loop-found.at c.in-Some.from n one kept.here c.in-Some.is deep));
    }

pub returns-clause-deep : goal.returns-clause-deep
returns-clause-deep g c =
    let named : c.loop-found.found.from ≡ None = search rules in
    subst (λ k. IsDeep c.args.walk.now.found.items k c.args.place) (none_more (length c.loop-found.steps.items))
    (c.loop-found.invariant.deep 0 (deep_named (view c.args.space.now.parts) c.args.walk.now c.requires.sound c.loop-found.at c.loop-found.found c.loop-found.invariant.here named))
