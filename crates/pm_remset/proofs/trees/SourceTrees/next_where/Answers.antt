use Rattle.std.proofs.Common.{true, false, rules}
use Rattle.std.specs.Map.Iter.{deref_pair}
use Rattle.std.proofs.lemmas.Map.Iter.{rest_all}
use Rattle.pm_remset.proofs.Searches.{left_begins, left_goes_on, left_finds, left_ends}
use Rattle.pm_remset.proofs.trees.SourceTrees.next_where.Goals as goal

pub loop-name-init : goal.loop-name-init
loop-name-init g c = left_begins c.args.self.now (λ source slot. g.P.Fn.post c.args.pass.now (source, (slot, tt)) false) c.self.inside.groups c.self.inside.index c.self.inside.count c.self.invariant c.self.view_is _ (search rules)

pub returns-in-Some-next_where : goal.returns-in-Some-next_where
returns-in-Some-next_where g c =
    left_finds c.args.self.now (λ source slot. g.P.Fn.post c.args.pass.now (source, (slot, tt)) false) _ _ c.next.new.self c.in-Some.ensures.steps c.loop-name.invariant
    (λ source slot. g.P.Fn.post c.args.pass.now (source, (slot, tt)) true) _ _ c.in-Some-next_where.ensures

pub loop-name-preserved : goal.loop-name-preserved
loop-name-preserved g c =
    left_goes_on c.args.self.now (λ source slot. g.P.Fn.post c.args.pass.now (source, (slot, tt)) false) _ _ c.next.new.self c.in-Some.ensures.steps c.loop-name.invariant (search rules)

pub returns : goal.returns
returns g c = left_ends c.args.self.now (λ source slot. g.P.Fn.post c.args.pass.now (source, (slot, tt)) false) _ (rest_all deref_pair _ _ _ c.in-None.is c.next.ensures.steps) c.loop-name.invariant
