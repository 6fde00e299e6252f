use Rattle.std.proofs.Common.{◌≡◌, ◌<◌, List, ℕ, [], length, sym, subst, arith, rules}
use Rattle.pm_nursery.proofs.Walks.{Walking, less_to_do, to_do, walking_begins, walking_ends, walking_goes_on}
use Rattle.pm_nursery.proofs.walk.walk.Goals as goal

pub loop-id-init : goal.loop-id-init
loop-id-init c = walking_begins c.args.objects.now c.args.holders.now c.args.pending.items c.new-met.result c.new-met.ensures.empty c.new-met.ensures.ordered

pub loop-id-smaller : goal.loop-id-smaller
loop-id-smaller c =
    let walking = subst (Walking c.args.objects.now c.args.holders.now c.args.pending.items c.loop-id.met) c.in-Some.ensures.items c.loop-id.invariant in
    let fits : length c.meet.new.pending.items < 9223372036854775808 = first_of (omega (arith, c.meet.new.pending.small), omega (arith, c.meet.new.pending.ok.0), search (rules, arith)) in
    let less = less_to_do c.args.objects.now c.args.holders.now c.args.pending.items c.loop-id.met c.meet.new.met c.pop.new.self.items c.meet.new.pending.items c.in-Some.id walking c.in_ok-meet.ensures fits in
    subst (λ (pending : List ℕ). to_do c.args.objects.now c.args.holders.now c.args.pending.items c.meet.new.met c.meet.new.pending.items < to_do c.args.objects.now c.args.holders.now c.args.pending.items c.loop-id.met pending)
    (sym c.in-Some.ensures.items) less

pub loop-id-preserved : goal.loop-id-preserved
loop-id-preserved c =
    let walking = subst (Walking c.args.objects.now c.args.holders.now c.args.pending.items c.loop-id.met) c.in-Some.ensures.items c.loop-id.invariant in
    walking_goes_on c.args.objects.now c.args.holders.now c.args.pending.items c.loop-id.met c.meet.new.met c.pop.new.self.items c.meet.new.pending.items c.in-Some.id walking c.in_ok-meet.ensures

pub returns-clause-met : goal.returns-clause-met
returns-clause-met c =
    let none : c.loop-id.pending.items ≡ [] = search rules in
    let are : c.in_ok-ids.ids.items ≡ c.loop-id.met.keys = search rules in
    walking_ends c.args.objects.now c.args.holders.now c.args.pending.items c.loop-id.met c.loop-id.pending.items c.in_ok-ids.ids.items none are c.loop-id.invariant
