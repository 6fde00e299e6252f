use Rattle.std.proofs.Common.{◌<◌, length, refl, sym, subst, ap, arith, rules}
use Rattle.std.specs.FinMap.{get}
use Rattle.pm_model.specs.Keeping.{looked_at}
use Rattle.pm_model.proofs.Worklist.{Covers, to_do, covers_start, covers_next, covers_end, less_next}
use Rattle.pm_model.proofs.graph.reach.Goals as goal

pub loop-id-init : goal.loop-id-init
loop-id-init c = subst (λ kept. Covers c.args.objects.now c.args.pending.items kept c.args.pending.items) (sym c.new-kept.ensures) (covers_start c.args.objects.now c.args.pending.items)

pub loop-id-smaller : goal.loop-id-smaller
loop-id-smaller c =
    let heap = c.args.objects.now in
    let after = c.in_ok-keep.ensures in
    let fits : length c.keep.new.pending.items < 9223372036854775808 = first_of (omega (arith, c.keep.new.pending.small), omega (arith, c.keep.new.pending.ok.0), search (rules, arith)) in
    let less = less_next heap c.loop-id.kept c.pop.new.self.items c.in-Some.id _ _ refl refl (subst (λ p. length p < 9223372036854775808) (ap (λ p. p.1) after) fits) in
    subst (λ n. n < to_do heap c.loop-id.kept c.loop-id.pending.items) (ap (λ p. to_do heap p.0 p.1) (sym after)) (subst (λ pending. to_do heap (looked_at (get c.loop-id.kept c.in-Some.id) (get heap c.in-Some.id) c.in-Some.id c.loop-id.kept c.pop.new.self.items).0 (looked_at (get c.loop-id.kept c.in-Some.id) (get heap c.in-Some.id) c.in-Some.id c.loop-id.kept c.pop.new.self.items).1 < to_do heap c.loop-id.kept pending) (sym c.in-Some.ensures.items) less)

pub loop-id-preserved : goal.loop-id-preserved
loop-id-preserved c =
    let heap = c.args.objects.now in
    let starts = c.args.pending.items in
    let before = subst (Covers heap starts c.loop-id.kept) c.in-Some.ensures.items c.loop-id.invariant in
    subst (λ p. Covers heap starts p.0 p.1) (sym c.in_ok-keep.ensures) (covers_next heap starts c.loop-id.kept c.pop.new.self.items c.in-Some.id _ _ refl refl before)

pub returns : goal.returns
returns c = covers_end c.args.objects.now c.args.pending.items c.loop-id.kept (subst (Covers c.args.objects.now c.args.pending.items c.loop-id.kept) (search rules) c.loop-id.invariant)
