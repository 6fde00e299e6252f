use Rattle.std.proofs.Common.{◌∷◌, [], List, drop, map, sym, ap, subst, arith}
use Rattle.std.specs.FinMap.{entries, len-entries}
use Rattle.std.proofs.Math.ListN.{drop_of_length-le}
use Rattle.pm_types.specs.declared.source.RefSource.TheVariants.{Root}
use Rattle.pm_law_copies.specs.Storing.{Stored, root_source}
use Rattle.pm_reopen.specs.Rebuild.Remembering.{Adds}
use Rattle.pm_reopen.proofs.RebuildLemmas.TellingLaws.{added_none, added_both, root_here}
use Rattle.pm_reopen.proofs.rebuild.remembering.tell_roots.Goals as goal

pub loop-left-init : goal.loop-left-init
loop-left-init c =
    let counted = len-entries c.args.roots.now in
    let all = c.len-left.ensures in
    record {
      so_far = subst (Adds c.args.sets.now c.args.sets.now) (ap (map root_source) (sym (drop_of_length-le (entries c.args.roots.now) (omega (arith, counted, all))))) (added_none c.args.sets.now);
      inside = omega (arith, counted, all);
    }

pub nth-number-requires : goal.nth-number-requires
nth-number-requires c =
    let counted = len-entries c.args.roots.now in
    let some = c.loop-left-test.true in
    let inside = c.loop-left.invariant.inside in
    omega (arith, counted, some, inside)

pub loop-left-preserved : goal.loop-left-preserved
loop-left-preserved c =
    let l = c.loop-left in
    let es = entries c.args.roots.now in
    let some = c.loop-left-test.true in
    let inside = l.invariant.inside in
    let here = root_here es l.left _ some c.nth-number.ensures in
    record {
      so_far = subst (λ (more : List Stored). Adds c.args.sets.now c.tell.new.sets more) (ap (map root_source) (sym here)) (added_both c.args.sets.now l.sets c.tell.new.sets ((Root c.nth-number.result.1, c.nth-number.result.2) ∷ []) (map root_source (drop l.left es)) l.invariant.so_far c.in_ok-tell.ensures);
      inside = omega (arith, inside);
    }
