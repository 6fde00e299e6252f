use Rattle.std.proofs.Common.{◌-◌, ap, ◌∙◌, arith, get_or, ℕ}
use Rattle.std.specs.FinMap.{insert, empty}
use Rattle.pm_cars.specs.Cars.{CarAndSpare}
use Rattle.pm_reopen.proofs.RebuildLemmas.LinkLaws.{gathered_none, gather_more}
use Rattle.pm_reopen.proofs.rebuild.linking.gather_cars.Goals as goal

pub loop-left-init : goal.loop-left-init
loop-left-init c = record {
  gathered = gathered_none c.args.cars.now c.expecting-sets.result c.expecting-sets.ensures;
  inside = omega arith;
}

pub loop-left-preserved : goal.loop-left-preserved
loop-left-preserved c =
    let l = c.loop-left in
    let x = get_or c.args.cars.now (l.left - 1) c.index-cars-left.result in
    let is = ap (λ (d : ℕ × CarAndSpare). get_or c.args.cars.now (l.left - 1) d) c.index-cars-left.is in
    let inside = l.invariant.inside in
    record {
      gathered = gather_more c.args.cars.now l.left x c.loop-left-test.true l.invariant.inside is l.sets c.begin.new.self l.invariant.gathered
          (c.in_ok-begin.ensures ∙ ap (λ (n : ℕ). insert l.sets n empty) c.number.ensures);
      inside = omega arith;
    }
