use Rattle.std.proofs.Common.{◌-◌, [], ap, refl, ◌∙◌, arith, get_or, ℕ}
use Rattle.std.specs.Option.{unwrap_or}
use Rattle.std.specs.FinMap.{get, insert, remove, empty}
use Rattle.pm_cars.specs.Cars.{CarAndSpare}
use Rattle.pm_space.specs.Linked.{sets_of, queues_of}
use Rattle.pm_reopen.proofs.RebuildLemmas.LinkLaws.{linked_none, link_new, link_more, take_more}
use Rattle.pm_reopen.proofs.rebuild.linking.link_cars.Goals as goal

pub loop-left-init : goal.loop-left-init
loop-left-init c = record {
  linked = linked_none c.args.cars.now c.args.sets c.expecting-links.result c.expecting-links.ensures;
  others = λ n none. refl;
  inside = omega arith;
}

pub add-requires : goal.add-requires
add-requires c =
    let l = c.loop-left in
    let x = get_or c.args.cars.now (l.left - 1) c.index-cars-left.result in
    let is = ap (λ (d : ℕ × CarAndSpare). get_or c.args.cars.now (l.left - 1) d) c.index-cars-left.is in
    ap (get l.links) c.number-number.ensures ∙ link_new c.args.cars.now l.left x c.loop-left-test.true l.invariant.inside is c.requires.differ c.args.sets l.links l.invariant.linked

pub loop-left-preserved : goal.loop-left-preserved
loop-left-preserved c =
    let l = c.loop-left in
    let x = get_or c.args.cars.now (l.left - 1) c.index-cars-left.result in
    let is = ap (λ (d : ℕ × CarAndSpare). get_or c.args.cars.now (l.left - 1) d) c.index-cars-left.is in
    let inside = l.invariant.inside in
    record {
      linked = link_more c.args.cars.now l.left x c.loop-left-test.true l.invariant.inside is c.requires.differ c.args.sets l.sets l.links c.add.new.self c.in_ok-set.set l.invariant.linked l.invariant.others
          (c.in_ok-set.ensures.set ∙ ap (λ (n : ℕ). unwrap_or (get l.sets n) empty) c.number-number.ensures)
          (c.in_ok-add.ensures.sets ∙ ap (λ (n : ℕ). insert (sets_of l.links) n c.in_ok-set.set) c.number-number.ensures)
          (c.in_ok-add.ensures.queues ∙ ap (λ (n : ℕ). insert (queues_of l.links) n []) c.number-number.ensures);
      others = take_more c.args.cars.now l.left x c.loop-left-test.true l.invariant.inside is c.requires.differ c.args.sets l.sets c.take_set.new.self l.invariant.others
          (c.take_set.ensures.left ∙ ap (λ (n : ℕ). remove l.sets n) c.number-number.ensures);
      inside = omega arith;
    }
