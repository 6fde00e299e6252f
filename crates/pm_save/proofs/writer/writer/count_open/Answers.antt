use Rattle.std.proofs.Common.{rules, arith, ◌≡◌, ◌+◌, ◌<◌, ◌^◌, true, false, length, take, ap}
use Rattle.std.proofs.lemmas.List.{length-take}
use Rattle.pm_save.specs.Progress.Kept.{is_open}
use Rattle.pm_save.proofs.WriterLemmas.LeftLemmas.{one_of, open_few, open_then}
use Rattle.pm_save.proofs.writer.writer.count_open.Goals as goal
use Rattle.pm_save.proofs.writer.writer.count_open.Goals.{then-is_open, else-is_open}

pub loop-one-preserved : goal.loop-one-preserved
loop-one-preserved c =
    let one = c.one-item.result in
    let more = open_then c.args.cars.now c.loop-one.one-index one (search rules) c.one-item.is in
    let had = c.loop-one.invariant in
    let test = c.is_open.ensures in
    elim c.if-is_open.branch [
      | then-is_open w ↦
          let none : is_open one.place ≡ true = let is = w.if-is_open in cc in
          let counts : one_of (is_open one.place) ≡ 1 = ap one_of none in
          let same = w.count-is in
          omega (arith, more, had, counts, same)
      | else-is_open w ↦
          let shut : is_open one.place ≡ false = let is = w.if-is_open in cc in
          let counts : one_of (is_open one.place) ≡ 0 = ap one_of shut in
          let same = w.count-is in
          omega (arith, more, had, counts, same)
    ]

pub overflow_add-count : goal.overflow_add-count
overflow_add-count c =
    let cars = c.args.cars.now in
    let i = c.loop-one.one-index in
    let few = open_few (take i cars) in
    let taken = length-take i cars in
    let had = c.loop-one.invariant in
    let low : i < length cars = search rules in
    let most : length cars < 2 ^ 63 = search rules in
    let sum : c.loop-one.count + 1 < 2 ^ 64 = omega (arith, few, taken, had, low, most) in
    search (rules, sum)
