use Rattle.std.proofs.Common.{◌<◌, ◌^◌, take, get_or, refl, arith}
use Rattle.std.proofs.lemmas.List.{length-take}
use Rattle.std.specs.Str.Parse.{digits_value}
use Rattle.pm_script.proofs.Numerals.{digits_below, digits_go_on, value_goes_on}
use Rattle.pm_script.proofs.value.digits.Goals as goal

pub overflow_mul-value : goal.overflow_mul-value
overflow_mul-value c =
    let so_far = take c.loop-byte.byte-index c.args.word.now in
    let below : digits_value 10 so_far < 10 ^ 10 = digits_below so_far c.loop-byte.invariant.all (omega (arith, length-take c.loop-byte.byte-index c.args.word.now, c.requires)) in
    omega (arith, below, c.loop-byte.invariant.value)

pub overflow_add-value : goal.overflow_add-value
overflow_add-value c =
    let so_far = take c.loop-byte.byte-index c.args.word.now in
    let below : digits_value 10 so_far < 10 ^ 10 = digits_below so_far c.loop-byte.invariant.all (omega (arith, length-take c.loop-byte.byte-index c.args.word.now, c.requires)) in
    omega (arith, below, c.loop-byte.invariant.value, c.in_ok-worth.ensures.0)

pub loop-byte-preserved : goal.loop-byte-preserved
loop-byte-preserved c =
    let worth = c.in_ok-worth.ensures in
    let byte = get_or c.args.word.now c.loop-byte.byte-index 0 in
    record {
      all = digits_go_on c.args.word.now c.loop-byte.byte-index byte c.in_ok-worth.worth c.loop-byte-test.true refl worth.0 worth.1 c.loop-byte.invariant.all;
      value = value_goes_on c.args.word.now c.loop-byte.byte-index byte c.in_ok-worth.worth c.loop-byte.value c.loop-byte-test.true refl worth.0 worth.1 c.loop-byte.invariant.value;
    }
