-- What the cars of the examples have.
use Rattle.std.proofs.Common.{◌≡◌, ℕ, ◌+◌, ap, ◌∙◌, Option, None, arith}
use Rattle.std.specs.FinMap.{get, insert, empty, get-insert, get-empty}
use Rattle.std.specs.Cmp.{nat_cmp_total}
use Rattle.std.specs.Ordering.{nat_cmp}
use Rattle.pm_types.specs.declared.address.Addr.{Addr}
use Rattle.pm_types.specs.declared.object.Slot.{Slot}
use Rattle.pm_types.specs.declared.object.Slot.TheVariants.{Live}
use Rattle.pm_cars.specs.Cars.{Slots, total, one_live}
use Rattle.pm_cars.proofs.Rooms.{counted, total_insert, total_empty}
use Rattle.pm_view.specs.declared.phase.Phase.{Phase}
use Rattle.pm_view.specs.Counts.{live_in}
use Rattle.pm_view.specs.Examples.{bare, three_slots, two_slots, two_cars}

-- one object more, in a slot that held none
one_more : (slots : Slots) (k id : ℕ) → get slots k ≡ None → total one_live (insert slots k (Live (bare id))) ≡ total one_live slots + 1
one_more slots k id free =
    let sum = total_insert one_live slots k (Live (bare id)) in
    let none : counted one_live (get slots k) ≡ 0 = ap (counted one_live) free in
    omega (arith, sum, none)

none_at : (k : ℕ) → get (empty {X = Slot} {R = nat_cmp}) k ≡ None
none_at k = get-empty nat_cmp k

first_slot : (id : ℕ) → get (insert (empty {X = Slot} {R = nat_cmp}) 0 (Live (bare id))) 1 ≡ None
first_slot id = get-insert nat_cmp_total empty 0 (Live (bare id)) 1 ∙ none_at 1

-- three objects are in the first car, and two in the second
three_stand : total one_live three_slots ≡ 3
three_stand =
    let none = total_empty one_live in
    let one = one_more empty 0 1 (none_at 0) in
    let two = one_more (insert empty 0 (Live (bare 1))) 1 2 (first_slot 1) in
    let three = one_more (insert (insert empty 0 (Live (bare 1))) 1 (Live (bare 2))) 2 3 (get-insert nat_cmp_total (insert empty 0 (Live (bare 1))) 1 (Live (bare 2)) 2 ∙ get-insert nat_cmp_total empty 0 (Live (bare 1)) 2 ∙ none_at 2) in
    omega (arith, none, one, two, three)

two_stand : total one_live two_slots ≡ 2
two_stand =
    let none = total_empty one_live in
    let one = one_more empty 0 4 (none_at 0) in
    let two = one_more (insert empty 0 (Live (bare 4))) 1 5 (first_slot 4) in
    omega (arith, none, one, two)

module _ (phase : Phase) (anchor : Option (Addr × ℕ)) where
  pub in_first : live_in (get (two_cars phase anchor).cars 1) ≡ 3
  in_first =
      ap live_in (get-insert nat_cmp_total (insert empty 1 (record { number = 1; slots = three_slots; next = 3 })) 2 (record { number = 2; slots = two_slots; next = 2 }) 1
      ∙ get-insert nat_cmp_total empty 1 (record { number = 1; slots = three_slots; next = 3 }) 1)
      ∙ three_stand

  pub in_second : live_in (get (two_cars phase anchor).cars 2) ≡ 2
  in_second = ap live_in (get-insert nat_cmp_total (insert empty 1 (record { number = 1; slots = three_slots; next = 3 })) 2 (record { number = 2; slots = two_slots; next = 2 }) 2) ∙ two_stand
