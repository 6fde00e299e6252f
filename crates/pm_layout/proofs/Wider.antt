-- What is read of a slot within one limit on its fields is read alike within a greater one.
use Rattle.std.proofs.Common.{◌≡◌, ℕ, ◌+◌, ◌≤◌, cond, eqb, ltb, leb, List, length, get_or, Result, Ok, Err, ◌∙◌, inl, inr, arith}
use Rattle.std.proofs.lemmas.Bool.{ltb-false, le-ltb}
use Rattle.pm_types.specs.declared.object.Slot.{Slot}
use Rattle.pm_layout.specs.declared.fault.LayoutFault.{LayoutFault}
use Rattle.pm_layout.specs.declared.fault.LayoutFault.TheVariants.{Short, Kind, Fields}
use Rattle.pm_layout.specs.Reading.{number_from, end_at, ident_at, field_count_at, live_at, moved_at, slot_at}
use Rattle.pm_layout.proofs.Steps.{chosen, holds, passes}
use Rattle.pm_types.proofs.Results.{bind_ok, bound, if_ok, if_not}

-- a number of fields that is within one limit is within a greater one
field_count_more : (most more : ℕ) (bytes : List ℕ) (place n : ℕ) → most ≤ more → field_count_at most bytes place ≡ Ok n → field_count_at more bytes place ≡ Ok n
unfolding field_count_at
field_count_more most more bytes place n le read =
    let m = number_from 2 bytes place in
    let g = if_ok (ltb most m) (Fields place m) (Ok m) n read in
    let small = ltb-false most m g.0 in
    if_not (ltb more m) (Fields place m) (Ok m) (Ok n) (le-ltb _ _ (omega arith)) g.1

live_more : (most more : ℕ) (bytes : List ℕ) (at : ℕ) (x : Slot × ℕ) → most ≤ more → live_at most bytes at ≡ Ok x → live_at more bytes at ≡ Ok x
unfolding live_at
live_more most more bytes at x le read =
    let a = bind_ok (end_at bytes at) _ x read in
    let b = bind_ok (ident_at bytes (at + 1)) _ x a.2 in
    let c = bind_ok (field_count_at most bytes (at + 9)) _ x b.2 in
    bound (end_at bytes at) _ a.0 (Ok x) a.1
    (bound (ident_at bytes (at + 1)) _ b.0 (Ok x) b.1
    (bound (field_count_at more bytes (at + 9)) _ c.0 (Ok x) (field_count_more most more bytes (at + 9) c.0 le c.1) c.2))

pub slot_more : (most more : ℕ) (bytes : List ℕ) (at : ℕ) (x : Slot × ℕ) → most ≤ more → slot_at most bytes at ≡ Ok x → slot_at more bytes at ≡ Ok x
unfolding slot_at
slot_more most more bytes at x le read =
    let kind = get_or bytes at 0 in
    let moved : Result (Slot × ℕ) LayoutFault = cond (eqb kind 2) (moved_at bytes at) (Err (Kind at kind)) in
    let g = if_ok (leb (length bytes) at) (Short at) (cond (eqb kind 1) (live_at most bytes at) moved) x read in
    let way = chosen (eqb kind 1) (live_at most bytes at) moved (Ok x) g.1 in
    if_not (leb (length bytes) at) (Short at) (cond (eqb kind 1) (live_at more bytes at) moved) (Ok x) g.0
    (elim way [
      | inl live ↦ holds (eqb kind 1) (live_at more bytes at) moved live.0 ∙ live_more most more bytes at x le live.1
      | inr other ↦ passes (eqb kind 1) (live_at more bytes at) moved other.0 ∙ other.1
    ])
