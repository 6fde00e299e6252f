-- A car that was read of a store has a page by itself too.
use Rattle.std.proofs.Common.{◌≡◌, ℕ, ◌≤◌, ◌==◌, ◌||◌, Bool, true, false, nat_le, refl, sym, ◌∙◌, List, [], ◌∷◌, Option, arith}
use Rattle.std.specs.List.{AllByRecursion}
use Rattle.std.specs.Ordering.{nat_cmp, eq_by_cmp}
use Rattle.std.specs.FinSet as set
use Rattle.std.proofs.lemmas.Cmp.{nat_cmp_total}
use Rattle.std.proofs.lemmas.Bool.Decides.{nat_tests}
use Rattle.pm_types.specs.declared.limits.TheConstants.{FIELDS, END_ID}
use Rattle.pm_types.specs.declared.object.Slot.{Slot}
use Rattle.pm_types.specs.declared.object.Slot.TheVariants.{Live, Moved}
use Rattle.pm_layout.specs.Spelling.{HasSpelling}
use Rattle.pm_image.specs.declared.car.CarImage.{CarImage}
use Rattle.pm_image.specs.CarAnswers.{a_car}
use Rattle.pm_image.specs.CarPages.{Numbers, AreFree, HasCarPage, is_taken, one_car}

or_false : (a b : Bool) → (a || b) ≡ false → (a ≡ false) × (b ≡ false)
or_false false b is = (refl, is)
or_false true b is = absurd cc

-- what is none of the many is none of the few
abbrev NoMore : Numbers → Numbers → Type 0
NoMore few many = (id : ℕ) → set.contains many id ≡ false → set.contains few id ≡ false

more_after : (few many : Numbers) (k : ℕ) → NoMore few many → NoMore (set.insert few k) (set.insert many k)
more_after few many k less id is =
    let parts = or_false (eq_by_cmp nat_cmp id k) (set.contains many id) (sym (set.contains-insert nat_cmp_total many k id) ∙ is) in
    set.contains-insert nat_cmp_total few k id ∙ (λ i. parts.0 i || less id parts.1 i)

free_too : (next last : ℕ) (few many : Numbers) (id : ℕ) → next ≤ last → NoMore few many → is_taken next many id ≡ false → is_taken last few id ≡ false
free_too next last few many id le less free =
    let one = or_false (id == 0) (nat_le next id || set.contains many id) free in
    let two = or_false (nat_le next id) (set.contains many id) one.1 in
    let below = two.0 in
    let low : nat_le last id ≡ false = grind (arith, nat_tests) in
    λ i. one.0 i || (low i || less id two.1 i)

all_free : (next last : ℕ) (few many : Numbers) (slots : List (ℕ × Slot)) → next ≤ last → NoMore few many → AreFree next many slots → AreFree last few slots
all_free next last few many [] le less free = tt
all_free next last few many ((number, Live object) ∷ slots) le less free = (
  free_too next last few many object.id le less free.0,
  all_free next last (set.insert few object.id) (set.insert many object.id) slots le (more_after few many object.id less) free.1,
)
all_free next last few many ((number, Moved to) ∷ slots) le less free = all_free next last few many slots le less free

-- fewer fields are within the limit too
pub wider : (most : ℕ) (slot : Slot) → most ≤ FIELDS → HasSpelling most slot → HasSpelling FIELDS slot
wider most (Live object) few has = record { within = (let fields = has.within.0 in omega (arith, fields, few), has.within.1); numbered = has.numbered }
wider most (Moved to) few has = record { within = tt; numbered = has.numbered }

all_wider : (most : ℕ) (slots : List (ℕ × Slot)) → most ≤ FIELDS → AllByRecursion (λ (entry : ℕ × Slot). HasSpelling most entry.1) slots → AllByRecursion (λ (entry : ℕ × Slot). HasSpelling FIELDS entry.1) slots
all_wider most [] few has = tt
all_wider most (entry ∷ slots) few has = (wider most entry.1 few has.0, all_wider most slots few has.1)

-- what was met before and which identities are still to come makes no difference for the page alone
pub page_alone : (most next : ℕ) (number : Option ℕ) (met : Numbers) (car : CarImage) → most ≤ FIELDS → next ≤ END_ID → HasCarPage (a_car most next number) met car → HasCarPage (one_car FIELDS) set.empty car
page_alone most next number met car few last has = record {
  fits = has.fits;
  ascend = has.ascend;
  free = all_free next END_ID set.empty met car.slots last (λ id none. set.contains-empty nat_cmp id) has.free;
  slots = all_wider most car.slots few has.slots;
}
