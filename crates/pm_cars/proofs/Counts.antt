-- How many slots are listed, how many of them are Live, and how many Moved.
use Rattle.std.proofs.Common.{◌≡◌, ℕ, ◌+◌, ◌*◌, ◌≤◌, cond, not, is_some, refl, ap, sym, ◌∙◌, arith, List, [], ◌∷◌, length, map, get_or, Option, None, inl, inr}
use mathlib.Core.Bool.{false≢true}
use Rattle.std.specs.List.{sum_by}
use Rattle.std.specs.FinMap.{entries, len, len-entries}
use Rattle.std.proofs.lemmas.Bool.{cases_lt}
use Rattle.std.proofs.lemmas.List.{length-map}
use Rattle.std.proofs.lemmas.List.Sums.{sum_by-cons}
use Rattle.pm_types.specs.declared.object.Object.{Object}
use Rattle.pm_types.specs.declared.object.Slot.{Slot}
use Rattle.pm_types.specs.declared.object.Slot.TheVariants.{Live, Moved}
use Rattle.pm_cars.specs.Cars.{Slots, total, slot_room, one_live, one_moved, IsLowestLive}
use Rattle.pm_cars.specs.Entries.{Entry, slots_of, holds_object, first_place, IsKept}
use Rattle.pm_cars.proofs.Taken.{listed}
use Rattle.pm_cars.proofs.Places.{blank}
use Rattle.pm_cars.proofs.Kept.{seen, lowest_none, lowest_some}

-- each slot that is listed has at least 17 bytes of room
each : (content : Slot) → 17 ≤ slot_room content
each (Live object) = omega arith
each (Moved to) = omega arith

room_each : (xs : List Slot) → 17 * length xs ≤ sum_by slot_room xs
room_each [] = omega arith
room_each (x ∷ xs) = let rest = room_each xs in omega (arith, each x, rest, sum_by-cons slot_room x xs)

-- each slot that is listed is Live or Moved
either : (content : Slot) → one_live content + one_moved content ≡ 1
either (Live object) = refl
either (Moved to) = refl

both : (xs : List Slot) → sum_by one_live xs + sum_by one_moved xs ≡ length xs
both [] = refl
both (x ∷ xs) = let rest = both xs in omega (arith, either x, rest, sum_by-cons one_live x xs, sum_by-cons one_moved x xs)

pub all_slots : (slots : Slots) → total one_live slots + total one_moved slots ≡ len slots
all_slots slots = both _ ∙ length-map (entries slots) (λ (e : Entry). e.1) ∙ sym (len-entries slots)

-- no slot is Live exactly where no entry is
counted_step : (content : Slot) (n m l : ℕ) → ((n ≡ 0 → l ≤ m) × (l ≤ m → n ≡ 0)) → (one_live content + n ≡ 0 → 1 + l ≤ cond (not (holds_object content)) (1 + m) 0) × (1 + l ≤ cond (not (holds_object content)) (1 + m) 0 → one_live content + n ≡ 0)
counted_step (Live object) n m l rest = ((λ none. absurd (omega (arith, none))), (λ end. absurd (omega (arith, end))))
counted_step (Moved to) n m l rest = ((λ none. let later = rest.0 (omega (arith, none)) in omega (arith, later)), (λ end. let later = rest.1 (omega (arith, end)) in omega (arith, later)))

none_live : (es : List Entry) → (sum_by one_live (map (λ (e : Entry). e.1) es) ≡ 0 → length es ≤ first_place es) × (length es ≤ first_place es → sum_by one_live (map (λ (e : Entry). e.1) es) ≡ 0)
none_live [] = ((λ none. omega arith), (λ end. refl))
none_live (e ∷ es) =
    let step = counted_step e.1 _ (first_place es) (length es) (none_live es) in
    let cons = sum_by-cons one_live e.1 (map (λ (e : Entry). e.1) es) in
    ((λ none. let ends = step.0 (sym cons ∙ none) in omega (arith, ends)), (λ end. cons ∙ step.1 (omega (arith, end))))

module _ (es : List Entry) (next all live first spare capacity : ℕ) (kept : IsKept es next all live first spare capacity) where
  counted_listed : live ≡ sum_by one_live (map (λ (e : Entry). e.1) es)
  counted_listed = kept.lives ∙ ap (λ (es : List Entry). sum_by one_live (map (λ (e : Entry). e.1) es)) (listed es kept.ascending)

  many : len (slots_of es) ≡ length es
  many = len-entries (slots_of es) ∙ ap length (listed es kept.ascending)

  -- a car has at most 962 slots that are listed
  pub few : length es ≤ 962
  few =
      let each = room_each (map (λ (e : Entry). e.1) (entries (slots_of es))) in
      let longer = length-map (entries (slots_of es)) (λ (e : Entry). e.1) in
      let all_listed = ap length (listed es kept.ascending) in
      omega (arith, each, longer, all_listed, kept.counted, kept.within)

  pub live_or_moved : live + total one_moved (slots_of es) ≡ length es
  live_or_moved = let all_of = all_slots (slots_of es) in omega (arith, all_of, kept.lives, many)

  pub none_is_live : (number : ℕ) → (live ≡ 0 → IsLowestLive (seen number es next) None) × (IsLowestLive (seen number es next) None → live ≡ 0)
  none_is_live number = (
    (λ none. lowest_none es next all live first spare capacity kept number blank (let end = (none_live es).0 (sym counted_listed ∙ none) in omega (arith, end, kept.lowest))),
    λ none. elim (cases_lt first (length es)) [
      | inl below ↦
          let low = lowest_some es next all live first spare capacity kept number blank below in
          absurd (false≢true (sym (ap (λ (o : Option Object). is_some o) (none (get_or es first blank).0)) ∙ low.0))
      | inr above ↦ counted_listed ∙ (none_live es).1 (omega (arith, above, kept.lowest))
    ],
  )
