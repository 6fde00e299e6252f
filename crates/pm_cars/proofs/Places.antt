-- Where a search among entries in order ends, and which entry is the first that is Live.
use Rattle.std.proofs.Common.{◌≡◌, ℕ, suc, ◌+◌, ◌-◌, ◌<◌, ◌≤◌, ◌==◌, Bool, true, false, not, cond, refl, ap, sym, subst, ◌∙◌, arith, List, [], ◌∷◌, ◌++◌, length, drop, get_or, slice_index, Option, Some, None, Result, Ok, Err, IfSome, IfNone, inl, inr}
use Rattle.std.specs.List.Sorted.{IsSearchInRange, IsBinarySearchResult, IsNonDecreasingBy}
use Rattle.std.specs.Ordering.{nat_cmp, ordering_index}
use Rattle.std.specs.Result.{result_ok}
use Rattle.std.proofs.lemmas.Cmp.{ranked}
use Rattle.std.proofs.lemmas.List.{get_or-map, get_or-drop, length-map, length-drop}
use Rattle.std.proofs.lemmas.List.Sums.{fails_before_first, passes_at_first, prefix_len-le-length}
use Rattle.std.proofs.lemmas.List.Sorted.{IsNonDecreasingBy-from_default}
use Rattle.std.proofs.lemmas.Bool.{cases_lt, eqb-true}
use Rattle.std.proofs.lemmas.Bool.Decides.{nat_tests}
use Rattle.pm_types.specs.declared.object.Slot.{Slot}
use Rattle.pm_types.specs.declared.object.Slot.TheVariants.{Moved}
use Rattle.pm_cars.specs.Entries.{Entry, numbers, content_at, with_content, without, is_live, holds_object, first_place, IsAscending, IsAt, HasNone}
use Rattle.pm_cars.proofs.Listed.{NoneBefore, not_here}

-- an entry for places past the end
abbrev pub blank : Entry
blank = (0, Moved (record { car = 0; slot = 0 }))

pub number_at : (es : List Entry) (i : ℕ) (d : Entry) → i < length es → slice_index (numbers es) i ≡ (get_or es i d).0
number_at es i d lt = get_or-map (λ (e : Entry). e.0) es i d 0 lt

pub length_numbers : (es : List Entry) → length (numbers es) ≡ length es
length_numbers es = length-map es (λ (e : Entry). e.0)

-- where the first entries are left out, each stands that much earlier
pub at_later : (es : List Entry) (k b i : ℕ) → b ≤ i → IsAt es k i → IsAt (drop b es) k (i - b)
at_later es k b i le at =
    let longer = length-drop b es in
    let within : i - b < length (drop b es) = omega (arith, at.within) in
    let same : b + (i - b) ≡ i = omega arith in
    record {
      within = within;
      here = number_at (drop b es) (i - b) blank within ∙ ap (λ (e : Entry). e.0) (get_or-drop b es (i - b) blank ∙ ap (λ n. get_or es n blank) same) ∙ sym (number_at es i blank at.within) ∙ at.here;
    }

module _ (es : List Entry) (ascending : IsAscending (numbers es)) (k : ℕ) where
  rising : (i j : ℕ) → i < j → j < length es → (get_or es i blank).0 < (get_or es j blank).0
  rising i j lt within =
      let one = number_at es i blank (omega arith) in
      let two = number_at es j blank within in
      let longer = length_numbers es in
      let up = ascending i j lt (omega arith) in
      omega arith

  comparisons_rise : IsNonDecreasingBy (λ (e : Entry). ordering_index (nat_cmp e.0 k)) es
  comparisons_rise = IsNonDecreasingBy-from_default (λ (e : Entry). ordering_index (nat_cmp e.0 k)) es blank (λ i j le within.
      let keys_rise : (get_or es i blank).0 ≤ (get_or es j blank).0 = grind (arith, rising i j, λ (same : i ≡ j). ap (λ n. (get_or es n blank).0) same) in
      grind (arith, nat_tests))

  -- a search ends at the entry of the slot, or tells that there is none
  pub searched : (r : Result ℕ ℕ) → IsSearchInRange r (length es) → IsBinarySearchResult (λ (e : Entry). nat_cmp e.0 k) es r → IfSome (result_ok r) (IsAt es k) × IfNone (result_ok r) (HasNone es k)
  searched (Ok at) within equal = (record { within = within; here = number_at es at blank within ∙ ranked _ k _ (sym (equal blank)) }, tt)
  searched (Err at) within parted = (
    tt,
    λ i lt is.
        let here = number_at es i blank lt in
        let smaller : i < at → (get_or es i blank).0 < k = λ below. ranked _ k _ (sym ((parted comparisons_rise).0 i blank (omega arith) below)) in
        let greater : at ≤ i → k < (get_or es i blank).0 = λ above. ranked _ k _ (sym ((parted comparisons_rise).1 i blank above lt)) in
        elim (cases_lt i at) [ inl below ↦ omega (arith, smaller below) | inr above ↦ omega (arith, greater above) ],
  )

  -- the entries before the slot's are of other slots
  pub none_before : (place : ℕ) → IsAt es k place → NoneBefore es k place
  none_before place at j lt is =
      let longer = length_numbers es in
      let up = ascending j place lt (omega (arith, at.within)) in
      omega (arith, at.here)

-- ---- the first Live entry

module _ (es : List Entry) (place : ℕ) (d : Entry) (none_before : place ≤ first_place es) where
  -- a place that is not Live is before it
  pub first_later : place < length es → is_live (get_or es place d) ≡ false → place + 1 ≤ first_place es
  first_later lt other = elim (cases_lt place (first_place es)) [
    | inl below ↦ omega arith
    | inr above ↦
        let same : first_place es ≡ place = omega arith in
        let passes = passes_at_first is_live es d (omega arith) in
        let lives : is_live (get_or es place d) ≡ true = ap (λ n. is_live (get_or es n d)) (sym same) ∙ passes in
        cc
  ]

  -- a place that is Live is it
  pub first_here : is_live (get_or es place d) ≡ true → place ≡ first_place es
  first_here lives = elim (cases_lt place (first_place es)) [
    | inl below ↦ let fails = fails_before_first is_live es place d below in cc
    | inr above ↦ omega arith
  ]

  -- where no place is left, none is
  pub first_end : length es ≤ place → place ≡ first_place es
  first_end all = omega (arith, prefix_len-le-length (λ e. not (is_live e)) es)

emptied_first : (b c live now : Bool) (n m : ℕ) → now ≡ false → n ≤ m → cond (not live) (1 + n) 0 ≤ cond b (cond (not now) (1 + n) 0) (cond (not live) (1 + m) 0)
emptied_first true c true now n m is le = omega arith
emptied_first true c false true n m is le = cc
emptied_first true c false false n m is le = omega arith
emptied_first false c true now n m is le = omega arith
emptied_first false c false now n m is le = omega arith

first_cond : (b : Bool) (e f : Entry) (es rest : List Entry) → first_place (cond b (f ∷ es) (e ∷ rest)) ≡ cond b (cond (not (is_live f)) (1 + first_place es) 0) (cond (not (is_live e)) (1 + first_place rest) 0)
first_cond true e f es rest = refl
first_cond false e f es rest = refl

-- where a slot is no longer Live, the first that is may only come later
pub first_with : (es : List Entry) (k : ℕ) (content : Slot) → holds_object content ≡ false → first_place es ≤ first_place (with_content es k content)
first_with [] k content none = omega arith
first_with (e ∷ es) k content none =
    let f : Entry = (k, content) in
    let split = first_cond (e.0 == k) e f es (with_content es k content) in
    let step = emptied_first (e.0 == k) true (is_live e) (holds_object content) (first_place es) (first_place (with_content es k content)) none (first_with es k content none) in
    subst (λ n. first_place (e ∷ es) ≤ n) (sym split) step

same_first : (b live now : Bool) (n m : ℕ) → now ≡ true → (b ≡ true → live ≡ true) → (b ≡ false → m ≡ n) → cond b (cond (not now) (1 + n) 0) (cond (not live) (1 + m) 0) ≡ cond (not live) (1 + n) 0
same_first true live true n m is lives later = ap (λ l. cond (not l) (1 + n) 0) (sym (lives refl))
same_first true live false n m is lives later = cc
same_first false live now n m is lives later = ap (λ k. cond (not live) (1 + k) 0) (later refl)

-- what may stand in a slot is Live
abbrev pub is_object : Option Slot → Bool
is_object None = false
is_object (Some content) = holds_object content

content_here : (b : Bool) (one : Slot) (two : Option Slot) → b ≡ true → is_object (cond b (Some one) two) ≡ true → holds_object one ≡ true
content_here true one two is holds = holds
content_here false one two is holds = cc

content_later : (b : Bool) (one two : Option Slot) → b ≡ false → is_object (cond b one two) ≡ true → is_object two ≡ true
content_later true one two is holds = cc
content_later false one two is holds = holds

-- where a slot stays Live, so does the first that is
pub first_same : (es : List Entry) (k : ℕ) (content : Slot) → is_object (content_at es k) ≡ true → holds_object content ≡ true → first_place (with_content es k content) ≡ first_place es
first_same [] k content found lives = cc
first_same (e ∷ es) k content found lives =
    let f : Entry = (k, content) in
    first_cond (e.0 == k) e f es (with_content es k content)
    ∙ same_first (e.0 == k) (is_live e) (holds_object content) (first_place es) (first_place (with_content es k content)) lives
    (λ here. content_here (e.0 == k) e.1 (content_at es k) here found)
    (λ apart. first_same es k content (content_later (e.0 == k) (Some e.1) (content_at es k) apart found) lives)

-- a Live entry at the end is the first only where there is no other
pub first_push : (es : List Entry) (f : Entry) → is_live f ≡ true → first_place (es ++ f ∷ []) ≡ first_place es
first_push [] f lives = ap (λ l. cond (not l) (1 + 0) 0) lives
first_push (e ∷ es) f lives = ap (λ n. cond (not (is_live e)) (1 + n) 0) (first_push es f lives)

-- where a Live slot goes, the first that is may only come later
later_first : (b live : Bool) (n m : ℕ) → (b ≡ true → live ≡ true) → (b ≡ false → n ≤ m) → cond (not live) (1 + n) 0 ≤ cond b n (cond (not live) (1 + m) 0)
later_first true true n m lives le = omega arith
later_first true false n m lives le = cc (lives refl)
later_first false true n m lives le = omega arith
later_first false false n m lives le = let more = le refl in omega arith

first_out : (b : Bool) (e : Entry) (es rest : List Entry) → first_place (cond b es (e ∷ rest)) ≡ cond b (first_place es) (cond (not (is_live e)) (1 + first_place rest) 0)
first_out true e es rest = refl
first_out false e es rest = refl

pub first_without : (es : List Entry) (k : ℕ) → is_object (content_at es k) ≡ true → first_place es ≤ first_place (without es k)
first_without [] k found = cc
first_without (e ∷ es) k found =
    subst (λ n. first_place (e ∷ es) ≤ n) (sym (first_out (e.0 == k) e es (without es k)))
    (later_first (e.0 == k) (is_live e) (first_place es) (first_place (without es k)) (λ is. content_here (e.0 == k) e.1 (content_at es k) is found)
    (λ is. first_without es k (content_later (e.0 == k) (Some e.1) (content_at es k) is found)))

-- a slot that is listed has an entry
pub held_place : (es : List Entry) (k : ℕ) (held : Slot) → content_at es k ≡ Some held → (i : ℕ) × IsAt es k i
held_place [] k held found = cc
held_place (e ∷ es) k held found =
    elim (e.0 == k) as (λ b. (e.0 == k) ≡ b → (i : ℕ) × IsAt (e ∷ es) k i) [
      | true ↦ λ t. (0, record { within = omega arith; here = eqb-true e.0 k t })
      | false ↦ λ t.
          let later = held_place es k held (sym (not_here (e.0 == k) (Some e.1) (content_at es k) t) ∙ found) in
          let within = later.1.within in
          (suc later.0, record { within = omega arith; here = later.1.here })
    ] refl

-- a Live slot has a Live entry
pub live_place : (es : List Entry) (k : ℕ) (d : Entry) → is_object (content_at es k) ≡ true → (i : ℕ) × (i < length es) × ((get_or es i d).0 ≡ k) × (is_live (get_or es i d) ≡ true)
live_place [] k d found = cc
live_place (e ∷ es) k d found =
    elim (e.0 == k) as (λ b. (e.0 == k) ≡ b → (i : ℕ) × (i < length (e ∷ es)) × ((get_or (e ∷ es) i d).0 ≡ k) × (is_live (get_or (e ∷ es) i d) ≡ true)) [
      | true ↦ λ t. (0, omega arith, eqb-true e.0 k t, content_here (e.0 == k) e.1 (content_at es k) t found)
      | false ↦ λ t.
          let later = live_place es k d (content_later (e.0 == k) (Some e.1) (content_at es k) t found) in
          (suc later.0, omega (arith, later.1), later.2, later.3)
    ] refl
