-- Each object begins where the one before it ends.
use Rattle.std.proofs.Common.{◌≡◌, ℕ, zero, suc, ◌-◌, ◌<◌, ◌≤◌, List, [], ◌∷◌, length, Option, Some, None, slice_get, slice_range, sym, ap, subst, ◌∙◌, arith}
use Rattle.std.proofs.lemmas.Option.{same_Some}
use Rattle.pm_dump.specs.declared.parts.Place.{Place}
use Rattle.pm_dump.specs.Read.{objects_shown, AreEnds}
use Rattle.pm_dump.specs.Lent.{begins_of}
use Rattle.pm_dump.proofs.PartsLemmas.{ends_below}

not_none : {A : Type 0} (x : A) → ◌≡◌ {A = Option A} None (Some x) → ⊥
not_none x is = cc is

begins_first : (first : ℕ × ℕ) (places : List Place) (at : ℕ) → at ≡ 0 → begins_of first places at ≡ first
begins_first first places at is = ap (begins_of first places) is

begins_next : (first : ℕ × ℕ) (places : List Place) (before : ℕ) (place : Place) → slice_get places before ≡ Some place → begins_of first places (suc before) ≡ (place.fields, place.bytes)
begins_next first [] before place is = absurd (not_none place is)
begins_next first (p ∷ places) zero place is = ap (λ (p : Place). (p.fields, p.bytes)) (same_Some p place is)
begins_next first (p ∷ places) (suc before) place is = begins_next (p.fields, p.bytes) places before place is

-- where the first object begins, and where each other one does
pub first_begins : (places : List Place) (at : ℕ) → at ≡ 0 → (0, 0) ≡ begins_of (0, 0) places at
first_begins places at is = sym (begins_first (0, 0) places at is)

pub next_begins : (places : List Place) (at : ℕ) (place : Place) → 0 < at → slice_get places (at - 1) ≡ Some place → (place.fields, place.bytes) ≡ begins_of (0, 0) places at
next_begins places at place some is =
    let same : suc (at - 1) ≡ at = omega (arith, some) in
    sym (begins_next (0, 0) places (at - 1) place is) ∙ ap (begins_of (0, 0) places) same

module _ (fields : List (Option ℕ)) (bytes : List ℕ) where
  -- the object at a place
  pub shown_at : (from start : ℕ) (places : List Place) (at : ℕ) (place : Place) → slice_get places at ≡ Some place
      → slice_get (objects_shown from start places fields bytes) at ≡ Some (place.id, record { fields = slice_range fields (begins_of (from, start) places at).0 place.fields; bytes = slice_range bytes (begins_of (from, start) places at).1 place.bytes })
  shown_at from start [] at place is = absurd (not_none place is)
  shown_at from start (p ∷ places) zero place is =
      ap (λ (p : Place). Some (p.id, record { fields = slice_range fields from p.fields; bytes = slice_range bytes start p.bytes })) (same_Some p place is)
  shown_at from start (p ∷ places) (suc at) place is = shown_at p.fields p.bytes places at place is

  -- it ends not before it begins, and within both lists
  pub within_at : (from start : ℕ) (places : List Place) (at : ℕ) (place : Place) → AreEnds from start places (length fields) (length bytes) → slice_get places at ≡ Some place
      → ((begins_of (from, start) places at).0 ≤ place.fields) × (place.fields ≤ length fields) × ((begins_of (from, start) places at).1 ≤ place.bytes) × (place.bytes ≤ length bytes)
  within_at from start [] at place ends is = absurd (not_none place is)
  within_at from start (p ∷ places) zero place ends is =
      let below = ends_below p.fields p.bytes places (length fields) (length bytes) ends.2 in
      subst (λ (p : Place). (from ≤ p.fields) × (p.fields ≤ length fields) × (start ≤ p.bytes) × (p.bytes ≤ length bytes)) (same_Some p place is) (ends.0, below.0, ends.1, below.1)
  within_at from start (p ∷ places) (suc at) place ends is = within_at p.fields p.bytes places at place ends.2 is

module _ (fields : List (Option ℕ)) (bytes : List ℕ) (places shown : List Place) (at : ℕ) (place : Place) (begin : ℕ × ℕ) (same : shown ≡ places) (is : slice_get shown at ≡ Some place) (first : begin ≡ begins_of (0, 0) shown at) where
  here : slice_get places at ≡ Some place
  here = sym (ap (λ (ps : List Place). slice_get ps at) same) ∙ is

  begin_is : begins_of (0, 0) places at ≡ begin
  begin_is = sym (first ∙ ap (λ (ps : List Place). begins_of (0, 0) ps at) same)

  -- where it begins and ends
  pub bounds_at : AreEnds 0 0 places (length fields) (length bytes) → (begin.0 ≤ place.fields) × (place.fields ≤ length fields) × (begin.1 ≤ place.bytes) × (place.bytes ≤ length bytes)
  bounds_at ends =
      subst (λ (b : ℕ × ℕ). (b.0 ≤ place.fields) × (place.fields ≤ length fields) × (b.1 ≤ place.bytes) × (place.bytes ≤ length bytes)) begin_is (within_at fields bytes 0 0 places at place ends here)

  -- and what stands between
  pub lent_at : (some : List (Option ℕ)) (part : List ℕ) → some ≡ slice_range fields begin.0 place.fields → part ≡ slice_range bytes begin.1 place.bytes → slice_get (objects_shown 0 0 places fields bytes) at ≡ Some (place.id, record { fields = some; bytes = part })
  lent_at some part are hold =
      shown_at fields bytes 0 0 places at place here
      ∙ ap (λ (b : ℕ × ℕ). Some (place.id, record { fields = slice_range fields b.0 place.fields; bytes = slice_range bytes b.1 place.bytes })) begin_is
      ∙ (λ i. Some (place.id, record { fields = sym are i; bytes = sym hold i }))
