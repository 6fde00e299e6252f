-- Settled cars, and which cars are clean.
use Rattle.std.proofs.Common.{◌≡◌, ℕ, ◌+◌, ◌<◌, ◌==◌, Bool, true, false, if◌then◌else◌, arith, refl, sym, ap, subst, ◌∙◌, List, [], ◌∷◌, ◌++◌, length, take, get_or, zero, suc, Option, Some, None}
use Rattle.std.specs.Prelude.{option_map}
use Rattle.std.specs.List.{slice_get}
use Rattle.std.specs.Option.{option_and_then}
use Rattle.std.proofs.lemmas.Bool.{eqb-true}
use Rattle.std.proofs.lemmas.List.{length-take, take_more}
use Rattle.pm_types.specs.declared.object.Slot.{Slot}
use Rattle.pm_image.specs.declared.car.CarImage.{CarImage}
use Rattle.pm_image.specs.declared.settled.KeptPage.{KeptPage}
use Rattle.pm_saving.specs.Beginning.{settled_at, IsPlacedAs}
use Rattle.pm_save.specs.declared.progress.place.Place.TheVariants.{Clean, Unwritten}
use Rattle.pm_save.specs.Progress.Seen.{clean_at, place_seen}
use Rattle.pm_save.specs.Writer.Planned.{first_at, first_of}

later : (a : Option ℕ) (b : Bool) (n : ℕ) → option_map suc (first_of a (if b then Some n else None)) ≡ first_of (option_map suc a) (if b then Some (suc n) else None)
later None true n = refl
later None false n = refl
later (Some place) b n = refl

either : (e b : Bool) (a c : Option ℕ) (n : ℕ) → c ≡ first_of a (if b then Some n else None)
    → (if e then Some 0 else option_map suc c) ≡ first_of (if e then Some 0 else option_map suc a) (if b then Some (suc n) else None)
either true b a c n is = refl
either false b a c n is = ap (option_map suc) is ∙ later a b n

-- the place of a number with one more car behind
pub first_behind : (number : ℕ) (settled : List KeptPage) (kept : KeptPage)
    → first_at number (settled ++ kept ∷ []) ≡ first_of (first_at number settled) (if kept.image.number == number then Some (length settled) else None)
first_behind number [] kept = refl
first_behind number (first ∷ settled) kept =
    either (first.image.number == number) (kept.image.number == number) (first_at number settled) (first_at number (settled ++ kept ∷ [])) (length settled) (first_behind number settled kept)

found : (e : Bool) (a : Option ℕ) (kept : KeptPage) (others : List KeptPage) (b : Option KeptPage) → b ≡ option_and_then (slice_get others) a
    → (if e then Some kept else b) ≡ option_and_then (slice_get (kept ∷ others)) (if e then Some 0 else option_map suc a)
found true a kept others b is = refl
found false None kept others b is = is
found false (Some place) kept others b is = is

-- the settled car of a number stands at the place of that number
pub settled_there : (number : ℕ) (settled : List KeptPage) → settled_at number settled ≡ option_and_then (slice_get settled) (first_at number settled)
settled_there number [] = refl
settled_there number (kept ∷ others) = found (kept.image.number == number) (first_at number others) kept others (settled_at number others) (settled_there number others)

below : (e : Bool) (a : Option ℕ) (n place : ℕ) → ((p : ℕ) → a ≡ Some p → p < n) → (if e then Some 0 else option_map suc a) ≡ Some place → place < n + 1
below true a n place all is = let zero_is : 0 ≡ place = cc in omega (arith, zero_is)
below false None n place all is = absurd cc
below false (Some p) n place all is = let next : suc p ≡ place = cc in let under = all p refl in omega (arith, next, under)

-- which is one of the list
pub first_within : (number : ℕ) (settled : List KeptPage) (place : ℕ) → first_at number settled ≡ Some place → place < length settled
first_within number [] place is = absurd cc
first_within number (kept ∷ others) place is =
    let under = below (kept.image.number == number) (first_at number others) (length others) place (first_within number others) is in omega (arith, under)

got : (xs : List KeptPage) (place : ℕ) (d : KeptPage) → place < length xs → slice_get xs place ≡ Some (get_or xs place d)
got [] place d inside = absurd (omega arith)
got (x ∷ xs) zero d inside = refl
got (x ∷ xs) (suc place) d inside = got xs place d (omega (arith, inside))

numbered : (e : Bool) (kept found : KeptPage) (number : ℕ) (rest : Option KeptPage) → (e ≡ true → kept.image.number ≡ number) → (rest ≡ Some found → found.image.number ≡ number)
    → (if e then Some kept else rest) ≡ Some found → found.image.number ≡ number
numbered true kept found number rest same other is = let equal : kept ≡ found = cc in ap (λ (k : KeptPage). k.image.number) (sym equal) ∙ same refl
numbered false kept found number rest same other is = other is

-- it has that number
pub settled_number : (number : ℕ) (settled : List KeptPage) (kept : KeptPage) → settled_at number settled ≡ Some kept → kept.image.number ≡ number
settled_number number [] kept is = absurd cc
settled_number number (first ∷ others) kept is =
    numbered (first.image.number == number) first kept number (settled_at number others) (eqb-true first.image.number number) (settled_number number others kept) is

-- the settled car of a number, by its place
pub settled_is : (number : ℕ) (settled : List KeptPage) (place : ℕ) (d : KeptPage) → first_at number settled ≡ Some place → settled_at number settled ≡ Some (get_or settled place d)
settled_is number settled place d first =
    settled_there number settled ∙ ap (option_and_then (slice_get settled)) first ∙ got settled place d (first_within number settled place first)

-- a car with the same slots is clean
pub placed_clean : (number : ℕ) (slots : List (ℕ × Slot)) (settled : List KeptPage) (place : ℕ) (d : KeptPage) → first_at number settled ≡ Some place → slots ≡ (get_or settled place d).image.slots
    → IsPlacedAs settled (record { number = number; slots = slots }) (place_seen settled (Clean place))
placed_clean number slots settled place d first same =
    let kept = get_or settled place d in
    let there = settled_is number settled place d first in
    let image : kept.image ≡ record { number = number; slots = slots } = (λ i. record { number = settled_number number settled kept there i; slots = sym same i }) in
    subst (λ o. IsPlacedAs settled (record { number = number; slots = slots }) (clean_at o)) (sym (got settled place d (first_within number settled place first))) (there, image)

-- one with other slots is not
pub placed_dirty : (number : ℕ) (slots : List (ℕ × Slot)) (settled : List KeptPage) (place : ℕ) (d : KeptPage) → first_at number settled ≡ Some place → (slots ≡ (get_or settled place d).image.slots → ⊥)
    → IsPlacedAs settled (record { number = number; slots = slots }) (place_seen settled Unwritten)
placed_dirty number slots settled place d first differ other there image =
    let same : get_or settled place d ≡ other = let a = settled_is number settled place d first in cc in
    differ (ap (λ (it : CarImage). it.slots) (sym image) ∙ ap (λ (k : KeptPage). k.image.slots) (sym same))

-- nor is one whose number no settled car has
pub placed_new : (number : ℕ) (slots : List (ℕ × Slot)) (settled : List KeptPage) → first_at number settled ≡ None → IsPlacedAs settled (record { number = number; slots = slots }) (place_seen settled Unwritten)
placed_new number slots settled none other there image = let a = settled_there number settled ∙ ap (option_and_then (slice_get settled)) none in absurd cc

-- the place of a number among one car more
pub index_more : (number : ℕ) (settled : List KeptPage) (i : ℕ) (d : KeptPage) (was : Option ℕ) → i < length settled → was ≡ first_at number (take i settled)
    → first_of was (if (get_or settled i d).image.number == number then Some i else None) ≡ first_at number (take (i + 1) settled)
index_more number settled i d was inside same =
    let here : length (take i settled) ≡ i = length-take i settled ∙ omega (arith, inside) in
    (λ j. first_of (same j) (if (get_or settled i d).image.number == number then Some (sym here j) else None))
    ∙ sym (first_behind number (take i settled) (get_or settled i d))
    ∙ ap (λ (ks : List KeptPage). first_at number ks) (sym (take_more settled i d inside))
