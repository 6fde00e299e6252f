-- A car that was prepared for an object: that it fits there, and the room that its queue and the others have.
use Rattle.std.proofs.Common.{◌≡◌, ℕ, ◌≤◌, ◌==◌, Bool, true, false, nat_le, refl, ap, sym, subst, ◌∙◌, ⊎_elim, Option, Some, None, IsSome, IsSomeAnd, IfSome, is_some, arith}
use Rattle.std.specs.Ordering.{nat_cmp}
use Rattle.std.specs.Option.{option_map}
use Rattle.std.specs.FinMap.{get, insert, empty}
use Rattle.std.proofs.lemmas.Bool.{cond-false, eqb-true, cases_Bool, true≢false}
use Rattle.std.proofs.lemmas.Bool.Decides.{nat_tests}
use Rattle.pm_types.proofs.Mapped.{get-mapped}
use Rattle.pm_cars.specs.Cars.{Car, Fits, with_slot}
use Rattle.pm_view.specs.View.{Cars, SpaceView}
use Rattle.pm_types.specs.declared.address.Addr.{Addr}
use Rattle.pm_types.specs.declared.object.Slot.{Slot}
use Rattle.pm_view.specs.Rows.{put_car, with_slot_at, IsVacant}
use Rattle.pm_law_commands.proofs.RowLemmas.News.{at_insert}
use Rattle.pm_space.specs.declared.links.Links.{Links}
use Rattle.pm_space.specs.Linked.{Linked, set_of, sets_of, HasRoom, HasRoomOf, KeepsRoom}
use Rattle.pm_space.specs.Places.{FitsIn, with_place, place_of}
use Rattle.pm_space.proofs.Places.{fits_opened}
use Rattle.pm_evac.proofs.RelocateLemmas.Fields.{less_room}

-- an object fits the car that was prepared for it
pub fits_placed : (view : SpaceView) (train : ℕ) (tail : Option ℕ) (number room : ℕ) → room ≤ 16370 → IfSome tail (λ car. FitsIn view.cars car room) → FitsIn (with_place view train tail number).cars (place_of tail number) room
fits_placed view train None number room small fits = fits_opened view train number room small
fits_placed view train (Some car) number room small fits = fits

-- the least number that no car has is one
pub one_vacant : (cars : Cars) (m n : ℕ) → IsVacant cars m → IsVacant cars n → m ≡ n
one_vacant cars m n one other = by_tests (nat_le m n) refl (nat_le n m) refl
  where
    none_taken : (k : ℕ) → get cars k ≡ None → IsSome (get cars k) → ⊥
    none_taken k none some = true≢false (sym some ∙ ap is_some none)

    by_tests : (b : Bool) → nat_le m n ≡ b → (d : Bool) → nat_le n m ≡ d → m ≡ n
    by_tests true le true ge = grind (arith, nat_tests, le, ge)
    by_tests true le false less = absurd (none_taken m one.vacant (other.least m one.from_one (grind (arith, nat_tests, less))))
    by_tests false more d ge = absurd (none_taken n other.vacant (one.least n other.from_one (grind (arith, nat_tests, more))))

-- ---- room in queues

no_links : (links : Linked) (car : ℕ) → is_some (get (sets_of links) car) ≡ false → get links car ≡ None
no_links links car none = by_case (get links car) (sym (ap is_some (get-mapped nat_cmp set_of links car)) ∙ none)
  where
    by_case : (o : Option Links) → is_some (option_map set_of o) ≡ false → o ≡ None
    by_case None none = refl
    by_case (Some it) none = absurd (true≢false none)

-- a car that was opened has the room that it was opened with, and the others what they had
pub room_opened : (old new : Linked) (number room : ℕ) → sets_of new ≡ insert (sets_of old) number empty → KeepsRoom old new → HasRoom new number room
    → (car count : ℕ) → count ≤ room → HasRoom old car count → HasRoom new car count
room_opened old new number room sets kept made car count within had = by_old (get old car) refl
  where
    by_old : (o : Option Links) → get old car ≡ o → HasRoom new car count
    by_old (Some it) is = kept car count (ap is_some is) had
    by_old None is =
        ⊎_elim
        (λ (same : (number == car) ≡ true). subst (λ c. HasRoom new c count) (eqb-true number car same) (less_room new number room count within made))
        (λ (differs : (number == car) ≡ false).
        let gone : is_some (get (sets_of new) car) ≡ false =
        ap (λ m. is_some (get m car)) sets ∙ ap is_some (at_insert (sets_of old) number empty car ∙ cond-false _ _ _ differs) ∙ ap is_some (get-mapped nat_cmp set_of old car) ∙ ap (λ o. is_some (option_map set_of o)) is in
        subst (λ o. HasRoomOf o count) (sym (no_links new car gone)) tt)
        (cases_Bool (number == car))

-- ---- an object that is carried

-- what is the value of an option, and what holds of that
pub some_with : {A : Type 0} (o : Option A) (x : A) (P : A → Type 0) → IsSomeAnd o (λ y. x ≡ y) → P x → IsSomeAnd o P
some_with None x P is holds = absurd is
some_with (Some y) x P is holds = subst P is holds

pub of_some : {A : Type 0} (o : Option A) (x : A) (P : A → Type 0) → IsSomeAnd o (λ y. x ≡ y) → IsSomeAnd o P → P x
of_some None x P is holds = absurd is
of_some (Some y) x P is holds = subst P (sym is) holds

-- a slot of another car holds something else: an object still fits
pub fits_still : (cars : Cars) (a : Addr) (content : Slot) (car room : ℕ) → (a.car == car) ≡ false → FitsIn cars car room → FitsIn (with_slot_at cars a content) car room
fits_still cars a content car room apart fits = by_case (get cars a.car)
  where
    by_case : (o : Option Car) → FitsIn (put_car cars a.car o (λ it. with_slot it a.slot content)) car room
    by_case None = fits
    by_case (Some it) = subst (λ o. IsSomeAnd o (λ (it : Car). Fits it room)) (sym (at_insert cars a.car (with_slot it a.slot content) car ∙ cond-false _ _ _ apart)) fits
