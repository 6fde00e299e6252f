-- What cars are told of the fields of an object, one field after the other.
use Rattle.std.proofs.Common.{◌≡◌, ℕ, zero, suc, ◌+◌, ◌<◌, ◌≤◌, ◌==◌, arith, Bool, cond, refl, ap, sym, ◌∙◌, List, [], ◌∷◌, ◌++◌, length, take, get_or, Option, Some, None}
use Rattle.std.specs.FinMap.{get}
use Rattle.std.proofs.lemmas.Bool.{cond-true, eq-eqb}
use Rattle.std.proofs.lemmas.List.{append-nil, append_assoc}
use Rattle.std.proofs.lemmas.List.Sums.{sum_by_more, sum_by_more_le, sum_by_push}
use Rattle.pm_types.specs.declared.address.Addr.{Addr}
use Rattle.pm_types.specs.declared.source.RefSource.{RefSource}
use Rattle.pm_types.specs.declared.source.Change.{Change}
use Rattle.pm_view.specs.View.{Queues}
use Rattle.pm_view.specs.Barrier.{left, barrier, pushed, told}
use Rattle.pm_view.specs.Collecting.{field_news}
use Rattle.pm_space.specs.declared.links.Links.{Links}
use Rattle.pm_space.specs.Linked.{Linked, HasRoom, HasRoomOf, HasRoomFor, told_by, times}
use Rattle.pm_evac.specs.Relocate.Named.{named_by}

abbrev Fields : Type 0
Fields = List (Option Addr)

-- queues that heard of two lists heard of the one and then of the other
pub told-append : (queues : Queues) (cs ds : List (ℕ × Change)) → told queues (cs ++ ds) ≡ told (told queues cs) ds
told-append queues [] ds = refl
told-append queues (c ∷ cs) ds = told-append (pushed queues c.0 (get queues c.0) c.1) cs ds

-- a source that becomes null: the car of the old address hears, and no other
pub barrier_to_null : (aside : ℕ → Bool) (source : RefSource) (old : Option Addr) → barrier aside source old None ≡ left aside source old
barrier_to_null aside source None = refl
barrier_to_null aside source (Some a) = append-nil (left aside source (Some a))

module _ (tell : ℕ → Option Addr → List (ℕ × Change)) where
  -- the changes for the fields up to a place, and those for the next one
  pub news_next : (n : ℕ) (fs : Fields) (i : ℕ) → i < length fs → field_news tell n (take (i + 1) fs) ≡ field_news tell n (take i fs) ++ tell (n + i) (get_or fs i None)
  news_next n [] i inside = absurd (omega arith)
  news_next n (f ∷ fs) zero inside = append-nil (tell n f) ∙ ap (λ k. tell k f) (omega arith)
  news_next n (f ∷ fs) (suc i) inside =
      let rest = news_next (n + 1) fs i (omega (arith, inside)) in
      let next : suc i + 1 ≡ suc (i + 1) = omega arith in
      let place : n + 1 + i ≡ n + suc i = omega arith in
      ap (λ k. field_news tell n (take k (f ∷ fs))) next
      ∙ ap (λ cs. tell n f ++ cs) rest
      ∙ sym (append_assoc (tell n f) (field_news tell (n + 1) (take i fs)) (tell (n + 1 + i) (get_or fs i None)))
      ∙ ap (λ k. tell n f ++ field_news tell (n + 1) (take i fs) ++ tell k (get_or fs i None)) place

  -- queues that heard of the fields up to a place, and then of the next one
  pub heard_next : (before queues after : Queues) (fs : Fields) (i : ℕ) → i < length fs → queues ≡ told before (field_news tell 0 (take i fs)) → after ≡ told queues (tell i (get_or fs i None))
      → after ≡ told before (field_news tell 0 (take (i + 1) fs))
  heard_next before queues after fs i inside so_far then =
      let place : i ≡ 0 + i = omega arith in
      then
      ∙ ap (λ q. told q (tell i (get_or fs i None))) so_far
      ∙ sym (told-append before (field_news tell 0 (take i fs)) (tell i (get_or fs i None)))
      ∙ ap (λ k. told before (field_news tell 0 (take i fs) ++ tell k (get_or fs i None))) place
      ∙ sym (ap (told before) (news_next 0 fs i inside))

-- ---- room

-- a field that names a car
pub names_car : (a : Addr) → told_by a.car (Some a) ≡ 1
names_car a = cond-true _ _ _ (eq-eqb a.car a.car refl)

-- there is room for what the next field's car is told
pub room_next : (links : Linked) (fs : Fields) (i : ℕ) (f : Option Addr) → i < length fs → f ≡ get_or fs i None
    → ((car count : ℕ) → named_by (take i fs) car + count ≤ named_by fs car → HasRoom links car count) → HasRoomFor links f
room_next links fs i None inside is room = tt
room_next links fs i (Some a) inside is room =
    let most = sum_by_more_le (told_by a.car) fs i None inside in
    let one : told_by a.car (get_or fs i None) ≡ 1 = ap (told_by a.car) (sym is) ∙ names_car a in
    room a.car 1 (omega (arith, most, one))

-- the room that is left has room for the fields that are left
pub room_left : (fs : Fields) (i : ℕ) (f : Option Addr) (car count : ℕ) → i < length fs → f ≡ get_or fs i None → named_by (take (i + 1) fs) car + count ≤ named_by fs car
    → named_by (take i fs) car + (count + (told_by car f + told_by car None)) ≤ named_by fs car
room_left fs i f car count inside is within =
    let next = sum_by_more (told_by car) fs i None inside in
    let same : told_by car f ≡ told_by car (get_or fs i None) = ap (told_by car) is in
    omega (arith, next, same, within)

-- room for more is room for less
pub less_room : (links : Linked) (car more less : ℕ) → less ≤ more → HasRoom links car more → HasRoom links car less
less_room links car more less le room = by_case (get links car) room
  where
    by_case : (o : Option Links) → HasRoomOf o more → HasRoomOf o less
    by_case None room = tt
    by_case (Some it) room = omega (arith, le, room)

-- room for what the cars of two addresses are told is room for each
pub room_for : (links : Linked) (o : Option Addr) (most : ℕ → ℕ) → ((car : ℕ) → told_by car o ≤ most car) → ((car : ℕ) → HasRoom links car (most car)) → HasRoomFor links o
room_for links None most le room = tt
room_for links (Some a) most le room = let one = names_car a in let within = le a.car in less_room links a.car (most a.car) 1 (omega (arith, one, within)) (room a.car)

-- the room that is left has room for the fields that are left, of two lists
pub room_left_of_both : (fs gs : Fields) (i car count : ℕ) → i < length fs → i < length gs → named_by (take (i + 1) fs) car + named_by (take (i + 1) gs) car + count ≤ named_by fs car + named_by gs car
    → named_by (take i fs) car + named_by (take i gs) car + (count + (told_by car (get_or fs i None) + told_by car (get_or gs i None))) ≤ named_by fs car + named_by gs car
room_left_of_both fs gs i car count inside inside_too within =
    let next = sum_by_more (told_by car) fs i None inside in
    let next_too = sum_by_more (told_by car) gs i None inside_too in
    omega (arith, next, next_too, within)

-- ---- the cars that are named

-- a field more that names a car, and one that is null
pub counted_some : (base : ℕ) (cars : List ℕ) (fs : Fields) (i : ℕ) (a : Addr) (car : ℕ) → i < length fs → Some a ≡ get_or fs i None → times car cars ≡ base + named_by (take i fs) car
    → times car (cars ++ a.car ∷ []) ≡ base + named_by (take (i + 1) fs) car
counted_some base cars fs i a car inside is so_far =
    let pushed = sum_by_push (λ c. cond (c == car) 1 0) cars a.car in
    let next = sum_by_more (told_by car) fs i None inside in
    let same : told_by car (Some a) ≡ told_by car (get_or fs i None) = ap (told_by car) is in
    omega (arith, pushed, next, same, so_far)
