-- Room in the queues of the cars that fields name.
use Rattle.std.proofs.Common.{◌≡◌, ℕ, zero, suc, ◌+◌, ◌<◌, ◌≤◌, ◌==◌, arith, Bool, true, false, cond, refl, ap, sym, subst, List, [], ◌∷◌, length, take, get_or, Option, Some, None, is_some}
use Rattle.std.specs.FinMap.{get}
use Rattle.std.proofs.lemmas.List.Sums.{sum_by-cons, sum_by_more}
use Rattle.pm_types.specs.declared.address.Addr.{Addr}
use Rattle.pm_types.specs.declared.object.Object.{Object}
use Rattle.pm_space.specs.declared.links.Links.{Links}
use Rattle.pm_space.specs.Linked.{Linked, HasRoom, HasRoomOf, told_by}
use Rattle.pm_evac.specs.Relocate.Named.{named_by, naming}
use Rattle.pm_evac.proofs.RelocateLemmas.Fields.{less_room}

abbrev Fields : Type 0
Fields = List (Option Addr)

-- ---- how many fields name a car

told_most : (car : ℕ) (f : Option Addr) → told_by car f ≤ cond (is_some f) 1 0
told_most car None = omega arith
told_most car (Some a) = small (a.car == car)
  where
    small : (b : Bool) → cond b 1 0 ≤ 1
    small true = omega arith
    small false = omega arith

-- no more fields name one car than name any
pub named_most : (fs : Fields) (car : ℕ) → named_by fs car ≤ naming fs
named_most [] car = omega arith
named_most (f ∷ fs) car =
    let first = told_most car f in
    let rest = named_most fs car in
    let one = sum_by-cons (told_by car) f fs in
    let all = sum_by-cons (λ (f : Option Addr). cond (is_some f) 1 0) f fs in
    omega (arith, first, rest, one, all)

pub named_in_both : (fs gs : Fields) (car many : ℕ) → many ≡ naming fs + naming gs → named_by fs car + named_by gs car ≤ many
named_in_both fs gs car many is =
    let old = named_most fs car in
    let new = named_most gs car in
    omega (arith, old, new, is)

-- ---- room for so many changes in each car that is named

-- a queue has room for no change
none_needed : (links : Linked) (car : ℕ) → HasRoom links car 0
none_needed links car = by_case (get links car)
  where
    by_case : (o : Option Links) → HasRoomOf o 0
    by_case None = tt
    by_case (Some it) = omega arith

module _ (fs : Fields) (i : ℕ) (inside : i < length fs) where
  -- a field that names no car
  pub none_next : get_or fs i None ≡ None → (car : ℕ) → 0 < named_by (take (i + 1) fs) car → 0 < named_by (take i fs) car
  none_next none car some =
      let next = sum_by_more (told_by car) fs i None inside in
      let no : told_by car (get_or fs i None) ≡ 0 = ap (told_by car) none in
      omega (arith, next, no, some)

-- room for as many changes as fields of two lists name a car, where each car that is named has room for so many
pub room_for_both : (middle links : Linked) (fs gs : Fields) (many : ℕ) → naming fs + naming gs ≡ many → ((car : ℕ) → 0 < named_by fs car → HasRoom middle car many)
    → ((other more : ℕ) → HasRoom middle other more → HasRoom links other more) → ((car : ℕ) → 0 < named_by gs car → HasRoom links car many)
    → (car : ℕ) → HasRoom links car (named_by fs car + named_by gs car)
room_for_both middle links fs gs many is first kept then car = by_old (named_by fs car) refl (named_by gs car) refl
  where
    within : named_by fs car + named_by gs car ≤ many
    within = named_in_both fs gs car many (sym is)

    by_old : (old : ℕ) → named_by fs car ≡ old → (new : ℕ) → named_by gs car ≡ new → HasRoom links car (named_by fs car + named_by gs car)
    by_old zero one zero two = subst (HasRoom links car) (omega (arith, one, two)) (none_needed links car)
    by_old zero one (suc new) two = less_room links car many (named_by fs car + named_by gs car) within (then car (omega (arith, two)))
    by_old (suc old) one new two = less_room links car many (named_by fs car + named_by gs car) within (kept car many (first car (omega (arith, one))))

-- one object has one list of fields
pub same_fields : (one other : Object) → ◌≡◌ {A = Option Object} (Some one) (Some other) → one.fields ≡ other.fields
same_fields one other same = let is : one ≡ other = cc in ap (λ (o : Object). o.fields) is
