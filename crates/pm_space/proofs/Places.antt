-- A car in which an object fits.
use Rattle.std.proofs.Common.{◌≡◌, ℕ, ◌+◌, ◌≤◌, ◌&&◌, Bool, true, false, cond, nat_le, if◌then◌else◌, refl, ap, sym, subst, ◌∙◌, Some, None, IsSomeAnd, arith}
use Rattle.std.specs.Option.{option_and_then}
use Rattle.std.specs.FinMap.{get}
use Rattle.std.proofs.lemmas.Bool.{le-leb, cond-true, eq-eqb}
use Rattle.pm_cars.specs.Cars.{Car, Fits, used, new_car}
use Rattle.pm_snap.specs.Snapped.{Snapped}
use Rattle.pm_view.specs.View.{SpaceView}
use Rattle.pm_view.specs.Rows.{has_room, with_car}
use Rattle.pm_law_commands.proofs.RowLemmas.Born.{new_counts}
use Rattle.pm_law_commands.proofs.RowLemmas.News.{at_insert}
use Rattle.pm_space.specs.declared.held.Held.{Held}
use Rattle.pm_space.specs.Shown as shown
use Rattle.pm_space.specs.Places.{FitsIn}
use Rattle.pm_space.proofs.HeldCars.{get_car}

both_hold : (a b : Bool) → a ≡ true → b ≡ true → (a && b) ≡ true
both_hold true b first second = second
both_hold false b first second = first

-- there is room where an object fits
pub room_where_fits : (car : Car) (room : ℕ) → Fits car room → has_room car room ≡ true
room_where_fits car room fits = both_hold (nat_le (used car + room) 16384) (nat_le car.next 65535) (le-leb (used car + room) 16384 fits.0) (le-leb car.next 65535 fits.1)

-- a car that is there, where it is asked whether an object fits it
pub asked : (table : Snapped Held) (room number : ℕ) (held : Held) (b : Bool) → Some held ≡ get table.current number → has_room held.car.car room ≡ b
    → option_and_then (λ (car : Car). if has_room car room then Some number else None) (get (shown.cars_of table) number) ≡ cond b (Some number) None
asked table room number held b is has =
    ap (option_and_then (λ (car : Car). if has_room car room then Some number else None)) (get_car table number (Some held) is) ∙ ap (λ b. cond b (Some number) None) has

-- and one that is not there
pub asked_none : (table : Snapped Held) (room number : ℕ) → None ≡ get table.current number
    → option_and_then (λ (car : Car). if has_room car room then Some number else None) (get (shown.cars_of table) number) ≡ None
asked_none table room number is = ap (option_and_then (λ (car : Car). if has_room car room then Some number else None)) (get_car table number None is)

pub fits_there : (table : Snapped Held) (room number : ℕ) (held : Held) → Some held ≡ get table.current number → Fits held.car.car room → FitsIn (shown.cars_of table) number room
fits_there table room number held is fits = subst (λ o. IsSomeAnd o (λ (car : Car). Fits car room)) (sym (get_car table number (Some held) is)) fits

-- an object fits a car that was opened
pub fits_opened : (view : SpaceView) (train number room : ℕ) → room ≤ 16370 → FitsIn (with_car view train number).cars number room
fits_opened view train number room small =
    subst (λ o. IsSomeAnd o (λ (car : Car). Fits car room)) (sym (at_insert view.cars number (new_car number) number ∙ cond-true _ _ _ (eq-eqb number number refl)))
    (let head = (new_counts number).2 in omega (arith, head, small), omega arith)
