-- How many changes cars are told where registers are emptied one after another.
use Rattle.std.proofs.Common.{◌≡◌, ℕ, ◌+◌, ◌<◌, ◌≤◌, ◌==◌, ◌&&◌, Bool, true, false, cond, nat_le, refl, ap, sym, subst, ◌∙◌, ⊎_elim, Option, Some, None, IsSome, arith, zero, suc}
use Rattle.std.specs.FinMap.{get, get-remove}
use Rattle.std.proofs.lemmas.Bool.{cases_Bool, cond-true, cond-false, eq-eqb}
use Rattle.std.proofs.lemmas.Bool.Decides.{nat_tests}
use Rattle.pm_types.proofs.Orders.{places_total}
use Rattle.pm_types.specs.declared.address.Addr.{Addr}
use Rattle.pm_types.specs.declared.source.RefSource.TheVariants.{Handle}
use Rattle.pm_trains.specs.Trains.{train_of}
use Rattle.pm_view.specs.View.{Registers, SpaceView}
use Rattle.pm_view.specs.Rows.{spread}
use Rattle.pm_view.specs.Commands.{emptied}
use Rattle.pm_law_commands.proofs.RowLemmas.SameSource.{place_ties}
use Rattle.pm_space.specs.declared.links.Links.{Links}
use Rattle.pm_space.specs.Linked.{Linked, HasRoomOf, HasRoom, HasRoomFor, AreHoused, told_by}
use Rattle.pm_mutate.specs.Commands.Closing.{stored_in}

-- each queue has room for no change
pub no_room : (links : Linked) (car : ℕ) → HasRoom links car 0
no_room links car = by_case (get links car)
  where
    by_case : (o : Option Links) → HasRoomOf o 0
    by_case None = tt
    by_case (Some it) = omega arith

-- a queue that has room has room for fewer changes
pub fewer : (links : Linked) (car m n : ℕ) → m ≤ n → HasRoom links car n → HasRoom links car m
fewer links car m n within room = by_case (get links car) room
  where
    by_case : (o : Option Links) → HasRoomOf o n → HasRoomOf o m
    by_case None room = tt
    by_case (Some it) room = omega (arith, room, within)

-- where an address is given, its car's queue has room
pub room_for : (links : Linked) (o : Option Addr) → ((a : Addr) → o ≡ Some a → HasRoom links a.car 1) → HasRoomFor links o
room_for links None each = tt
room_for links (Some a) each = each a refl

one_next : (n : ℕ) → suc n ≡ n + 1
one_next n = omega arith

-- one register more
pub stored_next : (registers : Registers) (client n car : ℕ) → stored_in registers client (n + 1) car ≡ stored_in registers client n car + told_by car (get registers (client, n))
stored_next registers client n car = subst (λ k. stored_in registers client k car ≡ stored_in registers client n car + told_by car (get registers (client, n))) (one_next n) refl

pub emptied_next : (view : SpaceView) (client n : ℕ) → spread (emptied view client n) (Handle client n) None ≡ emptied view client (n + 1)
emptied_next view client n = ap (emptied view client) (one_next n)

told_once : (car : ℕ) (o : Option Addr) → told_by car o ≤ 1
told_once car None = omega arith
told_once car (Some a) = by_case (a.car == car)
  where
    by_case : (b : Bool) → cond b 1 0 ≤ 1
    by_case true = omega arith
    by_case false = omega arith

-- no more than there are registers
pub few_stored : (registers : Registers) (client n car : ℕ) → stored_in registers client n car ≤ n
few_stored registers client zero car = omega arith
few_stored registers client (suc n) car = let before = few_stored registers client n car in let one = told_once car (get registers (client, n)) in omega (arith, before, one)

-- and no fewer among more registers
pub more_stored : (registers : Registers) (client m n car : ℕ) → m ≤ n → stored_in registers client m car ≤ stored_in registers client n car
more_stored registers client m zero car within =
    let none : m ≡ 0 = omega (arith, within) in subst (λ k. stored_in registers client k car ≤ 0) (sym none) (omega arith)
more_stored registers client m (suc n) car within =
    ⊎_elim
    (λ (below : nat_le m n ≡ true). let before = more_stored registers client m n car (grind (arith, nat_tests, below)) in omega (arith, before))
    (λ (over : nat_le m n ≡ false). let same : m ≡ suc n = grind (arith, nat_tests, over, within) in subst (λ k. stored_in registers client m car ≤ stored_in registers client k car) same (omega arith))
    (cases_Bool (nat_le m n))

-- a register that stores an address is counted for its car
pub stored_here : (registers : Registers) (client n limit : ℕ) (a : Addr) → get registers (client, n) ≡ Some a → n < limit → stored_in registers client n a.car + 1 ≤ stored_in registers client limit a.car
stored_here registers client n limit a is below =
    let more = more_stored registers client (n + 1) limit a.car (omega (arith, below)) in
    let next = stored_next registers client n a.car in
    let one : told_by a.car (get registers (client, n)) ≡ 1 = ap (told_by a.car) is ∙ cond-true _ _ _ (eq-eqb a.car a.car refl) in
    omega (arith, more, next, one)

-- what is not touched where registers are emptied
pub emptied_sets : (view : SpaceView) (client n : ℕ) → (emptied view client n).sets ≡ view.sets
emptied_sets view client zero = refl
emptied_sets view client (suc n) = emptied_sets view client n

pub emptied_trains : (view : SpaceView) (client n : ℕ) → (emptied view client n).trains ≡ view.trains
emptied_trains view client zero = refl
emptied_trains view client (suc n) = emptied_trains view client n

apart : (client n k : ℕ) → suc n ≤ k → ((client == client) && (k == n)) ≡ false
apart client n k below = grind (arith, nat_tests, below)

pub emptied_later : (view : SpaceView) (client n k : ℕ) → n ≤ k → get (emptied view client n).registers (client, k) ≡ get view.registers (client, k)
emptied_later view client zero k below = refl
emptied_later view client (suc n) k below =
    get-remove places_total (emptied view client n).registers (client, n) (client, k)
    ∙ ap (λ b. cond b None (get (emptied view client n).registers (client, k))) (place_ties client k client n)
    ∙ cond-false _ _ _ (apart client n k below)
    ∙ emptied_later view client n k (omega (arith, below))

-- cars that have remembered sets are in trains still
pub housed_still : (v w : SpaceView) → w.sets ≡ v.sets → w.trains ≡ v.trains → AreHoused v.sets v.trains.trains → AreHoused w.sets w.trains.trains
housed_still v w sets trains all = λ car some. subst (λ t. IsSome (train_of t.trains car)) (sym trains) (all car (subst (λ s. IsSome (get s car)) sets some))

-- ---- numbers

-- what is counted is below the limit
pub counted_below : (counted stored register count limit : ℕ) → counted ≡ stored → stored ≤ register → register < count → count ≤ limit → counted < limit
counted_below counted stored register count limit is few before within = omega (arith, is, few, before, within)

-- the room for the registers that are left has room for this one
pub room_left : (next before told used count limit : ℕ) → next ≡ before + told → used ≡ told → next + count ≤ limit → before + (count + used) ≤ limit
room_left next before told used count limit is same within = omega (arith, is, same, within)
