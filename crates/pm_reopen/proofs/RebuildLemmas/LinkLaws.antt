-- The table of the cars and what they have beside them.
use Rattle.std.proofs.Common.{◌≡◌, ℕ, zero, suc, ◌<◌, ◌≤◌, ◌-◌, ◌==◌, true, false, cond, List, [], ◌∷◌, ◌++◌, length, map, drop, get_or, Option, Some, None, refl, sym, ap, subst, ◌∙◌, arith}
use Rattle.std.proofs.Math.ListN.{drop_of_length-le}
use Rattle.std.specs.Option.{option_map, unwrap_or}
use Rattle.std.proofs.lemmas.List.{append-nil}
use Rattle.std.specs.List.{AllByRecursion}
use Rattle.std.specs.Cmp.{nat_cmp_total}
use Rattle.std.specs.Ordering.{nat_cmp, eq_by_cmp}
use Rattle.std.proofs.lemmas.Bool.{eqb-true}
use Rattle.std.specs.FinMap.{FinMap, get, insert, remove, empty, get-insert, get-remove, get-empty, get-from_entries, nat_cmp-IsAntisymmetric}
use Rattle.std.specs.FinMap.Entries.{find}
use Rattle.pm_types.specs.Mapped.{mapped}
use Rattle.pm_types.proofs.Mapped.{get-mapped, mapped-insert, mapped-empty}
use Rattle.pm_types.specs.declared.source.Change.{Change}
use Rattle.pm_cars.specs.Cars.{Car, CarAndSpare}
use Rattle.pm_view.specs.View.{Cars, Sources, Sets}
use Rattle.pm_copies.specs.Built.{Placed, IsFull, CarsDiffer, built_cars}
use Rattle.pm_law_copies.proofs.Lists.{nat_turned}
use Rattle.pm_snap.specs.Snapped.{Snapped}
use Rattle.pm_space.specs.declared.held.Held.{Held}
use Rattle.pm_space.specs.Linked.{Linked, set_of, queue_of, sets_of, queues_of}
use Rattle.pm_space.specs.Shown.{car_of, cars_of}
use Rattle.pm_reopen.specs.Rebuild.Lists.{placed_of, rows}
use Rattle.pm_reopen.specs.Rebuild.Linking.{AreLinked}
use Rattle.pm_reopen.specs.Rebuild.Remembering.{Remember}
use Rattle.pm_reopen.proofs.RebuildLemmas.Ends.{drop_back, map_dropped, last_taken, second_all}

-- ---- a car that is not there

not_mapped : {X Y : Type 0} (f : X → Y) (o : Option X) → option_map f o ≡ None → o ≡ None
not_mapped f None is = refl
not_mapped f (Some x) is = cc

-- a number at which no car stands has none in the table
pub not_held : (table : Snapped Held) (n : ℕ) → get (cars_of table) n ≡ None → get table.current n ≡ None
not_held table n none = not_mapped car_of (get table.current n) (sym (get-mapped nat_cmp car_of table.current n) ∙ none)

-- and no links
not_linked : (cars : Cars) (given : Sets) (links : Linked) (n : ℕ) → AreLinked cars given links → get cars n ≡ None → get links n ≡ None
not_linked cars given links n linked none = not_mapped set_of (get links n) (sym (get-mapped nat_cmp set_of links n) ∙ linked.sets n ∙ ap (option_map (λ _. unwrap_or (get given n) empty)) none)

no_row : (placed : List Placed) (n : ℕ) → AllByRecursion (λ (other : Placed). (other.1.number == n) ≡ false) placed → find nat_cmp n (rows placed) ≡ None
no_row [] n all = refl
no_row (one ∷ others) n all = ap (λ b. cond b (Some one.1) (find nat_cmp n (rows others))) (sym (nat_turned one.1.number n) ∙ all.0) ∙ no_row others n all.1

-- a number that no car has is none of theirs
pub not_built : (placed : List Placed) (n : ℕ) → AllByRecursion (λ (other : Placed). (other.1.number == n) ≡ false) placed → get (built_cars placed) n ≡ None
not_built placed n all = get-from_entries nat_cmp_total (rows placed) n ∙ no_row placed n all

-- ---- a car more

-- the table shows the car that it was given
pub held_more : (table : Snapped Held) (n : ℕ) (held : Held) → mapped car_of (insert table.current n held) ≡ insert (cars_of table) n (car_of held)
held_more table n held = mapped-insert nat_cmp car_of nat_cmp_total nat_cmp-IsAntisymmetric table.current n held

added : {X Y : Type 0} (xs : FinMap nat_cmp X) (ys : FinMap nat_cmp Y) (y : Y) (n : ℕ) (x : X) → ((q : ℕ) → get ys q ≡ option_map (λ _. y) (get xs q)) → (q : ℕ) → get (insert ys n y) q ≡ option_map (λ _. y) (get (insert xs n x) q)
added xs ys y n x same q =
    get-insert nat_cmp_total ys n y q
    ∙ elim (eq_by_cmp nat_cmp q n) as (λ b. cond b (Some y) (get ys q) ≡ option_map (λ _. y) (cond b (Some x) (get xs q))) [ true ↦ refl | false ↦ same q ]
    ∙ sym (ap (option_map (λ _. y)) (get-insert nat_cmp_total xs n x q))

at_inserted : {X : Type 0} (m : FinMap nat_cmp X) (n : ℕ) (x : X) (q : ℕ) → get (insert m n x) q ≡ cond (n == q) (Some x) (get m q)
at_inserted m n x q = get-insert nat_cmp_total m n x q ∙ ap (λ b. cond b (Some x) (get m q)) (sym (nat_turned n q))

-- a car more, with the set that is given for it and no change
linked_more : (cars : Cars) (given : Sets) (old new : Linked) (n : ℕ) (car : Car) (set : Sources) → set ≡ unwrap_or (get given n) empty → AreLinked cars given old → sets_of new ≡ insert (sets_of old) n set → queues_of new ≡ insert (queues_of old) n []
    → AreLinked (insert cars n car) given new
linked_more cars given old new n car set is linked sets queues = record {
  sets = λ q.
      ap (λ (m : Sets). get m q) sets
      ∙ get-insert nat_cmp_total (sets_of old) n set q
      ∙ ap (λ b. cond b (Some set) (get (sets_of old) q)) (sym (nat_turned n q))
      ∙ elim (n == q) as (λ b. (n == q) ≡ b → cond b (Some set) (get (sets_of old) q) ≡ option_map (λ _. unwrap_or (get given q) empty) (cond b (Some car) (get cars q))) [
        | true ↦ λ same. ap Some is ∙ ap (λ (m : ℕ). Some (unwrap_or (get given m) empty)) (eqb-true n q same)
        | false ↦ λ apart. linked.sets q
      ] refl
      ∙ sym (ap (option_map (λ _. unwrap_or (get given q) empty)) (at_inserted cars n car q));
  queues = λ q. ap (λ (m : FinMap nat_cmp (List Change)). get m q) queues ∙ added cars (queues_of old) [] n car linked.queues q;
}

-- the sets that are left are those that were given, but for these cars
abbrev pub AreLeft : Cars → Sets → Sets → Type 0
AreLeft cars given left = (n : ℕ) → get cars n ≡ None → get left n ≡ get given n

-- a car more, whose set was taken
left_more : (cars : Cars) (given left : Sets) (n : ℕ) (car : Car) → AreLeft cars given left → AreLeft (insert cars n car) given (remove left n)
left_more cars given left n car are q none =
    get-remove nat_cmp_total left n q
    ∙ ap (λ b. cond b None (get left q)) (sym (nat_turned n q))
    ∙ elim (n == q) as (λ b. (n == q) ≡ b → cond b None (get left q) ≡ get given q) [
      | true ↦ λ same. absurd (let clash : Some car ≡ None = sym (ap (λ b. cond b (Some car) (get cars q)) same) ∙ sym (at_inserted cars n car q) ∙ none in cc)
      | false ↦ λ apart. are q (sym (ap (λ b. cond b (Some car) (get cars q)) apart) ∙ sym (at_inserted cars n car q) ∙ none)
    ] refl

-- ---- no car

no_cars : (sets : Sets) → sets ≡ empty → Remember (built_cars []) sets []
no_cars sets none = record { each = λ q. ap (λ (m : Sets). get m q) none ∙ get-empty nat_cmp q ∙ sym (ap (option_map (λ _. empty)) (get-empty nat_cmp q)) }

none_linked : (given : Sets) (links : Linked) → links ≡ empty → AreLinked (built_cars []) given links
none_linked given links no_links = record {
  sets = λ q. ap (λ (m : Linked). get (mapped set_of m) q) no_links ∙ ap (λ (m : FinMap nat_cmp Sources). get m q) (mapped-empty nat_cmp set_of) ∙ get-empty nat_cmp q ∙ sym (ap (option_map (λ _. unwrap_or (get given q) empty)) (get-empty nat_cmp q));
  queues = λ q. ap (λ (m : Linked). get (mapped queue_of m) q) no_links ∙ ap (λ (m : FinMap nat_cmp (List Change)). get m q) (mapped-empty nat_cmp queue_of) ∙ get-empty nat_cmp q ∙ sym (ap (option_map (λ _. [])) (get-empty nat_cmp q));
}

-- ---- cars from the end

differ_dropped : (placed : List Placed) (i : ℕ) → CarsDiffer placed → CarsDiffer (drop i placed)
differ_dropped [] zero differ = tt
differ_dropped [] (suc i) differ = tt
differ_dropped (one ∷ placed) zero differ = differ
differ_dropped (one ∷ placed) (suc i) differ = differ_dropped placed i differ.1

-- the cars from this place on
abbrev pub cars_from : List (ℕ × CarAndSpare) → ℕ → Cars
cars_from cars left = built_cars (map placed_of (drop left cars))

past_all : (cars : List (ℕ × CarAndSpare)) → drop (length cars) cars ≡ []
past_all cars = drop_of_length-le cars (omega arith)

pub gathered_none : (cars : List (ℕ × CarAndSpare)) (sets : Sets) → sets ≡ empty → Remember (cars_from cars (length cars)) sets []
gathered_none cars sets none = subst (λ (left : List (ℕ × CarAndSpare)). Remember (built_cars (map placed_of left)) sets []) (sym (past_all cars)) (no_cars sets none)

pub linked_none : (cars : List (ℕ × CarAndSpare)) (given : Sets) (links : Linked) → links ≡ empty → AreLinked (cars_from cars (length cars)) given links
linked_none cars given links none = subst (λ (left : List (ℕ × CarAndSpare)). AreLinked (built_cars (map placed_of left)) given links) (sym (past_all cars)) (none_linked given links none)

module _ (cars : List (ℕ × CarAndSpare)) (left : ℕ) (x : ℕ × CarAndSpare) (some : 0 < left) (inside : left ≤ length cars) (is : x ≡ get_or cars (left - 1) x) where
  -- a set is begun for the next car
  pub gather_more : (old new : Sets) → Remember (cars_from cars left) old [] → new ≡ insert old x.1.car.number empty → Remember (cars_from cars (left - 1)) new []
  gather_more old new gathered more =
      subst (λ (left : List (ℕ × CarAndSpare)). Remember (built_cars (map placed_of left)) new []) (sym (drop_back cars left x some inside is))
      (record { each = λ q. ap (λ (m : Sets). get m q) more ∙ added (cars_from cars left) old empty x.1.car.number x.1.car gathered.each q })

  module _ (differ : CarsDiffer (map placed_of cars)) where
    differ_here : CarsDiffer (placed_of x ∷ map placed_of (drop left cars))
    differ_here = subst CarsDiffer (sym (map_dropped placed_of cars (left - 1)) ∙ ap (map placed_of) (drop_back cars left x some inside is)) (differ_dropped (map placed_of cars) (left - 1) differ)

    -- the next car is not one of those behind it
    is_next : get (cars_from cars left) x.1.car.number ≡ None
    is_next = not_built (map placed_of (drop left cars)) x.1.car.number differ_here.0

    -- it has no links yet
    pub link_new : (given : Sets) (links : Linked) → AreLinked (cars_from cars left) given links → get links x.1.car.number ≡ None
    link_new given links linked = not_linked (cars_from cars left) given links x.1.car.number linked is_next

    -- and is linked, with the set that is left for it
    pub link_more : (given sets : Sets) (old new : Linked) (set : Sources) → AreLinked (cars_from cars left) given old → AreLeft (cars_from cars left) given sets → set ≡ unwrap_or (get sets x.1.car.number) empty
        → sets_of new ≡ insert (sets_of old) x.1.car.number set → queues_of new ≡ insert (queues_of old) x.1.car.number [] → AreLinked (cars_from cars (left - 1)) given new
    link_more given sets old new set linked others taken more_sets more_queues =
        subst (λ (left : List (ℕ × CarAndSpare)). AreLinked (built_cars (map placed_of left)) given new) (sym (drop_back cars left x some inside is))
        (linked_more (cars_from cars left) given old new x.1.car.number x.1.car set (taken ∙ ap (λ (o : Option Sources). unwrap_or o empty) (others x.1.car.number is_next)) linked more_sets more_queues)

    pub take_more : (given sets after : Sets) → AreLeft (cars_from cars left) given sets → after ≡ remove sets x.1.car.number → AreLeft (cars_from cars (left - 1)) given after
    take_more given sets after others taken =
        subst (λ (left : List (ℕ × CarAndSpare)). AreLeft (built_cars (map placed_of left)) given after) (sym (drop_back cars left x some inside is))
        (subst (AreLeft (insert (cars_from cars left) x.1.car.number x.1.car) given) (sym taken) (left_more (cars_from cars left) given sets x.1.car.number x.1.car others))

-- ---- the table

-- these cars are left, and the table has those that were put there
pub record PutCars (all : List Placed) (left : List (ℕ × CarAndSpare)) (table : Snapped Held) : Type 0 where
  pub done : List Placed
  pub split : all ≡ map placed_of left ++ done
  pub so_far : cars_of table ≡ built_cars done
  pub frozen : table.frozen ≡ None

pub none_put : (all : List Placed) (left : List (ℕ × CarAndSpare)) (table : Snapped Held) → map placed_of left ≡ all → table.current ≡ empty → table.frozen ≡ None → PutCars all left table
none_put all left table same none frozen = record {
  done = [];
  split = sym same ∙ sym (append-nil (map placed_of left));
  so_far = ap (mapped car_of) none ∙ mapped-empty nat_cmp car_of;
  frozen = frozen;
}

behind_differ : (front placed : List Placed) → CarsDiffer (front ++ placed) → CarsDiffer placed
behind_differ [] placed differ = differ
behind_differ (one ∷ front) placed differ = behind_differ front placed differ.1

module _ (all : List Placed) (left front : List (ℕ × CarAndSpare)) (table : Snapped Held) (x : ℕ × CarAndSpare) (put : PutCars all left table) (last : left ≡ front ++ x ∷ []) where
  split_here : all ≡ map placed_of front ++ placed_of x ∷ put.done
  split_here = last_taken placed_of all put.done left front x put.split last

  pub put_full : AllByRecursion (λ (one : Placed). IsFull one.1) all → IsFull x.1.car
  put_full full = (second_all (λ (one : Placed). IsFull one.1) (map placed_of front) (placed_of x ∷ put.done) (subst (AllByRecursion (λ (one : Placed). IsFull one.1)) split_here full)).0

  pub put_new : CarsDiffer all → get (cars_of table) x.1.car.number ≡ None
  put_new differ =
      ap (λ (m : Cars). get m x.1.car.number) put.so_far
      ∙ not_built put.done x.1.car.number (behind_differ (map placed_of front) (placed_of x ∷ put.done) (subst CarsDiffer split_here differ)).0

  pub put_more : (new : Snapped Held) → cars_of new ≡ insert (cars_of table) x.1.car.number x.1.car → new.frozen ≡ table.frozen → PutCars all front new
  put_more new cars frozen = record {
    done = placed_of x ∷ put.done;
    split = split_here;
    so_far = cars ∙ ap (λ (m : Cars). insert m x.1.car.number x.1.car) put.so_far;
    frozen = frozen ∙ put.frozen;
  }

pub all_put : (all : List Placed) (left : List (ℕ × CarAndSpare)) (table : Snapped Held) → PutCars all left table → left ≡ [] → cars_of table ≡ built_cars all
all_put all left table put none = put.so_far ∙ ap built_cars (sym (put.split ∙ ap (λ xs. map placed_of xs ++ put.done) none))
