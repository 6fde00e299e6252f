-- What a command leaves of a car that is emptied.
use Rattle.std.proofs.Common.{◌≡◌, ℕ, zero, suc, ◌+◌, ◌≤◌, ◌==◌, ◌||◌, nat_lt, nat_le, if◌then◌else◌, Bool, true, false, refl, ap, subst, ◌∙◌, List, length, Option, Some, None, arith}
use Rattle.std.specs.Option.{IsSomeAnd, option_and_then, unwrap_or}
use Rattle.std.specs.FinMap.{get, insert, remove, empty}
use Rattle.std.proofs.lemmas.Bool.{cond-false, leb-true, ltb-false}
use Rattle.pm_types.specs.declared.limits.TheConstants.{REGISTERS, FIELDS, OBJECT_BYTES, LAST_ID}
use Rattle.pm_types.specs.declared.object.Object.{Object}
use Rattle.pm_types.specs.declared.source.RefSource.TheVariants.{Root, Handle}
use Rattle.pm_types.specs.declared.command.Cmd.{Cmd}
use Rattle.pm_cars.specs.Cars as cars
use Rattle.pm_cars.specs.Cars.{Car, object_room, look_of, new_car, with_birth}
use Rattle.pm_trains.specs.Trains.{HasCar, train_of, youngest, rotated}
use Rattle.pm_view.specs.declared.phase.Phase.TheVariants.{Moving}
use Rattle.pm_view.specs.View.{Sources, SpaceView}
use Rattle.pm_view.specs.Reading.{slot_at}
use Rattle.pm_view.specs.Law.{IsPhaseOf, HeapLaw}
use Rattle.pm_view.specs.Rows.{put_car, with_bytes_at, spread, with_name, without_name, spent, tail_for, put_in, with_count, born_in, born, birthplace, IsVacant}
use Rattle.pm_view.specs.Commands.{emptied, fresh, row, Picks, ArePicked}
use Rattle.pm_law_commands.proofs.RowLemmas.News.{at_insert}
use Rattle.pm_law_commands.proofs.RowLemmas.Bytes.{bytes_shaped}
use Rattle.pm_law_commands.proofs.RowLemmas.SpreadKept.{reshaped_object, reshaped_itself, reshaped_news, reshaped_spread}
use Rattle.pm_law_commands.proofs.RowLemmas.OpenTrain.{first_home}
use Rattle.pm_law_commands.proofs.RowLemmas.Rotating.{opened, opening_keeps_law}
use Rattle.pm_law_commands.proofs.EveryRow.{OfRows, row_holds, object_made, new_holds}
use Rattle.pm_law_commands.proofs.Births.{spent_law}
use Rattle.pm_law_collect.proofs.PhasesLemmas.Fronts.{IsFrontOf, front_of}
use Rattle.pm_law_collect.proofs.WorkLemmas.Adding.{tail_found, other_number, other_tail, has_car}
use Rattle.pm_law_collect.proofs.WorkLemmas.StaleLooks.{KeepsStale, keeps_itself, keeps_both, reshaped_keeps}

-- the registers of a client are emptied, one after the other
emptied_keeps : (view : SpaceView) (client n : ℕ) → KeepsStale view (emptied view client n)
emptied_keeps view client zero = keeps_itself view
emptied_keeps view client (suc n) =
    let before = emptied view client n in
    keeps_both view before (spread before (Handle client n) None) (emptied_keeps view client n) (reshaped_keeps before (spread before (Handle client n) None) (reshaped_spread before (Handle client n) None))

-- ---- a birth

module _ (view : SpaceView) (number : ℕ) (object : Object) (law : HeapLaw view) (vacant : get view.cars number ≡ None) where
  abbrev y : ℕ
  y = youngest view.trains.trains

  front : (car : ℕ) → view.phase ≡ Moving car → IsFrontOf view.trains.trains car
  front car at = front_of view.trains.trains car (subst (λ p. IsPhaseOf p view.trains.trains view.anchor) at law.phase)

  home : (car : ℕ) (at : view.phase ≡ Moving car) → train_of view.trains.trains car ≡ Some (front car at).train
  home car at = first_home view.trains.trains (front car at).train car law.built.trains.single (front car at).first

  -- a new car is not the one that is emptied, and neither is the tail of the open train
  apart_new : (car : ℕ) → view.phase ≡ Moving car → (number == car) ≡ false
  apart_new car at = other_number view number object law vacant (front car at).train car (home car at)

  apart_tail : (c car : ℕ) → tail_for view y (object_room object) ≡ Some c → view.phase ≡ Moving car → (c == car) ≡ false
  apart_tail c car is at = other_tail view number object law vacant (front car at).train c car (front car at).old (tail_found view y (object_room object) c is) (home car at)

  put_keeps : (d : Option ℕ) → tail_for view y (object_room object) ≡ d → KeepsStale view (with_count (put_in view y d number object))
  put_keeps None is = record {
    phase = refl;
    set = λ car at. ap (λ (o : Option Sources). unwrap_or o empty) (at_insert view.sets number empty car ∙ cond-false _ _ _ (apart_new car at));
    look = λ car slot at. ap (λ (o : Option Car). look_of (option_and_then (λ (c : Car). get c.slots slot) o)) (at_insert view.cars number (with_birth (new_car number) object) car ∙ cond-false _ _ _ (apart_new car at));
  }
  put_keeps (Some c) is = record {
    phase = refl;
    set = λ car at. refl;
    look = λ car slot at. by_car car slot (apart_tail c car is at) (get view.cars c);
  }
    where
      by_car : (car slot : ℕ) → (c == car) ≡ false → (o : Option Car)
          → look_of (slot_at (put_car view.cars c o (λ it. with_birth it object)) (record { car = car; slot = slot })) ≡ look_of (slot_at view.cars (record { car = car; slot = slot }))
      by_car car slot apart None = refl
      by_car car slot apart (Some it) = ap (λ (o : Option Car). look_of (option_and_then (λ (c : Car). get c.slots slot) o)) (at_insert view.cars c (with_birth it object) car ∙ cond-false _ _ _ apart)

  born_in_keeps : KeepsStale view (born_in view number object)
  born_in_keeps = put_keeps (tail_for view y (object_room object)) refl

pub born_keeps : (view : SpaceView) (number : ℕ) (object : Object) → HeapLaw view → get view.cars number ≡ None → KeepsStale view (born view number object)
born_keeps view number object law vacant = by_births (nat_le 1024 view.trains.births) refl
  where
    opening_keeps : (has : HasCar view.trains.trains (youngest view.trains.trains)) → KeepsStale view (opened view law has)
    opening_keeps has = record { phase = refl; set = λ car at. refl; look = λ car slot at. refl }

    by_births : (b : Bool) → nat_le 1024 view.trains.births ≡ b → KeepsStale view (born_in (if b then record view { trains = record { trains = rotated view.trains.trains; births = 0 } } else view) number object)
    by_births true full =
        let has = has_car view law (let many = leb-true 1024 view.trains.births full in omega (arith, many)) in
        keeps_both view (opened view law has) (born_in (opened view law has) number object) (opening_keeps has) (born_in_keeps (opened view law has) number object (opening_keeps_law view law has) vacant)
    by_births false few = born_in_keeps view number object law vacant

-- ---- every command

module _ (view : SpaceView) (law : HeapLaw view) where
  made_keeps : (client reg count number : ℕ) (bytes : List ℕ) → IsVacant view.cars number
      → (nat_lt FIELDS count || nat_lt OBJECT_BYTES (length bytes)) ≡ false → nat_lt LAST_ID view.next ≡ false → KeepsStale view (object_made view client reg count number bytes)
  made_keeps client reg count number bytes vacant fits more =
      let object = fresh view count bytes in
      let now = born (spent view) number object in
      let held = spread now (Handle client reg) (Some (birthplace (spent view) number object)) in
      let birth : KeepsStale view now = keeps_both view (spent view) now (record { phase = refl; set = λ car at. refl; look = λ car slot at. refl }) (born_keeps (spent view) number object (spent_law view law (ltb-false LAST_ID view.next more)) vacant.vacant) in
      keeps_both view now held birth (reshaped_keeps now held (reshaped_spread now (Handle client reg) (Some (birthplace (spent view) number object))))

  rows_keep : (client : ℕ) (picks : Picks) → IsVacant view.cars picks.car → OfRows view (KeepsStale view) (Unit {0}) (Unit {0}) client picks
  rows_keep client picks vacant = record {
    still = keeps_itself view;
    spread = λ x to. reshaped_keeps view (spread view x to) (reshaped_spread view x to);
    bytes = λ a at bytes has.
        reshaped_keeps view (with_bytes_at view a at bytes)
        (reshaped_object view a (λ object. cars.with_bytes object at bytes) (λ object is. bytes_shaped object at bytes (subst (λ o. IsSomeAnd o (λ (object : Object). at + length bytes ≤ length object.bytes)) is has)));
    bound = λ name number a.
        let now = record view { roots = insert view.roots name (number, a) } in
        reshaped_keeps view (with_name view name number a) (reshaped_news view now (Root number) None (Some a) (reshaped_itself view now refl refl refl refl refl refl refl));
    unbound = λ name number a.
        let now = record view { roots = remove view.roots name } in
        reshaped_keeps view (without_name view name number a) (reshaped_news view now (Root number) (Some a) None (reshaped_itself view now refl refl refl refl refl refl refl));
    made = λ may reg count bytes. new_holds view (KeepsStale view) (keeps_itself view) client reg count picks.car bytes (made_keeps client reg count picks.car bytes vacant);
    emptied = λ may. emptied_keeps view client REGISTERS;
  }

  pub command_keeps : (client : ℕ) (cmd : Cmd) (picks : Picks) → ArePicked view picks → KeepsStale view (row view client cmd picks).1
  command_keeps client cmd picks picked = row_holds view (KeepsStale view) (Unit {0}) (Unit {0}) client picks (rows_keep client picks picked.car) cmd (λ new. tt) (λ close. tt)
