-- No command adds an object to the train that is collected.
use Rattle.std.proofs.Common.{◌≡◌, ◌⊎◌, ⊎_elim, inl, inr, ℕ, ◌<◌, ◌≤◌, ◌==◌, ◌||◌, nat_lt, if◌then◌else◌, length, Bool, true, false, refl, ap, sym, subst, ◌∙◌, List, Option, Some, None, is_some}
use Rattle.std.specs.Option.{IsSome, option_map}
use Rattle.std.specs.FinMap.{get}
use Rattle.std.proofs.lemmas.Bool.{eq-eqb, both_ways}
use Rattle.pm_types.specs.declared.limits.TheConstants.{CLIENTS, FIELDS, OBJECT_BYTES, LAST_ID}
use Rattle.pm_types.specs.declared.address.Addr.{Addr}
use Rattle.pm_types.specs.declared.object.Object.{Object}
use Rattle.pm_types.specs.declared.command.Cmd.{Cmd}
use Rattle.pm_types.specs.declared.command.Cmd.TheVariants.{New}
use Rattle.pm_types.specs.declared.reply.Reply.{Reply}
use Rattle.pm_types.specs.declared.reply.Reply.TheVariants.{Ident, TooLarge, IdsSpent}
use Rattle.pm_cars.specs.Cars.{Car, object_of}
use Rattle.pm_trains.specs.Trains.{Train, Trains, train_of, youngest}
use Rattle.pm_trains.specs.Sound as line
use Rattle.pm_view.specs.declared.phase.Phase.{Phase}
use Rattle.pm_view.specs.declared.phase.Phase.TheVariants.{Idle, Draining, Moving, Sweeping, Doomed}
use Rattle.pm_view.specs.Sources.{same_address}
use Rattle.pm_view.specs.View.{SpaceView}
use Rattle.pm_view.specs.Reading.{id_at}
use Rattle.pm_view.specs.Counts.{IsPlaced}
use Rattle.pm_view.specs.Law.{IsOldest, IsFront, IsPhaseOf, HeapLaw}
use Rattle.pm_view.specs.Objects.{KeepsObjects, AddsObject}
use Rattle.pm_view.specs.Rows.{spent, birthplace}
use Rattle.pm_types.specs.Registers.{HasRegisters}
use Rattle.pm_view.specs.Commands.{fresh, row_new, row, is_new, Picks, ArePicked}
use Rattle.pm_law_commands.proofs.RowLemmas.Places.{slot_of}
use Rattle.pm_law_commands.proofs.RowLemmas.SameSource.{same_address-true}
use Rattle.pm_law_commands.proofs.RowLemmas.OpenTrain.{first_home}
use Rattle.pm_law_commands.proofs.EveryRow.{object_made}
use Rattle.pm_law_commands.proofs.Keeps.{row_keeps}
use Rattle.pm_law_commands.proofs.Objects.{row_keeps_objects}
use Rattle.pm_law_commands.proofs.Added.{new_adds}
use Rattle.pm_law_collect.proofs.PhasesLemmas.Small.{some_same, none_some}
use Rattle.pm_law_course.specs.Course.{train_in, collected}
use Rattle.pm_law_course.proofs.Kept.{command_keeps}
use Rattle.pm_law_collect.proofs.PhasesLemmas.Fronts.{front_of}

-- the train that is collected is the oldest, and not the open one
collected_oldest : (p : Phase) (ts : List Train) (anchor : Option (Addr × ℕ)) (n : ℕ) → ((q : ℕ) → line.places q ts ≤ 1) → IsPhaseOf p ts anchor → train_in p ts ≡ Some n → IsOldest ts n
collected_oldest Idle ts anchor n single at is = absurd (none_some n is)
collected_oldest (Draining m) ts anchor n single at is = subst (IsOldest ts) (some_same m n is) at
collected_oldest (Moving car) ts anchor n single at is = let front = front_of ts car at in subst (IsOldest ts) (some_same front.train n (sym (first_home ts front.train car single front.first) ∙ is)) front.old
collected_oldest (Sweeping car) ts anchor n single at is = let front = front_of ts car at in subst (IsOldest ts) (some_same front.train n (sym (first_home ts front.train car single front.first) ∙ is)) front.old
collected_oldest (Doomed m) ts anchor n single at is = subst (IsOldest ts) (some_same m n is) at.0

pub collected_apart : (view : SpaceView) (n : ℕ) → HeapLaw view → collected view ≡ Some n → youngest view.trains.trains ≡ n → ⊥
collected_apart view n law is same =
    let old = collected_oldest view.phase view.trains.trains view.anchor n law.built.trains.single law.phase is in
    both_ways (n == youngest view.trains.trains) old.1 (eq-eqb n (youngest view.trains.trains) (sym same))

-- a car of the phase stands
front_stands : (view : SpaceView) (car : ℕ) → HeapLaw view → IsFront view.trains.trains car → IsSome (get view.cars car)
front_stands view car law at = let front = front_of view.trains.trains car at in sym (law.built.linked car) ∙ ap is_some (first_home view.trains.trains front.train car law.built.trains.single front.first)

-- the collected train stays where each car that stood stays in its train
same_collected : (view t : SpaceView) → HeapLaw view → t.phase ≡ view.phase → ((car : ℕ) → IsSome (get view.cars car) → train_of t.trains.trains car ≡ train_of view.trains.trains car) → collected t ≡ collected view
same_collected view t law phase homes = ap (λ p. train_in p t.trains.trains) phase ∙ by_phase view.phase law.phase
  where
    by_phase : (p : Phase) → IsPhaseOf p view.trains.trains view.anchor → train_in p t.trains.trains ≡ train_in p view.trains.trains
    by_phase Idle at = refl
    by_phase (Draining n) at = refl
    by_phase (Moving car) at = homes car (front_stands view car law at)
    by_phase (Sweeping car) at = homes car (front_stands view car law at)
    by_phase (Doomed n) at = refl

-- what a command does to the places of objects: it keeps them, or adds one in the open train
pub record AddsNone (view t : SpaceView) : Type 0 where
  pub same : collected t ≡ collected view
  pub none : (id n : ℕ) → collected view ≡ Some n → IsPlaced t id n → IsPlaced view id n

kept_none : (view t : SpaceView) → HeapLaw view → t.phase ≡ view.phase → KeepsObjects view t → AddsNone view t
kept_none view t law phase kept = record {
  same = same_collected view t law phase (λ car some. ap (λ (s : Trains). train_of s.trains car) kept.trains);
  none = λ id n is placed. (
    placed.0,
    record { kept = sym (kept.aside placed.0.car) ∙ placed.1.kept; here = sym (kept.ids placed.0) ∙ placed.1.here },
    sym (ap (λ (s : Trains). train_of s.trains placed.0.car) kept.trains) ∙ placed.2,
  );
}

-- the car of an object stands
pub car_stands : (view : SpaceView) (a : Addr) (id : ℕ) → id_at view a ≡ Some id → IsSome (get view.cars a.car)
car_stands view a id is = by_car (get view.cars a.car) is
  where
    by_car : (o : Option Car) → option_map (λ (o : Object). o.id) (object_of (slot_of o a.slot)) ≡ Some id → is_some o ≡ true
    by_car None is = absurd (none_some id is)
    by_car (Some car) is = refl

added_none : (view t : SpaceView) (id : ℕ) (p : Addr) → HeapLaw view → HeapLaw t → t.phase ≡ view.phase → AddsObject view t id p → AddsNone view t
added_none view t id p law now phase added = record { same = same; none = none }
  where
    same : collected t ≡ collected view
    same = same_collected view t law phase added.homes

    none : (other n : ℕ) → collected view ≡ Some n → IsPlaced t other n → IsPlaced view other n
    none other n is placed = by_place (same_address p placed.0) refl
      where
        by_place : (b : Bool) → same_address p placed.0 ≡ b → IsPlaced view other n
        by_place true here =
            let home : train_of t.trains.trains placed.0.car ≡ Some (youngest t.trains.trains) = ap (λ (a : Addr). train_of t.trains.trains a.car) (sym (same_address-true p placed.0 here)) ∙ added.home in
            absurd (collected_apart t n now (same ∙ is) (some_same (youngest t.trains.trains) n (sym home ∙ placed.2)))
        by_place false apart =
            let was = sym (added.ids placed.0 apart) ∙ placed.1.here in (
              placed.0,
              record { kept = sym (added.aside placed.0.car) ∙ placed.1.kept; here = was },
              sym (added.homes placed.0.car (car_stands view placed.0 other was)) ∙ placed.2,
            )

-- the reply is the next identity, or the space is as it was
abbrev AnswersNew : SpaceView → Reply × SpaceView → Type 0
AnswersNew view after = (after.0 ≡ Ident view.next) ⊎ (after.1 ≡ view)

-- a `new` answers the next identity, or leaves the space as it is
pub new_answers : (view : SpaceView) (client reg count number : ℕ) (bytes : List ℕ) → ((row_new view client reg count bytes number).0 ≡ Ident view.next) ⊎ ((row_new view client reg count bytes number).1 ≡ view)
new_answers view client reg count number bytes = by_size (nat_lt FIELDS count || nat_lt OBJECT_BYTES (length bytes)) (nat_lt LAST_ID view.next)
  where
    by_size : (b d : Bool) → AnswersNew view (if b then (TooLarge, view) else if d then (IdsSpent, view) else (Ident view.next, object_made view client reg count number bytes))
    by_size true d = inr refl
    by_size false true = inr refl
    by_size false false = inl refl

module _ (view : SpaceView) (law : HeapLaw view) (client : ℕ) (c : client < CLIENTS) where
  kept_row : (cmd : Cmd) (picks : Picks) → is_new cmd ≡ false → AddsNone view (row view client cmd picks).1
  kept_row cmd picks other = kept_none view (row view client cmd picks).1 law (command_keeps view client cmd picks).phase (row_keeps_objects view client cmd picks other)

  pub command_adds_none : (cmd : Cmd) (picks : Picks) → HasRegisters cmd → ArePicked view picks → AddsNone view (row view client cmd picks).1
  command_adds_none (New reg count bytes) picks regs picked = by_reply (new_answers view client reg count picks.car bytes)
    where
      kept : HeapLaw (row_new view client reg count bytes picks.car).1
      kept = row_keeps view law client (New reg count bytes) picks c regs picked

      by_reply : ((row_new view client reg count bytes picks.car).0 ≡ Ident view.next) ⊎ ((row_new view client reg count bytes picks.car).1 ≡ view) → AddsNone view (row_new view client reg count bytes picks.car).1
      by_reply answer =
          ⊎_elim
          (λ (made : (row_new view client reg count bytes picks.car).0 ≡ Ident view.next).
          added_none view (row_new view client reg count bytes picks.car).1 view.next (birthplace (spent view) picks.car (fresh view count bytes)) law kept (command_keeps view client (New reg count bytes) picks).phase
          (new_adds view law client reg count picks.car bytes picked.car made))
          (λ (same : (row_new view client reg count bytes picks.car).1 ≡ view). subst (AddsNone view) (sym same) (record { same = refl; none = λ id n is placed. placed }))
          answer
  command_adds_none cmd picks regs picked = kept_row cmd picks refl
