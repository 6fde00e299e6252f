-- Each event and each command keeps what fits and the rank.
use Rattle.std.proofs.Common.{◌≡◌, ◌≤◌, ◌<◌, ◌+◌, ℕ, ◌==◌, ◌⊎◌, inl, inr, ⊎_elim, nat_le, Bool, true, false, cond, if◌then◌else◌, refl, ap, sym, subst, ◌∙◌, List, [], ◌∷◌, length, Option, Some, None, arith}
use Rattle.std.specs.Option.{option_map, unwrap_or}
use Rattle.std.proofs.lemmas.Bool.{eqb-true, true≢false, cases_Bool, cases_lt, false_from_ne_true, cond-true, cond-false}
use Rattle.std.proofs.lemmas.Bool.Decides.{nat_tests}
use Rattle.pm_types.specs.Counts.{raised}
use Rattle.pm_types.specs.declared.limits.TheConstants.{CLIENTS}
use Rattle.pm_types.specs.declared.address.Addr.{Addr}
use Rattle.pm_types.specs.declared.object.Object.{Object}
use Rattle.pm_types.specs.declared.command.Cmd.{Cmd}
use Rattle.pm_types.specs.declared.command.Cmd.TheVariants.{New}
use Rattle.pm_types.specs.declared.source.Change.{Change}
use Rattle.pm_types.specs.declared.source.RefSource.{RefSource}
use Rattle.pm_types.specs.declared.source.RefSource.TheVariants.{Root, Handle, Field}
use Rattle.pm_types.specs.Registers.{HasRegisters}
use Rattle.pm_cars.specs.Cars.{object_room}
use Rattle.pm_trains.specs.declared.trains.TheConstants.{BIRTHS}
use Rattle.pm_trains.specs.Trains.{Trains, cars_at, is_among, train_of, first_car, oldest, youngest, rotated, without_first}
use Rattle.pm_view.specs.Sources.{same_address}
use Rattle.pm_view.specs.View.{SpaceView}
use Rattle.pm_view.specs.Reading.{object_at, cars_of, id_at, is_aside}
use Rattle.pm_view.specs.Counts.{IsStandingAt, IsPlaced, standing_in, standing_of, old}
use Rattle.pm_view.specs.Law.{HeapLaw, IsPhaseOf}
use Rattle.pm_view.specs.Objects.{AddsObject}
use Rattle.pm_view.specs.Rows.{tail_for, put_in, born, with_open_train, birthplace, spent}
use Rattle.pm_view.specs.Candidates.{queue_of}
use Rattle.pm_view.specs.Collecting.{anchored, applied_front, applied_in, fixed, moved_some, moved, swept_some, swept, without_car, completing}
use Rattle.pm_view.specs.Commands.{fresh, row_new, row, Picks, ArePicked}
use Rattle.pm_view.specs.Events.{Row, nothing, select, apply, doom, start, fix, move_anchor, move_out, move_on, finish, sweep, free, free_doomed, next_row, after, home, anchor_in, MayPick, MayPlace, moving_id, goal_of, completes}
use Rattle.pm_law_commands.proofs.RowLemmas.OpenTrain.{first_home}
use Rattle.pm_law_commands.proofs.RowLemmas.SameSource.{same_address-true}
use Rattle.pm_law_commands.proofs.EveryRow.{new_holds}
use Rattle.pm_law_commands.proofs.Keeps.{row_keeps}
use Rattle.pm_law_commands.proofs.Objects.{row_keeps_objects, spread_keeps}
use Rattle.pm_law_commands.proofs.Added.{new_adds}
use Rattle.pm_law_collect.proofs.PhasesLemmas.Small.{some_same, none_some}
use Rattle.pm_law_collect.proofs.PhasesLemmas.Stays.{StandsToo, stays_same}
use Rattle.pm_law_collect.proofs.PhasesLemmas.Comes.{IsEmptied, IsSwept, comes_where}
use Rattle.pm_law_collect.proofs.PhasesLemmas.Fronts.{IsFrontOf, front_of, first_cars, swept_aside}
use Rattle.pm_law_collect.proofs.PhasesLemmas.PhaseRows.{drained_oldest, emptied_aside}
use Rattle.pm_law_collect.proofs.MovesLemmas.MoveRows.{front, own_train, home_is}
use Rattle.pm_law_collect.proofs.Event.{event_keeps, event_stays, event_lands}
use Rattle.pm_law_collect.proofs.Picks.{out_to}
use Rattle.pm_law_course.specs.Course.{opens}
use Rattle.pm_law_course.proofs.Bearing.{car_stands, new_answers}
use Rattle.pm_law_course.proofs.Kept.{KeepsCourse, applied_keeps, fixed_keeps, moved_keeps, swept_keeps, command_keeps}
use Rattle.pm_law_course.proofs.Opening.{opened_then, open_same}
use Rattle.pm_law_course.proofs.Completing.{completed_then}
use Rattle.pm_law_course.proofs.CountLemmas.Trains.{home_up_to}
use Rattle.pm_view.specs.Ranking.{Fits, taking, content, way, place_of, is_emptying, rank}
use Rattle.pm_view.specs.Bounded.{KeepsRank}
use Rattle.pm_law_bound.proofs.RankLemmas.Values.{held, one_born}
use Rattle.pm_law_bound.proofs.RankLemmas.Trains.{some_is, IsHead, IsLike, Grows, grows_same, grows_appended, grows_rotated, oldest_first, first_least, head_cars, freed, lighter_like}
use Rattle.pm_law_bound.proofs.RankLemmas.Bounds.{no_sum, spared_still, first_train, first_given, anchor_home, anchor_among, place_few, content_some}
use Rattle.pm_law_bound.proofs.RankLemmas.Compared.{HoldsNoMore, Compares, IsUpTo, Turned, kept, unchanged, itself, no_older, one_older, one_leaves, holds, content_falls, keeps_like, keeps_trains, keeps_anchor, keeps_calm, keeps_course}

module _ (view : SpaceView) (law : HeapLaw view) where
  abbrev at : IsHead view.trains.trains
  at = first_train view law

  abbrev T : ℕ
  T = at.head.number

  -- ---- the trains

  abbrev Grown : SpaceView → Type 0
  Grown u = Grows view.trains.trains u.trains.trains at

  abbrev same_trains : (now : SpaceView) → now.trains ≡ view.trains → Grown now
  same_trains now same = grows_same view.trains.trains at now.trains.trains (λ i. (same i).trains)

  put_trains : (u : SpaceView) → Grown u → (train : ℕ) (d : Option ℕ) (number : ℕ) (object : Object) → Grown (put_in u train d number object)
  put_trains u grows train None number object = grows_appended view.trains.trains at u.trains.trains grows train number
  put_trains u grows train (Some c) number object = grows

  opened_trains : (b : Bool) → Grows view.trains.trains (if b then record { trains = rotated view.trains.trains; births = 0 } else view.trains).trains at
  opened_trains true = grows_rotated view.trains.trains at
  opened_trains false = grows_same view.trains.trains at view.trains.trains refl

  moved_trains : (from : Addr) (train number : ℕ) → Grown (moved view from train number)
  moved_trains from train number = by_object (object_at view.cars from)
    where
      by_object : (o : Option Object) → Grown (moved_some view from train number o)
      by_object None = same_trains view refl
      by_object (Some object) = put_trains view (same_trains view refl) train (tail_for view train (object_room object)) number object

  applied_trains : (car : ℕ) (q : List Change) → (applied_front view car q).trains ≡ view.trains
  applied_trains car [] = refl
  applied_trains car (c ∷ cs) = refl

  fixed_trains : (car : ℕ) (x : RefSource) (to : Addr) → (fixed view car x to).trains ≡ view.trains
  fixed_trains car (Root n) to = refl
  fixed_trains car (Handle c r) to = refl
  fixed_trains car (Field a i) to = refl

  swept_trains : (a : Addr) (o : Option Object) → (swept_some view a o).trains ≡ view.trains
  swept_trains a None = refl
  swept_trains a (Some object) = refl

  -- the oldest train is the first
  first_old : (old : ℕ) → oldest view.trains.trains ≡ Some old → T ≡ old
  first_old = oldest_first view law at

  -- ---- commands

  module _ (client : ℕ) (c : client < CLIENTS) (picks : Picks) where
    -- a `new` adds one object to the open train
    added : (t : SpaceView) → HeapLaw t → (id : ℕ) (p : Addr) → AddsObject view t id p → HoldsNoMore view t
    added t law_then id p adds =
        holds view t law law_then 1 (one_born BIRTHS (youngest view.trains.trains) (youngest t.trains.trains) view.trains.births t.trains.births adds.youngest adds.births)
        (λ n. (one_older view t law law_then (Some id) (youngest t.trains.trains) back lands n id refl, λ low. no_older view t law law_then (Some id) (youngest t.trains.trains) back lands n (λ q same over. absurd (omega (arith, low, over)))))
      where
        back : (q : ℕ) (a : Addr) → (Some id ≡ Some q → ⊥) → IsStandingAt t q a → StandsToo t view q a
        back q a other stands = by_place (same_address p a) refl
          where
            by_place : (b : Bool) → same_address p a ≡ b → StandsToo t view q a
            by_place true here = absurd (other (sym adds.here ∙ ap (id_at t) (same_address-true p a here) ∙ stands.here))
            by_place false apart = let was = sym (adds.ids a apart) ∙ stands.here in (record { kept = sym (adds.aside a.car) ∙ stands.kept; here = was }, sym (adds.homes a.car (car_stands view a q was)))

        lands : (q : ℕ) → Some id ≡ Some q → IsPlaced t q (youngest t.trains.trains)
        lands q same = (p, record { kept = adds.free; here = adds.here ∙ same }, adds.home)

    opened : (b : Bool) → Grown (if b then record (spent view) { trains = record { trains = rotated view.trains.trains; births = 0 } } else spent view)
    opened true = grows_rotated view.trains.trains at
    opened false = same_trains view refl

    new_trains : (reg count : ℕ) (bytes : List ℕ) → Grown (row_new view client reg count bytes picks.car).1
    new_trains reg count bytes =
        new_holds view Grown (same_trains view refl) client reg count picks.car bytes (λ small more.
        let object = fresh view count bytes in
        let now = with_open_train (spent view) in
        let kept = spread_keeps (born (spent view) picks.car object) (Handle client reg) (Some (birthplace (spent view) picks.car object)) in
        let grows = put_trains now (opened (nat_le BIRTHS view.trains.births)) (youngest now.trains.trains) (tail_for now (youngest now.trains.trains) (object_room object)) picks.car object in
        subst (λ (s : Trains). Grows view.trains.trains s.trains at) (sym kept.trains) grows)

    pub command_rank : (cmd : Cmd) → HasRegisters cmd → ArePicked view picks → KeepsRank view (row view client cmd picks).1
    command_rank (New reg count bytes) regs picked =
        let now = (row_new view client reg count bytes picks.car).1 in
        let law_then = row_keeps view law client (New reg count bytes) picks c regs picked in
        let keeps = command_keeps view client (New reg count bytes) picks in
        ⊎_elim
        (λ made.
        let less = added now law_then view.next (birthplace (spent view) picks.car (fresh view count bytes)) (new_adds view law client reg count picks.car bytes picked.car made) in
        kept view now (keeps_course view now law law_then less at (view.completed < now.completed) (λ rose. omega (arith, rose, keeps.completed)) (new_trains reg count bytes) keeps))
        (λ same. subst (KeepsRank view) (sym same) (itself view))
        (new_answers view client reg count picks.car bytes)
    command_rank cmd regs picked =
        let now = (row view client cmd picks).1 in
        let law_then = row_keeps view law client cmd picks c regs picked in
        let keeps = command_keeps view client cmd picks in
        let objects = row_keeps_objects view client cmd picks refl in
        let stays = stays_same view now objects.aside objects.ids (λ e. ap (λ (s : Trains). train_of s.trains e) objects.trains) in
        let none = λ (n : ℕ). no_older view now law law_then None 0 stays.back (λ q is. absurd (none_some q is)) n (λ q is low. absurd (none_some q is)) in
        let turned : Turned view now law law_then 0 = inr (ap (λ (s : Trains). youngest s.trains) objects.trains, omega (arith, ap (λ (s : Trains). s.births) objects.trains), omega arith) in
        let less = holds view now law law_then 0 turned (λ n. (omega (arith, none n), λ low. none n)) in
        kept view now (keeps_course view now law law_then less at (view.completed < now.completed) (λ rose. omega (arith, rose, keeps.completed)) (same_trains now objects.trains) keeps)

  -- ---- events

  -- an object that moves stood in the first train, and goes to one that is no older
  abbrev Leaves : ℕ → ℕ → Type 0
  Leaves id goal = (a : Addr) × ((n : ℕ) → T ≤ n → IsUpTo view n id a) × (T ≤ goal)

  leaving : (a : Addr) (id goal : ℕ) → IsStandingAt view id a → train_of view.trains.trains a.car ≡ Some T → T ≤ goal → Leaves id goal
  leaving a id goal stands home least = (a, (λ n low. (stands, home_up_to n a.car T view.trains.trains home low)), least)

  emptied_leaves : (car : ℕ) (is : IsEmptied view car None) (a : Addr) → a.car ≡ car → (goal : ℕ) → T ≤ goal → (id : ℕ) → id_at view a ≡ Some id → Leaves id goal
  emptied_leaves car is a here goal least id at_a =
      let of = front view car law is in
      leaving a id goal (record { kept = emptied_aside view car None law is a.car; here = at_a }) (ap (train_of view.trains.trains) here ∙ own_train view car law is ∙ ap Some (sym (first_old of.train of.old.0))) least

  anchor_is : (car : ℕ) (o : Option (Addr × ℕ)) (a : Addr) (to : ℕ) → anchor_in car o ≡ Some (a, to) → o ≡ Some (a, to)
  anchor_is car None a to is = cc
  anchor_is car (Some anchor) a to is = grind (arith, nat_tests, is)

  -- the car that is swept is the first one of the first train
  abbrev swept_front : (car : ℕ) → IsSwept view car → IsFrontOf view.trains.trains car
  swept_front car (inl at) = front_of view.trains.trains car (subst (λ p. IsPhaseOf p view.trains.trains view.anchor) at law.phase)
  swept_front car (inr at) = record { train = at.0; old = (subst (λ p. IsPhaseOf p view.trains.trains view.anchor) at.1.doomed law.phase).0; first = at.1.first }

  -- it goes, and its train with it or not
  car_goes : (Done : Type 0) (now : SpaceView) → HeapLaw now → HoldsNoMore view now → (car : ℕ) (swept : IsSwept view car) (e : ℕ) → e ≤ 1 → now.trains.trains ≡ without_first (swept_front car swept).train view.trains.trains → now.anchor ≡ view.anchor
      → ((length (cars_of view.trains.trains (swept_front car swept).train) == 1) ≡ false → (cond (is_emptying now.phase) 1 0 + e ≤ cond (is_emptying view.phase) 1 0) × (Done → 1 ≤ e)) → Compares view now Done
  car_goes Done now law_then less car swept e small trains anchor going =
      let of = swept_front car swept in
      let same = first_old of.train of.old.0 in
      let first = first_cars (cars_at view.trains.trains T) car (ap (first_car view.trains.trains) same ∙ of.first) in
      let cars : at.head.cars ≡ car ∷ first.0 = some_same at.head.cars (car ∷ first.0) (sym (head_cars view law at) ∙ first.1) in
      let other : (T == youngest view.trains.trains) ≡ false = ap (λ n. n == youngest view.trains.trains) same ∙ of.old.1 in
      let left = trains ∙ ap (λ n. without_first n view.trains.trains) (sym same) ∙ freed view.trains.trains at law.built.trains.filled other car first.0 cars in
      ⊎_elim
      (λ (none : (length first.0 == 0) ≡ true). keeps_trains view now law law_then less at Done (left ∙ cond-true _ _ _ none))
      (λ (some : (length first.0 == 0) ≡ false).
      let long : length (cars_of view.trains.trains of.train) ≡ length (car ∷ first.0) = ap (λ n. length (cars_of view.trains.trains n)) (sym same) ∙ ap (λ o. length (unwrap_or o [])) first.1 in
      let both = going (grind (arith, nat_tests, long, some)) in
      keeps_anchor view now law law_then less at Done (lighter_like view.trains.trains at law.built.trains.filled other car first.0 cars now.trains.trains (left ∙ cond-false _ _ _ some)) e both.1 anchor both.0 (λ a to stands.
      let apart = false_from_ne_true (car == a.car) (λ one. true≢false (sym (swept_aside view car swept) ∙ ap (is_aside view) (eqb-true car a.car one) ∙ (law.anchor a to stands).kept)) in
      let nearer : place_of a.car at.head.cars ≡ place_of a.car first.0 + 1 = ap (place_of a.car) cars ∙ cond-false _ _ _ apart in
      omega (arith, nearer, small)))
      (cases_Bool (length first.0 == 0))

  module _ (picked number : ℕ) (Done : Type 0) where
    -- what comes with a completed collection alone is not done by an event that completes none
    never : (Done → false ≡ true) → Done → ⊥
    never only done = true≢false (sym (only done))

    no_leaving : (id : ℕ) → None ≡ Some id → Leaves id picked
    no_leaving id is = absurd (none_some id is)

    module _ (row : Row) (next : next_row view ≡ row) (may : MayPick view picked row) (vacant : MayPlace view number row) (leaves : (id : ℕ) → moving_id view row ≡ Some id → Leaves id (goal_of picked row)) where
      abbrev now : SpaceView
      now = after view picked number row

      law_then : HeapLaw now
      law_then = (event_keeps view picked number row law next may vacant).0

      abbrev back : (q : ℕ) (a : Addr) → (moving_id view row ≡ Some q → ⊥) → IsStandingAt now q a → StandsToo now view q a
      back = (event_stays view picked number row law next may vacant).back

      abbrev lands : (q : ℕ) → moving_id view row ≡ Some q → IsPlaced now q (goal_of picked row)
      lands = event_lands view picked number row law next may vacant

      turned : Turned view now law law_then 0
      turned =
          ⊎_elim
          (λ opening. inl (opened_then view row picked number opening).youngest)
          (λ same. let is = open_same view row picked number same in inr (is.youngest, omega (arith, is.births), omega arith))
          (cases_Bool (opens view row))

      -- no event lets more be held
      less : HoldsNoMore view now
      less =
          holds view now law law_then 0 turned (λ n.
          let older = no_older view now law law_then (moving_id view row) (goal_of picked row) back lands n (λ q is low. let left = leaves q is in (left.0, left.1 n (omega (arith, low, left.2)))) in
          (omega (arith, older), λ low. older))

      -- it leaves the anchor and lets no train go, or keeps the course
      calm : (Done → ⊥) → Grown now → now.anchor ≡ view.anchor → cond (is_emptying now.phase) 1 0 ≤ cond (is_emptying view.phase) 1 0 → Compares view now Done
      calm = keeps_calm view now law law_then less at Done

      course : (Done → ⊥) → Grown now → KeepsCourse view now → Compares view now Done
      course = keeps_course view now law law_then less at Done

      lowers : (like : IsLike view.trains.trains now.trains.trains at) (e : ℕ) → (Done → 1 ≤ e)
          → (way now like.first.head now.anchor + e ≤ way view at.head view.anchor) ⊎ ((e ≤ 1) × (content now like.first.head + 1 ≤ content view at.head)) → Compares view now Done
      lowers = keeps_like view now law law_then less at Done

      -- an object that goes to another train leaves the first one
      moves : (id : ℕ) → moving_id view row ≡ Some id → T < goal_of picked row → Grown now → Compares view now Done
      moves id is over grows =
          let left = leaves id is in
          let fewer = one_leaves view now law law_then (moving_id view row) (goal_of picked row) back lands T id left.0 is (left.1 T (omega arith)) over in
          let held = held BIRTHS (youngest view.trains.trains) (youngest now.trains.trains) view.trains.births now.trains.births 0 T (old view T) (old now T + 1) (first_given view law at) turned (omega (arith, fewer)) (λ low. fewer) in
          lowers grows.like 1 (λ done. omega arith) (inr (omega arith, content_falls view now law law_then less at grows.like 1 held))

      -- where it is found, and else none does
      moves_out : (Done → ⊥) → T < goal_of picked row → Grown now → KeepsCourse view now → Compares view now Done
      moves_out none over grows keeps = by_id (moving_id view row) refl
        where
          by_id : (o : Option ℕ) → moving_id view row ≡ o → Compares view now Done
          by_id None is = course none grows keeps
          by_id (Some id) is = moves id is over grows

    event_compares : (row : Row) → (Done → completes view row ≡ true) → next_row view ≡ row → MayPick view picked row → MayPlace view number row → Compares view (after view picked number row) Done
    event_compares nothing only next may vacant = unchanged view Done (never only)
    event_compares (select train) only next may vacant = calm (select train) next may vacant no_leaving (never only) (opened_trains (train == youngest view.trains.trains)) refl (omega arith)
    event_compares (apply car) only next may vacant = course (apply car) next may vacant no_leaving (never only) (same_trains (applied_in view car) (applied_trains car (queue_of view car))) (applied_keeps view car)
    event_compares (doom train) only next may vacant =
        let now = after view picked number (doom train) in
        let comes = comes_where view (doom train) next in
        let old = drained_oldest view train None law comes in
        let same = first_old train old.0 in
        let some = content_some view law at (ap is_emptying comes.draining) in
        let cars : cars_of view.trains.trains train ≡ at.head.cars = ap (cars_of view.trains.trains) (sym same) ∙ ap (λ o. unwrap_or o []) (head_cars view law at) in
        let none : standing_of now at.head ≡ 0 = no_sum (standing_in now) at.head.cars (λ c among. cond-true _ _ _ (ap (is_among c) cars ∙ among)) in
        let takes : taking now T ≡ 0 = cond-false _ _ _ (ap (λ n. n == youngest view.trains.trains) same ∙ old.1) in
        lowers (doom train) next may vacant no_leaving (same_trains view refl).like 1 (λ done. omega arith) (inr (omega arith, omega (arith, some, none, takes)))
    event_compares (start car a) only next may vacant = lowers (start car a) next may vacant no_leaving (same_trains view refl).like 0 (λ done. absurd (never only done)) (inl (by_anchor view.anchor refl))
      where
        by_anchor : (o : Option (Addr × ℕ)) → view.anchor ≡ o → way (after view picked number (start car a)) at.head (anchored view.anchor a picked) + 0 ≤ way view at.head o
        by_anchor None is =
            let noted : anchored view.anchor a picked ≡ Some (a, picked) = ap (λ o. anchored o a picked) is in
            let comes = comes_where view (start car a) next in
            let among = anchor_among (after view picked number (start car a)) (law_then (start car a) next may vacant no_leaving) at a picked noted in
            let place = place_few view law at (spared_still view.phase (ap is_emptying comes.drained.draining)) a.car among in
            let far : way (after view picked number (start car a)) at.head (anchored view.anchor a picked) ≡ place_of a.car at.head.cars = ap (way (after view picked number (start car a)) at.head) noted in
            omega (arith, place, far)
        by_anchor (Some anchor) is =
            let far : way (after view picked number (start car a)) at.head (anchored view.anchor a picked) ≡ place_of anchor.0.car at.head.cars = ap (λ o. way (after view picked number (start car a)) at.head (anchored o a picked)) is in
            omega (arith, far)
    event_compares (fix car x to) only next may vacant = course (fix car x to) next may vacant no_leaving (never only) (same_trains (fixed view car x to) (fixed_trains car x to)) (fixed_keeps view car x to)
    event_compares (move_anchor a to) only next may vacant =
        let comes = comes_where view (move_anchor a to) next in
        let stands = anchor_is comes.car view.anchor a to comes.anchor in
        let anchor = law.anchor a to stands in
        let home = anchor_home view law at a to stands in
        let object = some_is (object_at view.cars a) anchor.live in
        let least = first_least view law at to anchor.stands in
        let over = ⊎_elim (λ (over : T < to). over) (λ (low : to ≤ T). absurd (anchor.leaves (sym anchor.old ∙ home ∙ ap Some (omega (arith, low, least))))) (cases_lt T to) in
        moves (move_anchor a to) next may vacant (λ id is. leaving a id to (record { kept = anchor.kept; here = is }) home least) object.0.id (ap (option_map (λ (o : Object). o.id)) object.1) over (moved_trains a to number)
    event_compares (move_out a) only next may vacant =
        let comes = comes_where view (move_out a) next in
        let out = out_to view a law comes picked may in
        let least = first_least view law at picked out.0 in
        let first : home view a.car ≡ T = ap (λ (a : Addr). home view a.car) comes.here ∙ home_is view comes.car law comes.emptied ∙ sym (first_old _ (front view comes.car law comes.emptied).old.0) in
        let apart : (picked == T) ≡ false = ap (λ n. picked == n) (sym first) ∙ out.1 in
        let leaves = emptied_leaves comes.car comes.emptied a (ap (λ (a : Addr). a.car) comes.here) picked least in
        moves_out (move_out a) next may vacant leaves (never only) (grind (arith, nat_tests, least, apart)) (moved_trains a picked number) (moved_keeps view a picked number)
    event_compares (move_on a train) only next may vacant =
        let comes = comes_where view (move_on a train) next in
        let same : train ≡ T = comes.home ∙ home_is view comes.car law comes.emptied ∙ sym (first_old _ (front view comes.car law comes.emptied).old.0) in
        course (move_on a train) next may vacant (emptied_leaves comes.car comes.emptied a (ap (λ (a : Addr). a.car) comes.here) train (omega (arith, same))) (never only) (moved_trains a train number) (moved_keeps view a train number)
    event_compares (finish car) only next may vacant =
        let going : ◌≡◌ {A = ℕ} (cond (is_emptying view.phase) 1 0) 1 = ap (λ p. cond {A = ℕ} (is_emptying p) 1 0) (comes_where view (finish car) next).emptied.moving in
        calm (finish car) next may vacant no_leaving (never only) (same_trains (after view picked number (finish car)) refl) refl (omega (arith, going))
    event_compares (sweep a) only next may vacant = course (sweep a) next may vacant no_leaving (never only) (same_trains (swept view a) (swept_trains a (object_at view.cars a))) (swept_keeps view a)
    event_compares (free car) only next may vacant =
        let sweeping = (comes_where view (free car) next).sweeping in
        let of = swept_front car (inl sweeping) in
        let home : home view car ≡ of.train = ap (λ o. unwrap_or o 0) (first_home view.trains.trains of.train car law.built.trains.single of.first) in
        let going : ◌≡◌ {A = ℕ} (cond (is_emptying view.phase) 1 0) 1 = ap (λ p. cond {A = ℕ} (is_emptying p) 1 0) sweeping in
        car_goes Done (after view picked number (free car)) (law_then (free car) next may vacant no_leaving) (less (free car) next may vacant no_leaving) car (inl sweeping) 1 (omega arith) (ap (λ n. without_first n view.trains.trains) home) refl
        (λ others. (omega (arith, going), λ done. omega arith))
    event_compares (free_doomed train car) only next may vacant =
        by_last (length (cars_of view.trains.trains train) == 1) refl (law_then (free_doomed train car) next may vacant no_leaving) (less (free_doomed train car) next may vacant no_leaving)
      where
        by_last : (b : Bool) → (length (cars_of view.trains.trains train) == 1) ≡ b → (let now = if b then completing (without_car view train car) else without_car view train car in HeapLaw now → HoldsNoMore view now → Compares view now Done)
        by_last true last law_then holds = car_goes Done _ law_then holds car (inr (train, (comes_where view (free_doomed train car) next).doomed)) 0 (omega arith) refl refl (λ others. absurd (true≢false (sym last ∙ others)))
        by_last false last law_then holds = car_goes Done _ law_then holds car (inr (train, (comes_where view (free_doomed train car) next).doomed)) 0 (omega arith) refl refl (λ others. (omega arith, λ done. absurd (true≢false (sym (only done) ∙ last))))

-- an event raises the count with a completed collection alone
rose_completes : (view : SpaceView) (picked number : ℕ) (row : Row) → view.completed < (after view picked number row).completed → completes view row ≡ true
rose_completes view picked number row rose = by_case (completes view row) (completed_then view row picked number)
  where
    by_case : (b : Bool) → (after view picked number row).completed ≡ cond b (raised view.completed) view.completed → b ≡ true
    by_case true is = refl
    by_case false is = absurd (omega (arith, rose, is))

pub event_rank : (view : SpaceView) → HeapLaw view → (picked number : ℕ) (row : Row) → next_row view ≡ row → MayPick view picked row → MayPlace view number row → KeepsRank view (after view picked number row)
event_rank view law picked number row next may vacant =
    let now = after view picked number row in
    kept view now (event_compares view law picked number (view.completed < now.completed) row (rose_completes view picked number row) next may vacant)

pub event_falls : (view : SpaceView) → HeapLaw view → (picked number : ℕ) (row : Row) → next_row view ≡ row → MayPick view picked row → MayPlace view number row → completes view row ≡ true → (n m : ℕ) → Fits view n m
    → (rank view n m ≡ 0) ⊎ (rank (after view picked number row) n m < rank view n m)
event_falls view law picked number row next may vacant completed n m fits = (event_compares view law picked number (completes view row ≡ true) row (λ is. is) next may vacant).falls n m fits completed
