-- What a run comes to, by what the last pass knows.
use Rattle.std.proofs.Common.{◌≡◌, ◌⊎◌, inl, inr, ⊎_elim, ℕ, ◌+◌, ◌<◌, ◌≤◌, ◌^◌, Bool, false, true, if◌then◌else◌, nat_eq, List, [], ◌∷◌, ◌++◌, length, Option as Opt, Some, None, arith, refl, ap, sym, subst, ◌∙◌}
use lib.Pow.{pow_mono}
use Rattle.std.specs.VecDeque.{deque_items}
use Rattle.std.specs.Coded.{Coded-set, coded_list}
use Rattle.std.specs.List.{AllByRecursion, AllByRecursion-prop}
use Rattle.std.proofs.Math.Logic.{∥∥₁_map}
use Rattle.std.proofs.lemmas.List.{append-nil, length-append}
use Rattle.pm_types.specs.Counts.{Rose, greatest_count}
use Rattle.pm_types.specs.contracts.Cmd as cmd_type
use Rattle.pm_types.specs.declared.command.Cmd.{Cmd}
use Rattle.pm_types.specs.declared.entry.Entry.{Entry}
use Rattle.pm_types.specs.declared.limits.TheConstants.{CLIENTS}
use Rattle.pm_types.specs.declared.no_memory.NoMemory.{NoMemory}
use Rattle.pm_types.specs.declared.fault.EngineFault.TheVariants.{Memory, Disk, Reopen}
use Rattle.pm_disk.specs.declared.disk.Disk.{Ghosts}
use Rattle.pm_model.specs.Journal.{commands_of, part}
use Rattle.pm_script.specs.declared.line.Line.{Line}
use Rattle.pm_script.specs.Parted.Asked.{requests_asked}
use Rattle.pm_saving.specs.Serving.{Serving, world}
use Rattle.pm_saving.specs.Images.{IsSettledCopy, IsTold}
use Rattle.pm_engine.specs.declared.engine.Engine.{Engine}
use Rattle.pm_engine.specs.declared.events.stop.Stop.{Stop}
use Rattle.pm_engine.specs.declared.events.stop.Stop.TheVariants.{Device}
use Rattle.pm_engine.specs.Events.Events.{EngineGoesOn, FitsLine}
use Rattle.pm_engine.specs.Events.Running.{IsFresh}
use Rattle.pm_engine.specs.Shown.{KeepsStart, disk_in, opened_disk, serving}
use Rattle.pm_engine.proofs.EventsLemmas.Going.{goes_short, goes_then}
use Rattle.pm_passes.specs.declared.view.View.{View}
use Rattle.pm_passes.specs.Views.{HasOwn}
use Rattle.pm_lock.proofs.Laws.{below_once, splits_once}
use Rattle.pm_seats.specs.declared.fault.SeatFault.{SeatFault}
use Rattle.pm_seats.specs.declared.fault.SeatFault.TheVariants.{Engine as Answered, Spent}
use Rattle.pm_seats.specs.Kept.{stop_in}
use Rattle.pm_seats.specs.Sharing.{IsWholeEngine, OpensPass}
use Rattle.pm_turns.specs.declared.limits.TheConstants.{WORKERS}
use Rattle.pm_callers.specs.declared.task.Task.{Task}
use Rattle.pm_callers.specs.declared.task.Task.TheVariants.{Client, Collector, Flusher}
use Rattle.pm_callers.specs.Tasks.{AreApart, HasLeft, IsDone, IsTask, SomeLeft, calls_in, calls_left, collects_in, collects_left, flushes_in, flushes_left}
use Rattle.pm_callers.specs.Faults.{is_disk, stop_met, weight, worse_of, worst_from}
use Rattle.pm_callers.specs.Works.{Answers, Each, Ends, Told, WorkTogether}
use Rattle.pm_callers.specs.Runs.{AreAsked, IsLeft, KeepsEngine, Leaves, RunsCalls, RunsTasks, Says, Shows}
use Rattle.pm_serial.proofs.TogetherLemmas.Counting.{no_longer}
use Rattle.pm_callers.proofs.Logs.{Pairs, all_clients, its_part}
use Rattle.pm_callers.proofs.Stepping.{rose_more}
use Rattle.pm_callers.proofs.Worst.{weightless, worse_one, worst_each}

abbrev Mets : Type 0
Mets = List (Opt SeatFault)

-- ---- what is left, by the worst fault

-- where no worker met a fault each has done all
all_done : (n : ℕ) (tasks lefts : List Task) (mets : Mets) (pairs : Pairs) → n ≡ 0 → AllByRecursion (λ met. weight met ≤ n) mets → Each tasks lefts mets pairs → AllByRecursion IsDone lefts
all_done n [] [] [] pairs none light each = tt
all_done n [] [] (m ∷ mets) pairs none light each = absurd each
all_done n [] (l ∷ lefts) mets pairs none light each = absurd each
all_done n (t ∷ tasks) [] mets pairs none light each = absurd each
all_done n (t ∷ tasks) (l ∷ lefts) [] pairs none light each = absurd each
all_done n (t ∷ tasks) (l ∷ lefts) (m ∷ mets) pairs none light each =
    let heavy = light.0 in
    let is : m ≡ None = weightless m (omega (arith, heavy, none)) in (
      subst (Ends l) is each.0,
      ⊎_elim
          (λ (x : (pair : ℕ × List Entry) × (others : Pairs) × (pairs ≡ pair ∷ others) × Answers t l pair.1 × Each tasks lefts mets others). all_done n tasks lefts mets x.1 none light.1 x.4)
          (λ (x : (l ≡ t) × Each tasks lefts mets pairs). all_done n tasks lefts mets pairs none light.1 x.1) each.1,
    )

-- where one did it has something left
some_left : (worst : Opt SeatFault) (fault : SeatFault) (tasks lefts : List Task) (mets : Mets) (pairs : Pairs) → Each tasks lefts mets pairs → worst_from worst mets ≡ Some fault → (worst ≡ Some fault) ⊎ SomeLeft lefts
some_left worst fault [] [] [] pairs each is = inl is
some_left worst fault [] [] (m ∷ mets) pairs each is = absurd each
some_left worst fault [] (l ∷ lefts) mets pairs each is = absurd each
some_left worst fault (t ∷ tasks) [] mets pairs each is = absurd each
some_left worst fault (t ∷ tasks) (l ∷ lefts) [] pairs each is = absurd each
some_left worst fault (t ∷ tasks) (l ∷ lefts) (m ∷ mets) pairs each is =
    let rest : (worse_of worst m ≡ Some fault) ⊎ SomeLeft lefts =
    ⊎_elim
    (λ (x : (pair : ℕ × List Entry) × (others : Pairs) × (pairs ≡ pair ∷ others) × Answers t l pair.1 × Each tasks lefts mets others). some_left (worse_of worst m) fault tasks lefts mets x.1 x.4 is)
    (λ (x : (l ≡ t) × Each tasks lefts mets pairs). some_left (worse_of worst m) fault tasks lefts mets pairs x.1 is) each.1 in
    ⊎_elim
    (λ (here : worse_of worst m ≡ Some fault).
    ⊎_elim (λ (one : worse_of worst m ≡ worst). inl (sym one ∙ here)) (λ (two : worse_of worst m ≡ m). inr (inl (subst (Ends l) (sym two ∙ here) each.0))) (worse_one worst m))
    (λ left. inr (inr left)) rest

some_of_none : (left : List Task) (fault : SeatFault) → (◌≡◌ {A = Opt SeatFault} None (Some fault)) ⊎ SomeLeft left → SomeLeft left
some_of_none left fault one = ⊎_elim (λ never. absurd (cc never)) (λ some. some) one

pub leaves_by : (tasks lefts : List Task) (mets : Mets) (pairs : Pairs) (fault : Opt SeatFault) → Each tasks lefts mets pairs → fault ≡ worst_from None mets → Leaves lefts fault
leaves_by tasks lefts mets pairs None each is = all_done (weight (worst_from None mets)) tasks lefts mets pairs (ap weight (sym is)) (worst_each None mets) each
leaves_by tasks lefts mets pairs (Some (Spent n)) each is = tt
leaves_by tasks lefts mets pairs (Some (Answered (Memory m))) each is = some_of_none lefts (Answered (Memory m)) (some_left None (Answered (Memory m)) tasks lefts mets pairs each (sym is))
leaves_by tasks lefts mets pairs (Some (Answered (Disk b a))) each is = tt
leaves_by tasks lefts mets pairs (Some (Answered (Reopen count))) each is = tt

-- ---- how the engine goes on, by the worst fault

still_stopped : (stopped : Opt ℕ) (first now struck : ℕ) → (stopped ≡ None → struck ≡ 0) → 0 < struck → stop_in stopped ≡ Some Device
still_stopped None first now struck none some = let never = none refl in absurd (omega (arith, never, some))
still_stopped (Some count) first now struck none some = refl

module _ {D : Type 0} {F : Type 0} {g : Ghosts D} (first now : Engine D F g) (law : (serving now).stopped ≡ None → IsTold (g.contents (opened_disk now)) → (left : List ℕ) → g.image (disk_in now) left → IsSettledCopy (world (serving now)) left) where
  -- a count that stands at its end has risen where it still stands there
  at_its_end : (faults : ℕ) → Rose (g.count (disk_in first)) faults → faults ≤ g.count (disk_in now) → EngineGoesOn first now None → EngineGoesOn first now (Some Device)
  at_its_end faults rose known goes =
      let same = goes.cause in
      record {
        start = goes.start;
        entries = goes.entries;
        room = goes.room;
        grows = goes.grows;
        leaves = goes.leaves;
        last = λ of told left here. inl (law (goes.going (λ x. x)) (subst (λ (d : D). IsTold (g.contents d)) (sym goes.start.disk) told) left here);
        going = λ none. absurd (none tt);
        cause =
            ⊎_elim (λ (p : g.count (disk_in first) < faults). absurd (omega (arith, p, known, same)))
            (λ (p : (g.count (disk_in first) ≡ greatest_count) × (faults ≡ greatest_count)). inr (p.0, same ∙ p.0)) rose;
        past = goes.past;
        idle = goes.idle;
      }

  pub goes_by : (fault : Opt SeatFault) (w : View Entry) → Told (g.count (disk_in first)) w fault → w.faults ≤ g.count (disk_in now) → (is_disk fault ≡ false → (serving now).stopped ≡ None) → ((serving now).stopped ≡ None → w.struck ≡ 0) → EngineGoesOn first now (stop_in (serving now).stopped) → EngineGoesOn first now (stop_met fault)
  goes_by None w told known running struck goes = subst (λ (s : Opt Stop). EngineGoesOn first now s) (ap stop_in (running refl)) goes
  goes_by (Some (Spent n)) w told known running struck goes = subst (λ (s : Opt Stop). EngineGoesOn first now s) (ap stop_in (running refl)) goes
  goes_by (Some (Answered (Memory m))) w told known running struck goes = goes_short first now (subst (λ (s : Opt Stop). EngineGoesOn first now s) (ap stop_in (running refl)) goes)
  goes_by (Some (Answered (Reopen count))) w told known running struck goes = at_its_end w.faults told known (subst (λ (s : Opt Stop). EngineGoesOn first now s) (ap stop_in (running refl)) goes)
  goes_by (Some (Answered (Disk b a))) w told known running struck goes =
      subst (λ (s : Opt Stop). EngineGoesOn first now s) (still_stopped (serving now).stopped (g.count (disk_in first)) (g.count (disk_in now)) w.struck struck told.0) goes

pub shows_by : (it : Serving) (base now : ℕ) (fault : Opt SeatFault) (w : View Entry) → Told base w fault → w.faults ≤ now → w.events ≤ it.events → Shows it base now fault
shows_by it base now None w told faults events = tt
shows_by it base now (Some (Spent n)) w told faults events = omega (arith, told, events)
shows_by it base now (Some (Answered (Memory m))) w told faults events = tt
shows_by it base now (Some (Answered (Disk b a))) w told faults events = rose_more base w.faults now told.1 faults
shows_by it base now (Some (Answered (Reopen count))) w told faults events = rose_more base w.faults now told faults

-- ---- the tasks

-- the first pass has shares enough for ten
pub enough_at_first : (base : ℕ) (tasks : List Task) (v : View Entry) → OpensPass base v → length tasks ≤ WORKERS → 2 ^ length tasks ≤ v.shares
enough_at_first base tasks v opens few =
    let shares = opens.shares in
    let most : 2 ^ length tasks ≤ 2 ^ 10 = pow_mono few in
    omega (arith, shares, most)

module _ {D : Type 0} {F : Type 0} {g : Ghosts D} (first now : Engine D F g) (tasks left : List Task) (v w : View Entry) (fault : Opt SeatFault) (opens : OpensPass (g.count (disk_in first)) v) (works : WorkTogether (g.count (disk_in first)) tasks left v w fault) (whole : IsWholeEngine w now) (own : ∥ HasOwn w ∥₁)
    (are : AllByRecursion IsTask tasks) (apart : AreApart tasks) where
  pairs : Pairs
  pairs = (w.number, w.mine) ∷ w.ended

  each_pair : Each tasks left works.met ((w.number, w.mine) ∷ w.ended)
  each_pair =
      let mine : works.entries ≡ w.mine = ap (λ (l : List Entry). l ++ works.entries) (sym opens.mine) ∙ sym works.mine in
      let ended : works.others ≡ w.ended = ap (λ (l : Pairs). l ++ works.others) (sym opens.ended) ∙ sym works.ended in
      subst (Each tasks left works.met) (λ i. (sym works.counts.number i, mine i) ∷ ended i) works.each

  parts_are : (client : ℕ) → part client (serving now).journal ++ calls_left client left ≡ calls_left client tasks
  parts_are client =
      ap (λ (l : List Entry). part client l ++ calls_left client left) whole.journal
      ∙ splits_once (Coded-set (coded_list cmd_type.the_row.coded) _ _) (∥∥₁_map own (λ is. its_part client w.front tasks left works.met ((w.number, w.mine) ∷ w.ended) apart (is.other, is.apart) (is.mine, is.ended) whole.covers each_pair))

  clients_are : AllByRecursion (λ (entry : Entry). entry.client < CLIENTS) (serving now).journal
  clients_are =
      subst (AllByRecursion (λ (entry : Entry). entry.client < CLIENTS)) (sym whole.journal)
      (splits_once (AllByRecursion-prop (λ (entry : Entry). entry.client < CLIENTS) (λ entry. below_once entry.client CLIENTS) _)
      (∥∥₁_map own (λ is. all_clients w.front tasks left works.met ((w.number, w.mine) ∷ w.ended) are (is.mine, is.ended) whole.covers each_pair)))

  running : is_disk fault ≡ false → (serving now).stopped ≡ None
  running none = whole.stopped (works.counts.struck none ∙ opens.struck)

  pub runs_tasks : (law : (serving now).stopped ≡ None → IsTold (g.contents (opened_disk now)) → (left : List ℕ) → g.image (disk_in now) left → IsSettledCopy (world (serving now)) left) → ∥ EngineGoesOn first now (stop_in (serving now).stopped) ∥₁ → w.faults ≤ g.count (disk_in now) → w.events ≤ (serving now).events → AllByRecursion FitsLine (serving now).journal → RunsTasks tasks first now fault
  runs_tasks law goes faults events fits =
      let made = works.counts.made in
      let none_made = opens.made in
      let flushed = works.counts.flushed in
      let none_flushed = opens.flushed in
      let steps_are = whole.steps in
      let events_are = whole.events in
      record {
        left = left;
        leaves = leaves_by tasks left works.met ((w.number, w.mine) ∷ w.ended) fault each_pair works.worst;
        parts = parts_are;
        steps = omega (arith, made, none_made, steps_are);
        events = omega (arith, flushed, none_flushed, steps_are, events_are);
        clients = clients_are;
        lines_are = fits;
        goes = ∥∥₁_map goes (λ on. goes_by first now law fault w works.counts.told faults running whole.struck on);
        shows = shows_by (serving now) (g.count (disk_in first)) (g.count (disk_in now)) fault w works.counts.told faults events;
      }

-- ---- the lines

none_in : (client : ℕ) (task : Task) → IsDone task → (calls_in client task ≡ []) × (collects_in task ≡ 0) × (flushes_in task ≡ 0)
none_in client (Client who commands) done = (both (nat_eq who client), refl, refl)
  where
    both : (b : Bool) → (if b then deque_items commands else []) ≡ []
    both true = done
    both false = refl
none_in client (Collector count) done = (refl, done, refl)
none_in client (Flusher count) done = (refl, refl, done)

none_left : (client : ℕ) (tasks : List Task) → AllByRecursion IsDone tasks → (calls_left client tasks ≡ []) × (collects_left tasks ≡ 0) × (flushes_left tasks ≡ 0)
none_left client [] done = (refl, refl, refl)
none_left client (t ∷ tasks) done =
    let here = none_in client t done.0 in
    let rest = none_left client tasks done.1 in
    let a = here.1 in let b = rest.1 in let c = here.2 in let d = rest.2 in
    ((λ i. here.0 i ++ rest.0 i), omega (arith, a, b), omega (arith, c, d))

abbrev HasCall : List Task → Type 0
HasCall tasks = (client : ℕ) × (cmd : Cmd) × (rest : List Cmd) × (calls_left client tasks ≡ cmd ∷ rest)

abbrev HasEvent : List Task → Type 0
HasEvent tasks = HasCall tasks ⊎ ((0 < collects_left tasks) ⊎ (0 < flushes_left tasks))

behind : (xs : List Cmd) (cmd : Cmd) (rest : List Cmd) → (one : Cmd) × (others : List Cmd) × (xs ++ cmd ∷ rest ≡ one ∷ others)
behind [] cmd rest = (cmd, rest, refl)
behind (x ∷ xs) cmd rest = (x, xs ++ cmd ∷ rest, refl)

here_left : (t : Task) (tasks : List Task) → HasLeft t → HasEvent (t ∷ tasks)
here_left (Client who commands) tasks left =
    inl (who, left.0, left.1 ++ calls_left who tasks, (λ i. (ap (λ (b : Bool). if b then deque_items commands else []) (eq-true who who refl) ∙ left.2) i ++ calls_left who tasks))
  where
    eq-true : (a b : ℕ) → a ≡ b → nat_eq a b ≡ true
    eq-true a b is = grind (arith, is)
here_left (Collector count) tasks left = inr (inl (omega (arith, left)))
here_left (Flusher count) tasks left = inr (inr (omega (arith, left)))

there_left : (t : Task) (tasks : List Task) → HasEvent tasks → HasEvent (t ∷ tasks)
there_left t tasks has =
    ⊎_elim
    (λ (x : HasCall tasks). let y = behind (calls_in x.0 t) x.1 x.2 in inl (x.0, y.0, y.1, ap (λ (l : List Cmd). calls_in x.0 t ++ l) x.3 ∙ y.2))
    (λ (more : (0 < collects_left tasks) ⊎ (0 < flushes_left tasks)).
    ⊎_elim (λ (p : 0 < collects_left tasks). inr (inl (omega (arith, p)))) (λ (p : 0 < flushes_left tasks). inr (inr (omega (arith, p)))) more) has

has_event : (tasks : List Task) → SomeLeft tasks → HasEvent tasks
has_event [] some = absurd some
has_event (t ∷ tasks) some = ⊎_elim (λ left. here_left t tasks left) (λ rest. there_left t tasks (has_event tasks rest)) some

module _ {D : Type 0} {F : Type 0} {g : Ghosts D} (lines : List Line) (first now : Engine D F g) (tasks : List Task) (asked : AreAsked lines tasks) where
  module _ (fault : Opt SeatFault) (runs : RunsTasks tasks first now fault) where
    parted : (client : ℕ) → part client (serving now).journal ++ calls_left client runs.left ≡ commands_of client (requests_asked lines)
    parted client = runs.parts client ∙ asked.calls client

    no_more : (client : ℕ) → length (part client (serving now).journal) ≤ length (commands_of client (requests_asked lines))
    no_more client =
        let all = ap length (parted client) in
        let both = length-append (part client (serving now).journal) (calls_left client runs.left) in
        omega (arith, all, both)

    entries_few : length (serving now).journal ≤ length (requests_asked lines)
    entries_few = no_longer CLIENTS (serving now).journal (requests_asked lines) runs.clients no_more

    event_left : HasEvent runs.left → IsLeft lines (serving now)
    event_left has =
        let steps = runs.steps in
        let collects = asked.collects in
        let events = runs.events in
        let flushes = asked.flushes in
        ⊎_elim (λ (x : HasCall runs.left). inl (x.0, x.1, x.2, ap (λ (l : List Cmd). part x.0 (serving now).journal ++ l) (sym x.3) ∙ parted x.0))
        (λ (more : (0 < collects_left runs.left) ⊎ (0 < flushes_left runs.left)).
        inr (⊎_elim (λ (p : 0 < collects_left runs.left). inl (omega (arith, p, steps, collects))) (λ (p : 0 < flushes_left runs.left). inr (omega (arith, p, events, flushes))) more))
        has

  says_by : (fault : Opt SeatFault) → RunsTasks tasks first now fault → Says lines first now fault
  says_by None runs =
      let steps = runs.steps in
      let collects = asked.collects in
      let events = runs.events in
      let flushes = asked.flushes in
      let none = none_left 0 runs.left runs.leaves in
      let no_collects = none.1 in
      let no_flushes = none.2 in
      record {
        serves = λ client. sym (append-nil (part client (serving now).journal)) ∙ ap (λ (l : List Cmd). part client (serving now).journal ++ l) (sym (none_left client runs.left runs.leaves).0) ∙ parted None runs client;
        steps = omega (arith, steps, collects, no_collects);
        events = omega (arith, steps, collects, no_collects, events, flushes, no_flushes);
      }
  says_by (Some (Answered (Memory m))) runs = inr (event_left (Some (Answered (Memory m))) runs (has_event runs.left runs.leaves))
  says_by (Some (Answered (Disk b a))) runs = runs.shows
  says_by (Some (Answered (Reopen count))) runs = runs.shows
  says_by (Some (Spent n)) runs =
      let steps = runs.steps in
      let collects = asked.collects in
      let events = runs.events in
      let flushes = asked.flushes in
      let few = asked.few in
      let reached = runs.shows in
      let entries = entries_few (Some (Spent n)) runs in
      absurd (omega (arith, steps, collects, events, flushes, few, reached, entries))

  pub runs_calls : (fault : Opt SeatFault) → RunsTasks tasks first now fault → RunsCalls lines first now fault
  runs_calls fault runs =
      let steps = runs.steps in
      let collects = asked.collects in
      let events = runs.events in
      let flushes = asked.flushes in
      let entries = entries_few fault runs in
      let few = asked.few in
      record {
        parts = λ client. (calls_left client runs.left, parted fault runs client);
        steps = omega (arith, steps, collects);
        flushes = omega (arith, events, flushes);
        few = omega (arith, events, flushes, steps, collects, entries, few);
        lines_are = runs.lines_are;
        goes = runs.goes;
        says = says_by fault runs;
      }

-- ---- from the engine of before the room was taken

-- an engine that stays, and stays again
start_on : {D : Type 0} {F : Type 0} {g : Ghosts D} (a b c : Engine D F g) → KeepsStart a b → KeepsStart b c → KeepsStart a c
start_on a b c one two = record {
  opening = record { number = two.opening.number ∙ one.opening.number; opened = two.opening.opened ∙ one.opening.opened };
  disk = two.disk ∙ one.disk;
  count = two.count ∙ one.count;
  chooser = two.chooser ∙ one.chooser;
}

keeps_on : {D : Type 0} {F : Type 0} {g : Ghosts D} (a b c : Engine D F g) → KeepsEngine a b → KeepsEngine b c → KeepsEngine a c
keeps_on a b c one two =
    let room_one = one.room in
    let room_two = two.room in
    record {
      serving_is = two.serving_is ∙ one.serving_is;
      disk = two.disk ∙ one.disk;
      start = start_on a b c one.start two.start;
      entries = two.entries ∙ one.entries;
      room = omega (arith, room_one, room_two);
    }

module _ {D : Type 0} {F : Type 0} {g : Ghosts D} (lines : List Line) (old : Engine D F g) where
  says_before : (first now : Engine D F g) → KeepsEngine old first → (fault : Opt SeatFault) → Says lines first now fault → Says lines old now fault
  says_before first now keeps None says = says
  says_before first now keeps (Some (Answered (Memory m))) says = ⊎_elim (λ (same : KeepsEngine first now). inl (keeps_on old first now keeps same)) (λ left. inr left) says
  says_before first now keeps (Some (Answered (Disk b a))) says = subst (λ (d : D). Rose (g.count d) (g.count (disk_in now))) keeps.disk says
  says_before first now keeps (Some (Answered (Reopen count))) says = subst (λ (d : D). Rose (g.count d) (g.count (disk_in now))) keeps.disk says
  says_before first now keeps (Some (Spent n)) says = says

  pub from_before : (first now : Engine D F g) → KeepsEngine old first → EngineGoesOn old first None → (fault : Opt SeatFault) → RunsCalls lines first now fault → RunsCalls lines old now fault
  from_before first now keeps goes fault runs = record {
    parts = runs.parts;
    steps = runs.steps;
    flushes = runs.flushes;
    few = runs.few;
    lines_are = runs.lines_are;
    goes = ∥∥₁_map runs.goes (λ on. goes_then old first now (stop_met fault) goes on);
    says = says_before first now keeps fault runs.says;
  }

  -- nothing was asked
  pub nothing_run : (now : Engine D F g) (m : NoMemory) → IsFresh (serving old) → KeepsEngine old now → EngineGoesOn old now None → RunsCalls lines old now (Some (Answered (Memory m)))
  nothing_run now m fresh keeps goes =
      let journal : (serving now).journal ≡ [] = ap (λ (it : Serving). it.journal) keeps.serving_is ∙ fresh.journal in
      let steps = ap (λ (it : Serving). it.steps) keeps.serving_is ∙ fresh.steps in
      let events = ap (λ (it : Serving). it.events) keeps.serving_is ∙ fresh.events in
      record {
        parts = λ client. (commands_of client (requests_asked lines), ap (λ (l : List Entry). part client l ++ commands_of client (requests_asked lines)) journal);
        steps = omega (arith, steps);
        flushes = omega (arith, events);
        few = omega (arith, events);
        lines_are = subst (AllByRecursion FitsLine) (sym journal) tt;
        goes = ∣ goes_short old now goes ∣₁;
        says = inl keeps;
      }

  -- the tasks of these lines were asked, or nothing was
  pub asked_by : (first now : Engine D F g) (tasks : List Task) (fault : Opt SeatFault) → IsFresh (serving old) → AreAsked lines tasks → KeepsEngine old first → EngineGoesOn old first None → RunsTasks tasks first now fault ⊎ ((m : NoMemory) × (fault ≡ Some (Answered (Memory m))) × (now ≡ first)) → RunsCalls lines old now fault
  asked_by first now tasks fault fresh asked keeps goes one =
      ⊎_elim (λ (runs : RunsTasks tasks first now fault). from_before first now keeps goes fault (runs_calls lines first now tasks asked fault runs))
      (λ (x : (m : NoMemory) × (fault ≡ Some (Answered (Memory m))) × (now ≡ first)).
      subst (λ (e : Engine D F g). RunsCalls lines old e fault) (sym x.2) (subst (RunsCalls lines old first) (sym x.1) (nothing_run first x.0 fresh keeps goes)))
      one
