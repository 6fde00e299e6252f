-- What one event does, and what events do one behind another.
use Rattle.std.proofs.Common.{◌≡◌, ◌⊎◌, inl, inr, ⊎_elim, ℕ, ◌+◌, ◌<◌, ◌≤◌, ◌-◌, ◌↔◌, false, true, List, [], ◌∷◌, ◌++◌, map, length, Option, Some, None, Ok, Err, arith, refl, ap, sym, subst, ◌∙◌}
use Rattle.std.specs.List.{AllByRecursion}
use Rattle.std.specs.Option.{IsSome, is_some, option_to_list}
use Rattle.std.specs.VecDeque.{deque_items}
use Rattle.std.specs.declared.collections.VecDeque.{VecDeque}
use Rattle.std.specs.declared.alloc.Global.{Global}
use Rattle.std.proofs.lemmas.List.{append-nil, append_assoc, map-append}
use native.Mathlib.Decide.{dec_lt}
use Rattle.pm_types.specs.Counts.{Rose, greatest_count}
use Rattle.pm_types.specs.declared.command.Cmd.{Cmd}
use Rattle.pm_types.specs.declared.entry.Entry.{Entry}
use Rattle.pm_types.specs.declared.fault.EngineFault.TheVariants.{Memory, Disk, Reopen}
use Rattle.pm_passes.specs.declared.pass.Pass.{Pass}
use Rattle.pm_passes.specs.declared.view.View.{View}
use Rattle.pm_passes.specs.Passes.{view_of}
use Rattle.pm_seats.specs.declared.events.Seen.{Seen}
use Rattle.pm_seats.specs.declared.fault.SeatFault.{SeatFault}
use Rattle.pm_seats.specs.declared.fault.SeatFault.TheVariants.{Engine as Answered, Spent}
use Rattle.pm_seats.specs.Sharing.{FailsPass, SeesEntry, SeesFlush, SeesMade, entry_of}
use Rattle.pm_callers.specs.declared.task.Task.{Task}
use Rattle.pm_callers.specs.declared.task.Task.TheVariants.{Client, Collector, Flusher}
use Rattle.pm_callers.specs.Tasks.{IsTask}
use Rattle.pm_callers.specs.Faults.{is_disk}
use Rattle.pm_callers.specs.Works.{Answers, Counts, Steps, TakesNext, Told, Works}

abbrev V : Type 0
V = View Entry

-- ---- counts that rose

pub rose_more : (base m n : ℕ) → Rose base m → m ≤ n → Rose base n
rose_more base m n rose less =
    ⊎_elim (λ (p : base < m). inl (omega (arith, p, less)))
    (λ (p : (base ≡ greatest_count) × (m ≡ greatest_count)). let a = p.0 in let b = p.1 in by a b (dec_lt m n)) rose
  where
    by : base ≡ greatest_count → m ≡ greatest_count → Dec (m < n) → Rose base n
    by a b (yes lt) = inl (omega (arith, a, b, lt))
    by a b (no not) = inr (a, omega (arith, b, not, less))

rose_from : (base before after : ℕ) → base ≤ before → Rose before after → Rose base after
rose_from base before after less rose =
    ⊎_elim (λ (p : before < after). inl (omega (arith, p, less)))
    (λ (p : (before ≡ greatest_count) × (after ≡ greatest_count)). by p.0 p.1 (dec_lt base before)) rose
  where
    by : before ≡ greatest_count → after ≡ greatest_count → Dec (base < before) → Rose base after
    by a b (yes lt) = inl (omega (arith, a, b, lt))
    by a b (no not) = inr (omega (arith, a, not, less), b)

rose_least : (before after : ℕ) → Rose before after → before ≤ after
rose_least before after rose =
    ⊎_elim (λ (p : before < after). omega (arith, p)) (λ (p : (before ≡ greatest_count) × (after ≡ greatest_count)). let a = p.0 in let b = p.1 in omega (arith, a, b)) rose

-- what a pass was told stays so while it is told no less
pub told_on : (base : ℕ) (w u : V) (fault : Option SeatFault) → Told base w fault → w.struck ≤ u.struck → w.faults ≤ u.faults → w.events ≤ u.events → Told base u fault
told_on base w u None told struck faults events = tt
told_on base w u (Some (Spent n)) told struck faults events = omega (arith, told, events)
told_on base w u (Some (Answered (Memory m))) told struck faults events = tt
told_on base w u (Some (Answered (Reopen count))) told struck faults events = rose_more base w.faults u.faults told faults
told_on base w u (Some (Answered (Disk before after))) told struck faults events = let some = told.0 in (omega (arith, some, struck), rose_more base w.faults u.faults told.1 faults)

-- ---- nothing yet

pub same_answers : (task : Task) → Answers task task []
same_answers (Client client commands) = (refl, tt, refl)
same_answers (Collector count) = (omega arith, refl)
same_answers (Flusher count) = (omega arith, refl)

pub begins : (base : ℕ) (task : Task) (v : V) → Steps base task task v v None
begins base task v = record {
  entries = [];
  mine = sym (append-nil v.mine);
  ended = refl;
  answers = same_answers task;
  counts = record { number = refl; shares = refl; made = refl; flushed = refl; struck = λ _. refl; strikes = omega arith; faults = omega arith; events = omega arith; told = tt };
}

-- ---- one event

module _ (base client : ℕ) (v w : V) where
  -- a command was answered
  pub called : (cmd : Cmd) (was is : VecDeque Cmd Global) (seen : Seen) → deque_items was ≡ cmd ∷ deque_items is → SeesEntry client cmd v w seen → Steps base (Client client was) (Client client is) v w None
  called cmd was is seen next sees =
      let view = sees.view in
      let made = ap (λ (u : V). u.made) view in
      let flushed = ap (λ (u : V). u.flushed) view in
      let struck = ap (λ (u : V). u.struck) view in
      let faults = ap (λ (u : V). u.faults) view in
      let events = ap (λ (u : V). u.events) view in
      record {
        entries = entry_of client cmd seen.reply ∷ [];
        mine = ap (λ (u : V). u.mine) view;
        ended = ap (λ (u : V). u.ended) view;
        answers = (refl, (refl, tt), sym next);
        counts = record {
          number = ap (λ (u : V). u.number) view;
          shares = ap (λ (u : V). u.shares) view;
          made = omega (arith, made);
          flushed = omega (arith, flushed);
          struck = λ _. struck;
          strikes = omega (arith, struck);
          faults = omega (arith, faults);
          events = omega (arith, events);
          told = tt;
        };
      }

module _ (base : ℕ) (v w : V) where
  -- an event of the collector was made
  pub collected : (was is : ℕ) → is + 1 ≡ was → SeesMade v w → Steps base (Collector was) (Collector is) v w None
  collected was is fewer sees =
      let view = sees.view in
      let made = ap (λ (u : V). u.made) view in
      let flushed = ap (λ (u : V). u.flushed) view in
      let struck = ap (λ (u : V). u.struck) view in
      let faults = ap (λ (u : V). u.faults) view in
      let events = ap (λ (u : V). u.events) view in
      record {
        entries = [];
        mine = ap (λ (u : V). u.mine) view ∙ sym (append-nil v.mine);
        ended = ap (λ (u : V). u.ended) view;
        answers = (omega (arith, fewer), refl);
        counts = record {
          number = ap (λ (u : V). u.number) view;
          shares = ap (λ (u : V). u.shares) view;
          made = omega (arith, made, fewer);
          flushed = omega (arith, flushed);
          struck = λ _. struck;
          strikes = omega (arith, struck);
          faults = omega (arith, faults);
          events = omega (arith, events);
          told = tt;
        };
      }

  -- a flush event was made
  pub flushes : (was is : ℕ) → is + 1 ≡ was → SeesFlush v w → Steps base (Flusher was) (Flusher is) v w None
  flushes was is fewer sees =
      let view = sees.view in
      let made = ap (λ (u : V). u.made) view in
      let flushed = ap (λ (u : V). u.flushed) view in
      let struck = ap (λ (u : V). u.struck) view in
      let faults = ap (λ (u : V). u.faults) view in
      let events = ap (λ (u : V). u.events) view in
      record {
        entries = [];
        mine = ap (λ (u : V). u.mine) view ∙ sym (append-nil v.mine);
        ended = ap (λ (u : V). u.ended) view;
        answers = (omega (arith, fewer), refl);
        counts = record {
          number = ap (λ (u : V). u.number) view;
          shares = ap (λ (u : V). u.shares) view;
          made = omega (arith, made);
          flushed = omega (arith, flushed, fewer);
          struck = λ _. struck;
          strikes = omega (arith, struck);
          faults = omega (arith, faults);
          events = omega (arith, events);
          told = tt;
        };
      }

  -- ---- a fault was answered

  pub record Keeps : Type 0 where
    pub number : w.number ≡ v.number
    pub shares : w.shares ≡ v.shares
    pub mine : w.mine ≡ v.mine
    pub ended : w.ended ≡ v.ended
    pub made : w.made ≡ v.made
    pub flushed : w.flushed ≡ v.flushed

  keeps_by : (struck faults events : ℕ) (front : List (ℕ × Entry)) (u : V) → w ≡ record u { struck = struck; faults = faults; events = events } → u.number ≡ v.number → u.shares ≡ v.shares → u.mine ≡ v.mine → u.ended ≡ v.ended → u.made ≡ v.made → u.flushed ≡ v.flushed → Keeps
  keeps_by struck faults events front u is number shares mine ended made flushed = record {
    number = ap (λ (x : V). x.number) is ∙ number;
    shares = ap (λ (x : V). x.shares) is ∙ shares;
    mine = ap (λ (x : V). x.mine) is ∙ mine;
    ended = ap (λ (x : V). x.ended) is ∙ ended;
    made = ap (λ (x : V). x.made) is ∙ made;
    flushed = ap (λ (x : V). x.flushed) is ∙ flushed;
  }

  failed_with : (task : Task) (fault : Option SeatFault) → Keeps → (is_disk fault ≡ false → w.struck ≡ v.struck) → v.struck ≤ w.struck → v.faults ≤ w.faults → v.events ≤ w.events → Told base w fault → Steps base task task v w fault
  failed_with task fault keeps struck strikes faults events told =
      let made = keeps.made in
      let flushed = keeps.flushed in
      record {
        entries = [];
        mine = keeps.mine ∙ sym (append-nil v.mine);
        ended = keeps.ended;
        answers = same_answers task;
        counts = record {
          number = keeps.number;
          shares = keeps.shares;
          made = omega (arith, made);
          flushed = omega (arith, flushed);
          struck = struck;
          strikes = strikes;
          faults = faults;
          events = events;
          told = told;
        };
      }

  pub failed : (task : Task) (fault : SeatFault) → base ≤ v.faults → FailsPass base v w fault → Steps base task task v w (Some fault)
  failed task (Answered (Memory m)) least fails =
      let is = fails.told in
      let struck = ap (λ (u : V). u.struck) is in
      let faults = ap (λ (u : V). u.faults) is in
      let events = ap (λ (u : V). u.events) is in
      failed_with task (Some (Answered (Memory m)))
      (record { number = ap (λ (u : V). u.number) is; shares = ap (λ (u : V). u.shares) is; mine = ap (λ (u : V). u.mine) is; ended = ap (λ (u : V). u.ended) is; made = ap (λ (u : V). u.made) is; flushed = ap (λ (u : V). u.flushed) is })
      (λ _. struck) (omega (arith, struck)) (omega (arith, faults)) (omega (arith, events)) tt
  failed task (Answered (Disk before after)) least fails =
      let told = fails.told in
      let is = told.3 in
      let struck = ap (λ (u : V). u.struck) is in
      let faults = ap (λ (u : V). u.faults) is in
      let known = told.0 in
      let rose = rose_least before after told.1 in
      failed_with task (Some (Answered (Disk before after)))
      (record { number = ap (λ (u : V). u.number) is; shares = ap (λ (u : V). u.shares) is; mine = ap (λ (u : V). u.mine) is; ended = ap (λ (u : V). u.ended) is; made = ap (λ (u : V). u.made) is; flushed = ap (λ (u : V). u.flushed) is })
      (λ never. absurd (cc never)) (omega (arith, struck)) (omega (arith, faults, known, rose)) told.2
      (omega (arith, struck), subst (Rose base) (sym faults) (rose_from base before after (omega (arith, least, known)) told.1))
  failed task (Answered (Reopen count)) least fails =
      let told = fails.told in
      let is = told.3 in
      let struck = ap (λ (u : V). u.struck) is in
      let faults = ap (λ (u : V). u.faults) is in
      let known = told.1 in
      failed_with task (Some (Answered (Reopen count)))
      (record { number = ap (λ (u : V). u.number) is; shares = ap (λ (u : V). u.shares) is; mine = ap (λ (u : V). u.mine) is; ended = ap (λ (u : V). u.ended) is; made = ap (λ (u : V). u.made) is; flushed = ap (λ (u : V). u.flushed) is })
      (λ _. struck) (omega (arith, struck)) (omega (arith, faults, known)) told.2 (subst (Rose base) (sym faults) told.0)
  failed task (Spent n) least fails =
      let told = fails.told in
      let is = told.3 in
      let struck = ap (λ (u : V). u.struck) is in
      let events = ap (λ (u : V). u.events) is in
      let last = told.0 in
      let less = told.2 in
      failed_with task (Some (Spent n))
      (record { number = ap (λ (u : V). u.number) is; shares = ap (λ (u : V). u.shares) is; mine = ap (λ (u : V). u.mine) is; ended = ap (λ (u : V). u.ended) is; made = ap (λ (u : V). u.made) is; flushed = ap (λ (u : V). u.flushed) is })
      (λ _. struck) (omega (arith, struck)) told.1 (omega (arith, events, less)) (omega (arith, events, last))

-- ---- one behind another

all_both : {X : Type 0} (P : X → Type 0) (xs ys : List X) → AllByRecursion P xs → AllByRecursion P ys → AllByRecursion P (xs ++ ys)
all_both P [] ys one two = two
all_both P (x ∷ xs) ys one two = (one.0, all_both P xs ys one.1 two)

pub answers_then : (task mid left : Task) (one two : List Entry) → Answers task mid one → Answers mid left two → Answers task left (one ++ two)
answers_then (Client a was) (Client b then) (Client c is) one two first second = (
  second.0 ∙ first.0,
  all_both (λ (entry : Entry). entry.client ≡ a) one two first.1 (subst (λ (n : ℕ). AllByRecursion (λ (entry : Entry). entry.client ≡ n) two) first.0 second.1),
  ap (λ (l : List Cmd). l ++ deque_items is) (map-append (λ (entry : Entry). entry.cmd) one two)
      ∙ append_assoc (map (λ (entry : Entry). entry.cmd) one) (map (λ (entry : Entry). entry.cmd) two) (deque_items is)
      ∙ ap (λ (l : List Cmd). map (λ (entry : Entry). entry.cmd) one ++ l) second.2 ∙ first.2,
)
answers_then (Client a was) (Client b then) (Collector is) one two first second = absurd second
answers_then (Client a was) (Client b then) (Flusher is) one two first second = absurd second
answers_then (Client a was) (Collector then) left one two first second = absurd first
answers_then (Client a was) (Flusher then) left one two first second = absurd first
answers_then (Collector was) (Client b then) left one two first second = absurd first
answers_then (Collector was) (Collector then) (Client c is) one two first second = absurd second
answers_then (Collector was) (Collector then) (Collector is) one two first second =
    let a = first.0 in let b = second.0 in (omega (arith, a, b), (λ i. first.1 i ++ second.1 i))
answers_then (Collector was) (Collector then) (Flusher is) one two first second = absurd second
answers_then (Collector was) (Flusher then) left one two first second = absurd first
answers_then (Flusher was) (Client b then) left one two first second = absurd first
answers_then (Flusher was) (Collector then) left one two first second = absurd first
answers_then (Flusher was) (Flusher then) (Client c is) one two first second = absurd second
answers_then (Flusher was) (Flusher then) (Collector is) one two first second = absurd second
answers_then (Flusher was) (Flusher then) (Flusher is) one two first second =
    let a = first.0 in let b = second.0 in (omega (arith, a, b), (λ i. first.1 i ++ second.1 i))

pub counts_on : (base : ℕ) (tasks mid left : List Task) (v u w : V) (fault : Option SeatFault) → Counts base tasks mid v u None → Counts base mid left u w fault → Counts base tasks left v w fault
counts_on base tasks mid left v u w fault one two =
    let made = one.made in let more_made = two.made in
    let flushed = one.flushed in let more_flushed = two.flushed in
    let strikes = one.strikes in let more_strikes = two.strikes in
    let faults = one.faults in let more_faults = two.faults in
    let events = one.events in let more_events = two.events in
    record {
      number = two.number ∙ one.number;
      shares = two.shares ∙ one.shares;
      made = omega (arith, made, more_made);
      flushed = omega (arith, flushed, more_flushed);
      struck = λ none. two.struck none ∙ one.struck refl;
      strikes = omega (arith, strikes, more_strikes);
      faults = omega (arith, faults, more_faults);
      events = omega (arith, events, more_events);
      told = two.told;
    }

pub steps_then : (base : ℕ) (task mid left : Task) (v u w : V) (fault : Option SeatFault) → Steps base task mid v u None → Steps base mid left u w fault → Steps base task left v w fault
steps_then base task mid left v u w fault one two = record {
  entries = one.entries ++ two.entries;
  mine = two.mine ∙ ap (λ (l : List Entry). l ++ two.entries) one.mine ∙ append_assoc v.mine one.entries two.entries;
  ended = two.ended ∙ one.ended;
  answers = answers_then task mid left one.entries two.entries one.answers two.answers;
  counts = counts_on base (task ∷ []) (mid ∷ []) (left ∷ []) v u w fault one.counts two.counts;
}

-- ---- the next event of a task, behind others

pub still_task : (task left : Task) (entries : List Entry) → Answers task left entries → IsTask task → IsTask left
still_task (Client a was) (Client b is) entries answers below = subst IsTask (λ i. Client (sym answers.0 i) is) below
still_task (Client a was) (Collector is) entries answers below = tt
still_task (Client a was) (Flusher is) entries answers below = tt
still_task (Collector was) (Client b is) entries answers below = absurd answers
still_task (Collector was) (Collector is) entries answers below = tt
still_task (Collector was) (Flusher is) entries answers below = tt
still_task (Flusher was) (Client b is) entries answers below = absurd answers
still_task (Flusher was) (Collector is) entries answers below = tt
still_task (Flusher was) (Flusher is) entries answers below = tt

module _ (base : ℕ) (task mid left : Task) (v : V) (old new : Pass Entry) (before : Steps base task mid v (view_of old) None) where
  pub made_next : (made : Unit {0}) → TakesNext base mid left old new (Some (Ok made)) → Steps base task left v (view_of new) None
  made_next made next = steps_then base task mid left v (view_of old) (view_of new) None before next.0

  pub failed_next : (fault : SeatFault) → TakesNext base mid left old new (Some (Err fault)) → Works base task left v (view_of new) (Some fault)
  failed_next fault next = record { steps = steps_then base task mid left v (view_of old) (view_of new) (Some fault) before next.0; ends = next.2 }

  pub ended_next : TakesNext base mid left old new None → Works base task left v (view_of new) None
  ended_next next = record {
    steps = subst (λ (p : Pass Entry). Steps base task left v (view_of p) None) (sym next.1) (subst (λ (t : Task). Steps base task t v (view_of old) None) (sym next.0) before);
    ends = next.2;
  }

-- ---- the first of a queue

pub queue_empty : {R : Type 0} (result : Option R) (items : List Cmd) (n : ℕ) → n ≡ length items → (IsSome result ↔ (0 < n)) → result ≡ None → items ≡ []
queue_empty result [] n long variant none = refl
queue_empty result (x ∷ items) n long variant none =
    let some : IsSome result = variant.1 (omega (arith, long)) in
    let never : false ≡ true = sym (ap is_some none) ∙ some in
    absurd (cc never)

pub queue_taken : (result : Option Cmd) (was rest is : List Cmd) (cmd : Cmd) (n : ℕ) → was ≡ option_to_list result ++ is → n ≡ length was → (IsSome result ↔ (0 < n)) → was ≡ cmd ∷ rest → was ≡ cmd ∷ is
queue_taken None was rest is cmd n took long variant first =
    let more : length was ≡ length (cmd ∷ rest) = ap (length {A = Cmd}) first in
    let some : false ≡ true = variant.1 (omega (arith, long, more)) in
    absurd (cc some)
queue_taken (Some x) was rest is cmd n took long variant first = let same : x ≡ cmd = cc (took, first) in took ∙ ap (λ (c : Cmd). c ∷ is) same

-- it is told no less
pub still_told : (base : ℕ) (task left : Task) (v w : V) (fault : Option SeatFault) → Steps base task left v w fault → base ≤ v.faults → base ≤ w.faults
still_told base task left v w fault steps known = let more = steps.counts.faults in omega (arith, known, more)

pub called_told : (base client : ℕ) (cmd : Cmd) (v w : V) (seen : Seen) → SeesEntry client cmd v w seen → base ≤ v.faults → base ≤ w.faults
called_told base client cmd v w seen sees known = let faults = ap (λ (u : V). u.faults) sees.view in omega (arith, known, faults)
