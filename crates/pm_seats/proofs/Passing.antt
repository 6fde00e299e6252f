-- What an answer tells a pass.
use Rattle.std.proofs.Common.{◌≡◌, ℕ, suc, ◌+◌, ◌-◌, ◌≤◌, false, [], ◌∷◌, ◌++◌, Some, ap, sym, subst, ◌∙◌}
use Rattle.pm_types.specs.declared.command.Cmd.{Cmd}
use Rattle.pm_types.specs.declared.entry.Entry.{Entry}
use Rattle.pm_types.specs.declared.event.Flushed.{Flushed}
use Rattle.pm_types.specs.declared.event.Step.{Step}
use Rattle.pm_types.specs.declared.fault.EngineFault.TheVariants.{Memory, Disk, Reopen}
use Rattle.pm_disk.specs.declared.disk.Disk.{Ghosts}
use Rattle.pm_engine.specs.declared.engine.Engine.{Engine}
use Rattle.pm_engine.specs.Shown.{disk_in, serving}
use Rattle.pm_passes.specs.declared.view.Numbers.{Numbers}
use Rattle.pm_passes.specs.Steps.{Sees}
use Rattle.pm_passes.specs.Views.{StartsWith, entered, given, given_telling}
use Rattle.pm_seats.specs.declared.events.Seen.{Seen}
use Rattle.pm_seats.specs.declared.fault.SeatFault.{SeatFault}
use Rattle.pm_seats.specs.declared.fault.SeatFault.TheVariants.{Engine as Answered, Spent}
use Rattle.pm_seats.specs.declared.limits.TheConstants.{LAST_EVENT}
use Rattle.pm_seats.specs.declared.logbook.Logbook.{Logbook}
use Rattle.pm_seats.specs.Shown.{engine_in, log_in, numbers_in}
use Rattle.pm_seats.specs.Events.{Calls, SeesFlushed, SeesReply, SeesStep}
use Rattle.pm_seats.specs.Sharing.{FailsPass, HasEvent, SeesEntry, SeesFlush, SeesMade, TellsFault, entry_of, looked}
use Rattle.pm_seats.specs.Turns.{IsEvent, given_after}
use Rattle.pm_seats.proofs.Answered.{IsFaulted, IsStoppedAs, reopen_rose}
use Rattle.pm_seats.proofs.Changes.{Log, V, changed, one_count, same_count, told_as}

module _ {D : Type 0} {F : Type 0} {g : Ghosts D} (first : Engine D F g) (v v1 : V) (sees : Sees v v1) (free : v.holds ≡ false) (Does : Logbook D F g → Logbook D F g → Type 0) (old new : Logbook D F g) (event : IsEvent first Does v1 old new) where
  abbrev now : Numbers
  now = numbers_in new

  given_is : (w : V) → w ≡ given v1 now → w ≡ changed v v1.all v.mine v.faults v.events v1.next v1.was now
  given_is w is = is ∙ ap (λ (u : V). given u now) sees.view

  telling_is : (w : V) → w ≡ given_telling v1 now → w ≡ changed v v1.all v.mine now.faults now.events v1.next v1.was now
  telling_is w is = is ∙ ap (λ (u : V). given_telling u now) sees.view

  entered_is : (entry : Entry) (w : V) → w ≡ given (entered v1 entry) now → w ≡ changed v (v1.all ++ (v.number, entry) ∷ []) (v.mine ++ entry ∷ []) v.faults v.events v1.next v1.was now
  entered_is entry w is = is ∙ ap (λ (u : V). given (entered u entry) now) sees.view

  starts_then : StartsWith (log_in old) v.front
  starts_then = subst (λ (l : Log). StartsWith l v.front) (sym event.log_is) sees.starts

  starts_all : (w : V) → w.front ≡ v1.all → StartsWith w.front v.front
  starts_all w is = subst (λ (l : Log). StartsWith l v.front) (sym is) sees.starts

  -- the event was made while the pass had the logbook
  pub has_event : (w : V) → w.front ≡ log_in new → HasEvent first Does v w
  has_event w front = record {
    old = old;
    new = new;
    does = event.does;
    tied = event.tied;
    starts = starts_then;
    front = front;
    faults = subst (λ (n : Numbers). v.faults ≤ n.faults) (sym event.was) sees.faults;
    events = subst (λ (n : Numbers). v.events ≤ n.events) (sym event.was) sees.events;
  }

  same_number : (count : Numbers → ℕ) (was : ℕ) → count now ≡ count (numbers_in old) → was + (count now - count v1.was) ≡ was
  same_number count was is = same_count was (count now) (count v1.was) (is ∙ ap count event.was)

  one_number : (count : Numbers → ℕ) (was : ℕ) → count now ≡ suc (count (numbers_in old)) → was + (count now - count v1.was) ≡ suc was
  one_number count was is = one_count was (count now) (count v1.was) (is ∙ ap (λ n. suc (count n)) event.was)

  pub sees_entry : (number client : ℕ) (cmd : Cmd) (seen : Seen) (w : V) → SeesReply LAST_EVENT number client cmd old new seen → w ≡ given (entered v1 (entry_of client cmd seen.reply)) now → SeesEntry client cmd v w seen
  sees_entry number client cmd seen w reply is =
      let entry = entry_of client cmd seen.reply in
      let all = entered_is entry w is in
      let numbers = reply.numbers in
      record {
        before = log_in old;
        starts = starts_then;
        front = ap (λ (u : V). u.front) all ∙ ap (λ (l : Log). l ++ (v.number, entry) ∷ []) (sym event.log_is);
        place = reply.place;
        view =
            told_as v w (v1.all ++ (v.number, entry) ∷ []) (v.mine ++ entry ∷ []) v.faults v.events v1.next v1.was now v.made v.flushed v.struck free all
            (same_number (λ n. n.made) v.made (ap (λ (n : Numbers). n.made) numbers))
            (same_number (λ n. n.flushed) v.flushed (ap (λ (n : Numbers). n.flushed) numbers))
            (same_number (λ n. n.struck) v.struck (ap (λ (n : Numbers). n.struck) numbers));
      }

  pub sees_made : (calls : Calls F) (step : Step) (w : V) → SeesStep calls LAST_EVENT old new step → w ≡ given v1 now → SeesMade v w
  sees_made calls step w made is =
      let all = given_is w is in
      let numbers = made.numbers in
      record {
        starts = starts_all w (ap (λ (u : V). u.front) all);
        view =
            told_as v w v1.all v.mine v.faults v.events v1.next v1.was now (suc v.made) v.flushed v.struck free all
            (one_number (λ n. n.made) v.made (ap (λ (n : Numbers). n.made) numbers))
            (same_number (λ n. n.flushed) v.flushed (ap (λ (n : Numbers). n.flushed) numbers))
            (same_number (λ n. n.struck) v.struck (ap (λ (n : Numbers). n.struck) numbers));
      }

  pub sees_flush : (flushed : Flushed) (w : V) → SeesFlushed LAST_EVENT old new flushed → w ≡ given v1 now → SeesFlush v w
  sees_flush flushed w made is =
      let all = given_is w is in
      let numbers = made.numbers in
      record {
        starts = starts_all w (ap (λ (u : V). u.front) all);
        view =
            told_as v w v1.all v.mine v.faults v.events v1.next v1.was now v.made (suc v.flushed) v.struck free all
            (same_number (λ n. n.made) v.made (ap (λ (n : Numbers). n.made) numbers))
            (one_number (λ n. n.flushed) v.flushed (ap (λ (n : Numbers). n.flushed) numbers))
            (same_number (λ n. n.struck) v.struck (ap (λ (n : Numbers). n.struck) numbers));
      }

  -- the view of a pass that was told, with its struck
  told_is : (struck : ℕ) (w : V) → w ≡ given_telling v1 now → now.made ≡ (numbers_in old).made → now.flushed ≡ (numbers_in old).flushed → v.struck + (now.struck - v1.was.struck) ≡ struck
      → w ≡ record (looked v w) { struck = struck; faults = now.faults; events = now.events }
  told_is struck w is made flushed counted =
      told_as v w v1.all v.mine now.faults now.events v1.next v1.was now v.made v.flushed struck free (telling_is w is) (same_number (λ n. n.made) v.made made) (same_number (λ n. n.flushed) v.flushed flushed) counted

  -- with what it was told, by other names
  told_by : (struck faults events : ℕ) (w : V) → w ≡ record (looked v w) { struck = struck; faults = now.faults; events = now.events } → now.faults ≡ faults → now.events ≡ events → w ≡ record (looked v w) { struck = struck; faults = faults; events = events }
  told_by struck faults events w is a b = is ∙ (λ i. record (looked v w) { struck = struck; faults = a i; events = b i })

  same_as : new ≡ old → now ≡ numbers_in old
  same_as is = ap (λ (b : Logbook D F g). numbers_in b) is

  tells : (fault : SeatFault) (w : V) → IsFaulted old new fault → IsStoppedAs old fault → w ≡ given_after fault v1 now → TellsFault (g.count (disk_in first)) v w fault
  tells (Answered (Memory m)) w faulted stopped is =
      let numbers = faulted.1 in
      told_as v w v1.all v.mine v.faults v.events v1.next v1.was now v.made v.flushed v.struck free (given_is w is)
      (same_number (λ n. n.made) v.made (ap (λ (n : Numbers). n.made) numbers))
      (same_number (λ n. n.flushed) v.flushed (ap (λ (n : Numbers). n.flushed) numbers))
      (same_number (λ n. n.struck) v.struck (ap (λ (n : Numbers). n.struck) numbers))
  tells (Answered (Disk before after)) w faulted stopped is =
      let strikes = faulted.1 in
      let numbers = strikes.2 in
      let told =
      told_is (suc v.struck) w is (ap (λ (n : Numbers). n.made) numbers) (ap (λ (n : Numbers). n.flushed) numbers)
      (one_number (λ n. n.struck) v.struck (ap (λ (n : Numbers). n.struck) numbers)) in
      let events_are : now.events ≡ w.events = sym (ap (λ (u : V). u.events) (telling_is w is)) in
      let was_events : now.events ≡ v1.was.events = ap (λ (n : Numbers). n.events) numbers ∙ ap (λ (n : Numbers). n.events) event.was in
      let was_faults : before ≡ v1.was.faults = strikes.0 ∙ ap (λ (n : Numbers). n.faults) event.was in (
        subst (λ (n : ℕ). v.faults ≤ n) (sym was_faults) sees.faults,
        strikes.1,
        subst (λ (n : ℕ). v.events ≤ n) (sym was_events ∙ events_are) sees.events,
        told_by (suc v.struck) after w.events w told (ap (λ (n : Numbers). n.faults) numbers) events_are,
      )
  tells (Answered (Reopen count)) w faulted stopped is =
      let strikes = faulted.1 in
      let numbers = same_as strikes.0 in
      let told =
      told_is v.struck w is (ap (λ (n : Numbers). n.made) numbers) (ap (λ (n : Numbers). n.flushed) numbers)
      (same_number (λ n. n.struck) v.struck (ap (λ (n : Numbers). n.struck) numbers)) in
      let events_are : now.events ≡ w.events = sym (ap (λ (u : V). u.events) (telling_is w is)) in
      let was_events : now.events ≡ v1.was.events = ap (λ (n : Numbers). n.events) numbers ∙ ap (λ (n : Numbers). n.events) event.was in
      let faults_are : now.faults ≡ count = ap (λ (n : Numbers). n.faults) numbers ∙ sym strikes.1 in
      let was_faults : count ≡ v1.was.faults = strikes.1 ∙ ap (λ (n : Numbers). n.faults) event.was in
      let stopped_now : (serving (engine_in new)).stopped ≡ Some count = ap (λ (b : Logbook D F g). (serving (engine_in b)).stopped) strikes.0 ∙ stopped in (
        reopen_rose (serving (engine_in new)).stopped count (g.count (disk_in first)) (g.count (disk_in (engine_in new))) stopped_now event.stops,
        subst (λ (n : ℕ). v.faults ≤ n) (sym was_faults) sees.faults,
        subst (λ (n : ℕ). v.events ≤ n) (sym was_events ∙ events_are) sees.events,
        told_by v.struck count w.events w told faults_are events_are,
      )
  tells (Spent events) w faulted stopped is =
      let numbers = same_as faulted.same in
      let told =
      told_is v.struck w is (ap (λ (n : Numbers). n.made) numbers) (ap (λ (n : Numbers). n.flushed) numbers)
      (same_number (λ n. n.struck) v.struck (ap (λ (n : Numbers). n.struck) numbers)) in
      let faults_are : now.faults ≡ w.faults = sym (ap (λ (u : V). u.faults) (telling_is w is)) in
      let was_faults : now.faults ≡ v1.was.faults = ap (λ (n : Numbers). n.faults) numbers ∙ ap (λ (n : Numbers). n.faults) event.was in
      let was_events : now.events ≡ v1.was.events = ap (λ (n : Numbers). n.events) numbers ∙ ap (λ (n : Numbers). n.events) event.was in
      let events_are : now.events ≡ events = ap (λ (n : Numbers). n.events) numbers ∙ faulted.reached ∙ sym faulted.told in (
        faulted.told,
        subst (λ (n : ℕ). v.faults ≤ n) (sym was_faults ∙ faults_are) sees.faults,
        subst (λ (n : ℕ). v.events ≤ n) (sym was_events ∙ events_are) sees.events,
        told_by v.struck w.faults events w told faults_are events_are,
      )

  -- a pass that gave the logbook back after a fault has seen all of the log
  pub front_after : (fault : SeatFault) (w : V) → w ≡ given_after fault v1 now → w.front ≡ v1.all
  front_after (Answered (Memory m)) w is = ap (λ (u : V). u.front) is
  front_after (Answered (Disk before after)) w is = ap (λ (u : V). u.front) is
  front_after (Answered (Reopen count)) w is = ap (λ (u : V). u.front) is
  front_after (Spent events) w is = ap (λ (u : V). u.front) is

  pub fails_pass : (fault : SeatFault) (w : V) → IsFaulted old new fault × IsStoppedAs old fault → w ≡ given_after fault v1 now → FailsPass (g.count (disk_in first)) v w fault
  fails_pass fault w faulted is = record { starts = starts_all w (front_after fault w is); told = tells fault w faulted.0 faulted.1 is }
