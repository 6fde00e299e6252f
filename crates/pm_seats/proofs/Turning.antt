-- A logbook in turn: taken out, changed by an event, and put back.
use Rattle.std.proofs.Common.{◌≡◌, ℕ, ◌+◌, ◌<◌, ◌≤◌, ◌^◌, true, false, List, [], ◌∷◌, ◌++◌, length, length-append, Some, Option as Opt, Result, Ok, Err, MatchResult, arith, refl, ap, sym, subst, ◌∙◌}
use Rattle.std.proofs.Math.Logic.{∥∥₁_map}
use base.Stored.{Coded, Gv, Gv-set}
use Rattle.atomic_table.specs.Table.{Me, rest}
use Rattle.pm_types.specs.declared.command.Cmd.{Cmd}
use Rattle.pm_types.specs.declared.entry.Entry.{Entry}
use Rattle.pm_types.specs.declared.event.Flushed.{Flushed}
use Rattle.pm_types.specs.declared.event.Step.{Step}
use Rattle.pm_types.specs.declared.fault.EngineFault.TheVariants.{Memory, Disk, Reopen}
use Rattle.pm_disk.specs.declared.disk.Disk.{Ghosts}
use Rattle.pm_model.specs.Journal.{IsLegal}
use Rattle.pm_saving.specs.Serving.{opening}
use Rattle.pm_engine.specs.declared.engine.Engine.{Engine}
use Rattle.pm_engine.specs.declared.events.stop.Stop.{Stop}
use Rattle.pm_law_saving.proofs.ServingLemmas.Splitting.{splits_once}
use Rattle.pm_engine.specs.Shown.{chooser, disk_in, serving}
use Rattle.pm_passes.specs.declared.value.Logged.{Ghosts as Shows}
use Rattle.pm_passes.specs.declared.view.Numbers.{Numbers}
use Rattle.pm_passes.specs.Numbering.{NotLess}
use Rattle.pm_passes.specs.Steps.{EntersHeld, HasLog, IsReady, Sees}
use Rattle.pm_passes.specs.Passes.{IsReadyPass}
use Rattle.pm_passes.specs.Views.{AddsEntry, HasOwn, HasOwnIn, entered, given, logged}
use Rattle.pm_seats.specs.declared.events.Seen.{Seen}
use Rattle.pm_seats.specs.declared.fault.SeatFault.{SeatFault}
use Rattle.pm_seats.specs.declared.fault.SeatFault.TheVariants.{Engine as Answered, Spent}
use Rattle.pm_seats.specs.declared.limits.TheConstants.{LAST_EVENT}
use Rattle.pm_seats.specs.declared.logbook.Logbook.{Logbook}
use Rattle.pm_seats.specs.Shown.{callers_in, engine_in, first_in, log_in, next_in, numbers_in}
use Rattle.pm_seats.specs.Kept.{IsPaired, StopsNow, stop_in}
use Rattle.pm_engine.specs.Events.Events.{EngineGoesOn}
use Rattle.pm_seats.specs.Events.{Calls, CallsClient, CallsCollect, CallsFlush, SeesReply, StaysTied}
use Rattle.pm_seats.specs.Sharing.{FailsPass, HasEvent, SeesEntry, SeesFlush, SeesMade, entries_of, entry_of}
use Rattle.pm_seats.specs.Turns.{GivesBack, HasBook, HasGiven, HasMade, MayGive, after_client, after_event, given_after}
use Rattle.pm_seats.proofs.Answered.{IsFaulted, client_faulted, collect_faulted, faulted_less, faulted_log, flush_faulted, log_few, log_legal, reply_less}
use Rattle.pm_seats.proofs.Changes.{V, held_first, held_same, own_entered, own_given, own_telling, same_last}
use Rattle.pm_seats.proofs.Passing.{fails_pass, front_after, has_event, sees_entry, sees_flush, sees_made}

pub tied_then : {A : Type 0} (code : A → Gv) (a b : A) (origin : Gv) → a ≡ b → origin ≡ code b → code a ≡ origin
tied_then code a b origin same is = ap code same ∙ sym is

pub tied_back : {A : Type 0} (coded : Coded A) (a b : A) (origin was : Gv) → coded.code a ≡ origin → origin ≡ was → was ≡ coded.code b → a ≡ b
tied_back coded a b origin was p q r = coded.inj a b (p ∙ q ∙ r)

-- what it has made it has still, after a fault
pub own_after : (fault : SeatFault) (v : V) (now : Numbers) → HasOwnIn v v.all → HasOwn (given_after fault v now)
own_after (Answered (Memory m)) v now own = own_given v now own
own_after (Answered (Disk before after)) v now own = own_telling v now own
own_after (Answered (Reopen count)) v now own = own_telling v now own
own_after (Spent events) v now own = own_telling v now own

-- a pass that has given the logbook back is of use still, and has it no more
abbrev pub IsBack : (V → Numbers → V) → V → Type 0
IsBack After v = (n : Numbers) → ((After v n).speaks ≡ v.speaks) × ((After v n).holds ≡ false) × ((After v n).also ≡ v.also) × ((After v n).origin ≡ v.origin)

pub fault_back : (fault : SeatFault) (v : V) → IsBack (given_after fault) v
fault_back (Answered (Memory m)) v n = (refl, refl, refl, refl)
fault_back (Answered (Disk before after)) v n = (refl, refl, refl, refl)
fault_back (Answered (Reopen count)) v n = (refl, refl, refl, refl)
fault_back (Spent events) v n = (refl, refl, refl, refl)

pub client_back : (client : ℕ) (cmd : Cmd) (result : Result Seen SeatFault) (v : V) → IsBack (after_client client cmd result) v
client_back client cmd (Ok seen) v n = (refl, refl, refl, refl)
client_back client cmd (Err fault) v n = fault_back fault v n

pub event_back : {T : Type 0} (result : Result T SeatFault) (v : V) → IsBack (after_event result) v
event_back (Ok made) v n = (refl, refl, refl, refl)
event_back (Err fault) v n = fault_back fault v n

module _ {D : Type 0} {F : Type 0} {g : Ghosts D} where
  -- the chooser is that of the first engine
  pub same_chooser : (coded : Coded F) (first : Engine D F g) (book : Logbook D F g) (stop : Opt Stop) → first_in book ≡ first → ∥ EngineGoesOn (first_in book) (engine_in book) stop ∥₁ → chooser (engine_in book) ≡ chooser first
  same_chooser coded first book stop tied goes =
      coded.inj (chooser (engine_in book)) (chooser (first_in book)) (splits_once (Gv-set (coded.code (chooser (engine_in book))) (coded.code (chooser (first_in book)))) (∥∥₁_map goes (λ on. ap coded.code on.start.chooser)))
      ∙ ap (λ (e : Engine D F g). chooser e) tied

  -- what contracts of passes see of a logbook
  abbrev pub shows : Shows (Logbook D F g) Entry (Engine D F g)
  shows = record { log = λ book. log_in book; next = λ book. next_in book; numbers = λ book. numbers_in book; tie = λ book. first_in book; sound = λ book. Unit {0} }

  -- the logbook that may be given back is ready for that
  pub ready : (code : Engine D F g → Gv) (first : Engine D F g) (me : Me (Opt (Logbook D F g)) V) → MayGive first me → me.0.origin ≡ code first → IsReady shows code me
  ready code first me may origin = record {
    value = may.book;
    held = may.held;
    log_is = may.log_is;
    next_is = may.next_is;
    more = may.more;
    tied = tied_then code _ _ _ may.tied origin;
    is_sound = tt;
  }

  -- the logbook that was taken out is made of the first engine
  pub has_book : (coded : Coded (Engine D F g)) (first : Engine D F g) (v : V) (me : Me (Opt (Logbook D F g)) V) → Sees v me.0 → v.origin ≡ coded.code first → HasLog shows coded.code me → HasBook first me
  has_book coded first v me sees origin has = record {
    book = has.value;
    held = has.held;
    log_is = has.log_is;
    next_is = has.next_is;
    was = has.was;
    tied = tied_back coded (first_in has.value) first me.0.origin v.origin has.tied (ap (λ (x : V). x.origin) sees.view) origin;
  }

  -- what was its own is so once the logbook was given back
  pub own_back : (After : V → Numbers → V) (v : V) (u w : Me (Opt (Logbook D F g)) V) → u.0 ≡ v → ((n : Numbers) → HasOwn (After v n)) → GivesBack After u w → HasOwn w.0
  own_back After v u w same own back =
      subst (λ (m : Me (Opt (Logbook D F g)) V). HasOwn m.0) (sym back.back) (subst (λ (x : V). HasOwn (After x (numbers_in back.book))) (sym same) (own (numbers_in back.book)))

  -- and once it was given back with one entry more
  pub own_then : (u w z : Me (Opt (Logbook D F g)) V) → EntersHeld shows u w → (b : Logbook D F g) → z ≡ (given w.0 (numbers_in b), []) → HasOwn z.0
  own_then u w z enters b back =
      subst (λ (m : Me (Opt (Logbook D F g)) V). HasOwn m.0) (sym back)
      (subst (λ (m : Me (Opt (Logbook D F g)) V). HasOwn (given m.0 (numbers_in b))) (sym enters.after) (own_entered u.0 enters.entry (numbers_in b) enters.own))

  -- the place of an entry is far below the end of its type
  pub place_below : (old new : Logbook D F g) (number client : ℕ) (cmd : Cmd) (seen : Seen) → SeesReply LAST_EVENT number client cmd old new seen → length (log_in new) < 2 ^ 50 → seen.place + 1 < 2 ^ 64
  place_below old new number client cmd seen reply few =
      let place = reply.place in
      let long : length (log_in new) ≡ length (log_in old) + 1 = ap length reply.log ∙ length-append (log_in old) ((number, entry_of client cmd seen.reply) ∷ []) in
      omega (arith, place, long, few)

  pub slot_is : (first : Engine D F g) (me : Me (Opt (Logbook D F g)) V) → HasBook first me → (x : Opt (Logbook D F g)) × (me.1 ≡ (0, x) ∷ rest me.1)
  slot_is first me has = (Some has.book, has.held ∙ ap (λ (l : List (ℕ × Opt (Logbook D F g))). (0, Some has.book) ∷ l) (sym (ap rest has.held)))

  -- the logbook that the seat has is made of the first engine
  pub book_tied : (first : Engine D F g) (me : Me (Opt (Logbook D F g)) V) (has : HasBook first me) (book : Logbook D F g) → me.1 ≡ (0, Some book) ∷ rest me.1 → first_in book ≡ first
  book_tied first me has book slot = ap (λ (b : Logbook D F g). first_in b) (sym (held_first has.book book me.1 (rest me.1) has.held slot)) ∙ has.tied

  -- an event was made of the logbook that the seat has
  pub made_here : (first : Engine D F g) (Does : Logbook D F g → Logbook D F g → Type 0) (me : Me (Opt (Logbook D F g)) V) (has : HasBook first me) (book new : Logbook D F g) → me.1 ≡ (0, Some book) ∷ rest me.1 → Does book new → StaysTied book new
      → IsLegal (opening (serving (engine_in new))) (serving (engine_in new)).journal → IsPaired (callers_in new) (serving (engine_in new)).journal (next_in new)
      → ∥ EngineGoesOn (first_in new) (engine_in new) (stop_in (serving (engine_in new)).stopped) ∥₁
      → StopsNow (serving (engine_in new)).stopped (g.count (disk_in (first_in new))) (g.count (disk_in (engine_in new)))
      → length (serving (engine_in new)).journal + (serving (engine_in new)).steps ≤ (serving (engine_in new)).events → (serving (engine_in new)).events < 2 ^ 50
      → HasMade first Does me.0 (me.0, (0, Some new) ∷ rest me.1)
  made_here first Does me has book new slot does stays legal paired goes stopped counted few =
      let book_is : has.book ≡ book = held_first has.book book me.1 (rest me.1) has.held slot in
      let tied : first_in book ≡ first = ap (λ (b : Logbook D F g). first_in b) (sym book_is) ∙ has.tied in
      record {
        old = book;
        new = new;
        held = ap (λ (l : List (ℕ × Opt (Logbook D F g))). (0, Some new) ∷ l) (ap rest has.held);
        event = record {
          does = does;
          stays = stays;
          log_is = ap (λ (b : Logbook D F g). log_in b) (sym book_is) ∙ has.log_is;
          next_is = ap (λ (b : Logbook D F g). next_in b) (sym book_is) ∙ has.next_is;
          was = ap (λ (b : Logbook D F g). numbers_in b) (sym book_is) ∙ has.was;
          tied = tied;
          stops = subst (λ (e : Engine D F g). StopsNow (serving (engine_in new)).stopped (g.count (disk_in e)) (g.count (disk_in (engine_in new)))) (stays.first ∙ tied) stopped;
          legal = log_legal first new (stop_in (serving (engine_in new)).stopped) (stays.first ∙ tied) goes legal paired.each;
          few = log_few new paired.each counted few;
        };
      }

  module _ (first : Engine D F g) (Does : Logbook D F g → Logbook D F g → Type 0) (v : V) (u : Me (Opt (Logbook D F g)) V) (same : u.0 ≡ v) (made : HasMade first Does v u) where
    log_then : log_in made.old ≡ u.0.all
    log_then = made.event.log_is ∙ ap (λ (x : V). x.all) (sym same)

    next_then : next_in made.new ≡ u.0.next
    next_then = made.event.stays.next ∙ made.event.next_is ∙ ap (λ (x : V). x.next) (sym same)

    was_then : numbers_in made.old ≡ u.0.was
    was_then = made.event.was ∙ ap (λ (x : V). x.was) (sym same)

    -- an event that left the log may be followed by giving back
    pub may_give : log_in made.new ≡ log_in made.old → NotLess (numbers_in made.old) (numbers_in made.new) → MayGive first u
    may_give log more = record {
      book = made.new;
      held = made.held;
      log_is = log ∙ log_then;
      next_is = next_then;
      more = subst (λ (n : Numbers). NotLess n (numbers_in made.new)) was_then more;
      tied = made.event.stays.first ∙ made.event.tied;
    }

    pub may_fail : (fault : SeatFault) → IsFaulted made.old made.new fault → MayGive first u
    may_fail fault is = may_give (faulted_log made.old made.new fault is) (faulted_less made.old made.new fault is)

    -- the logbook was given back
    pub gives : (After : V → Numbers → V) (w : Me (Opt (Logbook D F g)) V) → GivesBack After u w → HasGiven first Does After v w
    gives After w back =
        let book_is : back.book ≡ made.new = held_same back.book made.new u.1 back.held made.held in
        record {
          old = made.old;
          new = made.new;
          event = made.event;
          back = back.back ∙ (λ i. (After (same i) (numbers_in (book_is i)), []));
        }

    module _ (number client : ℕ) (cmd : Cmd) (seen : Seen) (own : number ≡ v.number) (reply : SeesReply LAST_EVENT number client cmd made.old made.new seen) where
      abbrev entry : Entry
      entry = entry_of client cmd seen.reply

      log_has : log_in made.new ≡ u.0.all ++ (u.0.number, entry) ∷ []
      log_has = reply.log ∙ (λ i. log_then i ++ ((own ∙ ap (λ (x : V). x.number) (sym same)) i, entry) ∷ [])

      pub adds : (count : ℕ) → count ≡ seen.place + 1 → AddsEntry u.0.number u.0.all (log_in made.new) count
      adds count is = record {
        entry = entry;
        last = log_has;
        counted =
            let place = reply.place in
            let long : length (log_in made.new) ≡ length (log_in made.old) + 1 = ap length reply.log ∙ length-append (log_in made.old) ((number, entry) ∷ []) in
            omega (arith, is, place, long);
      }

      module _ (w : Me (Opt (Logbook D F g)) V) (value : Logbook D F g) (told : Entry) (held : u.1 ≡ (0, Some value) ∷ []) (last : log_in value ≡ logged u.0 told) (after : w ≡ (entered u.0 told, u.1)) where
        value_is : value ≡ made.new
        value_is = held_same value made.new u.1 held made.held

        told_is : told ≡ entry
        told_is = ap (λ (x : ℕ × Entry). x.1) (same_last u.0.all (u.0.number, told) (u.0.number, entry) (sym last ∙ ap (λ (b : Logbook D F g). log_in b) value_is ∙ log_has))

        pub may_entered : MayGive first w
        may_entered = record {
          book = made.new;
          held = ap (λ (m : Me (Opt (Logbook D F g)) V). m.1) after ∙ made.held;
          log_is = sym (ap (λ (b : Logbook D F g). log_in b) value_is) ∙ last ∙ sym (ap (λ (m : Me (Opt (Logbook D F g)) V). m.0.all) after);
          next_is = next_then ∙ sym (ap (λ (m : Me (Opt (Logbook D F g)) V). m.0.next) after);
          more = subst (λ (n : Numbers). NotLess n (numbers_in made.new)) (was_then ∙ sym (ap (λ (m : Me (Opt (Logbook D F g)) V). m.0.was) after)) (reply_less number client cmd made.old made.new seen reply);
          tied = made.event.stays.first ∙ made.event.tied;
        }

        pub gives_entered : (z : Me (Opt (Logbook D F g)) V) (b : Logbook D F g) → w.1 ≡ (0, Some b) ∷ [] → z ≡ (given w.0 (numbers_in b), []) → HasGiven first Does (λ x n. given (entered x entry) n) v z
        gives_entered z b has back =
            let b_is : b ≡ made.new = held_same b made.new w.1 has (ap (λ (m : Me (Opt (Logbook D F g)) V). m.1) after ∙ made.held) in
            record {
              old = made.old;
              new = made.new;
              event = made.event;
              back =
                  back ∙ (λ i. (given (after i).0 (numbers_in (b_is i)), []))
                  ∙ (λ i. (given (entered (same i) (told_is i)) (numbers_in made.new), []));
            }

  -- what a pass has seen once it has given the logbook back
  module _ (first : Engine D F g) (v v1 : V) (sees : Sees v v1) (free : v.holds ≡ false) (w : Me (Opt (Logbook D F g)) V) where
    module _ (Does : Logbook D F g → Logbook D F g → Type 0) (After : V → Numbers → V) (gave : HasGiven first Does After v1 w) where
      view_is : w.0 ≡ After v1 (numbers_in gave.new)
      view_is = ap (λ (m : Me (Opt (Logbook D F g)) V). m.0) gave.back

      pub legal_then : w.0.front ≡ log_in gave.new → IsLegal (opening (serving first)) (entries_of w.0.front)
      legal_then front = subst (λ (l : List (ℕ × Entry)). IsLegal (opening (serving first)) (entries_of l)) (sym front) gave.event.legal

      pub event_then : w.0.front ≡ log_in gave.new → HasEvent first Does v w.0
      event_then front = has_event first v v1 sees free Does gave.old gave.new gave.event w.0 front

      -- the pass may be kept for the next call, and knows the same engine
      pub ready_then : v.speaks ≡ true → v.also ≡ [] → IsBack After v1 → HasOwn w.0 → IsReadyPass w
      ready_then speaks still back own =
          let is = back (numbers_in gave.new) in
          record {
            idle = record {
              speaks = ap (λ (x : V). x.speaks) view_is ∙ is.0 ∙ ap (λ (x : V). x.speaks) sees.view ∙ speaks;
              free = ap (λ (x : V). x.holds) view_is ∙ is.1;
              still = ap (λ (x : V). x.also) view_is ∙ is.2 ∙ ap (λ (x : V). x.also) sees.view ∙ still;
              empty = ap (λ (m : Me (Opt (Logbook D F g)) V). m.1) gave.back;
            };
            own = own;
          }

      pub origin_then : IsBack After v1 → w.0.origin ≡ v.origin
      origin_then back = ap (λ (x : V). x.origin) view_is ∙ (back (numbers_in gave.new)).3 ∙ ap (λ (x : V). x.origin) sees.view

      front_still : log_in gave.new ≡ log_in gave.old → w.0.front ≡ v1.all → w.0.front ≡ log_in gave.new
      front_still log front = front ∙ sym gave.event.log_is ∙ sym log

    module _ (number client : ℕ) (cmd : Cmd) (own : number ≡ v1.number) where
      abbrev Asked : Result Seen SeatFault → Logbook D F g → Logbook D F g → Type 0
      Asked result old new = CallsClient LAST_EVENT number client cmd old new result

      pub client_front : (result : Result Seen SeatFault) → (gave : HasGiven first (Asked result) (after_client client cmd result) v1 w) → w.0.front ≡ log_in gave.new
      client_front (Ok seen) gave =
          ap (λ (m : Me (Opt (Logbook D F g)) V). m.0.front) gave.back
          ∙ (λ i. sym gave.event.log_is i ++ (sym own i, entry_of client cmd seen.reply) ∷ [])
          ∙ sym gave.event.does.does.log
      client_front (Err fault) gave =
          front_still (Asked (Err fault)) (given_after fault) gave (faulted_log gave.old gave.new fault (client_faulted number client cmd gave.old gave.new fault gave.event.does.does).0)
          (front_after first v v1 sees free (Asked (Err fault)) gave.old gave.new gave.event fault w.0 (view_is (Asked (Err fault)) (given_after fault) gave))

      pub client_answer : (result : Result Seen SeatFault) → HasGiven first (Asked result) (after_client client cmd result) v1 w → MatchResult result (SeesEntry client cmd v w.0) (FailsPass (g.count (disk_in first)) v w.0)
      client_answer (Ok seen) gave =
          sees_entry first v v1 sees free (Asked (Ok seen)) gave.old gave.new gave.event number client cmd seen w.0 gave.event.does.does (ap (λ (m : Me (Opt (Logbook D F g)) V). m.0) gave.back)
      client_answer (Err fault) gave =
          fails_pass first v v1 sees free (Asked (Err fault)) gave.old gave.new gave.event fault w.0 (client_faulted number client cmd gave.old gave.new fault gave.event.does.does) (ap (λ (m : Me (Opt (Logbook D F g)) V). m.0) gave.back)

    abbrev Flushes : Result Flushed SeatFault → Logbook D F g → Logbook D F g → Type 0
    Flushes result old new = CallsFlush LAST_EVENT old new result

    pub flush_front : (result : Result Flushed SeatFault) → (gave : HasGiven first (Flushes result) (after_event result) v1 w) → w.0.front ≡ log_in gave.new
    flush_front (Ok flushed) gave =
        front_still (Flushes (Ok flushed)) given gave gave.event.does.does.log (ap (λ (m : Me (Opt (Logbook D F g)) V). m.0.front) gave.back)
    flush_front (Err fault) gave =
        front_still (Flushes (Err fault)) (given_after fault) gave (faulted_log gave.old gave.new fault (flush_faulted gave.old gave.new fault gave.event.does.does).0)
        (front_after first v v1 sees free (Flushes (Err fault)) gave.old gave.new gave.event fault w.0 (ap (λ (m : Me (Opt (Logbook D F g)) V). m.0) gave.back))

    pub flush_answer : (result : Result Flushed SeatFault) → HasGiven first (Flushes result) (after_event result) v1 w → MatchResult result (λ _. SeesFlush v w.0) (FailsPass (g.count (disk_in first)) v w.0)
    flush_answer (Ok flushed) gave =
        sees_flush first v v1 sees free (Flushes (Ok flushed)) gave.old gave.new gave.event flushed w.0 gave.event.does.does (ap (λ (m : Me (Opt (Logbook D F g)) V). m.0) gave.back)
    flush_answer (Err fault) gave =
        fails_pass first v v1 sees free (Flushes (Err fault)) gave.old gave.new gave.event fault w.0 (flush_faulted gave.old gave.new fault gave.event.does.does) (ap (λ (m : Me (Opt (Logbook D F g)) V). m.0) gave.back)

    module _ (calls : Calls F) where
      abbrev Collected : Result Step SeatFault → Logbook D F g → Logbook D F g → Type 0
      Collected result old new = CallsCollect calls LAST_EVENT old new result

      pub collect_front : (result : Result Step SeatFault) → (gave : HasGiven first (Collected result) (after_event result) v1 w) → w.0.front ≡ log_in gave.new
      collect_front (Ok step) gave =
          front_still (Collected (Ok step)) given gave gave.event.does.does.log (ap (λ (m : Me (Opt (Logbook D F g)) V). m.0.front) gave.back)
      collect_front (Err fault) gave =
          front_still (Collected (Err fault)) (given_after fault) gave (faulted_log gave.old gave.new fault (collect_faulted calls gave.old gave.new fault gave.event.does.does).0)
          (front_after first v v1 sees free (Collected (Err fault)) gave.old gave.new gave.event fault w.0 (ap (λ (m : Me (Opt (Logbook D F g)) V). m.0) gave.back))

      pub collect_answer : (result : Result Step SeatFault) → HasGiven first (Collected result) (after_event result) v1 w → MatchResult result (λ _. SeesMade v w.0) (FailsPass (g.count (disk_in first)) v w.0)
      collect_answer (Ok step) gave =
          sees_made first v v1 sees free (Collected (Ok step)) gave.old gave.new gave.event calls step w.0 gave.event.does.does (ap (λ (m : Me (Opt (Logbook D F g)) V). m.0) gave.back)
      collect_answer (Err fault) gave =
          fails_pass first v v1 sees free (Collected (Err fault)) gave.old gave.new gave.event fault w.0 (collect_faulted calls gave.old gave.new fault gave.event.does.does) (ap (λ (m : Me (Opt (Logbook D F g)) V). m.0) gave.back)

  -- what was done to the logbook is said of these views
  pub event_as : (first : Engine D F g) (Does : Logbook D F g → Logbook D F g → Type 0) (v v' w w' : V) → v ≡ v' → w ≡ w' → HasEvent first Does v w → HasEvent first Does v' w'
  event_as first Does v v' w w' p q event = subst (λ (x : V). HasEvent first Does x w') p (subst (λ (x : V). HasEvent first Does v x) q event)
