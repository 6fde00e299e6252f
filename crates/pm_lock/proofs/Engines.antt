-- What a book keeps of its engine, from one turn to the next.
use Rattle.std.proofs.Common.{◌≡◌, ◌≢◌, ℕ, suc, zero, ◌+◌, ◌<◌, ◌≤◌, length, length-append, arith, List, [], ◌∷◌, Option, Some, None, IfNone, IfSome, OnSome, ap, sym, subst, ◌∙◌}
use Rattle.std.proofs.Math.Logic.{∥∥₁_map}
use Rattle.std.proofs.lemmas.List.Sums.{sum_by-cons}
use Rattle.pm_types.specs.declared.limits.TheConstants.{CLIENTS}
use Rattle.pm_types.specs.declared.command.Cmd.{Cmd}
use Rattle.pm_types.specs.declared.fault.EngineFault.{EngineFault}
use Rattle.pm_types.specs.declared.fault.EngineFault.TheVariants.{Memory, Disk, Reopen}
use Rattle.pm_disk.specs.declared.disk.Disk.{Ghosts}
use Rattle.pm_script.specs.declared.line.Line.{Line}
use Rattle.pm_script.specs.Parted.Lists.{count_left, list_of}
use Rattle.pm_saving.specs.Serving.{Serving}
use Rattle.pm_saving.specs.Events.{Collects, FailsAs, Flushes}
use Rattle.pm_engine.specs.declared.engine.Engine.{Engine}
use Rattle.pm_engine.specs.Shown.{disk_in, opened_count, past_of, room, serving, unmade_in}
use Rattle.pm_engine.specs.declared.unmade.Unmade.{Unmade}
use Rattle.pm_engine.specs.declared.unmade.Unmade.TheVariants.{OfClient, OfCollector, OfFlusher}
use Rattle.pm_engine.specs.Calls.{Notes}
use Rattle.pm_engine.specs.Events.Causes.{stop_of}
use Rattle.pm_engine.specs.Events.Events.{Adds, EngineGoesOn, IsShort}
use Rattle.pm_engine.proofs.EventsLemmas.Going.{goes_then}
use Rattle.pm_lock.specs.Kept.{AwaitsEvent, HasCauseSince, HasLeft, KeepsBook, KeepsEngine, KeepsScript, UnlessMemory, stopped_by}
use Rattle.pm_lock.proofs.Keeping.{rests, script_answered, script_collected, script_flushed, script_stays}

-- a list with something in it is counted
pub one_left : (lists : List (List Cmd)) (client : ℕ) (cmd : Cmd) (rest : List Cmd) → list_of lists client ≡ cmd ∷ rest → 0 < count_left lists
one_left [] client cmd rest is = absurd (cc is)
one_left (list ∷ lists) zero cmd rest is =
    let all : count_left (list ∷ lists) ≡ length list + count_left lists = sum_by-cons (length {A = Cmd}) list lists in
    let long : length list ≡ suc (length rest) = ap (length {A = Cmd}) is in
    omega (arith, all, long)
one_left (list ∷ lists) (suc client) cmd rest is =
    let all : count_left (list ∷ lists) ≡ length list + count_left lists = sum_by-cons (length {A = Cmd}) list lists in
    let some = one_left lists client cmd rest is in
    omega (arith, all, some)

-- the event for which memory ran out is left
pub left_client : (it then : Serving) (lists : List (List Cmd)) (collects flushes client : ℕ) (cmd : Cmd) (rest : List Cmd) (fault : EngineFault) (before after : Option Unmade) → list_of lists client ≡ cmd ∷ rest → IsShort cmd it then (Some (stop_of fault))
    → Notes (OfClient client) before after fault → HasLeft (Some fault) after then lists collects flushes
left_client it then lists collects flushes client cmd rest (Memory _) before after next short noted =
    subst (λ (unmade : Option Unmade). AwaitsEvent unmade then lists collects flushes) (sym noted) (record { cmd = cmd; rest = rest; next = next; unfinished = short.1 })
left_client it then lists collects flushes client cmd rest (Disk b a) before after next short noted = tt
left_client it then lists collects flushes client cmd rest (Reopen count) before after next short noted = tt

pub left_collect : (it : Serving) (lists : List (List Cmd)) (collects flushes : ℕ) (fault : EngineFault) (before after : Option Unmade) → 0 < collects → Notes OfCollector before after fault → HasLeft (Some fault) after it lists collects flushes
left_collect it lists collects flushes (Memory _) before after some noted = subst (λ (unmade : Option Unmade). AwaitsEvent unmade it lists collects flushes) (sym noted) some
left_collect it lists collects flushes (Disk b a) before after some noted = tt
left_collect it lists collects flushes (Reopen count) before after some noted = tt

pub left_flush : (it : Serving) (lists : List (List Cmd)) (collects flushes : ℕ) (fault : EngineFault) (before after : Option Unmade) → 0 < flushes → Notes OfFlusher before after fault → HasLeft (Some fault) after it lists collects flushes
left_flush it lists collects flushes (Memory _) before after some noted = subst (λ (unmade : Option Unmade). AwaitsEvent unmade it lists collects flushes) (sym noted) some
left_flush it lists collects flushes (Disk b a) before after some noted = tt
left_flush it lists collects flushes (Reopen count) before after some noted = tt

-- what is noted is that of want of memory alone
noted_with : (event : Unmade) (first before after : Option Unmade) (fault : EngineFault) → before ≡ first → Notes event before after fault → UnlessMemory (Some fault) (after ≡ first)
noted_with event first before after (Memory _) was noted = tt
noted_with event first before after (Disk b a) was noted = noted ∙ was
noted_with event first before after (Reopen count) was noted = noted ∙ was

-- an engine that answered a fault, and was not stopped before
stopped_with : (old new : Serving) (before after : ℕ) (fault : EngineFault) → FailsAs old new before after fault → old.stopped ≡ None → new.stopped ≡ stopped_by (Some fault)
stopped_with old new before after (Memory _) fails none = fails.2
stopped_with old new before after (Disk b a) fails none = fails.2 ∙ ap Some (sym fails.3.1)
stopped_with old new before after (Reopen count) fails none = let stopped = fails.1 in absurd (cc (none, stopped))

cause_with : (old new : Serving) (opened first before after : ℕ) (fault : EngineFault) → FailsAs old new before after fault → old.stopped ≡ None → opened ≤ before → before ≡ first → HasCauseSince (Some fault) opened first after
cause_with old new opened first before after (Memory _) fails none counted same = tt
cause_with old new opened first before after (Disk b a) fails none counted same = let is = fails.3.0 in (omega (arith, is, counted), (is ∙ same, fails.3.1, fails.3.2))
cause_with old new opened first before after (Reopen count) fails none counted same = let stopped = fails.1 in absurd (cc (none, stopped))

module _ {D : Type 0} {F : Type 0} {g : Ghosts D} (first old new : Engine D F g) (lists : List (List Cmd)) (collects flushes : ℕ) (kept : KeepsEngine first old None lists collects flushes) where
  -- a command was answered, and one fewer is left
  pub engine_answered : (later : List (List Cmd)) (who : ℕ) (cmd : Cmd) → Adds who cmd (serving old) (serving new) → EngineGoesOn old new None → unmade_in new ≡ unmade_in old → count_left later + 1 ≡ count_left lists → KeepsEngine first new None later collects flushes
  engine_answered later who cmd adds goes noted fewer = record {
    goes = goes_then first old new None kept.goes goes;
    whole = goes.entries ∙ kept.whole;
    stopped = goes.going (λ of. of);
    cause = tt;
    room =
        let long : length (serving new).journal ≡ length (serving old).journal + 1 = ap length adds.journal ∙ length-append (serving old).journal (adds.entry ∷ []) in
        let was = kept.room in
        let on = goes.room in
        omega (arith, long, was, on, fewer);
    short = tt;
    unmade = noted ∙ kept.unmade;
  }

  -- another event was made
  pub engine_made : (less fewer : ℕ) → (serving new).journal ≡ (serving old).journal → EngineGoesOn old new None → unmade_in new ≡ unmade_in old → KeepsEngine first new None lists less fewer
  engine_made less fewer journal goes noted = record {
    goes = goes_then first old new None kept.goes goes;
    whole = goes.entries ∙ kept.whole;
    stopped = goes.going (λ of. of);
    cause = tt;
    room =
        let long = ap length journal in
        let was = kept.room in
        let on = goes.room in
        omega (arith, long, was, on);
    short = tt;
    unmade = noted ∙ kept.unmade;
  }

  -- the engine answered a fault, which is kept
  pub engine_failed : (fault : EngineFault) → FailsAs (serving old) (serving new) (g.count (disk_in old)) (g.count (disk_in new)) fault → opened_count old ≤ g.count (disk_in old) → EngineGoesOn old new (Some (stop_of fault)) → HasLeft (Some fault) (unmade_in new) (serving new) lists collects flushes
      → (event : Unmade) → Notes event (unmade_in old) (unmade_in new) fault → KeepsEngine first new (Some fault) lists collects flushes
  engine_failed fault fails counted goes left event noted = record {
    goes = goes_then first old new (Some (stop_of fault)) kept.goes goes;
    whole = goes.entries ∙ kept.whole;
    stopped = stopped_with (serving old) (serving new) (g.count (disk_in old)) (g.count (disk_in new)) fault fails kept.stopped;
    cause =
        let same = kept.goes.start.count in
        cause_with (serving old) (serving new) (opened_count first) (g.count (disk_in first)) (g.count (disk_in old)) (g.count (disk_in new)) fault fails kept.stopped (omega (arith, same, counted)) kept.goes.cause;
    room =
        let long = ap length (rests (serving old) (serving new) (g.count (disk_in old)) (g.count (disk_in new)) fault fails).0 in
        let was = kept.room in
        let on = goes.room in
        omega (arith, long, was, on);
    short = left;
    unmade = noted_with event (unmade_in first) (unmade_in old) (unmade_in new) fault kept.unmade noted;
  }

-- ---- both

module _ {D : Type 0} {F : Type 0} {g : Ghosts D} (lines : List Line) (first old new : Engine D F g) (lists : List (List Cmd)) (collects flushes : ℕ) (fault : Option EngineFault) (none : fault ≡ None) (kept : ∥ KeepsBook lines first old lists collects flushes fault ∥₁) where
  known : ∥ KeepsBook lines first old lists collects flushes None ∥₁
  known = subst (λ (f : Option EngineFault). ∥ KeepsBook lines first old lists collects flushes f ∥₁) none kept

  -- a command was answered, and is in its list no more
  pub book_answered : (later : List (List Cmd)) (who : ℕ) (cmd : Cmd) → Adds who cmd (serving old) (serving new) → EngineGoesOn old new None → unmade_in new ≡ unmade_in old → who < CLIENTS → list_of lists who ≡ cmd ∷ list_of later who → ((other : ℕ) → other ≢ who → list_of later other ≡ list_of lists other)
      → count_left later + 1 ≡ count_left lists → ∥ KeepsBook lines first new later collects flushes fault ∥₁
  book_answered later who cmd adds goes noted below next others fewer =
      subst (λ (f : Option EngineFault). ∥ KeepsBook lines first new later collects flushes f ∥₁) (sym none)
      (∥∥₁_map known (λ is. record {
        script = script_answered lines (serving old) (serving new) lists collects flushes is.script later who cmd adds next others below fewer;
        engine = engine_answered first old new lists collects flushes is.engine later who cmd adds goes noted fewer;
      }))

  -- an event of the collector was made
  pub book_collected : (left : ℕ) → left + 1 ≡ collects → Collects (serving old) (serving new) → EngineGoesOn old new None → unmade_in new ≡ unmade_in old → ∥ KeepsBook lines first new lists left flushes fault ∥₁
  book_collected left fewer made goes noted =
      subst (λ (f : Option EngineFault). ∥ KeepsBook lines first new lists left flushes f ∥₁) (sym none)
      (∥∥₁_map known (λ is. record {
        script = script_collected lines (serving old) (serving new) lists collects flushes is.script left fewer made.journal made.events made.steps;
        engine = engine_made first old new lists collects flushes is.engine left flushes made.journal goes noted;
      }))

  -- a flush event was made
  pub book_flushed : (left : ℕ) → left + 1 ≡ flushes → Flushes (serving old) (serving new) → EngineGoesOn old new None → unmade_in new ≡ unmade_in old → ∥ KeepsBook lines first new lists collects left fault ∥₁
  book_flushed left fewer made goes noted =
      subst (λ (f : Option EngineFault). ∥ KeepsBook lines first new lists collects left f ∥₁) (sym none)
      (∥∥₁_map known (λ is. record {
        script = script_flushed lines (serving old) (serving new) lists collects flushes is.script left fewer made.journal made.events made.steps;
        engine = engine_made first old new lists collects flushes is.engine collects left made.journal goes noted;
      }))

  -- the engine answered a fault, which is kept
  pub book_failed : (later : EngineFault) → FailsAs (serving old) (serving new) (g.count (disk_in old)) (g.count (disk_in new)) later → opened_count old ≤ g.count (disk_in old) → EngineGoesOn old new (Some (stop_of later))
      → HasLeft (Some later) (unmade_in new) (serving new) lists collects flushes → (event : Unmade) → Notes event (unmade_in old) (unmade_in new) later → ∥ KeepsBook lines first new lists collects flushes (Some later) ∥₁
  book_failed later fails counted goes left event noted = ∥∥₁_map known (λ is. record {
    script =
        let still = rests (serving old) (serving new) (g.count (disk_in old)) (g.count (disk_in new)) later fails in
        script_stays lines (serving old) (serving new) lists collects flushes is.script still.0 still.1 still.2;
    engine = engine_failed first old new lists collects flushes is.engine later fails counted goes left event noted;
  })

-- a book of this engine, just made
pub book_begun : {D F : Type 0} {g : Ghosts D} (engine now first : Engine D F g) (lines said : List Line) (lists : List (List Cmd)) (collects flushes : ℕ) → first ≡ engine → said ≡ lines → KeepsScript lines (serving now) lists collects flushes → EngineGoesOn engine now None → past_of now ≡ [] → unmade_in now ≡ unmade_in engine
    → count_left lists ≤ room now → ∥ KeepsBook said first now lists collects flushes None ∥₁
book_begun {D = D} {F = F} {g = g} engine now first lines said lists collects flushes same_engine same_lines script goes whole noted room =
    subst (λ (both : List Line × Engine D F g). ∥ KeepsBook both.0 both.1 now lists collects flushes None ∥₁) (λ i. (sym same_lines i, sym same_engine i))
    (∣ record { script = script; engine = record { goes = goes; whole = whole; stopped = goes.going (λ of. of); cause = tt; room = room; short = tt; unmade = noted } } ∣₁)

-- ---- the first of a list, taken

pub popped_next : (popped : Option Cmd) (list later rest : List Cmd) (cmd : Cmd) → IfNone popped (list ≡ []) → IfSome popped (λ first. list ≡ first ∷ later) → list ≡ cmd ∷ rest → list ≡ cmd ∷ later
popped_next None list later rest cmd none some is = absurd (cc (none, is))
popped_next (Some first) list later rest cmd none some is = let same : first ≡ cmd = cc (some, is) in some ∙ ap (λ (c : Cmd). c ∷ later) same

pub popped_fewer : (popped : Option Cmd) (list rest : List Cmd) (cmd : Cmd) (n m : ℕ) → IfNone popped (list ≡ []) → list ≡ cmd ∷ rest → OnSome popped (n + 1 ≡ m) → n + 1 ≡ m
popped_fewer None list rest cmd n m none is fewer = absurd (cc (none, is))
popped_fewer (Some first) list rest cmd n m none is fewer = fewer
