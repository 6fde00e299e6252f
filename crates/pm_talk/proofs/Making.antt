-- Events, one behind another.
use Rattle.std.proofs.Common.{◌≡◌, ℕ, ◌+◌, ◌<◌, ◌≤◌, List, [], ◌∷◌, ◌++◌, length, length-append, arith, Option, None, Result, Ok, Err, refl, ap, sym, subst, ◌∙◌}
use Rattle.std.specs.Borrow.{Bor}
use Rattle.std.specs.Fn.{Shared}
use Rattle.std.specs.Option.{is_some}
use Rattle.pm_types.specs.declared.event.Flushed.{Flushed}
use Rattle.pm_types.specs.declared.event.Flushed.TheVariants.{AllFlushed, Wrote}
use Rattle.pm_types.specs.declared.event.Step.{Step}
use Rattle.pm_types.specs.declared.fault.EngineFault.{EngineFault}
use Rattle.pm_types.specs.declared.fault.EngineFault.TheVariants.{Memory, Disk, Reopen}
use Rattle.pm_disk.specs.declared.disk.Disk.{Ghosts}
use Rattle.pm_shadow.specs.State.{State}
use Rattle.pm_view.specs.Events.{next_row}
use Rattle.pm_view.specs.View.{Cars}
use Rattle.pm_evac.specs.Steps.{TakesMemory}
use Rattle.pm_saving.specs.Events.{Flushes}
use Rattle.pm_saving.specs.Paging.{left_of}
use Rattle.pm_saving.specs.Progress.{Saving, cars_or_none}
use Rattle.pm_saving.specs.Serving.{Serving}
use Rattle.pm_save.specs.Progress.Answers.{IsFlushed}
use Rattle.pm_engine.specs.declared.engine.Engine.{Engine}
use Rattle.pm_engine.specs.Calls.{AnswersCollect, AnswersFlush}
use Rattle.pm_engine.specs.Events.Causes.{stop_after}
use Rattle.pm_engine.specs.Events.Events.{EngineGoesOn}
use Rattle.pm_engine.specs.History.{IsCollected}
use Rattle.pm_engine.specs.Shown.{disk_in, pages_in, serving}
use Rattle.pm_talk.specs.Events.{CollectsFewer, FlushesAll, LeadsBy, Makes}
use Rattle.pm_talk.specs.Flushing.{FlushesOne, IsOfMemory, StopsFlushing, pages_by}
use Rattle.pm_talk.specs.Going.{TalkGoesOn}
use Rattle.pm_talk.proofs.Going.{talk_goes, talk_short}

module _ (Comes : Serving → Serving → Type 0) where
  -- none was made
  pub makes_none : (it : Serving) → Makes Comes 0 it it
  makes_none it = record { states = []; count = refl; leads = refl }

  leads_more : (from mid to : Serving) (states : List Serving) → LeadsBy Comes from states mid → Comes mid to → LeadsBy Comes from (states ++ to ∷ []) to
  leads_more from mid to [] leads comes = (subst (λ (it : Serving). Comes it to) (sym leads) comes, refl)
  leads_more from mid to (next ∷ states) leads comes = (leads.0, leads_more next mid to states leads.1 comes)

  -- one more was made
  pub makes_more : (made : ℕ) (old mid new : Serving) → Makes Comes made old mid → Comes mid new → Makes Comes (made + 1) old new
  makes_more made old mid new makes comes = record {
    states = makes.states ++ new ∷ [];
    count = length-append makes.states (new ∷ []) ∙ ap (λ (n : ℕ). n + 1) makes.count;
    leads = leads_more old mid new makes.states makes.leads comes;
  }

  -- where none was made nothing changed
  pub none_made : (old new : Serving) → Makes Comes 0 old new → new ≡ old
  none_made old new makes = nothing makes.states makes.count makes.leads where
    nothing : (states : List Serving) → length states ≡ 0 → LeadsBy Comes old states new → new ≡ old
    nothing [] count leads = sym leads
    nothing (next ∷ states) count leads = absurd (omega (arith, count))

-- so many were made, and then memory ran out
pub collects_fewer : (count made : ℕ) (old mid new : Serving) → made < count → Makes IsCollected made old mid → CollectsFewer 1 mid new → CollectsFewer count old new
collects_fewer count made old mid new within makes short =
    let zero_made : short.made ≡ 0 = omega (arith, short.within) in
    let still : new ≡ mid = none_made IsCollected mid new (subst (λ (n : ℕ). Makes IsCollected n mid new) zero_made short.makes) in
    record {
      made = made;
      within = within;
      makes = subst (λ (it : Serving). Makes IsCollected made old it) (sym still) makes;
      short = short.short;
    }

-- ---- one event of the collector

module _ {D F : Type 0} {g : Ghosts D} (calls : Shared F (Bor (List ℕ) × Unit {0}) ℕ) (old new : Engine D F g) where
  pub made_one : (step : Step) → AnswersCollect calls old new (Ok step) → IsCollected (serving old) (serving new)
  made_one step call = record { step = step; collects = call.collects; event = call.event.event }

  -- its fault is want of memory, since it calls no disk
  pub fails_for_memory : (fault : EngineFault) → AnswersCollect calls old new (Err fault) → (serving old).stopped ≡ None → IsOfMemory fault
  fails_for_memory (Memory _) call running = tt
  fails_for_memory (Disk before after) call running = call.still.none
  fails_for_memory (Reopen count) call running = let stopped = call.fails.1 in absurd (cc (running, stopped))

  pub made_none : (fault : EngineFault) → AnswersCollect calls old new (Err fault) → (serving old).stopped ≡ None → CollectsFewer 1 (serving old) (serving new)
  made_none (Memory _) call running = record {
    made = 0;
    within = omega arith;
    makes = record { states = []; count = refl; leads = sym call.memory };
    short = subst (λ (it : Serving). TakesMemory (next_row it.view)) (sym call.memory) call.short;
  }
  made_none (Disk before after) call running = absurd call.still.none
  made_none (Reopen count) call running = let stopped = call.fails.1 in absurd (cc (running, stopped))

  pub talk_collected : (result : Result Step EngineFault) → AnswersCollect calls old new result → (serving old).stopped ≡ None → EngineGoesOn old new (stop_after result) → TalkGoesOn old new None
  talk_collected (Ok step) call running goes = talk_goes old new goes
  talk_collected (Err (Memory _)) call running goes = talk_short old new goes
  talk_collected (Err (Disk before after)) call running goes = absurd call.still.none
  talk_collected (Err (Reopen count)) call running goes = let stopped = call.fails.1 in absurd (cc (running, stopped))

-- ---- one flush event

left_by : (old new : Saving) (cars : Cars) (s t : State) (was now : Option (List ℕ)) (flushed : Flushed) → IsFlushed old new cars s t was now flushed
    → (pages_by flushed + left_of new.progress ≡ left_of old.progress) × (pages_by flushed ≤ 1) × (pages_by flushed < 1 → left_of new.progress ≡ 0)
left_by old new cars s t was now (Wrote page) is =
    let left = is.left in (omega (arith, left), omega arith, λ within. absurd (omega (arith, within)))
left_by old new cars s t was now AllFlushed is =
    let same = ap (λ (it : Saving). left_of it.progress) is.1.saving in
    let none = is.0 in
    (omega (arith, same), omega arith, λ _. omega (arith, same, none))

module _ {D F : Type 0} {g : Ghosts D} (old new : Engine D F g) where
  pub flushed_one : (flushed : Flushed) → AnswersFlush old new (Ok flushed) → FlushesOne (pages_by flushed) (serving old) (serving new)
  flushed_one flushed call =
      let left = left_by (serving old).saving (serving new).saving (cars_or_none (serving old).frozen) (pages_in old) (pages_in new) (g.contents (disk_in old)) (g.contents (disk_in new)) flushed call.flushed in
      record { flushes = call.flushes; written = left.0; within = left.1; none = left.2 }

  pub flushed_none : (fault : EngineFault) → AnswersFlush old new (Err fault) → (serving old).stopped ≡ None → StopsFlushing 1 (serving old) (serving new) fault
  flushed_none (Memory _) call running = record {
    made = 0;
    within = omega arith;
    makes = record { states = []; count = refl; leads = sym call.memory.serving };
    left = subst (λ (it : Serving). 0 < left_of it.saving.progress) (sym call.memory.serving) call.fault;
  }
  flushed_none (Disk before after) call running = record {
    made = 0;
    within = omega arith;
    mid = serving old;
    makes = record { states = []; count = refl; leads = refl };
    nothing = call.fails.0;
    stopped = ap is_some call.fails.2;
  }
  flushed_none (Reopen count) call running = let stopped = call.fails.1 in absurd (cc (running, stopped))

-- ---- flush events

-- none was made
pub flushes_none : (it : Serving) → FlushesAll 0 0 it it
flushes_none it = record { makes = makes_none Flushes it; written = omega arith; within = omega arith; none = λ less. absurd (omega (arith, less)) }

-- one more was made
pub flushes_more : (count wrote pages : ℕ) (old mid new : Serving) → FlushesAll count wrote old mid → FlushesOne pages mid new → FlushesAll (count + 1) (wrote + pages) old new
flushes_more count wrote pages old mid new all one =
    let first = all.written in
    let second = one.written in
    let many = all.within in
    let few = one.within in
    record {
      makes = makes_more Flushes count old mid new all.makes one.flushes;
      written = omega (arith, first, second);
      within = omega (arith, many, few);
      none = λ less. grind (arith, less, first, second, many, few, all.none, one.none);
    }

-- so many were made, and then no more
pub flushes_stop : (count made wrote : ℕ) (old mid new : Serving) (fault : EngineFault) → made < count → FlushesAll made wrote old mid → StopsFlushing 1 mid new fault → StopsFlushing count old new fault
flushes_stop count made wrote old mid new (Memory _) within all stops =
    let zero_made : stops.made ≡ 0 = omega (arith, stops.within) in
    let still : new ≡ mid = none_made Flushes mid new (subst (λ (n : ℕ). Makes Flushes n mid new) zero_made stops.makes) in
    record { made = made; within = within; makes = subst (λ (it : Serving). Makes Flushes made old it) (sym still) all.makes; left = stops.left }
flushes_stop count made wrote old mid new (Disk before after) within all stops =
    let zero_made : stops.made ≡ 0 = omega (arith, stops.within) in
    let still : stops.mid ≡ mid = none_made Flushes mid stops.mid (subst (λ (n : ℕ). Makes Flushes n mid stops.mid) zero_made stops.makes) in
    record { made = made; within = within; mid = stops.mid; makes = subst (λ (it : Serving). Makes Flushes made old it) (sym still) all.makes; nothing = stops.nothing; stopped = stops.stopped }
flushes_stop count made wrote old mid new (Reopen since) within all stops = absurd stops
