-- What follows from the history of an engine, state by state.
use Rattle.std.proofs.Common.{◌≡◌, ◌⊎◌, inl, inr, ℕ, ◌+◌, ◌≤◌, Bool, true, false, cond, if◌then◌else◌, List, [], ◌∷◌, ◌++◌, length, map, append_assoc, refl, sym, ap, subst, ◌∙◌, arith}
use Rattle.std.proofs.lemmas.List.{append-nil, map-append}
use Rattle.pm_types.specs.Counts.{greatest_count, raised}
use Rattle.pm_types.specs.declared.command.Cmd.{Cmd}
use Rattle.pm_types.specs.declared.command.Cmd.TheVariants as cmds
use Rattle.pm_types.specs.declared.entry.Entry.{Entry}
use Rattle.pm_types.specs.declared.event.Step.{Step}
use Rattle.pm_types.specs.declared.event.Watch.{Watch}
use Rattle.pm_types.specs.declared.reply.Reply.{Reply}
use Rattle.pm_types.specs.declared.reply.Reply.TheVariants.{Watching}
use Rattle.pm_model.specs.Journal.{says_watching, watch_places}
use Rattle.pm_view.specs.View.{SpaceView}
use Rattle.pm_view.specs.Events.{next_row, after, completes}
use Rattle.pm_view.specs.Watches.{watch_in}
use Rattle.pm_copies.specs.Opened.{IsFresh}
use Rattle.pm_law_course.proofs.Completing.{completed_then}
use Rattle.pm_evac.specs.Steps.{IsEvent}
use Rattle.pm_saving.specs.Serving.{KeepsOpening, Serving, just_opened}
use Rattle.pm_saving.specs.Events.{watched}
use Rattle.pm_engine.specs.History.{Happens, HasHistory, IsAnswered, IsCollected, Leads}

-- ---- one state more

leads_on : (from : Serving) (states : List Serving) (to next : Serving) → Leads from states to → Happens to next → Leads from (states ++ next ∷ []) next
leads_on from [] to next is more = (subst (λ (it : Serving). Happens it next) (sym is) more, refl)
leads_on from (state ∷ states) to next is more = (is.0, leads_on state states to next is.1 more)

pub goes_on : (old new : Serving) → KeepsOpening old new → Happens old new → HasHistory old → HasHistory new
goes_on old new opening happens was =
    let same : just_opened old.number old.opened was.saving ≡ just_opened new.number new.opened was.saving = (λ i. just_opened (sym opening.number i) (sym opening.opened i) was.saving) in
    record {
      saving = was.saving;
      idle = was.idle;
      fresh = subst (λ (v : SpaceView). IsFresh v.next v) (sym opening.opened) was.fresh;
      states = was.states ++ new ∷ [];
      leads = subst (λ (from : Serving). Leads from (was.states ++ new ∷ []) new) same (leads_on (just_opened old.number old.opened was.saving) was.states old new was.leads happens);
    }

-- ---- the places of the watches

-- the place of a watch
abbrev pub position_of : Watch → ℕ
position_of watch = watch.position

-- a place, where a watch was set there
abbrev placed : Bool → ℕ → List ℕ
placed set place = if set then place ∷ [] else []

places_more : (place : ℕ) (journal : List Entry) (entry : Entry) → watch_places place (journal ++ entry ∷ []) ≡ watch_places place journal ++ placed (says_watching entry.cmd entry.reply) (place + length journal)
places_more place [] entry =
    let here : place ≡ place + 0 = omega arith in
    append-nil (placed (says_watching entry.cmd entry.reply) place) ∙ ap (placed (says_watching entry.cmd entry.reply)) here
places_more place (first ∷ journal) entry =
    let behind : place + 1 + length journal ≡ place + length (first ∷ journal) = omega arith in
    let head = placed (says_watching first.cmd first.reply) place in
    ap (λ (places : List ℕ). head ++ places) (places_more (place + 1) journal entry ∙ ap (λ (n : ℕ). watch_places (place + 1) journal ++ placed (says_watching entry.cmd entry.reply) n) behind)
    ∙ sym (append_assoc head (watch_places (place + 1) journal) (placed (says_watching entry.cmd entry.reply) (place + length (first ∷ journal))))

watched_places : (it : Serving) (cmd : Cmd) (reply : Reply) → map position_of (watched it cmd reply) ≡ map position_of it.watches ++ placed (says_watching cmd reply) (length it.journal)
watched_places it cmds.Watch (Watching number) = map-append position_of it.watches (watch_in it.view (length it.journal) ∷ [])
watched_places it cmd reply = sym (append-nil (map position_of it.watches))

-- ---- collections that were completed

-- an event completes one collection at most
one_completed : (old new : SpaceView) (step : Step) → IsEvent old new step → (new.completed ≤ raised old.completed) ⊎ (new.completed ≤ old.completed)
one_completed old new step event = by_row (completes old (next_row old)) (completed_then old (next_row old) event.picked event.number) (ap (λ (v : SpaceView). v.completed) event.after)
  where
    by_row : (b : Bool) → (after old event.picked event.number (next_row old)).completed ≡ cond b (raised old.completed) old.completed
        → new.completed ≡ (after old event.picked event.number (next_row old)).completed → (new.completed ≤ raised old.completed) ⊎ (new.completed ≤ old.completed)
    by_row true rose is = inl (omega (arith, rose, is))
    by_row false same is = inr (omega (arith, same, is))

-- ---- what holds of each state

-- The watches stand at the places of the entries that set them, and no more collections were completed than events of the
-- collector were made.
pub record IsCounted (it : Serving) : Type 0 where
  pub positions : map position_of it.watches ≡ watch_places 0 it.journal
  pub few : it.view.completed ≤ it.steps
  pub below : it.steps ≤ greatest_count

-- journal, watches, space and steps stay
stays_counted : (old new : Serving) → new.journal ≡ old.journal → new.watches ≡ old.watches → new.view ≡ old.view → new.steps ≡ old.steps → IsCounted old → IsCounted new
stays_counted old new journal watches view steps was =
    let completed = ap (λ (v : SpaceView). v.completed) view in
    let few = was.few in
    let below = was.below in
    record {
      positions = ap (map position_of) watches ∙ was.positions ∙ sym (ap (watch_places 0) journal);
      few = omega (arith, completed, few, steps);
      below = omega (arith, below, steps);
    }

answered_counted : (old new : Serving) → IsAnswered old new → IsCounted old → IsCounted new
answered_counted old new is was =
    let appends = is.serves.appends in
    let entry : Entry = record { client = is.client; cmd = is.cmd; reply = is.reply } in
    let here : length old.journal ≡ 0 + length old.journal = omega arith in
    let completed = is.space.completed in
    let steps = appends.steps in
    let few = was.few in
    let below = was.below in
    record {
      positions =
          ap (map position_of) appends.watches ∙ watched_places old is.cmd is.reply
          ∙ ap (λ (places : List ℕ). places ++ placed (says_watching is.cmd is.reply) (length old.journal)) was.positions
          ∙ ap (λ (place : ℕ). watch_places 0 old.journal ++ placed (says_watching is.cmd is.reply) place) here
          ∙ sym (places_more 0 old.journal entry) ∙ sym (ap (watch_places 0) appends.journal);
      few = omega (arith, completed, few, steps);
      below = omega (arith, below, steps);
    }

collected_counted : (old new : Serving) → IsCollected old new → IsCounted old → IsCounted new
collected_counted old new is was =
    let steps = is.collects.steps in
    record {
      positions = ap (map position_of) is.collects.watches ∙ was.positions ∙ sym (ap (watch_places 0) is.collects.journal);
      few = by_count (one_completed old.view new.view is.step is.event) was.few was.below steps;
      below = omega (arith, steps);
    }
  where
    by_count : (new.view.completed ≤ raised old.view.completed) ⊎ (new.view.completed ≤ old.view.completed) → old.view.completed ≤ old.steps → old.steps ≤ greatest_count → new.steps ≡ raised old.steps → new.view.completed ≤ new.steps
    by_count (inl one) few below steps = omega (arith, one, few, below, steps)
    by_count (inr none) few below steps = omega (arith, none, few, below, steps)

next_counted : (old new : Serving) → Happens old new → IsCounted old → IsCounted new
next_counted old new (inl is) was = answered_counted old new is was
next_counted old new (inr (inl is)) was = collected_counted old new is was
next_counted old new (inr (inr (inl is))) was = stays_counted old new is.journal is.watches is.view is.steps was
next_counted old new (inr (inr (inr is))) was = stays_counted old new is.journal is.watches is.view is.steps was

along_counted : (from : Serving) (states : List Serving) (to : Serving) → Leads from states to → IsCounted from → IsCounted to
along_counted from [] to is was = subst IsCounted is was
along_counted from (next ∷ states) to is was = along_counted next states to is.1 (next_counted from next is.0 was)

pub counted_now : (it : Serving) → HasHistory it → IsCounted it
counted_now it history =
    let none = history.fresh.completed in
    along_counted (just_opened it.number it.opened history.saving) history.states it history.leads
    (record { positions = refl; few = omega (arith, none); below = omega arith })
