-- The history of an engine goes on through each of its calls, and what is known of it.
use Rattle.std.proofs.Common.{◌≡◌, inl, inr, ℕ, ◌≤◌, List, [], ◌∷◌, Option, None, Result, Ok, Err, IfOk, OnOk, OnErr, map, refl, sym, subst}
use Rattle.std.specs.List.{AllZip}
use Rattle.std.specs.Borrow.{Bor}
use Rattle.std.specs.Fn.{Shared}
use Rattle.std.specs.Coded.{Coded-set, coded_list, coded_ℕ}
use Rattle.std.proofs.Math.Logic.{∥∥₁_map}
use Rattle.std.proofs.Props.{props}
use mathlib.Core.HLevel.{×_prop, Unit-prop, ⊥_prop}
use Rattle.pm_types.specs.declared.command.Cmd.{Cmd}
use Rattle.pm_types.specs.declared.entry.Entry.{Entry}
use Rattle.pm_types.specs.declared.event.Flushed.{Flushed}
use Rattle.pm_types.specs.declared.event.Step.{Step}
use Rattle.pm_types.specs.declared.event.WatchLine.{WatchLine}
use Rattle.pm_types.specs.declared.no_memory.NoMemory.{NoMemory}
use Rattle.pm_types.specs.declared.reply.Reply.{Reply}
use Rattle.pm_disk.specs.declared.disk.Disk.{Ghosts}
use Rattle.pm_model.specs.World.{World}
use Rattle.pm_model.specs.Journal.{watch_places}
use Rattle.pm_view.specs.View.{SpaceView}
use Rattle.pm_view.specs.Watches.{lines_from}
use Rattle.pm_view.specs.Bounded.{EndsLost}
use Rattle.pm_copies.specs.Opened.{IsFresh}
use Rattle.pm_evac.specs.Steps.{IsMade}
use Rattle.pm_saving.specs.Bounds.{KeepsBounds}
use Rattle.pm_saving.specs.Events.{Serves}
use Rattle.pm_saving.specs.Serving.{Serving, just_opened, opening}
use Rattle.pm_law_bound.proofs.Many.{all_end}
use Rattle.pm_law_saving.proofs.ServingLemmas.Splitting.{splits_once}
use Rattle.pm_engine.specs.declared.works.start.Start.{Start}
use Rattle.pm_engine.specs.declared.works.works.Works.{Works}
use Rattle.pm_engine.specs.History.{Happens, HasHistory}
use Rattle.pm_engine.specs.Works.Seen.{seen}
use Rattle.pm_engine.specs.Works.Working.{Answers, CollectsOn, FlushesOn, IsLeft, IsTiedIn, Rests, journal_in, place_in, view_in, watches_in}
use Rattle.pm_engine.proofs.WorksLemmas.Acting.{space_of}
use Rattle.pm_engine.proofs.WorksLemmas.Collected.{collects, left_rests}
use Rattle.pm_engine.proofs.WorksLemmas.Flushed.{flush_told}
use Rattle.pm_engine.proofs.Histories.{IsCounted, counted_now, goes_on, position_of}
use Rattle.pm_engine.proofs.WorksLemmas.Telling.{nothing_served}

-- ---- through calls

module _ {D : Type 0} {F : Type 0} {g : Ghosts D} (start : Start D F g) (stopped later : Option ℕ) (old new : Works D F g) where
  happens_on : Happens (seen start stopped old) (seen start later new) → ∥ HasHistory (seen start stopped old) ∥₁ → ∥ HasHistory (seen start later new) ∥₁
  happens_on one known = ∥∥₁_map known (λ was. goes_on (seen start stopped old) (seen start later new) (record { number = refl; opened = refl }) one was)

  -- nothing was answered
  pub past_rested : Rests old new → ∥ HasHistory (seen start stopped old) ∥₁ → ∥ HasHistory (seen start later new) ∥₁
  past_rested rests known = happens_on (inr (inr (inr (nothing_served start stopped old new later rests)))) known

module _ {D : Type 0} {F : Type 0} {g : Ghosts D} (start : Start D F g) (stopped : Option ℕ) (old new : Works D F g) where
  -- a command was answered
  pub past_asked : (client : ℕ) (cmd : Cmd) (reply : Reply) → Serves client cmd (seen start stopped old) (seen start stopped new) reply → Answers client cmd old new reply
      → ∥ HasHistory (seen start stopped old) ∥₁ → ∥ HasHistory (seen start stopped new) ∥₁
  past_asked client cmd reply serves is known =
      happens_on start stopped stopped old new (inl (record { client = client; cmd = cmd; reply = reply; serves = serves; space = space_of client cmd old new reply is })) known

  -- a page was written, or none was left
  pub past_flushed : (flushed : Flushed) → IsTiedIn old → FlushesOn old new flushed → ∥ HasHistory (seen start stopped old) ∥₁ → ∥ HasHistory (seen start stopped new) ∥₁
  past_flushed flushed tied is known = happens_on start stopped stopped old new (inr (inr (inl (flush_told start stopped old new flushed tied is)))) known

  -- an event of the collector was made, or none
  pub past_tried : (calls : Shared F (Bor (List ℕ) × Unit {0}) ℕ) (r : Result Step NoMemory) → IfOk r (IsMade calls (place_in old) (view_in old) (view_in new)) → OnOk r (CollectsOn old new)
      → OnErr r (IsLeft old new) → ∥ HasHistory (seen start stopped old) ∥₁ → ∥ HasHistory (seen start stopped new) ∥₁
  past_tried calls (Ok step) made is left known =
      happens_on start stopped stopped old new (inr (inl (record { step = step; collects = collects start stopped old new is; event = made.event }))) known
  past_tried calls (Err e) made is left known = past_rested start stopped stopped old new (left_rests old new left) known

-- the journal is the same list, with more room
pub past_kept : (it : Serving) (journal : List Entry) → journal ≡ it.journal → ∥ HasHistory it ∥₁ → ∥ HasHistory (record it { journal = journal }) ∥₁
past_kept it journal same known = subst (λ (entries : List Entry). ∥ HasHistory (record it { journal = entries }) ∥₁) (sym same) known

-- ---- what begins

-- nothing was asked yet
pub past_begun : (it : Serving) (next_id : ℕ) → IsFresh next_id it.opened → it.saving.progress ≡ None → just_opened it.number it.opened it.saving ≡ it → ∥ HasHistory it ∥₁
past_begun it next_id fresh idle begins =
    ∣ record { saving = it.saving; idle = idle; fresh = subst (λ (n : ℕ). IsFresh n it.opened) (sym fresh.next) fresh; states = []; leads = begins } ∣₁

-- ---- what is told

at_most_once : (a b : ℕ) → IsProp (a ≤ b)
at_most_once a b = hlevel props

ends_once : (start : World) (journal : List Entry) (view : SpaceView) (line : WatchLine) (position : ℕ) → IsProp (EndsLost start journal view line position)
ends_once start journal view line position = hlevel props

zip_once : {A B : Type 0} (R : A → B → Type 0) → ((x : A) (y : B) → IsProp (R x y)) → (xs : List A) (ys : List B) → IsProp (AllZip R xs ys)
zip_once R once [] [] = Unit-prop
zip_once R once [] (y ∷ ys) = ⊥_prop
zip_once R once (x ∷ xs) [] = ⊥_prop
zip_once R once (x ∷ xs) (y ∷ ys) = ×_prop (once x y) (zip_once R once xs ys)

module _ (it : Serving) (known : ∥ HasHistory it ∥₁) where
  counted : ∥ IsCounted it ∥₁
  counted = ∥∥₁_map known (λ history. counted_now it history)

  pub positions_told : map position_of it.watches ≡ watch_places 0 it.journal
  positions_told = splits_once (Coded-set (coded_list coded_ℕ) _ _) (∥∥₁_map counted (λ is. is.positions))

  pub few_told : it.view.completed ≤ it.steps
  few_told = splits_once (at_most_once _ _) (∥∥₁_map counted (λ is. is.few))

module _ {D : Type 0} {F : Type 0} {g : Ghosts D} (start : Start D F g) (stopped : Option ℕ) (works : Works D F g) where
  -- a bound that is reached ends what was lost
  pub gone_told : ∥ HasHistory (seen start stopped works) ∥₁ → ∥ KeepsBounds (seen start stopped works) ∥₁
      → AllZip (EndsLost (opening (seen start stopped works)) (journal_in works) (view_in works)) (lines_from (view_in works) 1 (watches_in works)) (watch_places 0 (journal_in works))
  gone_told known bounds =
      let it = seen start stopped works in
      let Ends : WatchLine → ℕ → Type 0 = EndsLost (opening it) it.journal it.view in
      subst (AllZip Ends (lines_from it.view 1 it.watches)) (positions_told it known)
      (splits_once (zip_once Ends (ends_once (opening it) it.journal it.view) _ _) (∥∥₁_map bounds (λ are. all_end (opening it) it.journal it.view 1 it.watches works.space.kept are)))
