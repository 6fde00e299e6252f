-- What an event of the collector and a flush leave of what an engine with a nursery keeps.
use Rattle.std.proofs.Common.{◌≡◌, inl, ℕ, ◌<◌, List, [], Option, Some, None, Result, Ok, Err, IfOk, OnOk, OnErr, refl, sym, ap, subst, ◌∙◌, arith, append-nil}
use Rattle.std.specs.Option.{IsSome}
use Rattle.std.specs.Borrow.{Bor}
use Rattle.std.specs.Coded.{Coded-set, coded_ℕ}
use Rattle.std.specs.FinMap.{get}
use Rattle.std.specs.Fn.{Shared}
use Rattle.std.proofs.Math.Logic.{∥∥₁_map}
use Rattle.pm_types.specs.declared.entry.Entry.{Entry}
use Rattle.pm_types.specs.declared.event.Step.{Step}
use Rattle.pm_disk.specs.declared.disk.Disk.{Ghosts}
use Rattle.pm_model.specs.Journal.{after}
use Rattle.pm_view.specs.View.{SpaceView}
use Rattle.pm_view.specs.Events.{next_row}
use Rattle.pm_view.specs.Law.{HeapLaw}
use Rattle.pm_view.specs.Reading.{id_at}
use Rattle.pm_view.specs.Represents.{Represents}
use Rattle.pm_evac.specs.Steps.{IsMade, KeepsWorlds}
use Rattle.pm_law_collect.proofs.SameObjects.{event_makes_none}
use Rattle.pm_law_saving.proofs.ServingLemmas.Splitting.{splits_once}
use Rattle.pm_saving.specs.Serving.{opening}
use Rattle.pm_engine.specs.declared.works.start.Start.{Start}
use Rattle.pm_engine.specs.declared.works.works.Works.{Works}
use Rattle.pm_engine.specs.Works.Seen.{seen}
use Rattle.pm_engine.specs.Works.Working.{CollectsOn, IsLeft, journal_in, view_in}
use Rattle.pm_engine.proofs.WorksLemmas.Telling.{left_alone}
use Rattle.pm_engine.proofs.WorksLemmas.Whole.{nothing_journal, same_journal}
use Rattle.pm_nursery.specs.Young.{NurseryView, IsYoung}
use Rattle.pm_young.specs.declared.engine.YoungEngine.{YoungEngine}
use Rattle.pm_young.specs.Calls.{YoungGoesOn}
use Rattle.pm_young.specs.Entering.{IsGivenSince, IsPresent, KeepsEntered}
use Rattle.pm_young.specs.Kept.{StandsYoung}
use Rattle.pm_young.specs.Seen.{KeepsNursery, entered_in, serving}

-- ---- what entered

-- no object is in a car that was in none, and no identity was given
module _ (opened v w : SpaceView) (nursery : NurseryView) (entered : List ℕ) (makes : (id : ℕ) → IsPresent w id → IsPresent v id) (next : w.next ≡ v.next) where
  since_on : (id : ℕ) → IsGivenSince opened v id → IsGivenSince opened w id
  since_on id since = (since.0, subst (λ (n : ℕ). id < n) (sym next) since.1)

  keeps_on : KeepsEntered opened v nursery entered → KeepsEntered opened w nursery entered
  keeps_on keeps = record {
    present = λ id is. keeps.present id (makes id is);
    once = keeps.once;
    apart = keeps.apart;
    given = λ id is. since_on id (keeps.given id is);
    young = λ id is. since_on id (keeps.young id is);
  }

  pub entered_on : ∥ KeepsEntered opened v nursery entered ∥₁ → ∥ KeepsEntered opened w nursery entered ∥₁
  entered_on known = ∥∥₁_map known keeps_on

-- the space is seen as it was
pub entered_still : (opened v w : SpaceView) (nursery : NurseryView) (entered : List ℕ) → w ≡ v → ∥ KeepsEntered opened v nursery entered ∥₁ → ∥ KeepsEntered opened w nursery entered ∥₁
entered_still opened v w nursery entered same known = subst (λ (it : SpaceView). ∥ KeepsEntered opened it nursery entered ∥₁) (sym same) known

-- ---- the world within

module _ {D : Type 0} {F : Type 0} {g : Ghosts D} (start : Start D F g) (old new : Works D F g) (nursery : NurseryView) where
  -- the space stands for each world for which it stood
  module _ (keeps : KeepsWorlds (view_in old) (view_in new)) where
    pub within_on : journal_in new ≡ journal_in old → ∥ StandsYoung start old nursery ∥₁ → ∥ StandsYoung start new nursery ∥₁
    within_on journal known = ∥∥₁_map known (λ it. record {
      within = it.within;
      represents = keeps it.within it.represents;
      young = subst (λ (entries : List Entry). IsYoung it.within nursery (after (opening (seen start None old)) entries)) (sym journal) it.young;
      opened = it.opened;
    })

    pub next_on : ∥ StandsYoung start old nursery ∥₁ → (view_in new).next ≡ (view_in old).next
    next_on known = splits_once (Coded-set coded_ℕ _ _) (∥∥₁_map known (λ it. sym (keeps it.within it.represents).next ∙ it.represents.next))

  -- the space is seen as it was
  pub within_still : view_in new ≡ view_in old → journal_in new ≡ journal_in old → ∥ StandsYoung start old nursery ∥₁ → ∥ StandsYoung start new nursery ∥₁
  within_still same = within_on (λ world stands. subst (λ (it : SpaceView). Represents it world) (sym same) stands)

-- ---- events of the collector

module _ {D : Type 0} {F : Type 0} {g : Ghosts D} {E : Type 0} (calls : Shared F (Bor (List ℕ) × Unit {0}) ℕ) (place : F) (old new : Works D F g) where
  -- an object that is in a car was in one
  pub tried_makes_none : (result : Result Step E) → HeapLaw (view_in old) → IfOk result (IsMade calls place (view_in old) (view_in new)) → OnErr result (IsLeft old new) → (id : ℕ) → IsPresent (view_in new) id → IsPresent (view_in old) id
  tried_makes_none (Ok step) law made left id is =
      let event = made.event in
      event_makes_none (view_in old) event.picked event.number (next_row (view_in old)) law refl event.may_pick event.may_place id is.0
      (subst (λ (it : SpaceView). id_at it is.0 ≡ Some id) event.after is.1)
  tried_makes_none (Err fault) law made left id is = subst (λ (it : SpaceView). IsPresent it id) left.keeps.view is

  pub tried_journal : (result : Result Step E) → OnOk result (CollectsOn old new) → OnErr result (IsLeft old new) → journal_in new ≡ journal_in old
  tried_journal (Ok step) made left = same_journal old new made.past made.journal
  tried_journal (Err fault) made left = nothing_journal old new left.nothing

  pub tried_past : (result : Result Step E) → OnOk result (CollectsOn old new) → OnErr result (IsLeft old new) → new.past ≡ old.past
  tried_past (Ok step) made left = made.past
  tried_past (Err fault) made left = left.nothing.past

-- ---- flushes

module _ {D : Type 0} {F : Type 0} {g : Ghosts D} (old new : Works D F g) where
  pub next_still : view_in new ≡ view_in old → (view_in new).next ≡ (view_in old).next
  next_still same = ap (λ (it : SpaceView). it.next) same

-- all of it stays, and no call had answered that the disk failed
pub left_told : {D F : Type 0} {g : Ghosts D} (start : Start D F g) (stopped : Option ℕ) (old new : Works D F g) → stopped ≡ None → IsLeft old new → seen start None new ≡ seen start stopped old
left_told start stopped old new none left = subst (λ (o : Option ℕ). seen start o new ≡ seen start stopped old) none (left_alone start stopped old new left)

-- ---- calls that go on

-- nothing came in, and all that is young stays so
pub goes_quietly : {D F : Type 0} {g : Ghosts D} (old new : YoungEngine D F g) → (serving new).opened ≡ (serving old).opened → KeepsNursery old new → (serving new).view.next ≡ (serving old).view.next → YoungGoesOn old new
goes_quietly old new opened keeps next = record {
  opened = opened;
  more = [];
  entered = keeps.entered ∙ sym (append-nil (entered_in old));
  late = λ id never. absurd (cc never);
  young = λ id is. inl (subst (λ (n : NurseryView). IsSome (get n.objects id)) keeps.young is);
  next = omega (arith, next);
}
