-- What holds of an engine that was just opened.
use Rattle.std.proofs.Common.{◌≡◌, ℕ, ◌≤◌, true, false, List, [], ◌∷◌, Option, Some, None, sym, ap, subst}
use Rattle.std.specs.List.{AllByRecursion}
use Rattle.pm_disk.specs.declared.disk.Disk.{Ghosts}
use Rattle.pm_disk.specs.Disk.{IfTold}
use Rattle.pm_disk.specs.Images.{IsBytes}
use Rattle.pm_image.specs.declared.settled.KeptPage.{KeptPage}
use Rattle.pm_image.specs.Graphs.{Graph}
use Rattle.pm_image.specs.Stands.{StandsForCopy}
use Rattle.pm_shadow.specs.declared.page_use.PageUse.TheVariants.{Current}
use Rattle.pm_shadow.specs.State.{State, keeps_by}
use Rattle.pm_shadow.specs.Copies.{KeepsGraph}
use Rattle.pm_shadow.specs.Images.{Holds}
use Rattle.pm_shadow.specs.Pages.{current_kept, disk_of}
use Rattle.pm_view.specs.View.{Cars}
use Rattle.pm_copies.specs.Listed.{copy_in}
use Rattle.pm_saving.specs.Progress.{Saving}
use Rattle.pm_saving.specs.Tied.{HasCopy, IsOnPage, IsTied}
use Rattle.pm_law_saving.proofs.Giving.{store_begins}
use Rattle.pm_reopen.specs.Opening.{KnowsPages, MakesSpace, OpensStore}
use Rattle.pm_reopen.proofs.StoodLaws.{copy_kept, bytes_stand, graph_kept}
use Rattle.pm_saving.specs.Serving.{IsServed, Serving, just_opened, world}
use Rattle.pm_saving.specs.Images.{IsSettledCopy, IsStored, KeepsImages}
use Rattle.pm_space.specs.Shown.{view}
use Rattle.pm_law_saving.proofs.ServingLemmas.Opening.{begins_served}
use Rattle.pm_law_saving.proofs.ServingLemmas.Images.{begins}
use Rattle.pm_engine.specs.declared.works.start.Start.{Start}
use Rattle.pm_engine.specs.declared.works.works.Works.{Works}
use Rattle.pm_engine.specs.Works.Working.{contents_in, course_in, disk_at, frozen_in, journal_in, saving_in, state_in, view_in}
use Rattle.pm_engine.specs.Works.Seen.{IsCrashSafe, disk_then, seen}
use Rattle.pm_engine.proofs.WorksLemmas.Going.{settled_there}

-- each car stands on a page of the current copy
on_pages : (s : State) (cars : List KeptPage) → s.known ≡ true → AllByRecursion (λ (kept : KeptPage). (2 ≤ kept.page) × (s.uses kept.page ≡ Current)) cars → AllByRecursion (IsOnPage s) cars
on_pages s [] known all = tt
on_pages s (kept ∷ cars) known all = (record { from_2 = all.0.0; keeps = ap (keeps_by s.known) all.0.1 }, on_pages s cars known all.1)

module _ {D : Type 0} {F : Type 0} {g : Ghosts D} (start : Start D F g) (works : Works D F g) (s0 : State) (place : F) (cars : List KeptPage)
    (unknown : s0.known ≡ false) (knows : KnowsPages s0 (state_in works)) (makes : MakesSpace s0 (state_in works) works.space.parts place cars) (fine : (state_in works).failed ≡ false)
    (within : (state_in works).settled ≤ (state_in works).count) (opens : IfTold (contents_in works) (λ bytes. OpensStore s0 (state_in works) bytes (view_in works) cars))
    (stays : (bytes : List ℕ) → contents_in works ≡ Some bytes → g.image (disk_at works) bytes) (are_bytes : (bytes : List ℕ) → contents_in works ≡ Some bytes → IsBytes bytes) where
  known : (state_in works).known ≡ true
  known = ap (λ (s : State). s.known) (knows.first unknown)

  -- the graph of the copy, which its cars are of
  graph : (bytes : List ℕ) → contents_in works ≡ Some bytes → Graph
  graph bytes told = (opens bytes told).store.found.graph

  keeps_it : (bytes : List ℕ) (told : contents_in works ≡ Some bytes) → KeepsGraph (state_in works) bytes (opens bytes told).store.found.graph
  keeps_it bytes told = graph_kept s0 (state_in works) bytes (view_in works) cars unknown (opens bytes told)

  holds_it : (bytes : List ℕ) → contents_in works ≡ Some bytes → Holds (state_in works) bytes bytes
  holds_it bytes told = (current_kept works.pages fine bytes told).each bytes (stays bytes told)

  -- it is the copy in the space
  pub has_copy : (bytes : List ℕ) → contents_in works ≡ Some bytes → HasCopy (state_in works) bytes (copy_in (view_in works))
  has_copy bytes told = record {
    graph = (opens bytes told).store.found.graph;
    keeps = keeps_it bytes told;
    is_copy = copy_kept s0 (state_in works) bytes (view_in works) cars unknown (opens bytes told) (holds_it bytes told) (are_bytes bytes told);
  }

  pub stands : (bytes : List ℕ) → contents_in works ≡ Some bytes → StandsForCopy bytes (state_in works).header.epoch (copy_in (view_in works))
  stands bytes told = bytes_stand s0 (state_in works) bytes (view_in works) cars unknown (opens bytes told) (holds_it bytes told) (are_bytes bytes told)

  tied : (frozen_in works ≡ None) → saving_in works ≡ record { settled = cars; progress = None } → IsTied (saving_in works) (frozen_in works) (state_in works) (contents_in works)
  tied frozen saved =
      let P : Saving × Option Cars → Type 0 = λ it. IsTied it.0 it.1 (state_in works) (contents_in works) in
      let same : (record { settled = cars; progress = None }, None) ≡ (saving_in works, frozen_in works) = (λ i. (sym saved i, sym frozen i)) in
      subst P same (store_begins cars (state_in works) (contents_in works) fine known within (knows.idle unknown) (on_pages (state_in works) cars known (makes.on_pages unknown))
      (λ bytes told. record { graph = (opens bytes told).store.found.graph; keeps = keeps_it bytes told; cars = sym (opens bytes told).cars_are }))

  begun : (frozen_in works ≡ None) → journal_in works ≡ [] → course_in works ≡ [] → works.watches.items ≡ [] → works.events ≡ 0 → works.steps ≡ 0 → start.space.value ≡ works.space → just_opened start.number (view_in works) (saving_in works) ≡ seen start None works
  begun frozen journal course watches events steps space =
      let viewed = ap (λ space. view space.parts) space in
      (λ i. record { number = start.number; opened = sym viewed i; view = view_in works; frozen = sym frozen i; saving = saving_in works; journal = sym journal i; course = sym course i; watches = sym watches i; events = sym events i; steps = sym steps i; stopped = None })

  -- it serves the world of the copy in its space
  pub start_served : (frozen_in works ≡ None) → saving_in works ≡ record { settled = cars; progress = None } → journal_in works ≡ [] → course_in works ≡ [] → works.watches.items ≡ [] → works.events ≡ 0 → works.steps ≡ 0 → start.space.value ≡ works.space → IsServed (seen start None works)
  start_served frozen saved journal course watches events steps space =
      subst IsServed (begun frozen journal course watches events steps space)
      (begins_served start.number _ makes.entries s0.header.next (view_in works) (saving_in works) makes.accepted makes.opened (ap (λ (s : Saving). s.progress) saved))

  pub start_sound : (frozen_in works ≡ None) → saving_in works ≡ record { settled = cars; progress = None } → journal_in works ≡ [] → course_in works ≡ [] → works.watches.items ≡ [] → works.events ≡ 0 → works.steps ≡ 0 → start.number ≡ (state_in works).header.epoch
      → start.space.value ≡ works.space → start.pages.value ≡ works.pages → ((bytes : List ℕ) → g.since (disk_at works) (g.moment (disk_at works)) bytes → g.image (disk_at works) bytes)
      → ((bytes left : List ℕ) → contents_in works ≡ Some bytes → g.image (disk_at works) left → left ≡ bytes) → IsCrashSafe start None works
  start_sound frozen saved journal course watches events steps number space pages only_now only =
      let it : Serving = just_opened start.number (view_in works) (saving_in works) in
      let same : it ≡ seen start None works = begun frozen journal course watches events steps space in
      let keeps = (start_served frozen saved journal course watches events steps space).journal in
      let stored : IsStored it (state_in works) (g.contents (disk_then start)) (contents_in works) = record {
        tied = subst (λ (f : Option Cars). IsTied (saving_in works) f (state_in works) (contents_in works)) frozen (tied frozen saved);
        numbered = sym number;
        has = λ first bytes told. has_copy bytes told;
      } in
      record {
        journal = keeps;
        stored = λ _. subst (λ (one : Serving). IsStored one (state_in works) (g.contents (disk_then start)) (contents_in works)) same stored;
        images = subst (λ (d : D). KeepsImages g.contents g.image g.moment g.since d (seen start None works) (disk_at works)) (sym (ap disk_of pages))
            (begins g.contents g.image g.moment g.since (disk_at works) (seen start None works) (settled_there (seen start None works) keeps) only_now
            (λ first left here. subst (λ (one : Serving). IsSettledCopy (world one) left) same
            (subst (λ (n : ℕ). StandsForCopy left n (copy_in (view_in works))) (sym number) (subst (λ (b : List ℕ). StandsForCopy b (state_in works).header.epoch (copy_in (view_in works))) (sym (only first.0 left first.1 here)) (stands first.0 first.1)))));
      }
