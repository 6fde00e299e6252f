-- A dump that is settled as copy 1 of a new store.
use Rattle.std.proofs.Common.{◌≡◌, ◌⊎◌, inl, inr, ⊎_elim, ℕ, ◌+◌, ◌<◌, Bool, true, false, List, [], ◌∷◌, Option, Some, None, Result, Ok, Err, refl, sym, ap, subst, ◌∙◌, arith, if◌then◌else◌}
use Rattle.std.specs.Prelude.{length, nat_lt, option_map}
use Rattle.std.specs.Ordering.{nat_cmp}
use Rattle.std.specs.FinMap.{empty, values, len-empty}
use Rattle.std.proofs.lemmas.Option.{same_Some}
use Rattle.pm_disk.specs.Disk.{IfTold}
use Rattle.pm_disk.specs.declared.disk.Disk.{Ghosts}
use Rattle.pm_disk.specs.Made.{Made, MadeAtMost, MadeMore}
use Rattle.pm_disk.proofs.RunLemmas.{started, weaker}
use Rattle.pm_layout.specs.declared.header.Header.{Header}
use Rattle.pm_model.specs.Heap.{Object, Heap}
use Rattle.pm_model.specs.World.{Copy, Roots, empty_copy}
use Rattle.pm_model.specs.Copying.{copied, reached}
use Rattle.pm_image.specs.Graphs.{copy_of as copy_of_graph}
use Rattle.pm_image.specs.Stands.{StandsForCopy}
use Rattle.pm_shadow.specs.declared.page_use.PageUse.TheVariants.{Free, Current}
use Rattle.pm_shadow.specs.Uses.{AreLowestFree, is_next}
use Rattle.pm_shadow.specs.State.{IsIdle, State, new_store}
use Rattle.pm_shadow.specs.Copies.{KeepsGraph}
use Rattle.pm_shadow.specs.Images.{shutting}
use Rattle.pm_shadow.specs.Pages.{current_kept, disk_of, state}
use Rattle.pm_shadow.specs.declared.pages.Pages.{Pages}
use Rattle.pm_view.specs.View.{Cars}
use Rattle.pm_copies.specs.Plans.{graph_of_plan}
use Rattle.pm_law_copies.specs.Layout.Examples.{nothing}
use Rattle.pm_law_saving.proofs.Giving.{store_begins}
use Rattle.pm_law_saving.proofs.Publishing.{copy_held}
use Rattle.pm_saving.specs.Progress.{Progress, Saving, copy_of}
use Rattle.pm_saving.specs.Paging.{CarPage, NextPage, PartPage, left, left_of, next_page, with_next, written_on}
use Rattle.pm_saving.specs.Tied.{HasCopy, IsTied, settled_on}
use Rattle.pm_save.specs.declared.progress.fault.SaveFault.{SaveFault}
use Rattle.pm_save.specs.declared.progress.fault.SaveFault.TheVariants.{Disk, Memory}
use Rattle.pm_save.specs.Progress.Answers.{IfMemory, OnMemory, Spares}
use Rattle.pm_save.specs.Writer.Settling.{IsLeftSo, SettlesPages, SparesEither, StandsThen, settling_syncs, settling_writes}
use Rattle.pm_dump.specs.Dump.{Dump}
use Rattle.pm_restore.specs.Parts.{cars_of_dump}
use Rattle.pm_restore.specs.Restored.{BeginsDump, IsNewStore, IsRestored, LeavesEither, LeavesEmpty, copy_in_dump, dump_progress, pages_from, restored_in}
use Rattle.pm_restore.proofs.LaidLemmas.{pages_new}

-- ---- the pages of a new store

new_idle : IsIdle new_store
new_idle page = by (nat_lt page 3)
  where
    by : (b : Bool) → is_next (if b then Current else Free) ≡ false
    by true = refl
    by false = refl

tied_new : (contents : Option (List ℕ)) → IfTold contents (λ bytes. KeepsGraph new_store bytes (graph_of_plan nothing)) → IsTied (record { settled = []; progress = None }) None new_store contents
tied_new contents laid = store_begins [] new_store contents refl refl (omega arith) new_idle tt (λ bytes told. record { graph = graph_of_plan nothing; keeps = laid bytes told; cars = refl })

-- what holds between calls holds of a new store
pub tied_at : (s : State) (contents : Option (List ℕ)) → IsNewStore s contents → IsTied (record { settled = []; progress = None }) None s contents
tied_at s contents new = subst (λ (t : State). IsTied (record { settled = []; progress = None }) None t contents) (sym new.is_new) (tied_new contents new.nothing_laid)

epoch_0 : (s : State) → s ≡ new_store → s.header.epoch ≡ 0
epoch_0 s same = ap (λ (t : State). t.header.epoch) same

pub before_1 : (s : State) (contents : Option (List ℕ)) → IsNewStore s contents → s.header.epoch < 1
before_1 s contents new = let epoch = epoch_0 s new.is_new in omega (arith, epoch)

no_heap : Heap
no_heap = empty

no_roots : Roots
no_roots = empty

copied_nothing : copied no_heap no_roots 1 ≡ empty_copy
unfolding reached no_heap no_roots
copied_nothing = ap (λ (n : ℕ). record { heap = reached n no_heap (values no_roots); roots = no_roots; next = 1 }) (len-empty nat_cmp Object)

nothing_copied : empty_copy ≡ copy_of_graph 1 (graph_of_plan nothing)
unfolding no_heap no_roots
nothing_copied = sym copied_nothing

-- it has the empty copy
has_empty : (s : State) (bytes : List ℕ) → s ≡ new_store → KeepsGraph new_store bytes (graph_of_plan nothing) → HasCopy s bytes empty_copy
has_empty s bytes same keeps = subst (λ (t : State). HasCopy t bytes empty_copy) (sym same) (record { graph = graph_of_plan nothing; keeps = keeps; is_copy = nothing_copied })

-- ---- what is left

pub on_memory : {T : Type 0} (P : Type 0) (result : Result T SaveFault) → P → OnMemory result P
on_memory P (Ok x) holds = tt
on_memory P (Err Disk) holds = tt
on_memory P (Err (Memory _)) holds = holds

written_number : (cars : Cars) (pages : List ℕ) (progress : Progress) → (written_on cars pages progress).number ≡ progress.number
written_number cars [] progress = refl
written_number cars (page ∷ pages) progress = written_number cars pages (with_next page progress (next_page cars progress)) ∙ by (next_page cars progress)
  where
    by : (o : Option NextPage) → (with_next page progress o).number ≡ progress.number
    by None = refl
    by (Some (CarPage image)) = refl
    by (Some (PartPage entries)) = refl

number_1 : (dump : Dump) (progress : Progress) → progress ≡ dump_progress dump → progress.number ≡ 1
number_1 dump progress same = ap (λ (p : Progress). p.number) same

-- the pages are those from page 3 on
laid_dump : (dump : Dump) (s : State) (pages : List ℕ) (progress : Progress) → AreLowestFree s.uses pages → s ≡ new_store → length pages ≡ left (dump_progress dump) → progress ≡ dump_progress dump
    → (was : List ℕ) (before after : Option (List ℕ)) → before ≡ Some was → after ≡ option_map (settled_on (cars_of_dump dump) pages progress s) before → after ≡ Some (restored_in dump was)
laid_dump dump s pages progress low is_new count progress_is was before after told contents =
    let pages_is = pages_new pages (subst (λ (t : State). AreLowestFree t.uses pages) is_new low) ∙ ap (pages_from 3) count in
    contents
    ∙ ap (option_map (settled_on (cars_of_dump dump) pages progress s)) told
    ∙ (λ i. Some (settled_on (cars_of_dump dump) (pages_is i) (progress_is i) (is_new i) was))

-- ---- how many calls were made

pub none_made : (dump : Dump) (made : Made) → MadeAtMost (left (dump_progress dump) + 2) 2 made made
none_made dump made = record { writes = omega arith; syncs = omega arith; past = refl }

pub made_at_most : (dump : Dump) (saving : Saving) → BeginsDump dump saving → (s : State) (before after : Made) → s ≡ new_store → MadeAtMost (settling_writes saving s) (settling_syncs s) before after
    → MadeAtMost (left (dump_progress dump) + 2) 2 before after
made_at_most dump saving begun s before after is_new made =
    subst (λ (t : State). MadeAtMost (left (dump_progress dump) + (shutting t + 2)) (settling_syncs t) before after) is_new
    (subst (λ (o : Option Progress). MadeAtMost (left_of o + (shutting s + 2)) (settling_syncs s) before after) (begun.is_progress ∙ ap (λ (p : Progress). Some p) begun.is_begun) made)

module _ {D : Type 0} {g : Ghosts D} where
  -- no call was made of the disk
  pub still_empty : (it : Pages D g) → IsNewStore (state it) (g.contents (disk_of it)) → ((left : List ℕ) → g.since (disk_of it) (g.moment (disk_of it)) left → g.image (disk_of it) left) → LeavesEmpty it it
  still_empty it new now bytes told =
      let sound : (state it).failed ≡ false = ap (λ (s : State). s.failed) new.is_new in
      let has = has_empty (state it) bytes new.is_new (new.nothing_laid bytes told) in
      started g.moment g.since (disk_of it) (λ image. StandsForCopy image 0 empty_copy)
      (λ image left. subst (λ (n : ℕ). StandsForCopy image n empty_copy) (epoch_0 (state it) new.is_new) (copy_held (state it) bytes image empty_copy has ((current_kept it sound bytes told).each image (now image left))))

  pub either_empty : (dump : Dump) (before after : Pages D g) → LeavesEmpty before after → LeavesEither dump before after
  either_empty dump before after leaves bytes told =
      weaker g.moment g.since (disk_of before) (disk_of after) (λ image. StandsForCopy image 0 empty_copy) (λ image. StandsForCopy image 0 empty_copy ⊎ StandsForCopy image 1 (copy_in_dump dump)) (leaves bytes told) (λ image stands. inl stands)

  -- the copy before stands
  pub spared_empty : (before after : Pages D g) → IsNewStore (state before) (g.contents (disk_of before)) → Spares g.contents g.moment g.since (state before) (disk_of before) (disk_of after) → LeavesEmpty before after
  spared_empty before after new spares bytes told =
      let has = has_empty (state before) bytes new.is_new (new.nothing_laid bytes told) in
      weaker g.moment g.since (disk_of before) (disk_of after) (λ image. StandsForCopy image (state before).header.epoch empty_copy) (λ image. StandsForCopy image 0 empty_copy) (spares empty_copy bytes told has)
      (λ image stands. subst (λ (n : ℕ). StandsForCopy image n empty_copy) (epoch_0 (state before) new.is_new) stands)

  -- so it does where memory ran out
  pub memory_spared : (before after : Pages D g) → IsNewStore (state before) (g.contents (disk_of before)) → (old new : Saving) (t : State) (e : SaveFault)
      → IfMemory (IsLeftSo g.contents g.moment g.since old new (state before) t (disk_of before) (disk_of after)) e → IfMemory (LeavesEmpty before after) e
  memory_spared before after is_new old new t Disk left = tt
  memory_spared before after is_new old new t (Memory _) left = spared_empty before after is_new left.spares

  module _ (dump : Dump) (saving : Saving) (begun : BeginsDump dump saving) (before after : Pages D g) where
    is_dumps : (image : List ℕ) (number : ℕ) → number ≡ 1 → StandsForCopy image number (copy_of (cars_of_dump dump) begun.progress) → StandsForCopy image 1 (copy_in_dump dump)
    is_dumps image number one stands = subst (λ (n : ℕ). StandsForCopy image n (copy_in_dump dump)) one (subst (λ (copy : Copy). StandsForCopy image number copy) begun.copy stands)

    -- one of the two stands
    pub either_spared : IsNewStore (state before) (g.contents (disk_of before)) → SparesEither g.contents g.moment g.since saving.progress (cars_of_dump dump) (state before) (disk_of before) (disk_of after) → LeavesEither dump before after
    either_spared new spares bytes told =
        let has = has_empty (state before) bytes new.is_new (new.nothing_laid bytes told) in
        let run = subst (λ (o : Option Progress). SparesEither g.contents g.moment g.since o (cars_of_dump dump) (state before) (disk_of before) (disk_of after)) begun.is_progress spares in
        weaker g.moment g.since (disk_of before) (disk_of after)
        (λ image. StandsForCopy image (state before).header.epoch empty_copy ⊎ StandsForCopy image begun.progress.number (copy_of (cars_of_dump dump) begun.progress))
        (λ image. StandsForCopy image 0 empty_copy ⊎ StandsForCopy image 1 (copy_in_dump dump))
        (run empty_copy bytes told has)
        (λ image stands. ⊎_elim (λ was. inl (subst (λ (n : ℕ). StandsForCopy image n empty_copy) (epoch_0 (state before) new.is_new) was)) (λ now. inr (is_dumps image begun.progress.number (number_1 dump begun.progress begun.is_begun) now)) stands)

    -- the dump's copy is the settled one
    pub settled_dump : state before ≡ new_store → (new : Saving) (number : ℕ) → SettlesPages saving new (cars_of_dump dump) before after number → IsRestored dump before after
    settled_dump is_new new number it =
        let settles = it.settles in
        let same : settles.progress ≡ begun.progress = same_Some settles.progress begun.progress (sym settles.is_progress ∙ begun.is_progress) in
        let progress_is : settles.progress ≡ dump_progress dump = same ∙ begun.is_begun in
        let one : settles.progress.number ≡ 1 = number_1 dump settles.progress progress_is in
        let now = subst (λ (o : Option Progress). StandsThen g.contents g.image o (cars_of_dump dump) (state after) (disk_of before) (disk_of after) number) begun.is_progress it.now in
        record {
          number = ap (λ (h : Header). h.epoch) settles.header ∙ written_number (cars_of_dump dump) settles.pages settles.progress ∙ one;
          stands = λ was told left image. is_dumps left number (settles.number_is ∙ one) ((now was told).0 left image);
          has = λ was told bytes held. subst (λ (copy : Copy). HasCopy (state after) bytes copy) begun.copy ((now was told).1 bytes held);
          laid = λ was told. laid_dump dump (state before) settles.pages settles.progress settles.lowest is_new (settles.count ∙ ap left progress_is) progress_is was (g.contents (disk_of before)) (g.contents (disk_of after)) told settles.contents;
          made =
              subst (λ (s : State). MadeMore (left (dump_progress dump) + (shutting s + 2)) (settling_syncs s) 0 (g.made (disk_of before)) (g.made (disk_of after))) is_new
              (subst (λ (o : Option Progress). MadeMore (left_of o + (shutting (state before) + 2)) (settling_syncs (state before)) 0 (g.made (disk_of before)) (g.made (disk_of after)))
              (begun.is_progress ∙ ap (λ (p : Progress). Some p) begun.is_begun) it.made);
        }
