-- What a flush leaves.
use Rattle.std.proofs.Common.{◌≡◌, ℕ, zero, suc, ◌+◌, ◌<◌, ◌≤◌, true, false, List, Option, Some, None, Result, Ok, Err, refl, sym, ap, ◌∙◌, subst, arith}
use Rattle.std.specs.Prelude.{◌↔◌, IfOk, IfSome, IsSome, OnErr}
use Rattle.std.specs.List.{AllByRecursion}
use Rattle.pm_types.specs.declared.event.Flushed.{Flushed}
use Rattle.pm_types.specs.declared.event.Flushed.TheVariants.{Wrote, AllFlushed}
use Rattle.pm_disk.specs.Disk.{IfTold, LeavesOnly}
use Rattle.pm_disk.proofs.RunLemmas.{started, weaker}
use Rattle.pm_model.specs.World.{Copy}
use Rattle.pm_image.specs.declared.settled.KeptPage.{KeptPage}
use Rattle.pm_image.specs.Graphs.{copy_of as copy_of_graph}
use Rattle.pm_layout.specs.declared.header.Header.{Header}
use Rattle.pm_image.specs.Opening.{page_count}
use Rattle.pm_image.specs.Stands.{StandsForCopy}
use Rattle.pm_shadow.specs.State.{State, keeps, with_claimed, with_page}
use Rattle.pm_shadow.specs.Images.{Holds, IsSoundState}
use Rattle.pm_shadow.specs.Copies.{KeepsSamePages}
use Rattle.pm_shadow.proofs.CopyLemmas.{keeps_still}
use Rattle.pm_view.specs.View.{Cars}
use Rattle.pm_saving.specs.Progress.{Progress, Saving, cars_or_none}
use Rattle.pm_saving.specs.Paging.{NextPage, left, left_of, newly_kept, next_page, with_page as with_next_page}
use Rattle.pm_saving.specs.Beginning.{IsInProgress}
use Rattle.pm_saving.specs.Tied.{HasCopy, HasPage, IsBegun, IsTied, WritesNext, with_all_kept}
use Rattle.pm_save.specs.declared.progress.fault.SaveFault.{SaveFault}
use Rattle.pm_save.specs.declared.progress.fault.SaveFault.TheVariants.{Disk, Memory}
use Rattle.pm_save.specs.Progress.Answers.{IsFlushed, IsStill, KeepsCopy, OnMemory, UnlessDisk}
use Rattle.pm_save.specs.Writer.Steps.{IsStep, Rests, Steps}
use Rattle.pm_save.proofs.ProgressLemmas.Keeping.{beside}

-- ---- what was begun

pub begun_from : (settled : List KeptPage) (p : Option Progress) (progress : Progress) (frozen : Option Cars) (epoch : ℕ) → IsBegun settled p frozen epoch → p ≡ Some progress
    → (frozen ≡ Some (cars_or_none frozen)) × IsInProgress settled (cars_or_none frozen) progress × (epoch < progress.number)
begun_from settled None progress None epoch begun is = absurd cc
begun_from settled None progress (Some cars) epoch begun is = absurd begun
begun_from settled (Some one) progress None epoch begun is = absurd begun
begun_from settled (Some one) progress (Some cars) epoch begun is =
    let same : one ≡ progress = cc in
    (refl, subst (IsInProgress settled cars) same begun.0, subst (λ (p : Progress). epoch < p.number) same begun.1)

pub may_be : (next : Option NextPage) → ((page : NextPage) → next ≡ Some page → HasPage page) → IfSome next HasPage
may_be None may = tt
may_be (Some page) may = may page refl

-- ---- images

module _ {D : Type 0} (contents : D → Option (List ℕ)) (image : D → List ℕ → Type 0) (moment : D → ℕ) (since : D → ℕ → List ℕ → Type 0) (s : State) (old new : D) where
  -- what the disk holds in the end is one of the images
  pub holds_now : IfTold (contents old) (λ told. LeavesOnly moment since old new (Holds s told)) → ((bytes : List ℕ) → contents new ≡ Some bytes → image new bytes) → ((t : ℕ) (bytes : List ℕ) → t ≤ moment new → image new bytes → since new t bytes)
      → IfTold (contents old) (λ before. IfTold (contents new) (Holds s before))
  holds_now leaves stay counts before told after now =
      let run = leaves before told in
      run.each after (counts (moment old) after run.later (stay after now))

  pub spares_by : IfTold (contents old) (λ told. LeavesOnly moment since old new (Holds s told)) → ((s : State) (bytes image : List ℕ) (copy : Copy) → HasCopy s bytes copy → Holds s bytes image → StandsForCopy image s.header.epoch copy)
      → (copy : Copy) (bytes : List ℕ) → contents old ≡ Some bytes → HasCopy s bytes copy → LeavesOnly moment since old new (λ image. StandsForCopy image s.header.epoch copy)
  spares_by leaves held copy bytes told has =
      weaker moment since old new (Holds s bytes) (λ image. StandsForCopy image s.header.epoch copy) (leaves bytes told) (λ image holds. held s bytes image copy has holds)

-- where no call was made
pub spares_still : {D : Type 0} (contents : D → Option (List ℕ)) (image : D → List ℕ → Type 0) (moment : D → ℕ) (since : D → ℕ → List ℕ → Type 0) (s : State) (d : D) → ((bytes : List ℕ) → contents d ≡ Some bytes → IsSoundState s bytes (image d))
    → ((left : List ℕ) → since d (moment d) left → image d left) → IfTold (contents d) (λ told. LeavesOnly moment since d d (Holds s told))
spares_still contents image moment since s d sound now bytes told = started moment since d (Holds s bytes) (λ left was. (sound bytes told).each left (now left was))

-- ---- one flush

keeps_written : (s : State) (page : ℕ) → KeepsSamePages s (with_page s page)
keeps_written s page = record { slot = refl; header = refl; settled = refl; known = refl; kept = λ page. refl }

same_then : (s t u : State) → KeepsSamePages s t → KeepsSamePages t u → KeepsSamePages s u
same_then s t u one two = record {
  slot = two.slot ∙ one.slot;
  header = two.header ∙ one.header;
  settled = two.settled ∙ one.settled;
  known = two.known ∙ one.known;
  kept = λ page. two.kept page ∙ one.kept page;
}

pub copy_still : (s t : State) (bytes : List ℕ) (copy : Copy) → KeepsSamePages s t → HasCopy s bytes copy → HasCopy t bytes copy
copy_still s t bytes copy same has = record { graph = has.graph; keeps = keeps_still s t bytes has.graph same has.keeps; is_copy = has.is_copy ∙ ap (λ (header : Header). copy_of_graph header.next has.graph) (sym same.header) }

module _ (old : Saving) (progress after : Progress) (frozen : Option Cars) (s t : State) (was now : Option (List ℕ)) (on : AllByRecursion (λ (page : ℕ). keeps s page ≡ true) (newly_kept progress))
    (tied : IsTied old frozen s was) (is : old.progress ≡ Some progress)
    (none : (settled : List KeptPage) (cars : Cars) (progress : Progress) → IsInProgress settled cars progress → (next_page cars progress ≡ None) ↔ (left progress ≡ 0))
    (less : (settled : List KeptPage) (cars : Cars) (progress : Progress) (next : NextPage) (page : ℕ) → IsInProgress settled cars progress → next_page cars progress ≡ Some next → left (with_next_page page progress next) + 1 ≡ left progress) where
  abbrev new : Saving
  new = record old { progress = Some after }

  abbrev cars : Cars
  cars = cars_or_none frozen

  begun : (frozen ≡ Some cars) × IsInProgress old.settled cars progress × (s.header.epoch < progress.number)
  begun = begun_from old.settled old.progress progress frozen s.header.epoch tied.begun is

  -- where the copy is as it was
  same_saving : after ≡ progress → new ≡ old
  same_saving same = ap (λ (p : Option Progress). record old { progress = p }) (ap (λ (p : Progress). Some p) same ∙ sym is)

  rests : Rests cars progress after s t was now → (left_of old.progress ≡ 0) × IsStill old new s t was now
  rests it = (ap left_of is ∙ (none old.settled cars progress begun.1).0 it.none, record { saving = same_saving it.seen; state = it.state; contents = it.contents })

  writes : (page : ℕ) → Steps cars progress after s t was now page → WritesNext old new cars s t was now page
  writes page it = record {
    progress = progress;
    is_progress = is;
    next = it.next;
    is_next = it.is_next;
    saving = ap (λ (p : Progress). record old { progress = Some p }) it.seen;
    lowest = it.written.lowest;
    whole = it.whole;
    state = it.written.state;
    contents = it.written.contents;
    left = ap (λ (p : Progress). left p + 1) it.seen ∙ less old.settled cars progress it.next page begun.1 it.is_next ∙ sym (ap left_of is);
  }

  more_left : (n : ℕ) → left progress ≡ n → IsSome (next_page cars progress) → 0 < n
  more_left zero gone some = let none_is = (none old.settled cars progress begun.1).1 gone in let absent : IsSome {T = NextPage} None = subst (λ (next : Option NextPage). IsSome next) none_is some in absurd cc
  more_left (suc n) gone some = omega arith

  pub fault_by : (result : Result Flushed SaveFault) → OnErr result (IsSome (next_page cars progress)) → OnErr result (0 < left_of old.progress)
  fault_by (Ok done) some = tt
  fault_by (Err fault) some = subst (λ (n : ℕ). 0 < n) (sym (ap left_of is)) (more_left (left progress) refl some)

  pub flushed_by : (result : Result Flushed SaveFault) → IfOk result (IsStep cars progress after s t was now) → IfOk result (IsFlushed old new cars s t was now)
  flushed_by (Ok AllFlushed) step = rests step
  flushed_by (Ok (Wrote page)) step = writes page step
  flushed_by (Err fault) step = tt

  same_pages : (page : ℕ) → Steps cars progress after s t was now page → KeepsSamePages s t
  same_pages page it =
      let mid = with_all_kept (newly_kept progress) (with_claimed s page) in
      let is = beside (newly_kept progress) s mid page tied.known it.written.lowest.free on refl in
      let last = it.written.state ∙ ap (λ (s : State). with_page s page) (sym is.state) in
      subst (KeepsSamePages s) (sym last) (same_then s mid (with_page mid page) is.same (keeps_written mid page))

  sound_then : (page : ℕ) → Steps cars progress after s t was now page → t.failed ≡ false
  sound_then page it =
      let mid = with_all_kept (newly_kept progress) (with_claimed s page) in
      let is = beside (newly_kept progress) s mid page tied.known it.written.lowest.free on refl in
      let last = it.written.state ∙ ap (λ (s : State). with_page s page) (sym is.state) in
      ap (λ (s : State). s.failed) last ∙ is.failed ∙ tied.sound

  module _ (holds : IfTold was (λ before. IfTold now (Holds s before))) (counted : t.failed ≡ false → (bytes : List ℕ) → now ≡ Some bytes → t.count ≤ page_count bytes)
      (law : (old new : Saving) (cars : Cars) (s t : State) (was now : Option (List ℕ)) (page : ℕ) → IsTied old (Some cars) s was → WritesNext old new cars s t was now page
      → IfTold was (λ before. IfTold now (λ after. Holds s before after × (t.count ≤ page_count after))) → IsTied new (Some cars) t now) where
    tied_then : (page : ℕ) → Steps cars progress after s t was now page → IsTied new frozen t now
    tied_then page it =
        subst (λ (frozen : Option Cars). IsTied new frozen t now) (sym begun.0)
        (law old new cars s t was now page (subst (λ (frozen : Option Cars). IsTied old frozen s was) begun.0 tied) (writes page it)
        (λ before told bytes now_told. (holds before told bytes now_told, counted (sound_then page it) bytes now_told)))

    tied_still : after ≡ progress → t ≡ s → now ≡ was → IsTied new frozen t now
    tied_still same state contents =
        subst (λ (contents : Option (List ℕ)). IsTied new frozen t contents) (sym contents)
        (subst (λ (t : State). IsTied new frozen t was) (sym state) (subst (λ (saving : Saving). IsTied saving frozen s was) (sym (same_saving same)) tied))

    pub tied_by : (result : Result Flushed SaveFault) → IfOk result (IsStep cars progress after s t was now) → OnErr result (after ≡ progress) → OnMemory result ((t ≡ s) × (now ≡ was)) → UnlessDisk result (IsTied new frozen t now)
    tied_by (Ok AllFlushed) step same memory = tied_still step.seen step.state step.contents
    tied_by (Ok (Wrote page)) step same memory = tied_then page step
    tied_by (Err Disk) step same memory = tt
    tied_by (Err (Memory _)) step same memory = tied_still same memory.0 memory.1

  module _ (holds : IfTold was (λ before. IfTold now (Holds s before))) (still : (s : State) (bytes image : List ℕ) (copy : Copy) → HasCopy s bytes copy → Holds s bytes image → HasCopy s image copy) where
    has_still : t ≡ s → KeepsCopy s t was now
    has_still state copy before told has bytes now_told = subst (λ (t : State). HasCopy t bytes copy) (sym state) (still s before bytes copy has (holds before told bytes now_told))

    pub has_by : (result : Result Flushed SaveFault) → IfOk result (IsStep cars progress after s t was now) → OnMemory result ((t ≡ s) × (now ≡ was)) → UnlessDisk result (KeepsCopy s t was now)
    has_by (Ok AllFlushed) step memory = has_still step.state
    has_by (Ok (Wrote page)) step memory = λ copy before told has bytes now_told. copy_still s t bytes copy (same_pages page step) (still s before bytes copy has (holds before told bytes now_told))
    has_by (Err Disk) step memory = tt
    has_by (Err (Memory _)) step memory = has_still memory.0

pub memory_told : {D T : Type 0} (A : Type 0) (contents : D → Option (List ℕ)) (result : Result T SaveFault) (was is : D) → OnMemory result (A × (is ≡ was)) → OnMemory result (A × (contents is ≡ contents was))
memory_told A contents (Ok x) was is same = tt
memory_told A contents (Err Disk) was is same = tt
memory_told A contents (Err (Memory _)) was is same = (same.0, ap contents same.1)

-- a fault leaves the copies as they were
pub err_kept : (old : Saving) (progress after : Progress) (result : Result Flushed SaveFault) → old.progress ≡ Some progress → OnErr result (after ≡ progress) → OnErr result (record old { progress = Some after } ≡ old)
err_kept old progress after (Ok flushed) is same = tt
err_kept old progress after (Err fault) is same = ap (λ (o : Option Progress). record old { progress = o }) (ap Some same ∙ sym is)
