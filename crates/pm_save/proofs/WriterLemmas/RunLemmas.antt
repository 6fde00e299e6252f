-- Flushes one after another.
use Rattle.std.proofs.Common.{◌≡◌, ◌⊎◌, inl, inr, ⊎_elim, ℕ, zero, suc, ◌+◌, ◌<◌, ◌≤◌, ◌==◌, if◌then◌else◌, Bool, true, false, List, [], ◌∷◌, ◌++◌, length, Option, Some, None, option_map, refl, sym, ap, ◌∙◌, subst, arith, length-append}
use Rattle.std.specs.List.{AllByRecursion, Contains}
use Rattle.std.specs.Option.{IsSome}
use Rattle.std.proofs.lemmas.List.Elements.{Contains-append_cases, Contains-append_left, Contains-append_right}
use Rattle.pm_disk.specs.Disk.{LeavesOnly}
use Rattle.pm_disk.proofs.RunLemmas.{joined}
use Rattle.pm_disk.specs.Writes.{written}
use Rattle.pm_model.specs.World.{Copy}
use Rattle.pm_model.proofs.Members.{at_first, in_none, in_rest}
use Rattle.pm_image.specs.Opening.{page_count, page_of}
use Rattle.pm_image.specs.Stands.{StandsForCopy}
use Rattle.pm_layout.specs.declared.header.Header.{Header}
use Rattle.pm_shadow.specs.declared.page_use.PageUse.TheVariants.{Free, Claimed}
use Rattle.pm_shadow.specs.declared.page_use.PageUse.{PageUse}
use Rattle.pm_shadow.specs.Uses.{AreLowestFree, IsLowestFree, all_used, with_use}
use Rattle.pm_shadow.specs.State.{State, with_kept}
use Rattle.pm_shadow.specs.Images.{WritesPage, place_of}
use Rattle.pm_shadow.proofs.PageLemmas.{page_made, torn_page}
use Rattle.pm_shadow.proofs.SlotLemmas.{count_le}
use Rattle.pm_view.specs.View.{Cars}
use Rattle.pm_copies.specs.Apart.{AreApart, times}
use Rattle.pm_law_copies.proofs.GraphsLemmas.Sets.{times_append}
use Rattle.pm_law_saving.proofs.Members.{is_member, only_member}
use Rattle.pm_law_saving.proofs.Keeping.{all_kept_in, all_kept_other, free_keeps, same_or_not, use_here, use_other}
use Rattle.pm_law_saving.proofs.Written.{clean_on}
use Rattle.pm_saving.specs.Progress.{Progress, Saving, cars_or_none}
use Rattle.pm_saving.specs.Paging.{NextPage, clean_pages, left, left_of, newly_kept, next_page, put_next, put_on, text_of, with_next, written_on}
use Rattle.pm_saving.specs.Paging as paging
use Rattle.pm_saving.specs.Beginning.{IsInProgress}
use Rattle.pm_saving.specs.Tied.{GoesOn, HasCopy, IsTied, WritesNext, with_all_kept}
use Rattle.pm_law_saving.proofs.Next.{next_goes}
use Rattle.pm_save.proofs.WriterLemmas.FlushLemmas.{begun_from}
use Rattle.pm_save.specs.declared.progress.fault.SaveFault.{SaveFault}
use Rattle.pm_save.specs.declared.progress.fault.SaveFault.TheVariants.{Disk, Memory}
use Rattle.pm_save.specs.Progress.Answers.{IfMemory, IsStill, KeepsCopy, Spares, TellsOn}
use Rattle.pm_save.specs.Writer.Runs.{HasRun, Runs}
use Rattle.pm_save.specs.Writer.Settling.{StaysOn}

-- ---- pages one after another

pub written_more : (cars : Cars) (pages : List ℕ) (progress : Progress) (page : ℕ) (next : NextPage) → next_page cars (written_on cars pages progress) ≡ Some next
    → written_on cars (pages ++ page ∷ []) progress ≡ paging.with_page page (written_on cars pages progress) next
written_more cars [] progress page next is = ap (with_next page progress) is
written_more cars (first ∷ pages) progress page next is = written_more cars pages (with_next first progress (next_page cars progress)) page next is

put_more : (cars : Cars) (pages : List ℕ) (progress : Progress) (page : ℕ) (next : NextPage) (bytes : List ℕ) → next_page cars (written_on cars pages progress) ≡ Some next
    → put_on cars (pages ++ page ∷ []) progress bytes ≡ written (place_of page) (text_of (written_on cars pages progress) next) (put_on cars pages progress bytes)
put_more cars [] progress page next bytes is = ap (λ (next : Option NextPage). put_next page progress next bytes) is
put_more cars (first ∷ pages) progress page next bytes is = put_more cars pages (with_next first progress (next_page cars progress)) page next (put_next first progress (next_page cars progress) bytes) is

pub map_none : (was : Option (List ℕ)) → was ≡ option_map (λ (bytes : List ℕ). bytes) was
map_none None = refl
map_none (Some bytes) = refl

map_more : (f g h : List ℕ → List ℕ) (was : Option (List ℕ)) → ((bytes : List ℕ) → h bytes ≡ f (g bytes)) → option_map f (option_map g was) ≡ option_map h was
map_more f g h None same = refl
map_more f g h (Some bytes) same = ap Some (sym (same bytes))

-- ---- pages that are used one after another

used_more : (pages : List ℕ) (uses : ℕ → PageUse) (page : ℕ) → all_used (pages ++ page ∷ []) uses ≡ with_use page Claimed (all_used pages uses)
used_more [] uses page = refl
used_more (first ∷ pages) uses page = used_more pages (with_use first Claimed uses) page

used_other : (pages : List ℕ) (uses : ℕ → PageUse) (page : ℕ) → (Contains pages page → ⊥) → all_used pages uses page ≡ uses page
used_other [] uses page none = refl
used_other (first ∷ pages) uses page none =
    used_other pages (with_use first Claimed uses) page (λ there. none (in_rest first page pages there))
    ∙ use_other first page Claimed uses (λ same. none (subst (Contains (first ∷ pages)) (sym same) (at_first first pages)))

lowest_more : (pages : List ℕ) (uses : ℕ → PageUse) (page : ℕ) → AreLowestFree uses pages → IsLowestFree (all_used pages uses) page → AreLowestFree uses (pages ++ page ∷ [])
lowest_more [] uses page all low = (low, tt)
lowest_more (first ∷ pages) uses page all low = (all.0, lowest_more pages (with_use first Claimed uses) page all.1 low)

new_clean : (b : Bool) (pages : List ℕ) (page : ℕ) → Contains (if b then [] else pages) page → Contains pages page
new_clean true pages page within = absurd (in_none page within)
new_clean false pages page within = within

all_more : {A : Type 0} (P : A → Type 0) (xs : List A) (x : A) → AllByRecursion P xs → P x → AllByRecursion P (xs ++ x ∷ [])
all_more P [] x all has = (has, tt)
all_more P (first ∷ xs) x all has = (all.0, all_more P xs x all.1 has)

no_times : (number : ℕ) (xs : List ℕ) → (Contains xs number → ⊥) → times number xs ≡ 0
no_times number xs out = by (times number xs) refl
  where
    by : (n : ℕ) → times number xs ≡ n → times number xs ≡ 0
    by zero is = is
    by (suc n) is = absurd (out (is_member number xs (omega (arith, is))))

one_time : (number page : ℕ) → times number (page ∷ []) ≤ 1
one_time number page = by (page == number)
  where
    by : (b : Bool) → (if b then 1 else 0) + 0 ≤ 1
    by true = omega arith
    by false = omega arith

-- ---- what keeping leaves

kept_header : (ks : List ℕ) (s : State) → (with_all_kept ks s).header ≡ s.header
kept_header [] s = refl
kept_header (k ∷ ks) s = kept_header ks (with_kept s k)

kept_slot : (ks : List ℕ) (s : State) → (with_all_kept ks s).slot ≡ s.slot
kept_slot [] s = refl
kept_slot (k ∷ ks) s = kept_slot ks (with_kept s k)

kept_closed : (ks : List ℕ) (s : State) → (with_all_kept ks s).closed ≡ s.closed
kept_closed [] s = refl
kept_closed (k ∷ ks) s = kept_closed ks (with_kept s k)

-- ---- told contents

pub told_once : (contents : Option (List ℕ)) (a b : List ℕ) → contents ≡ Some a → contents ≡ Some b → a ≡ b
told_once contents a b is also = let both : Some a ≡ Some b = sym is ∙ also in cc

pub told_before : (f : List ℕ → List ℕ) (was now : Option (List ℕ)) (after : List ℕ) → now ≡ option_map f was → now ≡ Some after → (before : List ℕ) × (was ≡ Some before)
told_before f None now after is told = let none : None ≡ Some after = sym is ∙ told in absurd cc
told_before f (Some before) now after is told = (before, refl)

copy_at : (s : State) (a b : List ℕ) (copy : Copy) → a ≡ b → HasCopy s a copy → HasCopy s b copy
copy_at s a b copy same has = subst (λ (bytes : List ℕ). HasCopy s bytes copy) same has

-- ---- no page was written yet

pub run_begins : (progress : Progress) (frozen : Option Cars) (cars : Cars) (saving : Saving) (s : State) (was : Option (List ℕ)) → saving.progress ≡ Some progress → IsTied saving frozen s was
    → HasRun progress frozen cars saving saving s s was was []
run_begins progress frozen cars saving s was is tied = record {
  saving = ap (λ (p : Option Progress). record saving { progress = p }) is;
  left = omega arith;
  goes = record { number = refl; roots = refl; next_id = refl; copy = λ cars. refl; left = omega arith };
  free = tt;
  apart = λ number. omega arith;
  lowest = tt;
  unused = λ page free. free;
  free_still = λ page free. (free, λ within. in_none page within);
  header = refl;
  slot = refl;
  closed = refl;
  tied = tied;
  has = λ copy bytes told has after now. copy_at s bytes after copy (told_once was bytes after told now) has;
  contents = map_none was;
  only = λ before told after now. record {
    longer = let same = told_once was before after told now in subst (λ (bytes : List ℕ). page_count before ≤ page_count bytes) same (omega arith);
    same = λ page low out. ap (λ (bytes : List ℕ). page_of bytes page) (sym (told_once was before after told now));
  };
}

-- ---- one page more

module _ (progress : Progress) (frozen : Option Cars) (cars : Cars) (old mid new : Saving) (s m t : State) (was is now : Option (List ℕ)) (pages : List ℕ) (page : ℕ)
    (run : HasRun progress frozen cars old mid s m was is pages) (writes : WritesNext mid new cars m t is now page) (tied : IsTied new frozen t now) (keeps : KeepsCopy m t is now) (cars_are : cars ≡ cars_or_none frozen) where
  its : writes.progress ≡ written_on cars pages progress
  its = let both : Some writes.progress ≡ Some (written_on cars pages progress) = sym writes.is_progress ∙ ap (λ (saving : Saving). saving.progress) run.saving in cc

  more : written_on cars (pages ++ page ∷ []) progress ≡ paging.with_page page writes.progress writes.next
  more =
      written_more cars pages progress page writes.next (subst (λ (p : Progress). next_page cars p ≡ Some writes.next) its writes.is_next)
      ∙ ap (λ (p : Progress). paging.with_page page p writes.next) (sym its)

  saving_then : new ≡ record old { progress = Some (written_on cars (pages ++ page ∷ []) progress) }
  saving_then =
      writes.saving
      ∙ ap (λ (saving : Saving). record saving { progress = Some (paging.with_page page writes.progress writes.next) }) run.saving
      ∙ ap (λ (p : Progress). record old { progress = Some p }) (sym more)

  left_then : left (written_on cars (pages ++ page ∷ []) progress) + length (pages ++ page ∷ []) ≡ left progress
  left_then =
      let less = writes.left in
      let after : left_of new.progress ≡ left (written_on cars (pages ++ page ∷ []) progress) = ap (λ (saving : Saving). left_of saving.progress) saving_then in
      let before : left_of mid.progress ≡ left (written_on cars pages progress) = ap (λ (saving : Saving). left_of saving.progress) run.saving in
      let len = length-append pages (page ∷ []) in
      let all = run.left in
      omega (arith, less, after, before, len, all)

  ks : List ℕ
  ks = newly_kept writes.progress

  copy : IsInProgress mid.settled cars writes.progress
  copy =
      let begun = begun_from mid.settled mid.progress writes.progress frozen m.header.epoch run.tied.begun writes.is_progress in
      subst (λ (cars : Cars). IsInProgress mid.settled cars writes.progress) (sym cars_are) begun.1

  goes_then : GoesOn progress (written_on cars (pages ++ page ∷ []) progress)
  goes_then =
      let step : GoesOn writes.progress (paging.with_page page writes.progress writes.next) = (next_goes mid.settled cars writes.progress writes.next page copy writes.is_next).0 in
      let one : GoesOn (written_on cars pages progress) (written_on cars (pages ++ page ∷ []) progress) =
      subst (λ (p : Progress). GoesOn p (written_on cars (pages ++ page ∷ []) progress)) its (subst (GoesOn writes.progress) (sym more) step) in
      let first = run.goes in
      let low = first.left in
      let lower = one.left in
      record {
        number = one.number ∙ first.number;
        roots = one.roots ∙ first.roots;
        next_id = one.next_id ∙ first.next_id;
        copy = λ cars. one.copy cars ∙ first.copy cars;
        left = omega (arith, low, lower);
      }

  -- a page that is free still was free, and is none of these
  free_then : (other : ℕ) → t.uses other ≡ Free → (other ≡ page → ⊥) × (m.uses other ≡ Free)
  free_then other free =
      let then_free : with_use page Claimed (with_all_kept (newly_kept writes.progress) m).uses other ≡ Free = sym (ap (λ (u : State). u.uses other) writes.state) ∙ free in
      let apart : other ≡ page → ⊥ =
      λ same. let claimed : with_use page Claimed (with_all_kept (newly_kept writes.progress) m).uses other ≡ Claimed = subst (λ (n : ℕ). with_use page Claimed (with_all_kept (newly_kept writes.progress) m).uses n ≡ Claimed) (sym same) (use_here page Claimed (with_all_kept (newly_kept writes.progress) m).uses) in absurd (cc (claimed, then_free)) in
      let kept_free : (with_all_kept (newly_kept writes.progress) m).uses other ≡ Free = sym (use_other page other Claimed (with_all_kept (newly_kept writes.progress) m).uses apart) ∙ then_free in
      let out : Contains (newly_kept writes.progress) other → ⊥ = λ within. let kept = all_kept_in (newly_kept writes.progress) m other within in absurd (cc (kept, kept_free)) in
      (apart, sym (all_kept_other (newly_kept writes.progress) m other out) ∙ kept_free)

  -- and a page that was free, and is none of these, is free still
  unkept : (other : ℕ) → m.uses other ≡ Free → Contains (newly_kept writes.progress) other → ⊥
  unkept other free within =
      let clean = new_clean writes.progress.kept (clean_pages writes.progress) other within in
      let kept = clean_on mid.settled cars m writes.progress run.tied.on_pages copy other clean in
      let none = free_keeps m other run.tied.known free in
      absurd (cc (kept, none))

  unused_then : (other : ℕ) → all_used (pages ++ page ∷ []) s.uses other ≡ Free → t.uses other ≡ Free
  unused_then other free =
      let kept_uses = (with_all_kept (newly_kept writes.progress) m).uses in
      let before_uses = all_used pages s.uses in
      let before : with_use page Claimed before_uses other ≡ Free = sym (ap (λ (uses : ℕ → PageUse). uses other) (used_more pages s.uses page)) ∙ free in
      let apart : other ≡ page → ⊥ =
      λ same. let claimed : with_use page Claimed before_uses other ≡ Claimed = subst (λ (n : ℕ). with_use page Claimed before_uses n ≡ Claimed) (sym same) (use_here page Claimed before_uses) in absurd (cc (claimed, before)) in
      let was_free : m.uses other ≡ Free = run.unused other (sym (use_other page other Claimed before_uses apart) ∙ before) in
      ap (λ (u : State). u.uses other) writes.state
      ∙ use_other page other Claimed kept_uses apart
      ∙ all_kept_other (newly_kept writes.progress) m other (unkept other was_free)
      ∙ was_free

  lowest_then : IsLowestFree (all_used pages s.uses) page
  lowest_then =
      let was = run.free_still page writes.lowest.free in
      record {
        from_2 = writes.lowest.from_2;
        free = used_other pages s.uses page was.1 ∙ was.0;
        lowest = λ below low free. writes.lowest.lowest below low (run.unused below free);
      }

  contents_then : now ≡ option_map (put_on cars (pages ++ page ∷ []) progress) was
  contents_then =
      let put : List ℕ → List ℕ = written (place_of page) (text_of (written_on cars pages progress) writes.next) in
      let is_next : next_page cars (written_on cars pages progress) ≡ Some writes.next = subst (λ (p : Progress). next_page cars p ≡ Some writes.next) its writes.is_next in
      writes.contents
      ∙ (λ i. option_map (written (place_of page) (text_of (its i) writes.next)) (run.contents i))
      ∙ map_more put (put_on cars pages progress) (put_on cars (pages ++ page ∷ []) progress) was (λ bytes. put_more cars pages progress page writes.next bytes is_next)

  pub run_more : HasRun progress frozen cars old new s t was now (pages ++ page ∷ [])
  run_more = record {
    saving = saving_then;
    left = left_then;
    goes = goes_then;
    free = all_more (λ (page : ℕ). s.uses page ≡ Free) pages page run.free (run.free_still page writes.lowest.free).0;
    apart = apart_then;
    lowest = lowest_more pages s.uses page run.lowest lowest_then;
    unused = unused_then;
    free_still = λ other free.
        let then_free = free_then other free in
        let first = run.free_still other then_free.1 in
        (first.0, λ within. ⊎_elim first.1 (λ (here : Contains (page ∷ []) other). then_free.0 (sym (only_member page other here))) (Contains-append_cases pages (page ∷ []) other within));
    header = ap (λ (u : State). u.header) writes.state ∙ kept_header (newly_kept writes.progress) m ∙ run.header;
    slot = ap (λ (u : State). u.slot) writes.state ∙ kept_slot (newly_kept writes.progress) m ∙ run.slot;
    closed = ap (λ (u : State). u.closed) writes.state ∙ kept_closed (newly_kept writes.progress) m ∙ run.closed;
    tied = tied;
    has = λ copy bytes told has after now_told.
        let middle = told_before (written (place_of page) (text_of writes.progress writes.next)) is now after writes.contents now_told in
        keeps copy middle.0 middle.1 (run.has copy bytes told has middle.0 middle.1) after now_told;
    contents = contents_then;
    only = λ before told after now_told.
        let middle = told_before (written (place_of page) (text_of writes.progress writes.next)) is now after writes.contents now_told in
        let first = run.only before told middle.0 middle.1 in
        let made : WritesPage page (text_of writes.progress writes.next) middle.0 after = page_made page (text_of writes.progress writes.next) is now middle.0 after writes.whole writes.contents middle.1 now_told in
        record {
          longer = let one = first.longer in let two = longer_by middle.0 after middle.1 now_told in omega (arith, one, two);
          same = λ other low out.
              let apart : other ≡ page → ⊥ = λ same. out (Contains-append_right pages (page ∷ []) other (subst (Contains (page ∷ [])) (sym same) (at_first page []))) in
              let one = first.longer in
              let there : other < page_count middle.0 = omega (arith, low, one) in
              made.others other apart there ∙ first.same other low (λ within. out (Contains-append_left pages (page ∷ []) other within));
        };
  }
    where
      apart_then : AreApart (pages ++ page ∷ [])
      apart_then number =
          let split = times_append number pages (page ∷ []) in
          let before = run.apart number in
          by_case (same_or_not page number) split before
        where
          by_case : (page ≡ number) ⊎ (page ≡ number → ⊥) → times number (pages ++ page ∷ []) ≡ times number pages + times number (page ∷ []) → times number pages ≤ 1 → times number (pages ++ page ∷ []) ≤ 1
          by_case (inl same) split before =
              let once : times number (page ∷ []) ≤ 1 = one_time number page in
              let none : times number pages ≡ 0 = no_times number pages (λ within. (run.free_still page writes.lowest.free).1 (subst (Contains pages) (sym same) within)) in
              omega (arith, split, once, none)
          by_case (inr other) split before =
              let none : times number (page ∷ []) ≡ 0 = no_times number (page ∷ []) (λ within. other (only_member page number within)) in
              omega (arith, split, before, none)

      longer_by : (middle after : List ℕ) → is ≡ Some middle → now ≡ Some after → page_count middle ≤ page_count after
      longer_by middle after told now_told =
          let put : after ≡ written (place_of page) (text_of writes.progress writes.next) middle = told_once now after (written (place_of page) (text_of writes.progress writes.next) middle) now_told (writes.contents ∙ ap (option_map (written (place_of page) (text_of writes.progress writes.next))) told) in
          subst (λ (bytes : List ℕ). page_count middle ≤ page_count bytes) (sym put) (count_le middle (written (place_of page) (text_of writes.progress writes.next) middle) (torn_page page (text_of writes.progress writes.next) middle writes.whole).no_shorter)

-- ---- what a run leaves, one call more

module _ (frozen : Option Cars) (cars : Cars) (old mid new : Saving) (s m t : State) (was is now : Option (List ℕ)) (runs : Runs frozen cars old mid s m was is) (cars_are : cars ≡ cars_or_none frozen) where
  -- where nothing changed
  pub still_runs : new ≡ mid → t ≡ m → now ≡ is → Runs frozen cars old new s t was now
  still_runs saving state contents =
      subst (λ (now : Option (List ℕ)). Runs frozen cars old new s t was now) (sym contents)
      (subst (λ (t : State). Runs frozen cars old new s t was is) (sym state) (subst (λ (new : Saving). Runs frozen cars old new s m was is) (sym saving) runs))

  -- where one page was written
  pub more_runs : (page : ℕ) → WritesNext mid new cars m t is now page → IsTied new frozen t now → KeepsCopy m t is now → Runs frozen cars old new s t was now
  more_runs page writes tied keeps = record {
    progress = runs.progress;
    is_progress = runs.is_progress;
    pages = runs.pages ++ page ∷ [];
    run = run_more runs.progress frozen cars old mid new s m t was is now runs.pages page runs.run writes tied keeps cars_are;
  }

pub begin_runs : (frozen : Option Cars) (cars : Cars) (saving : Saving) (s : State) (was : Option (List ℕ)) → IsSome saving.progress → IsTied saving frozen s was → Runs frozen cars saving saving s s was was
begin_runs frozen cars saving s was some tied =
    let its = some_is saving.progress some in
    record { progress = its.0; is_progress = its.1; pages = []; run = run_begins its.0 frozen cars saving s was its.1 tied }
  where
    some_is : (p : Option Progress) → IsSome p → (progress : Progress) × (p ≡ Some progress)
    some_is None some = absurd cc
    some_is (Some progress) some = (progress, refl)

-- where a call answered that memory ran out or the disk failed
pub fault_runs : (frozen : Option Cars) (cars : Cars) (old mid new : Saving) (s m t : State) (was is now : Option (List ℕ)) (fault : SaveFault) → Runs frozen cars old mid s m was is → cars ≡ cars_or_none frozen → IfMemory (IsStill mid new m t is now) fault
    → IfMemory (Runs frozen cars old new s t was now) fault
fault_runs frozen cars old mid new s m t was is now Disk runs cars_are still = tt
fault_runs frozen cars old mid new s m t was is now (Memory _) runs cars_are still = still_runs frozen cars old mid new s m t was is now runs cars_are still.saving still.state still.contents

pub tells_then : (was is now : Option (List ℕ)) → TellsOn was is → TellsOn is now → TellsOn was now
tells_then was is now one two bytes told = let middle = one bytes told in two middle.0 middle.1

module _ {D : Type 0} (contents : D → Option (List ℕ)) (moment : D → ℕ) (since : D → ℕ → List ℕ → Type 0) (s m : State) (old mid new : D) where
  pub spares_then : m.header ≡ s.header → TellsOn (contents old) (contents mid) → KeepsCopy s m (contents old) (contents mid) → Spares contents moment since s old mid → Spares contents moment since m mid new → Spares contents moment since s old new
  spares_then header tells keeps one two copy bytes told has =
      let middle = tells bytes told in
      let there = keeps copy bytes told has middle.0 middle.1 in
      joined moment since old mid new (λ image. StandsForCopy image s.header.epoch copy) (one copy bytes told has)
      (subst (λ (h : Header). LeavesOnly moment since mid new (λ image. StandsForCopy image h.epoch copy)) header (two copy middle.0 middle.1 there))

pub left_some : (frozen : Option Cars) (cars : Cars) (old mid : Saving) (s m : State) (was is : Option (List ℕ)) → Runs frozen cars old mid s m was is → 0 < left_of mid.progress → 0 < left_of old.progress
left_some frozen cars old mid s m was is runs some =
    let after : left_of mid.progress ≡ left (written_on cars runs.pages runs.progress) = ap (λ (saving : Saving). left_of saving.progress) runs.run.saving in
    let before : left_of old.progress ≡ left runs.progress = ap left_of runs.is_progress in
    let all = runs.run.left in
    omega (arith, some, after, before, all)

-- after a run the copy is in progress still
pub runs_on : (frozen : Option Cars) (cars : Cars) (old mid new : Saving) (s t : State) (was now : Option (List ℕ)) → Runs frozen cars old mid s t was now → new ≡ mid → StaysOn old new
runs_on frozen cars old mid new s t was now runs same = record {
  progress = runs.progress;
  after = written_on cars runs.pages runs.progress;
  is_progress = runs.is_progress;
  saving = same ∙ runs.run.saving;
  goes_on = runs.run.goes;
}
