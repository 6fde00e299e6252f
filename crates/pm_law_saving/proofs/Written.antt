-- What holds between calls holds again once the next page was written.
use Rattle.std.proofs.Common.{◌≡◌, ◌⊎◌, inl, inr, ⊎_elim, ℕ, ◌+◌, ◌*◌, ◌<◌, ◌≤◌, ◌==◌, max, Bool, true, false, List, [], length, drop, Contains, Option, Some, sym, ap, subst, ◌∙◌, arith, length-take, length-drop, if◌then◌else◌}
use Rattle.std.specs.Prelude.{option_map}
use Rattle.std.specs.List.{AllByRecursion}
use Rattle.std.proofs.lemmas.Bool.Decides.{nat_tests}
use Rattle.pm_model.proofs.Members.{in_none}
use Rattle.pm_types.specs.declared.limits.TheConstants.{PAGE_BYTES}
use Rattle.pm_disk.specs.Disk.{IfTold}
use Rattle.pm_disk.specs.Writes.{written}
use Rattle.pm_layout.specs.declared.header.Header.{Header}
use Rattle.pm_image.specs.declared.car.CarImage.{CarImage}
use Rattle.pm_image.specs.declared.settled.KeptPage.{KeptPage}
use Rattle.pm_image.specs.Opening.{page_count, page_of}
use Rattle.pm_shadow.specs.declared.page_use.PageUse.TheVariants.{Free, Claimed, Kept}
use Rattle.pm_shadow.specs.State.{State, keeps, with_claimed, with_page as with_page_there}
use Rattle.pm_shadow.specs.Images.{Holds, place_of}
use Rattle.pm_shadow.specs.Copies.{KeepsSamePages}
use Rattle.pm_shadow.proofs.CopyLemmas.{claimed_keeps}
use Rattle.pm_shadow.proofs.PageLemmas.{page_made}
use Rattle.pm_shadow.proofs.RunLemmas.{told_before}
use Rattle.pm_shadow.proofs.UsedLemmas.{in_or_not}
use Rattle.pm_view.specs.View.{Cars}
use Rattle.pm_copies.specs.Apart.{times}
use Rattle.pm_law_copies.proofs.GraphsLemmas.Sets.{once}
use Rattle.pm_saving.specs.Progress.{Place, Clean, Unwritten, Written, PlacedCar, Progress, Saving, image_of}
use Rattle.pm_saving.specs.Paging.{Put, clean_page, clean_pages, kept_pages, newly_kept, puts_of, text_of, with_page}
use Rattle.pm_saving.specs.Beginning.{IsInProgress, StandsAs}
use Rattle.pm_saving.specs.Tied.{AreItsPages, IsOnPage, IsPut, IsTied, WritesNext, with_all_kept}
use Rattle.pm_law_saving.proofs.Members.{apart_more, by_members, from_flat, from_map, is_member, of_member, only_member, stands_in}
use Rattle.pm_law_saving.proofs.Staying.{held_settled, still_on_pages, still_settled}
use Rattle.pm_law_saving.proofs.Standing.{IsUnderWay, under_way}
use Rattle.pm_law_saving.proofs.Next.{next_goes}
use Rattle.pm_law_saving.proofs.Growing.{IsOneMore, next_more, places}
use Rattle.pm_law_saving.proofs.Keeping.{all_kept_count, all_kept_failed, all_kept_in, all_kept_other, all_kept_same, claimed_keeps_not, free_keeps, same_or_not, same_then, use_here, use_other}

-- ---- the pages of the clean cars

clean_one : (settled : List KeptPage) (s : State) (image : CarImage) (place : Place) (page : ℕ) → AllByRecursion (IsOnPage s) settled → StandsAs settled image place → Contains (clean_page place) page → keeps s page ≡ true
clean_one settled s image (Clean kept) page on stands within = subst (λ (page : ℕ). keeps s page ≡ true) (only_member kept.page page within) (of_member (IsOnPage s) settled kept on stands.0).keeps
clean_one settled s image Unwritten page on stands within = absurd (in_none page within)
clean_one settled s image (Written kept) page on stands within = absurd (in_none page within)

-- each is one of the current copy
pub clean_on : (settled : List KeptPage) (cars : Cars) (s : State) (progress : Progress) → AllByRecursion (IsOnPage s) settled → IsInProgress settled cars progress → (page : ℕ) → Contains (clean_pages progress) page → keeps s page ≡ true
clean_on settled cars s progress on copy page within =
    let from = from_flat (λ (one : PlacedCar). clean_page one.place) progress.cars page within in
    clean_one settled s (image_of cars from.0) from.0.place page on (of_member (λ (one : PlacedCar). StandsAs settled (image_of cars one) one.place) progress.cars from.0 copy.stand from.1) from.2

some_clean : (b : Bool) (pages : List ℕ) (page : ℕ) → Contains (if b then pages else []) page → Contains pages page
some_clean true pages page within = within
some_clean false pages page within = absurd (in_none page within)

new_clean : (b : Bool) (pages : List ℕ) (page : ℕ) → Contains (if b then [] else pages) page → Contains pages page
new_clean true pages page within = absurd (in_none page within)
new_clean false pages page within = within

-- one that is not kept now was kept before
was_clean : (b : Bool) (pages : List ℕ) (page : ℕ) → Contains pages page → (Contains (if b then [] else pages) page → ⊥) → Contains (if b then pages else []) page
was_clean true pages page within none = within
was_clean false pages page within none = absurd (none within)

-- ---- a page that reads whole is there

whole_there : (bytes : List ℕ) (page : ℕ) → length (page_of bytes page) ≡ PAGE_BYTES → page < page_count bytes
whole_there bytes page whole = omega (arith, whole, length-take PAGE_BYTES (drop (PAGE_BYTES * page) bytes), length-drop (PAGE_BYTES * page) bytes)

module _ (saving : Saving) (cars : Cars) (s : State) (was : Option (List ℕ)) (progress : Progress) (page : ℕ) (tied : IsTied saving (Some cars) s was) (way : IsUnderWay saving cars s was progress) (free : s.uses page ≡ Free) where
  abbrev kept_state : State
  kept_state = with_all_kept (newly_kept progress) s

  abbrev next_state : State
  next_state = with_page_there (with_claimed kept_state page) page

  newly_clean : (q : ℕ) → Contains (newly_kept progress) q → keeps s q ≡ true
  newly_clean q within = clean_on saving.settled cars s progress tied.on_pages way.copy q (new_clean progress.kept (clean_pages progress) q within)

  -- a page that is none of the current copy is not kept now
  unkept : (q : ℕ) → keeps s q ≡ false → kept_state.uses q ≡ s.uses q
  unkept q none = all_kept_other (newly_kept progress) s q (λ within. let is = newly_clean q within in absurd (cc (is, none)))

  still_free : kept_state.uses page ≡ Free
  still_free = unkept page (free_keeps s page tied.known free) ∙ free

  pub same_pages : KeepsSamePages s next_state
  same_pages =
      let kept = all_kept_same (newly_kept progress) s (by_members (λ (q : ℕ). keeps s q ≡ true) (newly_kept progress) newly_clean) in
      let claimed = claimed_keeps kept_state page (kept.known ∙ tied.known) still_free in
      let here = same_then s kept_state (with_claimed kept_state page) kept claimed in
      record { slot = here.slot; header = here.header; settled = here.settled; known = here.known; kept = here.kept }

  claimed_here : next_state.uses page ≡ Claimed
  claimed_here = use_here page Claimed kept_state.uses

  aside : (q : ℕ) → (q ≡ page → ⊥) → next_state.uses q ≡ kept_state.uses q
  aside q apart = use_other page q Claimed kept_state.uses apart

  -- what was claimed is claimed still
  claimed_still : (q : ℕ) → s.uses q ≡ Claimed → next_state.uses q ≡ Claimed
  claimed_still q is =
      ⊎_elim (λ (same : q ≡ page). ap (λ (q : ℕ). next_state.uses q) same ∙ claimed_here)
      (λ (apart : q ≡ page → ⊥). aside q apart ∙ unkept q (claimed_keeps_not s q is) ∙ is) (same_or_not q page)

  -- and nothing else but this page is
  claimed_before : (q : ℕ) → next_state.uses q ≡ Claimed → (page ≡ q) ⊎ (s.uses q ≡ Claimed)
  claimed_before q is =
      ⊎_elim (λ (same : q ≡ page). inl (sym same))
      (λ (apart : q ≡ page → ⊥).
      let kept = sym (aside q apart) ∙ is in
      ⊎_elim (λ (within : Contains (newly_kept progress) q). let now = all_kept_in (newly_kept progress) s q within in absurd (cc (kept, now)))
      (λ (none : Contains (newly_kept progress) q → ⊥). inr (sym (all_kept_other (newly_kept progress) s q none) ∙ kept)) (in_or_not (newly_kept progress) q))
      (same_or_not q page)

  not_page : (q : ℕ) → keeps s q ≡ true → q ≡ page → ⊥
  not_page q is same = let free_ = free_keeps s page tied.known free in let here : keeps s page ≡ true = ap (keeps s) (sym same) ∙ is in absurd (cc (here, free_))

  -- the pages of the clean cars are kept, and no others
  clean_now : (q : ℕ) → Contains (clean_pages progress) q → next_state.uses q ≡ Kept
  clean_now q within =
      let apart = not_page q (clean_on saving.settled cars s progress tied.on_pages way.copy q within) in
      aside q apart
      ∙ ⊎_elim (λ (new : Contains (newly_kept progress) q). all_kept_in (newly_kept progress) s q new)
      (λ (none : Contains (newly_kept progress) q → ⊥).
      all_kept_other (newly_kept progress) s q none ∙ of_member (λ (q : ℕ). s.uses q ≡ Kept) (kept_pages progress) q way.pages.are_kept (was_clean progress.kept (clean_pages progress) q within none))
      (in_or_not (newly_kept progress) q)

  kept_before : (q : ℕ) → next_state.uses q ≡ Kept → Contains (clean_pages progress) q
  kept_before q is =
      ⊎_elim (λ (same : q ≡ page). let here = ap (λ (q : ℕ). next_state.uses q) same ∙ claimed_here in absurd (cc (here, is)))
      (λ (apart : q ≡ page → ⊥).
      let kept = sym (aside q apart) ∙ is in
      ⊎_elim (λ (new : Contains (newly_kept progress) q). new_clean progress.kept (clean_pages progress) q new)
      (λ (none : Contains (newly_kept progress) q → ⊥). some_clean progress.kept (clean_pages progress) q (way.pages.kept q (sym (all_kept_other (newly_kept progress) s q none) ∙ kept)))
      (in_or_not (newly_kept progress) q))
      (same_or_not q page)

  next_count : next_state.count ≡ max s.count (page + 1)
  next_count = ap (λ (n : ℕ). max n (page + 1)) (all_kept_count (newly_kept progress) s)

  next_failed : next_state.failed ≡ s.failed
  next_failed = all_kept_failed (newly_kept progress) s

  module _ (after : Progress) (text : List ℕ) (now : Option (List ℕ)) (more : IsOneMore progress after (page, text)) (low : 2 ≤ page) (whole : length text ≡ PAGE_BYTES) (is : now ≡ option_map (written (place_of page) text) was) where
    put_claimed : (put : Put) → Contains (puts_of progress) put → s.uses put.0 ≡ Claimed
    put_claimed put within = of_member (λ (put : Put). s.uses put.0 ≡ Claimed) (puts_of progress) put way.pages.written within

    -- the page was not written before
    new_page : Contains (places (puts_of progress)) page → ⊥
    new_page within =
        let from = from_map (λ (put : Put). put.0) (puts_of progress) page within in
        let claimed : s.uses page ≡ Claimed = ap s.uses (sym from.2) ∙ put_claimed from.0 from.1 in
        absurd (cc (claimed, free))

    put_still : (put : Put) → s.uses put.0 ≡ Claimed → IsPut s was put → IsPut next_state now put
    put_still put claimed here = record {
      from_2 = here.from_2;
      there = let below = here.there in omega (arith, below, next_count);
      whole = here.whole;
      reads = λ bytes told.
          let before = told_before (written (place_of page) text) was bytes (sym is ∙ told) in
          let reads = here.reads before.0 before.1 in
          let there = whole_there before.0 put.0 (ap length reads ∙ here.whole) in
          (page_made page text was now before.0 bytes whole is before.1 told).others put.0 (λ same. let there = ap s.uses same ∙ free in absurd (cc (claimed, there))) there ∙ reads;
    }

    put_now : IsPut next_state now (page, text)
    put_now = record {
      from_2 = low;
      there = omega (arith, next_count);
      whole = whole;
      reads = λ bytes told.
          let before = told_before (written (place_of page) text) was bytes (sym is ∙ told) in
          (page_made page text was now before.0 bytes whole is before.1 told).here;
    }

    self_test : (page == page) ≡ true
    self_test = grind (arith, nat_tests)

    in_new : (q : ℕ) → 1 ≤ once (page == q) + times q (places (puts_of progress)) → Contains (places (puts_of after)) q
    in_new q some = let same = more.puts.times q in is_member q (places (puts_of after)) (omega (arith, same, some))

    kept_is : kept_pages after ≡ clean_pages progress
    kept_is = ap (λ (b : Bool). if b then clean_pages after else []) more.kept ∙ more.clean

    pub pages_now : AreItsPages (Some after) next_state now
    pages_now = record {
      claimed = λ q is.
          ⊎_elim
          (λ (same : page ≡ q). let here : once (page == q) ≡ 1 = ap (λ (q : ℕ). once (page == q)) (sym same) ∙ ap once self_test in in_new q (omega (arith, here)))
          (λ (before : s.uses q ≡ Claimed). let stands = stands_in q (places (puts_of progress)) (way.pages.claimed q before) in in_new q (omega (arith, stands)))
          (claimed_before q is);
      written = by_members (λ (put : Put). next_state.uses put.0 ≡ Claimed) (puts_of after) (λ put within.
          ⊎_elim (λ same. subst (λ (put : Put). next_state.uses put.0 ≡ Claimed) same claimed_here)
          (λ before. claimed_still put.0 (put_claimed put before)) (more.puts.of put within));
      apart = λ number. let rest = apart_more page (places (puts_of progress)) new_page way.pages.apart number in let same = more.puts.times number in omega (arith, rest, same);
      read = by_members (IsPut next_state now) (puts_of after) (λ put within.
          ⊎_elim (λ same. subst (IsPut next_state now) same put_now)
          (λ before. put_still put (put_claimed put before) (of_member (IsPut s was) (puts_of progress) put way.pages.read before)) (more.puts.of put within));
      kept = λ q is. subst (λ (pages : List ℕ). Contains pages q) (sym kept_is) (kept_before q is);
      are_kept = subst (AllByRecursion (λ (q : ℕ). next_state.uses q ≡ Kept)) (sym kept_is) (by_members (λ (q : ℕ). next_state.uses q ≡ Kept) (clean_pages progress) clean_now);
    }

pub next_tied : (old new : Saving) (cars : Cars) (s t : State) (was now : Option (List ℕ)) (page : ℕ) → IsTied old (Some cars) s was → WritesNext old new cars s t was now page
    → IfTold was (λ before. IfTold now (λ after. Holds s before after × (t.count ≤ page_count after))) → IsTied new (Some cars) t now
next_tied old new cars s t was now page tied writes holds =
    let progress = writes.progress in
    let next = writes.next in
    let way = under_way old cars s was progress tied writes.is_progress in
    let free = writes.lowest.free in
    let after = with_page page progress next in
    let state = with_page_there (with_claimed (with_all_kept (newly_kept progress) s) page) page in
    let same = same_pages old cars s was progress page tied way free in
    let goes = next_goes old.settled cars progress next page way.copy writes.is_next in
    let more = next_more old.settled cars progress next page way.copy writes.is_next in
    let counted : state.count ≡ max s.count (page + 1) = ap (λ (n : ℕ). max n (page + 1)) (all_kept_count (newly_kept progress) s) in
    let settled = same.settled in
    let grown = tied.grown in
    let later = way.later in
    let epoch : state.header.epoch ≡ s.header.epoch = ap (λ (header : Header). header.epoch) same.header in
    let number = goes.0.number in
    let made : IsTied (record old { progress = Some after }) (Some cars) state now = record {
      sound = all_kept_failed (newly_kept progress) s ∙ tied.sound;
      known = same.known ∙ tied.known;
      grown = omega (arith, settled, counted, grown);
      current = λ bytes told.
          let before = told_before (written (place_of page) (text_of progress next)) was bytes (sym writes.contents ∙ told) in
          still_settled old.settled s state bytes same (held_settled old.settled s before.0 bytes (holds before.0 before.1 bytes told).0 (tied.current before.0 before.1));
      on_pages = still_on_pages old.settled s state same tied.on_pages;
      pages = pages_now old cars s was progress page tied way free after (text_of progress next) now more writes.lowest.from_2 writes.whole writes.contents;
      begun = (goes.1, omega (arith, later, epoch, number));
    } in
    subst (λ (saving : Saving). IsTied saving (Some cars) t now) (sym writes.saving) (subst (λ (t : State). IsTied (record old { progress = Some after }) (Some cars) t now) (sym writes.state) made)
