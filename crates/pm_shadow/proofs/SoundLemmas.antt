-- What is known of a disk stays known.
use Rattle.std.proofs.Common.{◌≡◌, ◌⊎◌, inl, inr, ℕ, ◌+◌, ◌-◌, ◌/◌, ◌<◌, ◌≤◌, max, Bool, true, false, List, length, Option, Some, refl, sym, ◌∙◌, ap, subst, arith}
use Rattle.std.specs.Prelude.{Result, Ok, Err, IfOk, OnErr, option_map, nat_lt, slice_index_or, [], ◌==◌, if◌then◌else◌}
use Rattle.pm_shadow.specs.Uses.{use_of, with_use, is_current, abandoned}
use Rattle.pm_shadow.specs.declared.page_use.PageUse.TheVariants.{Free, Current, Claimed, Kept}
use Rattle.std.proofs.lemmas.Bool.{eqb-true}
use Rattle.pm_types.specs.declared.limits.TheConstants.{PAGE_BYTES}
use Rattle.pm_disk.specs.Writes.{written, Torn, TornIfTold}
use Rattle.pm_disk.specs.Disk.{OnlyTorn, Elapses, LeavesOnly}
use Rattle.pm_disk.proofs.RunLemmas.{started, goes_on}
use Rattle.pm_disk.proofs.WriteLemmas.{torn_written, length-written}
use Rattle.pm_image.specs.Opening.{page_count, is_open, greater_slot, epoch_in}
use Rattle.pm_layout.specs.declared.header.Header.{Header}
use Rattle.pm_shadow.specs.declared.page_use.PageUse.{PageUse}
use Rattle.pm_shadow.specs.State.{State, IsKeepable, keeps, keeps_by, known_by, with_uses, with_claimed, with_kept, abandoned_in, with_count, other, with_closed, published_with}
use Rattle.pm_shadow.specs.Images.{Heads, Holds, Renews, IsSoundState, place_of}
use Rattle.pm_shadow.proofs.RunLemmas.{torn_before}
use Rattle.pm_shadow.proofs.SlotLemmas.{count_le}
use Rattle.pm_shadow.proofs.HoldLemmas.{rebased}

-- a write that was made is one that was cut short nowhere
pub written_torn : (at n : ℕ) (bytes : List ℕ) (old new : Option (List ℕ)) → length bytes ≡ n → new ≡ option_map (written at bytes) old → TornIfTold at n old new
written_torn at n bytes old new len is = record {
  told = λ was told. (written at bytes was, is ∙ ap (option_map (written at bytes)) told, subst (λ (m : ℕ). Torn at m was (written at bytes was)) len (torn_written at bytes was));
  untold = λ untold. is ∙ ap (option_map (written at bytes)) untold;
}

module _ (s : State) (at n : ℕ) (old new : Option (List ℕ)) (images images' : List ℕ → Type 0)
    (sound : (bytes : List ℕ) → old ≡ Some bytes → IsSoundState s bytes images)
    (cut : (bytes was image : List ℕ) → Holds s bytes was → Torn at n was image → Holds s bytes image)
    (only : OnlyTorn at n images images') where
  -- what may be left now has the current header and its pages as they were
  pub cut_holds : (bytes : List ℕ) → old ≡ Some bytes → (image : List ℕ) → images' image → Holds s bytes image
  cut_holds bytes told image now = let from = only image now in cut bytes from.0 image ((sound bytes told).each from.0 from.1) from.2

  -- and so it is seen from what the disk holds now
  pub sound_after : TornIfTold at n old new → ((bytes : List ℕ) → new ≡ Some bytes → images' bytes) → (bytes : List ℕ) → new ≡ Some bytes → IsSoundState s bytes images'
  sound_after torn stay bytes told =
      let before = torn_before at n old new bytes torn told in
      let counted = (sound before.0 before.1).counted in
      let more : page_count before.0 ≤ page_count bytes = count_le before.0 bytes before.2.no_shorter in
      let mine = cut_holds before.0 before.1 bytes (stay bytes told) in
      record { counted = omega arith; each = λ image now. rebased s before.0 bytes image mine (cut_holds before.0 before.1 image now) }

-- a page that was written is one of the pages
pub page_written : (page : ℕ) (new old bytes : List ℕ) → length new ≡ PAGE_BYTES → bytes ≡ written (place_of page) new old → page < page_count bytes
page_written page new old bytes len is = let long = length-written (place_of page) new old (omega arith) in omega (arith, ap length is)

-- and counts
pub sound_counted : (s : State) (n page : ℕ) (bytes : List ℕ) (images : List ℕ → Type 0) → n ≡ max s.count (page + 1) → page < page_count bytes → IsSoundState s bytes images → IsSoundState (with_count s n) bytes images
sound_counted s n page bytes images is inside sound = record {
  counted = let had = sound.counted in omega arith;
  each = λ image now. let h = sound.each image now in record { heads = h.heads; shut = h.shut; outdone = h.outdone; pages = h.pages };
}

-- the same images, and nothing else was changed
pub sound_still : (s : State) (old new : Option (List ℕ)) (images images' : List ℕ → Type 0) → ((bytes : List ℕ) → old ≡ Some bytes → IsSoundState s bytes images) → new ≡ old → ((image : List ℕ) → images' image → images image) → (bytes : List ℕ) → new ≡ Some bytes → IsSoundState s bytes images'
sound_still s old new images images' sound same no_more bytes told =
    let had = sound bytes (sym same ∙ told) in
    record { counted = had.counted; each = λ image now. had.each image (no_more image now) }

module _ {D : Type 0} (moment : D → ℕ) (since : D → ℕ → List ℕ → Type 0) where
  -- one call of a disk
  pub one_call : (old new : D) (P images images' : List ℕ → Type 0) → ((image : List ℕ) → since old (moment old) image → images image) → ((image : List ℕ) → images image → P image)
      → Elapses (moment old) (moment new) (since old) (since new) images' → ((image : List ℕ) → images' image → P image) → LeavesOnly moment since old new P
  one_call old new P images images' now before time after =
      goes_on moment since old old new P images' (started moment since old P (λ image left. before image (now image left))) time after

-- the other gate is closed, and a crash leaves what the disk holds
pub sound_closed : (s : State) (bytes : List ℕ) (images : List ℕ → Type 0) → ((image : List ℕ) → images image → image ≡ bytes) → is_open bytes (other s.slot) ≡ false → images bytes → IsSoundState s bytes images → IsSoundState (with_closed s) bytes images
sound_closed s bytes images only off here sound = record {
  counted = sound.counted;
  each = λ image now.
      let h = sound.each bytes here in
      subst (λ (it : List ℕ). Holds (with_closed s) bytes it) (sym (only image now)) (record { heads = h.heads; shut = λ _. off; outdone = λ not_closed. absurd (cc); pages = h.pages });
}

-- the new header is current, and a crash leaves what the disk holds
pub sound_published : (s : State) (header : Header) (uses : ℕ → PageUse) (before bytes : List ℕ) (images : List ℕ → Type 0) → ((image : List ℕ) → images image → image ≡ bytes) → s.count ≤ page_count before → Renews s header before bytes
    → greater_slot (epoch_in bytes 0) (epoch_in bytes 1) ≡ other s.slot → IsSoundState (published_with s header uses) bytes images
sound_published s header uses before bytes images only counted new greater =
    let same : page_count bytes ≡ page_count before = ap (λ (n : ℕ). n / PAGE_BYTES) new.length in
    record {
      counted = omega arith;
      each = λ image now. subst (λ (it : List ℕ). Holds (published_with s header uses) bytes it) (sym (only image now)) (record {
        heads = new.heads;
        shut = λ closed. absurd (cc);
        outdone = λ _. greater;
        pages = λ page kept low old. (omega arith, refl);
      });
    }

either : (b : Bool) → (b ≡ true) ⊎ (b ≡ false)
either true = inl refl
either false = inr refl

-- pages that are kept now were kept before
keeps_fewer : (s t : State) (bytes : List ℕ) (images : List ℕ → Type 0) → t.slot ≡ s.slot → t.header ≡ s.header → t.settled ≡ s.settled → t.count ≡ s.count → t.closed ≡ s.closed → ((page : ℕ) → 2 ≤ page → keeps t page ≡ true → keeps s page ≡ true)
    → IsSoundState s bytes images → IsSoundState t bytes images
keeps_fewer s t bytes images slot header settled count closed fewer sound = record {
  counted = let had = sound.counted in omega arith;
  each = λ image now.
      let h = sound.each image now in
      record {
        heads = subst (λ (n : ℕ). Heads image n t.header) (sym slot) (subst (λ (x : Header). Heads image s.slot x) (sym header) h.heads);
        shut = λ is. subst (λ (n : ℕ). is_open image (other n) ≡ false) (sym slot) (h.shut (sym closed ∙ is));
        outdone = λ is. h.outdone (sym closed ∙ is) ∙ sym slot;
        pages = λ page kept low old. h.pages page (fewer page low kept) low (omega arith);
      };
}

-- a page was claimed
pub sound_claimed : (s : State) (page : ℕ) (bytes : List ℕ) (images : List ℕ → Type 0) → IsSoundState s bytes images → IsSoundState (with_claimed s page) bytes images
sound_claimed s page bytes images = keeps_fewer s (with_claimed s page) bytes images refl refl refl refl refl fewer
  where
    fewer : (q : ℕ) → 2 ≤ q → keeps_by s.known (with_use page Claimed s.uses q) ≡ true → keeps_by s.known (s.uses q) ≡ true
    fewer q low kept =
        elim (either (q == page)) [
          | inl same ↦ let gone : keeps_by s.known (with_use page Claimed s.uses q) ≡ false = ap (λ (b : Bool). keeps_by s.known (if b then Claimed else s.uses q)) same in absurd (cc (kept, gone))
          | inr differs ↦ sym (ap (λ (b : Bool). keeps_by s.known (if b then Claimed else s.uses q)) differs) ∙ kept
        ]

-- where no page is used, the current copy may stand on any
kept_any : (known : Bool) (uses : ℕ → PageUse) (page : ℕ) → known ≡ false → uses ≡ use_of [] → keeps_by known (uses page) ≡ true
kept_any known uses page unknown unused =
    (λ i. keeps_by (unknown i) (unused i page)) ∙ elim (nat_lt page 2) as (λ b. keeps_by false (if b then Current else slice_index_or [] (page - 2) Free) ≡ true) [ true ↦ refl | false ↦ refl ]

-- the pages of the current copy are known
pub sound_listed : (s : State) (new : ℕ → PageUse) (bytes : List ℕ) (images : List ℕ → Type 0) → s.known ≡ false → s.uses ≡ use_of [] → IsSoundState s bytes images → IsSoundState (known_by s new) bytes images
sound_listed s new bytes images unknown unused = keeps_fewer s (known_by s new) bytes images refl refl refl refl refl (λ page low kept. kept_any s.known s.uses page unknown unused)

-- a page of the current copy is kept for the next one
pub sound_kept : (s : State) (page : ℕ) (bytes : List ℕ) (images : List ℕ → Type 0) → keeps s page ≡ true → IsSoundState s bytes images → IsSoundState (with_kept s page) bytes images
sound_kept s page bytes images had = keeps_fewer s (with_kept s page) bytes images refl refl refl refl refl fewer
  where
    fewer : (q : ℕ) → 2 ≤ q → keeps_by s.known (with_use page Kept s.uses q) ≡ true → keeps_by s.known (s.uses q) ≡ true
    fewer q low kept =
        elim (either (q == page)) [
          | inl same ↦ let here : q ≡ page = eqb-true q page same in ap (keeps s) here ∙ had
          | inr differs ↦ sym (ap (λ (b : Bool). keeps_by s.known (if b then Kept else s.uses q)) differs) ∙ kept
        ]

kept_current : (u : PageUse) → keeps_by true u ≡ true → is_current u ≡ true
kept_current Free is = absurd (cc)
kept_current Current is = refl
kept_current Claimed is = absurd (cc)
kept_current Kept is = refl

-- it is one that is known to be such
pub known_current : (s : State) (page : ℕ) → IsKeepable s page → is_current (s.uses page) ≡ true
known_current s page is = kept_current (s.uses page) (ap (λ (b : Bool). keeps_by b (s.uses page)) (sym is.known) ∙ is.kept)

pub still_kept : (u : PageUse) → keeps_by true (abandoned u) ≡ keeps_by true u
still_kept Free = refl
still_kept Current = refl
still_kept Claimed = refl
still_kept Kept = refl

-- the next copy is given up
pub sound_abandoned : (s : State) (bytes : List ℕ) (images : List ℕ → Type 0) → (s.known ≡ false → s.uses ≡ use_of []) → IsSoundState s bytes images → IsSoundState (abandoned_in s) bytes images
sound_abandoned s bytes images unused = keeps_fewer s (abandoned_in s) bytes images refl refl refl refl refl fewer
  where
    fewer : (q : ℕ) → 2 ≤ q → keeps_by s.known (abandoned (s.uses q)) ≡ true → keeps_by s.known (s.uses q) ≡ true
    fewer q low kept =
        elim (either s.known) [
          | inl known ↦ ap (λ (b : Bool). keeps_by b (s.uses q)) known ∙ sym (still_kept (s.uses q)) ∙ ap (λ (b : Bool). keeps_by b (abandoned (s.uses q))) (sym known) ∙ kept
          | inr unknown ↦ kept_any s.known s.uses q unknown (unused unknown)
        ]

-- whether a page was claimed or not
pub sound_either : {E : Type 0} (s : State) (r : Result ℕ E) (new : ℕ → PageUse) (bytes : List ℕ) (images : List ℕ → Type 0) → IfOk r (λ page. new ≡ with_use page Claimed s.uses) → OnErr r (new ≡ s.uses) → IsSoundState s bytes images → IsSoundState (with_uses s new) bytes images
sound_either s (Ok page) new bytes images ok err sound = subst (λ (u : ℕ → PageUse). IsSoundState (with_uses s u) bytes images) (sym ok) (sound_claimed s page bytes images sound)
sound_either s (Err e) new bytes images ok err sound = subst (λ (u : ℕ → PageUse). IsSoundState (with_uses s u) bytes images) (sym err) sound
