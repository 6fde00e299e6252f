-- How the images of a disk change.
use Rattle.std.proofs.Common.{◌≡◌, ◌⊎◌, inl, inr, ⊎_elim, ℕ, ◌+◌, ◌<◌, ◌≤◌, min, max, List, [], ◌∷◌, length, get_or, map, refl, sym, ◌∙◌, arith}
use Rattle.std.specs.List.{range_with_len}
use Rattle.std.proofs.lemmas.List.{ext_get_or}
use Rattle.std.proofs.lemmas.List.FromFn.{length-map-range_with_len, get_or-map-range_with_len}
use Rattle.std.proofs.lemmas.Bool.{cases_lt}
use Rattle.pm_disk.specs.Images.{Range, IsBytes, furthest, IsUntouched, IsImage}
use Rattle.pm_disk.specs.Writes.{Torn}
use Rattle.pm_disk.proofs.WriteLemmas.{torn_refl}

-- what was synced is the only image before the next write
pub fresh_image : (synced : List ℕ) → IsBytes synced → IsImage synced [] synced
fresh_image synced bytes = record { bytes = bytes; no_shorter = omega arith; no_longer = omega arith; untouched = λ i lt none. refl }

pub only_fresh : (synced image : List ℕ) → IsImage synced [] image → image ≡ synced
only_fresh synced image is =
    ext_get_or 0 image synced (omega (arith, is.no_shorter, is.no_longer)) (λ i lt. is.untouched i (omega (arith, is.no_longer, lt)) tt)

-- an image with a write cut short in it is an image after that write
pub image_torn : (synced : List ℕ) (ranges : List Range) (at n : ℕ) (was image : List ℕ) → IsImage synced ranges was → Torn at n was image → IsBytes image → IsImage synced ((at, n) ∷ ranges) image
image_torn synced ranges at n was image is torn bytes = record {
  bytes = bytes;
  no_shorter = omega (arith, is.no_shorter, torn.no_shorter);
  no_longer = omega (arith, is.no_longer, torn.no_longer);
  untouched = λ i lt untouched.
      let there : i < length was = omega (arith, lt, is.no_shorter) in
      ⊎_elim (λ before. torn.before i there before ∙ is.untouched i lt untouched.1) (λ behind. torn.behind i there behind ∙ is.untouched i lt untouched.1) untouched.0;
}

-- an image from before a write is one after it
pub image_stays : (synced : List ℕ) (ranges : List Range) (at n : ℕ) (image : List ℕ) → IsImage synced ranges image → IsImage synced ((at, n) ∷ ranges) image
image_stays synced ranges at n image is = image_torn synced ranges at n image image is (torn_refl at n image) is.bytes

-- An image after a write has one from before in which the write was cut short: its bytes in the range are
-- taken back to what was synced, and what stands past the furthest end of the earlier writes is cut off.
module _ (synced : List ℕ) (ranges : List Range) (at n : ℕ) (image : List ℕ) (known : IsBytes synced) (is : IsImage synced ((at, n) ∷ ranges) image) where
  -- what may have stood at this place before the write
  record Stood (i byte : ℕ) : Type 0 where
    outside : (i < at) ⊎ (at + n ≤ i) → get_or image i 0 ≡ byte
    untouched : i < length synced → IsUntouched ranges i → byte ≡ get_or synced i 0
    small : i < length image → byte < 256

  out : (i : ℕ) → (i < at) ⊎ (at + n ≤ i) → (byte : ℕ) × Stood i byte
  out i there = (get_or image i 0, record { outside = λ again. refl; untouched = λ lt free. is.untouched i lt (there, free); small = λ lt. is.bytes i lt })

  inside : (i : ℕ) → at ≤ i → i < at + n → (i < length synced) ⊎ (length synced ≤ i) → (byte : ℕ) × Stood i byte
  inside i le lt (inl there) = (
    get_or synced i 0,
    record { outside = λ out. absurd (⊎_elim (λ before. omega arith) (λ behind. omega arith) out); untouched = λ lt free. refl; small = λ lt. known i there },
  )
  inside i le lt (inr past) = (
    get_or image i 0,
    record { outside = λ out. refl; untouched = λ lt free. absurd (omega arith); small = λ lt. is.bytes i lt },
  )

  stood : (i : ℕ) → (byte : ℕ) × Stood i byte
  stood i =
      ⊎_elim (λ before. out i (inl before)) (λ le. ⊎_elim (λ lt. inside i le lt (cases_lt i (length synced))) (λ behind. out i (inr behind)) (cases_lt i (at + n))) (cases_lt i at)

  abbrev kept : ℕ
  kept = min (length image) (max (length synced) (furthest ranges))

  abbrev was : List ℕ
  was = map (λ i. (stood i).0) (range_with_len 0 kept)

  length-was : length was ≡ kept
  length-was = length-map-range_with_len (λ i. (stood i).0) 0 kept

  at_was : (i : ℕ) → i < kept → get_or was i 0 ≡ (stood i).0
  at_was i lt = get_or-map-range_with_len (λ i. (stood i).0) 0 kept i i 0 lt (omega arith)

  was_image : IsImage synced ranges was
  was_image = record {
    bytes = λ i lt. let there : i < kept = omega (arith, length-was) in rw (at_was i there) ((stood i).1.small (omega arith));
    no_shorter = omega (arith, length-was, is.no_shorter);
    no_longer = omega (arith, length-was);
    untouched = λ i lt free. at_was i (omega (arith, is.no_shorter)) ∙ (stood i).1.untouched lt free;
  }

  was_torn : Torn at n was image
  was_torn = record {
    no_shorter = omega (arith, length-was);
    no_longer = omega (arith, length-was, is.no_longer);
    before = λ i lt before. (stood i).1.outside (inl before) ∙ sym (at_was i (omega (arith, length-was)));
    behind = λ i lt behind. (stood i).1.outside (inr behind) ∙ sym (at_was i (omega (arith, length-was)));
  }

  pub image_before : (was : List ℕ) × IsImage synced ranges was × Torn at n was image
  image_before = (was, was_image, was_torn)
