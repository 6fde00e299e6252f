-- What is noted of a page of the catalog.
use Rattle.std.proofs.Common.{◌≡◌, ℕ, zero, suc, ◌+◌, ◌<◌, Bool, true, false, List, [], ◌∷◌, ◌++◌, length, map, take, drop, reverse, if◌then◌else◌, slice_index_or, get_or, Option, Some, None, refl, sym, ap, ◌∙◌, subst, arith}
use Rattle.std.specs.List.{AllByRecursion, slice_get}
use Rattle.std.specs.Prelude.{IfSome, vec_capacity}
use Rattle.std.proofs.lemmas.List.{drop_more, length-append, length-map, reverse-append, take_more}
use Rattle.sha2.specs.Sha256.{sha256}
use Rattle.pm_image.specs.declared.settled.KeptPage.{KeptPage}
use Rattle.pm_law_copies.proofs.GraphsLemmas.Lists.{all_both}
use Rattle.pm_copies.specs.Plans.{chain_of, digest_of}
use Rattle.pm_copies.specs.Cutting.{OnePage, cut}
use Rattle.pm_view.specs.View.{Cars}
use Rattle.pm_saving.specs.Progress as seen
use Rattle.pm_saving.specs.Progress.{Progress, catalog_left, catalog_len, catalog_of, draft_entry, image_of, paired, parts_of, roots_of}
use Rattle.pm_saving.specs.Paging.{CarPage, PartPage, is_unwritten, next_after, next_page, part_before, text_of, unwritten}
use Rattle.pm_save.specs.declared.progress.place.PlacedCar.{PlacedCar}
use Rattle.pm_save.specs.declared.progress.place.InProgress.{InProgress}
use Rattle.pm_save.specs.Progress.Seen.{car_seen, progress_seen}
use Rattle.pm_save.specs.Progress.Kept.{IsKept, IsPlaced, counts_of, is_open}
use Rattle.pm_save.specs.Progress.Next.{IsFound}
use Rattle.pm_save.specs.Progress.Entries.{entries_in}
use Rattle.pm_save.proofs.ProgressLemmas.Parts.{len_is, parts_are}
use Rattle.pm_save.proofs.ProgressLemmas.Placed.{all_before, all_placed, first_found, none_open}

none_left : (cars : List seen.PlacedCar) → AllByRecursion (λ (one : seen.PlacedCar). is_unwritten one.place ≡ false) cars → unwritten cars ≡ 0
none_left [] placed = refl
none_left (one ∷ cars) placed =
    let none : ℕ = 0 in let some : ℕ = 1 in
    let here : (if is_unwritten one.place then some else none) ≡ none = ap (λ (b : Bool). if b then some else none) placed.0 in
    let rest = none_left cars placed.1 in
    omega (arith, here, rest)

-- where a page of the catalog is next each car stands on a page
placed_by : (settled : List KeptPage) (cars : Cars) (it : InProgress) (entries : OnePage) → IsKept settled it → IsFound it → next_page cars (progress_seen settled it) ≡ Some (PartPage entries)
    → (one : Option PlacedCar) → slice_get it.cars.items it.placed ≡ one → AllByRecursion IsPlaced it.cars.items
placed_by settled cars it entries kept found next None at = all_before it.cars.items it.placed found.before at
placed_by settled cars it entries kept found next (Some one) at =
    let here : is_open one.place ≡ true = subst (λ (one : Option PlacedCar). IfSome one (λ (one : PlacedCar). is_open one.place ≡ true)) at found.here in
    let car : next_page cars (progress_seen settled it) ≡ Some (CarPage (image_of cars (car_seen settled one))) =
    ap (next_after cars (progress_seen settled it)) (first_found settled it.cars.items it.placed one kept.within found.before at here) in
    absurd cc

pub all_stand : (settled : List KeptPage) (cars : Cars) (it : InProgress) (entries : OnePage) → IsKept settled it → IsFound it → next_page cars (progress_seen settled it) ≡ Some (PartPage entries) → AllByRecursion IsPlaced it.cars.items
all_stand settled cars it entries kept found next = placed_by settled cars it entries kept found next (slice_get it.cars.items it.placed) refl

-- which page it is
record IsPartAt (progress : Progress) (entries : OnePage) : Type 0 where
  pub before : ℕ
  pub left_is : catalog_left progress ≡ suc before
  pub entries_are : slice_index_or (parts_of progress) before [] ≡ entries

part_left : (progress : Progress) (entries : OnePage) (left : ℕ) → catalog_left progress ≡ left → part_before left progress ≡ Some (PartPage entries) → IsPartAt progress entries
part_left progress entries zero is part = absurd cc
part_left progress entries (suc before) is part = record { before = before; left_is = is; entries_are = cc }

part_is : (settled : List KeptPage) (cars : Cars) (it : InProgress) (entries : OnePage) → IsKept settled it → IsFound it → next_page cars (progress_seen settled it) ≡ Some (PartPage entries) → IsPartAt (progress_seen settled it) entries
part_is settled cars it entries kept found next =
    let placed = all_stand settled cars it entries kept found next in
    let none = none_open (map (car_seen settled) it.cars.items) (all_placed settled it.cars.items kept.within placed) in
    part_left (progress_seen settled it) entries (catalog_left (progress_seen settled it)) refl (sym (ap (next_after cars (progress_seen settled it)) none) ∙ next)

module _ (settled : List KeptPage) (cars : Cars) (it new : InProgress) (entries : OnePage) (page : ℕ) (digest : List ℕ) (kept : IsKept settled it) (found : IsFound it)
    (next : next_page cars (progress_seen settled it) ≡ Some (PartPage entries)) (is : digest ≡ sha256 (text_of (progress_seen settled it) (PartPage entries))) (some : 0 < page)
    (counts : (front : List ℕ) (count : ℕ) → it.counts.items ≡ front ++ count ∷ [] → new.counts.items ≡ front)
    (parts : new.parts.items ≡ it.parts.items ++ page ∷ []) (room : vec_capacity new.parts ≡ vec_capacity it.parts)
    (rest : new ≡ record it { counts = new.counts; parts = new.parts; digest = digest; kept = true }) where
  abbrev was : Progress
  was = progress_seen settled it

  abbrev after : InProgress
  after = record it { counts = new.counts; parts = new.parts; digest = digest; kept = true }

  abbrev then_seen : Progress
  then_seen = progress_seen settled after

  at : IsPartAt was entries
  at = part_is settled cars it entries kept found next

  placed : AllByRecursion IsPlaced it.cars.items
  placed = all_stand settled cars it entries kept found next

  turned : reverse new.parts.items ≡ page ∷ reverse it.parts.items
  turned = ap reverse parts ∙ reverse-append it.parts.items (page ∷ [])

  one_more : length (reverse new.parts.items) ≡ suc (length (reverse it.parts.items))
  one_more = ap (λ (pages : List ℕ). length pages) turned

  left_then : catalog_left then_seen ≡ at.before
  left_then = let left = at.left_is in let more = one_more in omega (arith, left, more)

  -- the numbers of entries
  numbers : length (counts_of was) ≡ catalog_len was
  numbers = length-map (cut (map draft_entry was.cars ++ roots_of was)) (λ (page : OnePage). length page)

  split_counts : it.counts.items ≡ take at.before (counts_of was) ++ get_or (counts_of was) at.before 0 ∷ []
  split_counts =
      let left = at.left_is in
      let len = numbers in
      let more : catalog_left was ≡ at.before + 1 = omega (arith, left) in
      kept.counts ∙ ap (λ (n : ℕ). take n (counts_of was)) more ∙ take_more (counts_of was) at.before 0 (omega (arith, left, len))

  counts_then : new.counts.items ≡ take at.before (counts_of was)
  counts_then = counts (take at.before (counts_of was)) (get_or (counts_of was) at.before 0) split_counts

  -- the digest
  parts_there : at.before < length (parts_of was)
  parts_there =
      let left = at.left_is in
      let len = len_is was in
      let same : length (parts_of was) ≡ length (cut (entries_in was)) = ap (λ (pages : List OnePage). length pages) (parts_are was (all_placed settled it.cars.items kept.within placed)) in
      omega (arith, left, len, same)

  next_entries : drop at.before (parts_of was) ≡ entries ∷ drop (catalog_left was) (parts_of was)
  next_entries =
      let left = at.left_is in
      let more : at.before + 1 ≡ catalog_left was = omega (arith, left) in
      drop_more (parts_of was) at.before [] parts_there
      ∙ ap (λ (first : OnePage). first ∷ drop (at.before + 1) (parts_of was)) at.entries_are
      ∙ ap (λ (n : ℕ). entries ∷ drop n (parts_of was)) more

  catalog_then : catalog_of then_seen ≡ record { page = page; entries = entries } ∷ catalog_of was
  catalog_then =
      ap (λ (pages : List ℕ). paired pages (drop (catalog_left then_seen) (parts_of was))) turned
      ∙ ap (λ (n : ℕ). paired (page ∷ reverse it.parts.items) (drop n (parts_of was))) left_then
      ∙ ap (paired (page ∷ reverse it.parts.items)) next_entries

  pub part_kept : IsKept settled new
  part_kept =
      let left = at.left_is in
      let more = one_more in
      let room_was = kept.parts_room in
      let parts_len = ap (λ (parts : List ℕ). length parts) parts ∙ length-append it.parts.items (page ∷ []) in
      let counts_len = ap (λ (ns : List ℕ). length ns) split_counts ∙ length-append (take at.before (counts_of was)) (get_or (counts_of was) at.before 0 ∷ []) in
      let counts_now = ap (λ (ns : List ℕ). length ns) counts_then in
      subst (IsKept settled) (sym rest) (record {
        placed = kept.placed;
        within = kept.within;
        counts = counts_then ∙ ap (λ (n : ℕ). take n (counts_of was)) (sym left_then);
        last = record { few = omega (arith, left, more); placed = λ some. none_left (map (car_seen settled) it.cars.items) (all_placed settled it.cars.items kept.within placed); kept = λ some. refl };
        digest = is ∙ sym (ap (λ catalog. digest_of (chain_of catalog)) catalog_then);
        pages = subst (AllByRecursion (λ (page : ℕ). 0 < page)) (sym parts) (all_both (λ (page : ℕ). 0 < page) it.parts.items (page ∷ []) kept.pages (some, tt));
        parts_room = omega (arith, room_was, parts_len, counts_len, counts_now, room);
        empty = kept.empty;
        cars_room = kept.cars_room;
      })
