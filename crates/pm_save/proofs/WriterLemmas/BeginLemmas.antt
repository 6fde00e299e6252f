-- A copy that begins is kept as copies in progress are.
use Rattle.std.proofs.Common.{◌≡◌, ℕ, ◌^◌, ◌<◌, ◌≤◌, arith, refl, sym, ap, subst, ◌∙◌, List, [], ◌∷◌, ◌++◌, length, map, take, Option, Some, None}
use Rattle.std.specs.Prelude.{replicate, reverse, vec_capacity}
use Rattle.std.specs.List.{AllByRecursion}
use Rattle.std.proofs.lemmas.List.{take_all, length-map}
use Rattle.pm_image.specs.declared.settled.KeptPage.{KeptPage}
use Rattle.pm_types.specs.Names.{IsName}
use Rattle.pm_types.specs.declared.address.Addr.{Addr}
use Rattle.pm_shadow.specs.State.{State}
use Rattle.pm_view.specs.View.{Cars}
use Rattle.pm_copies.specs.Listed.{Listed, copy_listed}
use Rattle.pm_copies.specs.Accepted.{IsAccepted}
use Rattle.pm_saving.specs.Tied.{IsTied}
use Rattle.pm_copies.specs.Plans.{PlannedPage, chain_of, digest_of, root_entry}
use Rattle.pm_copies.specs.Cutting.{OnePage, cut}
use Rattle.pm_saving.specs.Progress.{Progress, Saving, copy_of, catalog_left, draft_entry, paired, roots_of}
use Rattle.pm_saving.specs.Beginning.{AreFrozen, ArePlaced, BeginsListed, IsCarNumbered}
use Rattle.pm_save.specs.declared.progress.place.PlacedCar.{PlacedCar}
use Rattle.pm_save.specs.declared.progress.place.InProgress.{InProgress}
use Rattle.pm_save.specs.Progress.Seen.{car_seen, progress_seen}
use Rattle.pm_save.specs.Progress.Kept.{IsPlaced, IsWithin, IsKept, counts_of}
use Rattle.pm_save.specs.Progress.Counted.{drafted, drafted_entries, lengths}
use Rattle.pm_save.specs.Writer.Planned.{IsPlanned, IsStarted}

drafts : (settled : List KeptPage) (cars : List PlacedCar) → map draft_entry (map (car_seen settled) cars) ≡ map drafted cars
drafts settled [] = refl
drafts settled (one ∷ cars) = ap (λ es. drafted one ∷ es) (drafts settled cars)

no_pages : (pages : List ℕ) (parts : List OnePage) → pages ≡ [] → paired pages parts ≡ []
no_pages [] parts is = refl
no_pages (page ∷ pages) parts is = absurd cc

-- nothing of it was written
pub kept_plan : (settled : List KeptPage) (it : InProgress) → it.placed ≡ 0 → AllByRecursion (λ (one : PlacedCar). IsWithin settled one.place) it.cars.items
    → it.counts.items ≡ lengths (cut (drafted_entries it.cars.items it.roots.items)) → it.parts.items ≡ [] → it.digest ≡ replicate 32 0 → length it.counts.items ≤ vec_capacity it.parts
    → it.room.items ≡ [] → length it.cars.items ≤ vec_capacity it.room → IsKept settled it
kept_plan settled it placed within counts parts digest parts_room room cars_room =
    let p = progress_seen settled it in
    let none : p.parts ≡ [] = ap reverse parts in
    let len : length p.parts ≡ 0 = ap length none in
    let entries : map draft_entry p.cars ++ roots_of p ≡ drafted_entries it.cars.items it.roots.items = ap (λ es. es ++ map root_entry it.roots.items) (drafts settled it.cars.items) in
    let all : it.counts.items ≡ counts_of p = counts ∙ ap (λ es. lengths (cut es)) (sym entries) in
    let many : length (counts_of p) ≡ length (cut (map draft_entry p.cars ++ roots_of p)) = length-map (cut (map draft_entry p.cars ++ roots_of p)) (λ (page : OnePage). length page) in
    record {
      placed = subst (λ n. AllByRecursion IsPlaced (take n it.cars.items)) (sym placed) tt;
      within = within;
      counts = all ∙ sym (take_all (catalog_left p) (counts_of p) (omega (arith, many, len)));
      last = record { few = omega (arith, len); placed = λ some. absurd (omega (arith, some, len)); kept = λ some. absurd (omega (arith, some, len)) };
      digest = digest ∙ ap (λ (pages : List PlannedPage). digest_of (chain_of pages)) (sym (no_pages p.parts _ none));
      pages = subst (AllByRecursion (λ (page : ℕ). 0 < page)) (sym parts) tt;
      parts_room = let written = ap length parts in omega (arith, written, parts_room);
      empty = room;
      cars_room = cars_room;
    }

module _ (settled : List KeptPage) (was : Option Progress) (list : List Listed) (names : List (List ℕ × Addr)) (next number : ℕ) (cars : List PlacedCar) (it : InProgress) (started : IsStarted cars names next number it)
    (planned : IsPlanned settled list cars) where
  -- and it begins
  pub begins : BeginsListed (record { settled = settled; progress = was }) (record { settled = settled; progress = Some (progress_seen settled it) }) list names next number
  begins = record {
    settled = refl;
    begun = progress_seen settled it;
    now = refl;
    number_is = started.number_is;
    cars = subst (λ (cars : List PlacedCar). ArePlaced settled list (map (car_seen settled) cars)) (sym started.cars) planned.placed;
    roots = started.roots;
    next_id = started.next_id;
    kept = started.kept;
    parts = ap reverse started.parts;
  }

  numbered : AllByRecursion IsCarNumbered (progress_seen settled it).cars
  numbered = subst (λ (cars : List PlacedCar). AllByRecursion IsCarNumbered (map (car_seen settled) cars)) (sym started.cars) planned.numbered

  -- it is the copy that is listed
  pub copied : (frozen : Cars)
      → ((old new : Saving) (list : List Listed) (names : List (List ℕ × Addr)) (next number : ℕ) (cars : Cars) → AreFrozen cars list → (begins : BeginsListed old new list names next number)
      → copy_of cars begins.begun ≡ copy_listed list (map root_entry names) next)
      → AreFrozen frozen list → copy_of frozen (progress_seen settled it) ≡ copy_listed list (map root_entry names) next
  unfolding begins
  copied frozen law are = law (record { settled = settled; progress = was }) (record { settled = settled; progress = Some (progress_seen settled it) }) list names next number frozen are begins

  -- and what holds between calls holds again
  pub tied : (frozen : Cars) (s : State) (contents : Option (List ℕ))
      → ((old new : Saving) (list : List Listed) (names : List (List ℕ × Addr)) (next number : ℕ) (cars : Cars) (s : State) (contents : Option (List ℕ)) → IsAccepted list (map root_entry names) next → AreFrozen cars list
      → (begins : BeginsListed old new list names next number) → AllByRecursion IsCarNumbered begins.begun.cars → AllByRecursion (λ (root : List ℕ × Addr). IsName root.0) begins.begun.roots
      → number < 2 ^ 32 → s.header.epoch < number → IsTied old None s contents → IsTied new (Some cars) s contents)
      → IsAccepted list (map root_entry names) next → AreFrozen frozen list → AllByRecursion (λ (root : List ℕ × Addr). IsName root.0) names → number < 2 ^ 32 → s.header.epoch < number
      → IsTied (record { settled = settled; progress = was }) None s contents → IsTied (record { settled = settled; progress = Some (progress_seen settled it) }) (Some frozen) s contents
  unfolding begins
  tied frozen s contents law accepted are named small later had =
      law (record { settled = settled; progress = was }) (record { settled = settled; progress = Some (progress_seen settled it) }) list names next number frozen s contents accepted are begins numbered
      (subst (AllByRecursion (λ (root : List ℕ × Addr). IsName root.0)) (sym started.roots) named) small later had
