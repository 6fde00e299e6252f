-- The entries of a copy between two places.
use Rattle.std.proofs.Common.{◌≡◌, ℕ, ◌-◌, ◌≤◌, min, List, ◌++◌, length, map, sym, ap, ◌∙◌}
use Rattle.std.specs.List.{slice_range}
use Rattle.std.proofs.lemmas.List.{length-map}
use Rattle.pm_types.specs.declared.address.Addr.{Addr}
use Rattle.pm_image.specs.declared.catalog.CatEntry.{CatEntry}
use Rattle.pm_image.specs.declared.settled.KeptPage.{KeptPage}
use Rattle.pm_copies.specs.Plans.{root_entry}
use Rattle.pm_save.specs.declared.progress.place.PlacedCar.{PlacedCar}
use Rattle.pm_save.specs.declared.progress.place.InProgress.{InProgress}
use Rattle.pm_save.specs.Progress.Seen.{car_seen, progress_seen}
use Rattle.pm_save.specs.Progress.Entries.{entries_in, entry_of}
use Rattle.pm_save.proofs.ProgressLemmas.Slices.{slice_of_two, slice_map}

-- how many entries the cars have
entries_of_cars : (settled : List KeptPage) (cars : List PlacedCar) → length (map entry_of (map (car_seen settled) cars)) ≡ length cars
entries_of_cars settled cars = length-map (map (car_seen settled) cars) entry_of ∙ length-map cars (car_seen settled)

stretch_at : (settled : List KeptPage) (cars : List PlacedCar) (roots : List (List ℕ × Addr)) (from to n : ℕ) → from ≤ to → n ≡ length cars
    → slice_range (map entry_of (map (car_seen settled) cars) ++ map root_entry roots) from to
    ≡ map entry_of (map (car_seen settled) (slice_range cars (min from n) (min to n))) ++ map root_entry (slice_range roots (from - n) (to - n))
stretch_at settled cars roots from to n le is =
    let few : length (map entry_of (map (car_seen settled) cars)) ≡ n = entries_of_cars settled cars ∙ sym is in
    slice_of_two from to (map entry_of (map (car_seen settled) cars)) (map root_entry roots) le
    ∙ ap (λ (n : ℕ). slice_range (map entry_of (map (car_seen settled) cars)) (min from n) (min to n) ++ slice_range (map root_entry roots) (from - n) (to - n)) few
    ∙ ap (λ (front : List CatEntry). front ++ slice_range (map root_entry roots) (from - n) (to - n))
    (slice_map entry_of (min from n) (min to n) (map (car_seen settled) cars) ∙ ap (map entry_of) (slice_map (car_seen settled) (min from n) (min to n) cars))
    ∙ ap (λ (back : List CatEntry). map entry_of (map (car_seen settled) (slice_range cars (min from n) (min to n))) ++ back) (slice_map root_entry (from - n) (to - n) roots)

-- what is pushed between two places
pub stretch : (settled : List KeptPage) (it : InProgress) (from to n a b p q : ℕ) → from ≤ to → n ≡ length it.cars.items → a ≡ min from n → b ≡ min to n → p ≡ from - n → q ≡ to - n
    → map entry_of (map (car_seen settled) (slice_range it.cars.items a b)) ++ map root_entry (slice_range it.roots.items p q) ≡ slice_range (entries_in (progress_seen settled it)) from to
stretch settled it from to n a b p q le is a_is b_is p_is q_is =
    ap (λ (a : ℕ). map entry_of (map (car_seen settled) (slice_range it.cars.items a b)) ++ map root_entry (slice_range it.roots.items p q)) a_is
    ∙ ap (λ (b : ℕ). map entry_of (map (car_seen settled) (slice_range it.cars.items (min from n) b)) ++ map root_entry (slice_range it.roots.items p q)) b_is
    ∙ ap (λ (p : ℕ). map entry_of (map (car_seen settled) (slice_range it.cars.items (min from n) (min to n))) ++ map root_entry (slice_range it.roots.items p q)) p_is
    ∙ ap (λ (q : ℕ). map entry_of (map (car_seen settled) (slice_range it.cars.items (min from n) (min to n))) ++ map root_entry (slice_range it.roots.items (from - n) q)) q_is
    ∙ sym (stretch_at settled it.cars.items it.roots.items from to n le is)
