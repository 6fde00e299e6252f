-- How many pages of a copy are left to be written.
use Rattle.std.proofs.Common.{◌≡◌, ℕ, ◌+◌, ◌<◌, ◌≤◌, Bool, true, false, List, [], ◌∷◌, ◌++◌, length, map, take, get_or, if◌then◌else◌, refl, sym, ap, ◌∙◌, arith}
use Rattle.std.proofs.lemmas.List.{length-map, length-take, take_more}
use Rattle.pm_image.specs.declared.settled.KeptPage.{KeptPage}
use Rattle.pm_copies.specs.Cutting.{OnePage, cut}
use Rattle.pm_saving.specs.Progress.{catalog_left, draft_entry, roots_of}
use Rattle.pm_saving.specs.Paging.{is_unwritten, left, unwritten}
use Rattle.pm_save.specs.declared.progress.place.PlacedCar.{PlacedCar}
use Rattle.pm_save.specs.declared.progress.place.InProgress.{InProgress}
use Rattle.pm_save.specs.Progress.Seen.{car_seen, place_seen, progress_seen}
use Rattle.pm_save.specs.Progress.Kept.{IsKept, counts_of, is_open, open_count}
use Rattle.pm_save.proofs.ProgressLemmas.Placed.{Within, same_open}

abbrev pub one_of : Bool → ℕ
one_of b = if b then 1 else 0

open_both : (xs ys : List PlacedCar) → open_count (xs ++ ys) ≡ open_count xs + open_count ys
open_both [] ys = let none : 0 + open_count ys ≡ open_count ys = omega arith in sym none
open_both (one ∷ xs) ys =
    let rest = open_both xs ys in
    let all : one_of (is_open one.place) + open_count (xs ++ ys) ≡ (one_of (is_open one.place) + open_count xs) + open_count ys = omega (arith, rest) in
    all

-- one car more
open_more : (cars : List PlacedCar) (i : ℕ) (d : PlacedCar) → i < length cars → open_count (take (i + 1) cars) ≡ open_count (take i cars) + one_of (is_open (get_or cars i d).place)
open_more cars i d low =
    let last : one_of (is_open (get_or cars i d).place) + 0 ≡ one_of (is_open (get_or cars i d).place) = omega arith in
    ap open_count (take_more cars i d low) ∙ open_both (take i cars) (get_or cars i d ∷ []) ∙ ap (λ (n : ℕ). open_count (take i cars) + n) last

pub open_then : (cars : List PlacedCar) (i : ℕ) (one : PlacedCar) → i < length cars → one ≡ get_or cars i one → open_count (take (i + 1) cars) ≡ open_count (take i cars) + one_of (is_open one.place)
open_then cars i one low is = open_more cars i one low ∙ ap (λ (it : PlacedCar). open_count (take i cars) + one_of (is_open it.place)) (sym is)

at_most : (b : Bool) → one_of b ≤ 1
at_most true = omega arith
at_most false = omega arith

pub open_few : (cars : List PlacedCar) → open_count cars ≤ length cars
open_few [] = omega arith
open_few (one ∷ cars) = let rest = open_few cars in let here = at_most (is_open one.place) in omega (arith, rest, here)

open_seen : (settled : List KeptPage) (cars : List PlacedCar) → Within settled cars → open_count cars ≡ unwritten (map (car_seen settled) cars)
open_seen settled [] within = refl
open_seen settled (one ∷ cars) within =
    ap (λ (b : Bool). one_of b + open_count cars) (sym (same_open settled one.place within.0)) ∙ ap (λ (n : ℕ). one_of (is_unwritten (place_seen settled one.place)) + n) (open_seen settled cars within.1)

-- those of its cars and those of its catalog
pub left_is : (settled : List KeptPage) (it : InProgress) → IsKept settled it → open_count it.cars.items + length it.counts.items ≡ left (progress_seen settled it)
left_is settled it kept =
    let p = progress_seen settled it in
    let cars = open_seen settled it.cars.items kept.within in
    let many : length (counts_of p) ≡ length (cut (map draft_entry p.cars ++ roots_of p)) = length-map (cut (map draft_entry p.cars ++ roots_of p)) (λ (page : OnePage). length page) in
    let parts : length it.counts.items ≡ length (take (catalog_left p) (counts_of p)) = ap length kept.counts in
    let taken = length-take (catalog_left p) (counts_of p) in
    omega (arith, cars, many, parts, taken)
