-- What opening lists for a space to be built of.
use Rattle.std.proofs.Common.{◌≡◌, ℕ, zero, suc, ◌+◌, ◌<◌, ◌==◌, true, false, cond, List, [], ◌∷◌, ◌++◌, length, map, drop, get_or, Option, Some, None, refl, sym, ap, subst, ◌∙◌, append_assoc, if◌then◌else◌}
use Rattle.std.specs.List.{flat_map, AllByRecursion}
use Rattle.std.proofs.lemmas.List.{append-nil}
use Rattle.pm_types.specs.declared.address.Addr.{Addr}
use Rattle.pm_cars.specs.Cars.{Car, CarAndSpare, new_car}
use Rattle.pm_image.specs.declared.car.CarImage.{CarImage}
use Rattle.pm_image.specs.declared.catalog.CatEntry.{CatEntry}
use Rattle.pm_image.specs.declared.catalog.CatEntry.TheVariants as kinds
use Rattle.pm_image.specs.declared.settled.KeptPage.{KeptPage}
use Rattle.pm_image.specs.Graphs.{images_of}
use Rattle.pm_copies.specs.Listed.{Listed, images}
use Rattle.pm_copies.specs.Accepted.{IsAcceptedCar, root_in, roots_in}
use Rattle.pm_copies.specs.Opened.{has_object, listed_in, resolved_at}
use Rattle.pm_copies.specs.Built.{Placed, opened_placed, renumbered, renumbered_on, opening_cars, opening_roots}
use Rattle.pm_graphs.proofs.LinkingLaws.{AreAscending}
use Rattle.pm_graphs.proofs.Lists.{drop_here}
use Rattle.pm_reopen.specs.declared.opened_cars.LastTrain.{LastTrain}
use Rattle.pm_graphs.specs.Linking.{Leads, lead_cars, resolved_by}
use Rattle.pm_reopen.specs.Rebuild.Lists.{placed_of}
use Rattle.pm_reopen.specs.Listing.{opened_by, number_after, renumbered_after, listed_on, followed_root}
use Rattle.pm_reopen.specs.Making.{with_slots}
use Rattle.pm_reopen.proofs.RebuildLemmas.Ends.{map_both}
use Rattle.pm_reopen.proofs.LeadingLaws.{accepted_ascend, resolved_same}
use Rattle.pm_reopen.proofs.CarLaws as car

-- ---- a car more

-- a car's train gets its number, and those behind it go on from there
numbered_first : (last : Option LastTrain) (train : ℕ) (car : Car) (others : List Placed)
    → renumbered_after last ((train, car) ∷ others) ≡ (number_after last train, car) ∷ renumbered_after (Some (record { listed = train; number = number_after last train })) others
numbered_first None train car others = refl
numbered_first (Some last) train car others = elim (last.listed == train) as (λ b.
    (if b then (last.number, car) ∷ renumbered_on last.number train others else (last.number + 1, car) ∷ renumbered_on (last.number + 1) train others)
    ≡ ((if b then last.number else last.number + 1), car) ∷ renumbered_on (if b then last.number else last.number + 1) train others) [ true ↦ refl | false ↦ refl ]

-- a car without an object is passed by
pub none_more : (leads : Leads) (placed : List Placed) (last : Option LastTrain) (listed : Listed) (others : List Listed) → has_object listed.1.slots ≡ false → listed_on leads placed last others ≡ listed_on leads placed last (listed ∷ others)
none_more leads placed last listed others none =
    ap (λ b. placed ++ renumbered_after last (cond b ((listed.0, with_slots leads (new_car listed.1.number) listed.1.slots) ∷ []) [] ++ flat_map (opened_by leads) others)) (sym none)

-- another one comes behind those that were opened
pub one_more : (leads : Leads) (items : List (ℕ × CarAndSpare)) (last : Option LastTrain) (train number : ℕ) (image : CarImage) (car : CarAndSpare) (others : List Listed) → has_object image.slots ≡ true → number ≡ number_after last train
    → car.car ≡ with_slots leads (new_car image.number) image.slots
    → listed_on leads (map placed_of (items ++ (number, car) ∷ [])) (Some (record { listed = train; number = number })) others ≡ listed_on leads (map placed_of items) last ((train, image) ∷ others)
one_more leads items last train number image car others has is made =
    let rest : List Placed = flat_map (opened_by leads) others in
    let opened : Car = with_slots leads (new_car image.number) image.slots in
    ap (λ front. front ++ renumbered_after (Some (record { listed = train; number = number })) rest) (map_both placed_of items ((number, car) ∷ []))
    ∙ append_assoc (map placed_of items) ((number, car.car) ∷ []) (renumbered_after (Some (record { listed = train; number = number })) rest)
    ∙ (λ i. map placed_of items ++ (is i, made i) ∷ renumbered_after (Some (record { listed = train; number = is i })) rest)
    ∙ ap (λ more. map placed_of items ++ more) (sym (numbered_first last train opened rest))
    ∙ ap (λ b. map placed_of items ++ renumbered_after last (cond b ((train, opened) ∷ []) [] ++ rest)) (sym has)

-- none is left
pub none_left : (leads : Leads) (placed : List Placed) (last : Option LastTrain) → listed_on leads placed last [] ≡ placed
none_left leads placed None = append-nil placed
none_left leads placed (Some last) = append-nil placed

-- ---- the cars that entries list

-- where no car is left, none is listed
pub none_listed : (entries : List CatEntry) → listed_in entries [] ≡ []
none_listed [] = refl
none_listed (kinds.Root name at ∷ entries) = none_listed entries
none_listed (kinds.Car car train page digest ∷ entries) = refl

pub car_at : (cars : List KeptPage) (i : ℕ) (x : KeptPage) → i < length cars → x ≡ get_or cars i x → AllByRecursion IsAcceptedCar (images_of cars) → IsAcceptedCar x.image
car_at cars i x lt is all = (subst (λ (ks : List KeptPage). AllByRecursion IsAcceptedCar (images_of ks)) (drop_here cars i x lt is) (dropped cars i all)).0
  where
    dropped : (cars : List KeptPage) (i : ℕ) → AllByRecursion IsAcceptedCar (images_of cars) → AllByRecursion IsAcceptedCar (images_of (drop i cars))
    dropped [] zero all = tt
    dropped [] (suc i) all = tt
    dropped (kept ∷ cars) zero all = all
    dropped (kept ∷ cars) (suc i) all = dropped cars i all.1

-- ---- what a space is built of

module _ (kept : List KeptPage) (es : List CatEntry) (paired : images (listed_in es (images_of kept)) ≡ images_of kept) (accepted : AllByRecursion IsAcceptedCar (images (listed_in es (images_of kept)))) where
  ascending : AreAscending kept
  ascending = accepted_ascend kept (subst (AllByRecursion IsAcceptedCar) paired accepted)

  opened_same : (listed : List Listed) → AllByRecursion IsAcceptedCar (images listed) → flat_map (opened_by (lead_cars kept)) listed ≡ flat_map (opened_placed (images_of kept)) listed
  opened_same [] all = refl
  opened_same (one ∷ listed) all = λ i. cond (has_object one.1.slots) ((one.0, car.car_opened kept ascending one.1 all.0.ascend i) ∷ []) [] ++ opened_same listed all.1 i

  -- the cars are those that opening makes
  pub cars_listed : (leads : Leads) → leads ≡ lead_cars kept → listed_on leads [] None (listed_in es (images_of kept)) ≡ opening_cars (listed_in es (images_of kept))
  cars_listed leads are =
      ap (λ (l : Leads). renumbered (flat_map (opened_by l) (listed_in es (images_of kept)))) are
      ∙ ap renumbered (opened_same (listed_in es (images_of kept)) accepted)
      ∙ ap (λ (all : List CarImage). renumbered (flat_map (opened_placed all) (listed_in es (images_of kept)))) (sym paired)

  -- and so are the roots
  pub roots_listed : (leads : Leads) → leads ≡ lead_cars kept → map (followed_root leads) (roots_in es) ≡ opening_roots (listed_in es (images_of kept)) es
  roots_listed leads are = λ i. map (λ (root : List ℕ × Addr). (root.0, followed i root.1)) (roots_in es)
    where
      followed : ◌≡◌ {A = Addr → Addr} (resolved_by leads) (resolved_at (images (listed_in es (images_of kept))))
      followed = ap resolved_by are ∙ (λ i at. resolved_same kept ascending at i) ∙ ap resolved_at (sym paired)

-- ---- the roots that entries list

pub roots_more : (leads : Leads) (entry : CatEntry) (rest : List CatEntry) → map (followed_root leads) (roots_in (entry ∷ rest)) ≡ map (followed_root leads) (root_in entry) ++ map (followed_root leads) (roots_in rest)
roots_more leads entry rest = map_both (followed_root leads) (root_in entry) (roots_in rest)
