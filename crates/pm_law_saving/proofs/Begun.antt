-- A copy of a list, and so of a space, begins beside the settled one.
use Rattle.std.proofs.Common.{◌≡◌, ◌⊎◌, inl, inr, ⊎_elim, ◌↔◌, ℕ, ◌<◌, ◌≤◌, ◌^◌, ◌==◌, Bool, true, false, nat_le, nat_lt, ◌&&◌, List, [], ◌∷◌, ◌++◌, length, drop, map, Contains, Option, Some, None, refl, sym, ap, subst, ◌∙◌, arith, if◌then◌else◌}
use Rattle.std.specs.List.{AllByRecursion, flat_map}
use Rattle.std.specs.FinMap.{entries, get}
use Rattle.std.proofs.lemmas.Bool.Decides.{nat_tests}
use Rattle.std.proofs.lemmas.Option.{same_Some, none-some}
use Rattle.pm_types.specs.Names.{IsName}
use Rattle.pm_types.specs.declared.address.Addr.{Addr}
use Rattle.pm_cars.specs.Cars.{Car}
use Rattle.pm_model.proofs.Members.{at_first, first_or_rest, in_none, in_rest}
use Rattle.pm_layout.specs.declared.header.Header.{Header}
use Rattle.pm_image.specs.declared.car.CarImage.{CarImage}
use Rattle.pm_image.specs.declared.catalog.CatEntry.{CatEntry}
use Rattle.pm_image.specs.declared.settled.KeptPage.{KeptPage}
use Rattle.pm_image.specs.CarAnswers.{AreBytes}
use Rattle.pm_image.specs.Graphs.{Graph}
use Rattle.pm_image.specs.Opening.{is_placed, page_count}
use Rattle.pm_image.specs.Stands.{pages_of}
use Rattle.pm_shadow.specs.declared.page_use.PageUse.TheVariants.{Claimed, Kept}
use Rattle.pm_shadow.specs.State.{State}
use Rattle.pm_shadow.specs.Copies.{KeepsGraph}
use Rattle.pm_view.specs.View.{Cars, SpaceView}
use Rattle.pm_view.specs.Law.{HeapLaw}
use Rattle.pm_view.specs.Reading.{is_aside}
use Rattle.pm_copies.specs.Listed.{Listed, copy_in, copy_listed, image_in, listed, listed_car, listed_of, root_entries, root_entry as root_listed}
use Rattle.pm_copies.specs.Accepted.{IsAccepted}
use Rattle.pm_copies.specs.Opened.{unnumbered}
use Rattle.pm_law_copies.proofs.Accepting.{accepted}
use Rattle.pm_copies.specs.Apart.{AreApart, times}
use Rattle.pm_copies.specs.Entries.{ListedCar}
use Rattle.pm_copies.specs.Spelled.{Spells, listed_as}
use Rattle.pm_law_copies.proofs.GraphsLemmas.Found.{bytes_whole, graph_spelled}
use Rattle.pm_law_copies.proofs.GraphsLemmas.Lists.{all_both}
use Rattle.pm_law_copies.proofs.GraphsLemmas.Sets.{once}
use Rattle.pm_copies.specs.Plans.{root_entry}
use Rattle.pm_saving.specs.Progress.{Place, Clean, Unwritten, Written, PlacedCar, Progress, Saving, catalog_left, copy_of, image_at, image_of, in_list, list_of, parts_of, roots_of, slots_of}
use Rattle.pm_saving.specs.Paging.{Put, car_put, clean_pages, kept_pages, puts_of}
use Rattle.pm_saving.specs.Beginning.{AreFrozen, ArePlaced, Begins, BeginsListed, IsCarNumbered, IsInProgress, IsPlacedAs, StandsAs, settled_at}
use Rattle.pm_saving.specs.Tied.{AreItsPages, AreSettled, IsBegun, IsPut, IsTied}
use Rattle.pm_law_saving.proofs.Growing.{no_parts, places, written_cars}

-- ---- the settled cars of a copy have numbers of their own

placed : (count : ℕ) (header : Header) → 2 ≤ header.first → header.first < count → is_placed count header ≡ true
placed count header low high =
    let from_2 : nat_le 2 header.first ≡ true = grind (arith, low) in
    let below : nat_lt header.first count ≡ true = grind (arith, high) in
    λ i. from_2 i && below i

-- the pages of the current copy spell it
pub keeps_spelled : (s : State) (bytes : List ℕ) (graph : Graph) → AreBytes bytes → s.settled ≤ page_count bytes → KeepsGraph s bytes graph → Spells (pages_of bytes) s.header graph
keeps_spelled s bytes graph fits grown keeps =
    let first = keeps.kept s.header.first keeps.first in
    let below = first.settled in
    graph_spelled (pages_of bytes) s.header graph (bytes_whole bytes fits) (placed (page_count bytes) s.header first.from_2 (omega (arith, below, grown))) keeps.found

-- the numbers of cars
abbrev pub numbers : List KeptPage → List ℕ
numbers cars = map (λ (kept : KeptPage). kept.image.number) cars

numbers_listed : (cars : List KeptPage) → map (λ (car : ListedCar). car.number) (map listed_as cars) ≡ numbers cars
numbers_listed [] = refl
numbers_listed (kept ∷ cars) = ap (λ (rest : List ℕ). kept.image.number ∷ rest) (numbers_listed cars)

graph_apart : (s : State) (bytes : List ℕ) (graph : Graph) → Spells (pages_of bytes) s.header graph → AreApart (numbers graph.cars)
graph_apart s bytes graph spells =
    subst AreApart (sym (ap (map (λ (car : ListedCar). car.number)) spells.listed) ∙ numbers_listed graph.cars) spells.entries.numbers_apart

pub settled_apart : (settled : List KeptPage) (s : State) (bytes : List ℕ) → AreBytes bytes → s.settled ≤ page_count bytes → AreSettled settled s bytes → AreApart (numbers settled)
settled_apart settled s bytes fits grown are =
    subst (λ (cars : List KeptPage). AreApart (numbers cars)) are.cars (graph_apart s bytes are.graph (keeps_spelled s bytes are.graph fits grown are.keeps))

-- the first car of a number is a settled one
pub settled_in : (number : ℕ) (settled : List KeptPage) (kept : KeptPage) → settled_at number settled ≡ Some kept → Contains settled kept
settled_in number [] kept is = absurd (none-some kept is)
settled_in number (first ∷ others) kept is = by (first.image.number == number) is (settled_in number others kept)
  where
    by : (b : Bool) → (if b then Some first else settled_at number others) ≡ Some kept → (settled_at number others ≡ Some kept → Contains others kept) → Contains (first ∷ others) kept
    by true is rest = subst (Contains (first ∷ others)) (same_Some first kept is) (at_first first others)
    by false is rest = in_rest first kept others (rest is)

number_in : (settled : List KeptPage) (kept : KeptPage) → Contains settled kept → 1 ≤ times kept.image.number (numbers settled)
number_in [] kept within = absurd (in_none kept within)
number_in (first ∷ others) kept within =
    ⊎_elim
    (λ (same : first ≡ kept).
    let self : (kept.image.number == kept.image.number) ≡ true = grind (arith, nat_tests) in
    let here : once (first.image.number == kept.image.number) ≡ 1 = ap (λ (k : KeptPage). once (k.image.number == kept.image.number)) same ∙ ap once self in
    omega (arith, here))
    (λ there. let rest = number_in others kept there in omega (arith, rest)) (first_or_rest first kept others within)

-- and where numbers are apart it is the only one
pub settled_found : (settled : List KeptPage) (kept : KeptPage) → AreApart (numbers settled) → Contains settled kept → settled_at kept.image.number settled ≡ Some kept
settled_found [] kept apart within = absurd (in_none kept within)
settled_found (first ∷ others) kept apart within =
    by (first.image.number == kept.image.number) refl (λ there. settled_found others kept (λ number. let all = apart number in omega (arith, all)) there) (first_or_rest first kept others within)
  where
    by : (b : Bool) → (first.image.number == kept.image.number) ≡ b → (Contains others kept → settled_at kept.image.number others ≡ Some kept) → (first ≡ kept) ⊎ Contains others kept
        → (if b then Some first else settled_at kept.image.number others) ≡ Some kept
    by true is rest (inl same) = ap Some same
    by true is rest (inr there) =
        let all = apart kept.image.number in
        let twice = number_in others kept there in
        let here : once (first.image.number == kept.image.number) ≡ 1 = ap once is in
        absurd (omega (arith, all, twice, here))
    by false is rest (inl same) =
        let self : (kept.image.number == kept.image.number) ≡ true = grind (arith, nat_tests) in
        let test : (first.image.number == kept.image.number) ≡ true = ap (λ (k : KeptPage). k.image.number == kept.image.number) same ∙ self in
        absurd (cc (is, test))
    by false is rest (inr there) = rest there

-- a car is clean exactly where some page of the current copy has its content
pub clean_exactly : (settled : List KeptPage) (s : State) (bytes : List ℕ) (image : CarImage) (place : Place) → AreBytes bytes → s.settled ≤ page_count bytes → AreSettled settled s bytes → IsPlacedAs settled image place
    → (place ≡ Unwritten) ↔ ((kept : KeptPage) → Contains settled kept → kept.image ≡ image → ⊥)
clean_exactly settled s bytes image place fits grown are is = (forth, back place is)
  where
    forth : place ≡ Unwritten → (kept : KeptPage) → Contains settled kept → kept.image ≡ image → ⊥
    forth unwritten kept within same =
        let not_clean : IsPlacedAs settled image Unwritten = subst (IsPlacedAs settled image) unwritten is in
        let found = settled_found settled kept (settled_apart settled s bytes fits grown are) within in
        not_clean kept (subst (λ (image : CarImage). settled_at image.number settled ≡ Some kept) same found) same

    back : (place : Place) → IsPlacedAs settled image place → ((kept : KeptPage) → Contains settled kept → kept.image ≡ image → ⊥) → place ≡ Unwritten
    back (Clean kept) is none = absurd (none kept (settled_in image.number settled kept is.0) is.1)
    back Unwritten is none = refl
    back (Written kept) is none = absurd is

-- ---- the cars of the copy are those that are frozen

abbrev IsFrozen : Cars → Listed → Type 0
IsFrozen cars listed = listed.1 ≡ image_at cars listed.1.number

all_flat : {A B : Type 0} (P : B → Type 0) (f : A → List B) (xs : List A) → ((x : A) → AllByRecursion P (f x)) → AllByRecursion P (flat_map f xs)
all_flat P f [] each = tt
all_flat P f (x ∷ xs) each = all_both P (f x) (flat_map f xs) (each x) (all_flat P f xs each)

image_frozen : (cars : Cars) (train number : ℕ) (car : Option Car) → get cars number ≡ car → AllByRecursion (IsFrozen cars) (image_in train number car)
image_frozen cars train number None is = tt
image_frozen cars train number (Some car) is =
    (sym (ap (λ (car : Option Car). (record { number = number; slots = slots_of car })) is), tt)

car_frozen : (view : SpaceView) (train number : ℕ) → AllByRecursion (IsFrozen view.cars) (listed_car view train number)
car_frozen view train number = by (is_aside view number)
  where
    by : (aside : Bool) → AllByRecursion (IsFrozen view.cars) (if aside then [] else image_in train number (get view.cars number))
    by true = tt
    by false = image_frozen view.cars train number (get view.cars number) refl

pub all_frozen : (view : SpaceView) → AreFrozen view.cars (listed view)
all_frozen view = all_flat (IsFrozen view.cars) (listed_of view) view.trains.trains (λ train. all_flat (IsFrozen view.cars) (listed_car view train.number) train.cars (λ number. car_frozen view train.number number))

-- what a car that was placed holds is what is listed
placed_image : (cars : Cars) (first : Listed) (one : PlacedCar) → one.number ≡ first.1.number → IsFrozen cars first → image_of cars one ≡ first.1
placed_image cars first one number frozen = ap (λ (n : ℕ). (record { number = n; slots = slots_of (get cars n) })) number ∙ sym frozen

placed_list : (settled : List KeptPage) (cars : Cars) (list : List Listed) (placed : List PlacedCar) → ArePlaced settled list placed → AreFrozen cars list → map (in_list cars) placed ≡ list
placed_list settled cars [] [] are frozen = refl
placed_list settled cars [] (one ∷ placed) are frozen = absurd are
placed_list settled cars (first ∷ list) [] are frozen = absurd are
placed_list settled cars (first ∷ list) (one ∷ placed) are frozen =
    let image = placed_image cars first one are.1 frozen.0 in
    let rest = placed_list settled cars list placed are.3 frozen.1 in
    λ i. (are.0 i, image i) ∷ rest i

stands_placed : (settled : List KeptPage) (image frozen : CarImage) (place : Place) → IsPlacedAs settled image place → frozen ≡ image → StandsAs settled frozen place
stands_placed settled image frozen (Clean kept) is same = (settled_in image.number settled kept is.0, is.1 ∙ sym same)
stands_placed settled image frozen Unwritten is same = tt
stands_placed settled image frozen (Written kept) is same = absurd is

placed_stand : (settled : List KeptPage) (cars : Cars) (list : List Listed) (placed : List PlacedCar) → ArePlaced settled list placed → AreFrozen cars list
    → AllByRecursion (λ (one : PlacedCar). StandsAs settled (image_of cars one) one.place) placed
placed_stand settled cars [] [] are frozen = tt
placed_stand settled cars [] (one ∷ placed) are frozen = absurd are
placed_stand settled cars (first ∷ list) [] are frozen = absurd are
placed_stand settled cars (first ∷ list) (one ∷ placed) are frozen =
    (stands_placed settled first.1 (image_of cars one) one.place are.2 (placed_image cars first one are.1 frozen.0), placed_stand settled cars list placed are.3 frozen.1)

roots_same : (es : List (List ℕ × (ℕ × Addr))) → map root_entry (map unnumbered es) ≡ map root_listed es
roots_same [] = refl
roots_same (e ∷ es) = ap (λ (rest : List CatEntry). root_listed e ∷ rest) (roots_same es)

module _ (old new : Saving) (list : List Listed) (names : List (List ℕ × Addr)) (next number : ℕ) (cars : Cars) (frozen : AreFrozen cars list) (begins : BeginsListed old new list names next number) where
  begun_list : list_of cars begins.begun ≡ list
  begun_list = placed_list old.settled cars list begins.begun.cars begins.cars frozen

  begun_roots : roots_of begins.begun ≡ map root_entry names
  begun_roots = ap (map root_entry) begins.roots

  pub listed_copy : copy_of cars begins.begun ≡ copy_listed list (map root_entry names) next
  listed_copy = λ i. copy_listed (begun_list i) (begun_roots i) (begins.next_id i)

  begun_accepted : IsAccepted list (map root_entry names) next → IsAccepted (list_of cars begins.begun) (roots_of begins.begun) begins.begun.next_id
  begun_accepted accepted =
      subst (λ (list : List Listed). IsAccepted list (roots_of begins.begun) begins.begun.next_id) (sym begun_list)
      (subst (λ (roots : List CatEntry). IsAccepted list roots begins.begun.next_id) (sym begun_roots)
      (subst (IsAccepted list (map root_entry names)) (sym begins.next_id) accepted))

  begun_progress : IsAccepted list (map root_entry names) next → AllByRecursion IsCarNumbered begins.begun.cars → AllByRecursion (λ (root : List ℕ × Addr). IsName root.0) begins.begun.roots → number < 2 ^ 32
      → IsInProgress old.settled cars begins.begun
  begun_progress accepted numbered names small =
      let none : length begins.begun.parts ≡ 0 = ap length begins.parts in
      let is = begins.number_is in
      record {
        accepted = begun_accepted accepted;
        numbered = numbered;
        copy_number = omega (arith, small, is);
        names = names;
        stand = placed_stand old.settled cars list begins.begun.cars begins.cars frozen;
        catalog = record { few = omega (arith, none); placed = λ some. absurd (omega (arith, some, none)); kept = λ some. absurd (omega (arith, some, none)) };
      }

-- ---- nothing of it was written or kept

place_put : (settled : List KeptPage) (image : CarImage) (place : Place) → IsPlacedAs settled image place → car_put place ≡ []
place_put settled image (Clean kept) is = refl
place_put settled image Unwritten is = refl
place_put settled image (Written kept) is = absurd is

no_puts : (settled : List KeptPage) (list : List Listed) (placed : List PlacedCar) → ArePlaced settled list placed → written_cars placed ≡ []
no_puts settled [] [] are = refl
no_puts settled [] (one ∷ placed) are = absurd are
no_puts settled (first ∷ list) [] are = absurd are
no_puts settled (first ∷ list) (one ∷ placed) are =
    let here = place_put settled first.1 one.place are.2 in
    let rest = no_puts settled list placed are.3 in
    λ i. here i ++ rest i

none_begun : (settled : List KeptPage) (progress : Option Progress) (epoch : ℕ) → IsBegun settled progress None epoch → progress ≡ None
none_begun settled None epoch is = refl
none_begun settled (Some progress) epoch is = absurd is

begun_pages : (settled : List KeptPage) (list : List Listed) (begun : Progress) (s : State) (contents : Option (List ℕ)) → ArePlaced settled list begun.cars → begun.kept ≡ false → begun.parts ≡ []
    → AreItsPages None s contents → AreItsPages (Some begun) s contents
begun_pages settled list begun s contents placed unkept unwritten none =
    let cars = no_puts settled list begun.cars placed in
    let parts = no_parts begun.parts (drop (catalog_left begun) (parts_of begun)) unwritten in
    let puts : puts_of begun ≡ [] = λ i. cars i ++ parts i in
    let kept : kept_pages begun ≡ [] = ap (λ (b : Bool). if b then clean_pages begun else []) unkept in
    record {
      claimed = λ page is. absurd (in_none page (none.claimed page is));
      written = subst (AllByRecursion (λ (put : Put). s.uses put.0 ≡ Claimed)) (sym puts) tt;
      apart = subst (λ (puts : List Put). AreApart (places puts)) (sym puts) none.apart;
      read = subst (AllByRecursion (IsPut s contents)) (sym puts) tt;
      kept = λ page is. absurd (in_none page (none.kept page is));
      are_kept = subst (AllByRecursion (λ (page : ℕ). s.uses page ≡ Kept)) (sym kept) tt;
    }

-- ---- a copy of a list

pub listed_tied : (old new : Saving) (list : List Listed) (names : List (List ℕ × Addr)) (next number : ℕ) (cars : Cars) (s : State) (contents : Option (List ℕ)) → IsAccepted list (map root_entry names) next → AreFrozen cars list
    → (begins : BeginsListed old new list names next number) → AllByRecursion IsCarNumbered begins.begun.cars → AllByRecursion (λ (root : List ℕ × Addr). IsName root.0) begins.begun.roots
    → number < 2 ^ 32 → s.header.epoch < number → IsTied old None s contents → IsTied new (Some cars) s contents
listed_tied old new list names next number cars s contents accepted frozen begins numbered named small later tied =
    let is = begins.number_is in
    let made : IsTied (record { settled = old.settled; progress = Some begins.begun }) (Some cars) s contents = record {
      sound = tied.sound;
      known = tied.known;
      grown = tied.grown;
      current = tied.current;
      on_pages = tied.on_pages;
      pages = begun_pages old.settled list begins.begun s contents begins.cars begins.kept begins.parts
          (subst (λ (progress : Option Progress). AreItsPages progress s contents) (none_begun old.settled old.progress s.header.epoch tied.begun) tied.pages);
      begun = (begun_progress old new list names next number cars frozen begins accepted numbered named small, omega (arith, later, is));
    } in
    subst (λ (saving : Saving). IsTied saving (Some cars) s contents) (λ i. record { settled = sym begins.settled i; progress = sym begins.now i }) made

-- ---- a copy of a space is one of its list

abbrev names_of : SpaceView → List (List ℕ × Addr)
names_of view = map unnumbered (entries view.roots)

view_roots : (view : SpaceView) → map root_entry (names_of view) ≡ root_entries view
view_roots view = roots_same (entries view.roots)

-- and no rule refuses it
pub view_accepted : (view : SpaceView) → HeapLaw view → IsAccepted (listed view) (map root_entry (names_of view)) view.next
view_accepted view law = subst (λ (roots : List CatEntry). IsAccepted (listed view) roots view.next) (sym (view_roots view)) (accepted view law)

pub copy_begins : (old new : Saving) (view : SpaceView) (number : ℕ) → HeapLaw view → (begins : Begins old new view number) → copy_of view.cars begins.begun ≡ copy_in view
copy_begins old new view number law begins =
    listed_copy old new (listed view) (names_of view) view.next number view.cars (all_frozen view) begins
    ∙ ap (λ (roots : List CatEntry). copy_listed (listed view) roots view.next) (view_roots view)

pub begun_tied : (old new : Saving) (view : SpaceView) (number : ℕ) (s : State) (contents : Option (List ℕ)) → HeapLaw view → (begins : Begins old new view number) → AllByRecursion IsCarNumbered begins.begun.cars
    → AllByRecursion (λ (root : List ℕ × Addr). IsName root.0) begins.begun.roots → number < 2 ^ 32 → s.header.epoch < number → IsTied old None s contents → IsTied new (Some view.cars) s contents
begun_tied old new view number s contents law =
    listed_tied old new (listed view) (names_of view) view.next number view.cars s contents
    (view_accepted view law) (all_frozen view)
