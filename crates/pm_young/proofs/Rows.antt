-- Rows, one after another.
use Rattle.std.proofs.Common.{◌≡◌, ℕ, zero, suc, ◌+◌, ◌<◌, ◌≤◌, Bool, true, false, if◌then◌else◌, nat_eq, List, [], ◌∷◌, ◌++◌, length, take, get_or, Option, Some, None, Result, Ok, Err, IfOk, OnOk, refl, sym, ap, subst, ◌∙◌, arith}
use Rattle.std.specs.FinMap.{get}
use Rattle.std.specs.List.{slice_get}
use Rattle.std.proofs.lemmas.Bool.Decides.{nat_tests}
use Rattle.std.proofs.lemmas.List.{length-take-le, take_all, take_more}
use Rattle.std.proofs.lemmas.Map.Keys.{below_from_sorted, sorted_tail}
use Rattle.std.proofs.lemmas.Option.{get_or_from_slice_get, slice_get_within}
use Rattle.std.specs.Ordering.{nat_cmp}
use Rattle.pm_types.specs.declared.address.Addr.{Addr}
use Rattle.pm_types.specs.declared.no_memory.NoMemory.{NoMemory}
use Rattle.pm_types.specs.declared.source.RefSource.TheVariants.{Handle}
use Rattle.pm_model.specs.Heap.{Object, Heap}
use Rattle.pm_model.specs.World.{Registers}
use Rattle.pm_view.specs.View.{SpaceView}
use Rattle.pm_view.specs.Rows.{spread}
use Rattle.pm_mutate.specs.Commands.Births.{IsBornAt}
use Rattle.pm_mutate.specs.Young.{admitted}
use Rattle.pm_nursery.specs.Escaping.{IsAscending}
use Rattle.pm_nursery.specs.Young.{NurseryView}
use Rattle.pm_young.specs.Rows.{AreBorn, AreNowHeld, ComeByRows, IsBornBlank, IsNowHeld, fields_of, placed_among, with_all_links, with_holders, with_link, with_links}
use Rattle.pm_young.proofs.Listed.{itself}

-- ---- births

pub born_more : (v u w : SpaceView) (objects : Heap) (xs : List ℕ) (ps : List Addr) (id : ℕ) (place : Addr) → AreBorn v objects xs ps u → IsBornBlank u id (get objects id) place w → AreBorn v objects (xs ++ id ∷ []) (ps ++ place ∷ []) w
born_more v u w objects [] [] id place same born = (w, subst (λ (x : SpaceView). IsBornBlank x id (get objects id) place w) same born, refl)
born_more v u w objects [] (p ∷ ps) id place never born = absurd never
born_more v u w objects (x ∷ xs) [] id place never born = absurd never
born_more v u w objects (x ∷ xs) (p ∷ ps) id place is born = (is.0, is.1, born_more is.0 u w objects xs ps id place is.2 born)

pub born_next : (v u w : SpaceView) (objects : Heap) (ids : List ℕ) (i : ℕ) (places pushed : List Addr) (place : Addr) → i < length ids → pushed ≡ places ++ place ∷ []
    → AreBorn v objects (take i ids) places u → IsBornBlank u (get_or ids i 0) (get objects (get_or ids i 0)) place w → AreBorn v objects (take (i + 1) ids) pushed w
born_next v u w objects ids i places pushed place inside put so_far born =
    subst (λ (ps : List Addr). AreBorn v objects (take (i + 1) ids) ps w) (sym put)
    (subst (λ (xs : List ℕ). AreBorn v objects xs (places ++ place ∷ []) w) (sym (take_more ids i 0 inside)) (born_more v u w objects (take i ids) places (get_or ids i 0) place so_far born))

-- the object that was found is born
pub born_if : (r : Result Addr NoMemory) (v w : SpaceView) (id count : ℕ) (bytes : List ℕ) (o : Option Object) (object : Object) → Some object ≡ o → count ≡ length object.fields → bytes ≡ object.bytes
    → IfOk r (λ place. IsBornAt v (admitted id count bytes) (place, w)) → IfOk r (λ place. IsBornBlank v id o place w)
born_if (Ok place) v w id count bytes o object found many same born =
    subst (λ (x : Option Object). IsBornBlank v id x place w) found
    (subst (λ (n : ℕ). IsBornAt v (admitted id n object.bytes) (place, w)) many (subst (λ (b : List ℕ). IsBornAt v (admitted id count b) (place, w)) same born))
born_if (Err e) v w id count bytes o object found many same born = tt

-- ---- places

apart_first : (first to : ℕ) → first < to → nat_eq first to ≡ false
apart_first first to less = grind (arith, nat_tests, less)

pub placed_is : (ids : List ℕ) (places : List Addr) (id : ℕ) (place : Addr) (at : ℕ) → IsAscending ids → slice_get ids at ≡ Some id → slice_get places at ≡ Some place → placed_among ids places id ≡ Some place
placed_is [] places id place at up is there = absurd (cc is)
placed_is (first ∷ ids) [] id place at up is there = absurd (cc there)
placed_is (first ∷ ids) (one ∷ places) id place zero up is there =
    let same : first ≡ id = cc is in
    let here : one ≡ place = cc there in
    ap (λ (b : Bool). if b then Some one else placed_among ids places id) (subst (λ n. nat_eq first n ≡ true) same (itself first)) ∙ ap Some here
placed_is (first ∷ ids) (one ∷ places) id place (suc at) up is there =
    let less : first < id = subst (λ n. first < n) (get_or_from_slice_get ids at id 0 is) (below_from_sorted (first ∷ ids) 0 (suc at) 0 up (omega arith) (slice_get_within (first ∷ ids) (suc at) id is)) in
    ap (λ (b : Bool). if b then Some one else placed_among ids places id) (apart_first first id less) ∙ placed_is ids places id place at (sorted_tail nat_cmp first ids up) is there

-- ---- fields

links_more : (v : SpaceView) (placed : ℕ → Option Addr) (at : Addr) (n : ℕ) (xs : List (Option ℕ)) (f : Option ℕ) → with_links v placed at n (xs ++ f ∷ []) ≡ with_link (with_links v placed at n xs) placed at (n + length xs) f
links_more v placed at n [] f = let same : n ≡ n + 0 = omega arith in ap (λ (m : ℕ). with_link v placed at m f) same
links_more v placed at n (x ∷ xs) f =
    let same : n + 1 + length xs ≡ n + length (x ∷ xs) = omega arith in
    links_more (with_link v placed at n x) placed at (n + 1) xs f ∙ ap (λ (m : ℕ). with_link (with_links (with_link v placed at n x) placed at (n + 1) xs) placed at m f) same

pub links_next : (v u w : SpaceView) (placed : ℕ → Option Addr) (at : Addr) (fields : List (Option ℕ)) (n : ℕ) (value : Option ℕ) → slice_get fields n ≡ Some value
    → u ≡ with_links v placed at 0 (take n fields) → w ≡ with_link u placed at n value → w ≡ with_links v placed at 0 (take (n + 1) fields)
links_next v u w placed at fields n value is so_far next =
    let inside = slice_get_within fields n value is in
    let many : 0 + length (take n fields) ≡ n = (let few = length-take-le n fields (omega (arith, inside)) in omega (arith, few)) in
    let one : take (n + 1) fields ≡ take n fields ++ value ∷ [] = take_more fields n None inside ∙ ap (λ (f : Option ℕ). take n fields ++ f ∷ []) (get_or_from_slice_get fields n value None is) in
    next ∙ ap (λ (x : SpaceView). with_link x placed at n value) so_far
    ∙ ap (λ (m : ℕ). with_link (with_links v placed at 0 (take n fields)) placed at m value) (sym many)
    ∙ sym (links_more v placed at 0 (take n fields) value)
    ∙ ap (with_links v placed at 0) (sym one)

pub links_all : (v u : SpaceView) (placed : ℕ → Option Addr) (at : Addr) (fields : List (Option ℕ)) (n : ℕ) → length fields ≤ n → u ≡ with_links v placed at 0 (take n fields) → u ≡ with_links v placed at 0 fields
links_all v u placed at fields n few so_far = so_far ∙ ap (with_links v placed at 0) (take_all n fields few)

all_links_more : (v : SpaceView) (objects : Heap) (placed : ℕ → Option Addr) (xs : List ℕ) (ps : List Addr) (id : ℕ) (place : Addr) → length xs ≡ length ps
    → with_all_links v objects placed (xs ++ id ∷ []) (ps ++ place ∷ []) ≡ with_links (with_all_links v objects placed xs ps) placed place 0 (fields_of (get objects id))
all_links_more v objects placed [] [] id place many = refl
all_links_more v objects placed [] (p ∷ ps) id place many = absurd (omega (arith, many))
all_links_more v objects placed (x ∷ xs) [] id place many = absurd (omega (arith, many))
all_links_more v objects placed (x ∷ xs) (p ∷ ps) id place many = all_links_more (with_links v placed p 0 (fields_of (get objects x))) objects placed xs ps id place (omega (arith, many))

pub all_links_next : (v u w : SpaceView) (objects : Heap) (placed : ℕ → Option Addr) (ids : List ℕ) (places : List Addr) (i : ℕ) (d : Addr) → i < length ids → length places ≡ length ids
    → u ≡ with_all_links v objects placed (take i ids) (take i places) → w ≡ with_links u placed (get_or places i d) 0 (fields_of (get objects (get_or ids i 0)))
    → w ≡ with_all_links v objects placed (take (i + 1) ids) (take (i + 1) places)
all_links_next v u w objects placed ids places i d inside many so_far next =
    let within : i < length places = subst (λ n. i < n) (sym many) inside in
    let as_many : length (take i ids) ≡ length (take i places) = length-take-le i ids (omega (arith, inside)) ∙ sym (length-take-le i places (omega (arith, within))) in
    next ∙ ap (λ (x : SpaceView). with_links x placed (get_or places i d) 0 (fields_of (get objects (get_or ids i 0)))) so_far
    ∙ sym (all_links_more v objects placed (take i ids) (take i places) (get_or ids i 0) (get_or places i d) as_many)
    ∙ (λ j. with_all_links v objects placed (sym (take_more ids i 0 inside) j) (sym (take_more places i d within) j))

pub all_links_all : (v u : SpaceView) (objects : Heap) (placed : ℕ → Option Addr) (ids : List ℕ) (places : List Addr) (i : ℕ) → length ids ≤ i → length places ≡ length ids
    → u ≡ with_all_links v objects placed (take i ids) (take i places) → u ≡ with_all_links v objects placed ids places
all_links_all v u objects placed ids places i few many so_far =
    so_far ∙ (λ j. with_all_links v objects placed (take_all i ids few j) (take_all i places (subst (λ n. n ≤ i) (sym many) few) j))

-- ---- registers

pub holders_more : (v : SpaceView) (at : Addr) (hs : List (ℕ × (ℕ × ℕ))) (h : ℕ × (ℕ × ℕ)) → with_holders v at (hs ++ h ∷ []) ≡ spread (with_holders v at hs) (Handle h.1.0 h.1.1) (Some at)
holders_more v at [] h = refl
holders_more v at (x ∷ hs) h = holders_more (spread v (Handle x.1.0 x.1.1) (Some at)) at hs h

held_rows_more : (v u w : SpaceView) (registers : Registers) (xs : List ℕ) (ps : List Addr) (id : ℕ) (place : Addr) → AreNowHeld v registers xs ps u → IsNowHeld u registers id place w → AreNowHeld v registers (xs ++ id ∷ []) (ps ++ place ∷ []) w
held_rows_more v u w registers [] [] id place same held = (w, subst (λ (x : SpaceView). IsNowHeld x registers id place w) same held, refl)
held_rows_more v u w registers [] (p ∷ ps) id place never held = absurd never
held_rows_more v u w registers (x ∷ xs) [] id place never held = absurd never
held_rows_more v u w registers (x ∷ xs) (p ∷ ps) id place is held = (is.0, is.1, held_rows_more is.0 u w registers xs ps id place is.2 held)

pub held_rows_next : (v u w : SpaceView) (registers : Registers) (ids : List ℕ) (places : List Addr) (i : ℕ) (d : Addr) → i < length ids → length places ≡ length ids
    → AreNowHeld v registers (take i ids) (take i places) u → IsNowHeld u registers (get_or ids i 0) (get_or places i d) w → AreNowHeld v registers (take (i + 1) ids) (take (i + 1) places) w
held_rows_next v u w registers ids places i d inside many so_far held =
    let within : i < length places = subst (λ n. i < n) (sym many) inside in
    subst (λ (ps : List Addr). AreNowHeld v registers (take (i + 1) ids) ps w) (sym (take_more places i d within))
    (subst (λ (xs : List ℕ). AreNowHeld v registers xs (take i places ++ get_or places i d ∷ []) w) (sym (take_more ids i 0 inside))
    (held_rows_more v u w registers (take i ids) (take i places) (get_or ids i 0) (get_or places i d) so_far held))

pub held_rows_all : (v u : SpaceView) (registers : Registers) (ids : List ℕ) (places : List Addr) (i : ℕ) → length ids ≤ i → length places ≡ length ids → AreNowHeld v registers (take i ids) (take i places) u → AreNowHeld v registers ids places u
held_rows_all v u registers ids places i few many so_far =
    subst (λ (ps : List Addr). AreNowHeld v registers ids ps u) (take_all i places (subst (λ n. n ≤ i) (sym many) few)) (subst (λ (xs : List ℕ). AreNowHeld v registers xs (take i places) u) (take_all i ids few) so_far)

-- ---- all three

pub come_by_rows : {A E : Type 0} (r : Result A E) (v u w x : SpaceView) (nursery : NurseryView) (ids : List ℕ) (places : List Addr) → AreBorn v nursery.objects ids places u
    → w ≡ with_all_links u nursery.objects (placed_among ids places) ids places → OnOk r (AreNowHeld w nursery.registers ids places x) → OnOk r (ComeByRows v nursery ids x)
come_by_rows (Ok a) v u w x nursery ids places born links held = record {
  places = places;
  admitted = u;
  born = born;
  held = subst (λ (y : SpaceView). AreNowHeld y nursery.registers ids places x) links held;
}
come_by_rows (Err e) v u w x nursery ids places born links held = tt
