-- What the readers of a page answer.
use Rattle.std.proofs.Common.{◌≡◌, ℕ, ◌+◌, ◌≤◌, Bool, false, List, ◌∷◌, ◌++◌, length, drop, Option, Some, None, Result, Ok, Err, refl, sym, ap, subst, ◌∙◌, if◌then◌else◌}
use Rattle.std.proofs.lemmas.List.{append-nil}
use Rattle.std.proofs.Math.ListN.{drop_of_length-le}
use Rattle.std.specs.Str.{bytes_eq}
use Rattle.sha2.specs.Sha256.{sha256}
use Rattle.pm_types.specs.declared.fault.OpenFault.{OpenFault}
use Rattle.pm_types.specs.declared.fault.OpenFault.TheVariants.{Damaged}
use Rattle.pm_image.specs.declared.fault.PageFault.{PageFault}
use Rattle.pm_image.specs.declared.fault.PageFault.TheVariants.{Malformed, Memory as NoPageMemory}
use Rattle.pm_image.specs.declared.car.CarImage.{CarImage}
use Rattle.pm_image.specs.declared.catalog.CatalogPage.{CatalogPage}
use Rattle.pm_image.specs.declared.settled.KeptPage.{KeptPage}
use Rattle.pm_image.specs.Answers.{Gives as PageGives}
use Rattle.pm_types.specs.Results.{◌>>=◌}
use Rattle.pm_image.specs.CarPages.{Numbers, car_at}
use Rattle.pm_image.specs.CarAnswers.{a_car}
use Rattle.pm_image.specs.CatalogPages.{Met, catalog_at}
use Rattle.pm_image.specs.declared.catalog.CatEntry.{CatEntry}
use Rattle.pm_image.specs.declared.catalog.CatEntry.TheVariants.{Car, Root}
use Rattle.pm_image.specs.Graphs.{Pages as Store, Catalog, undamaged, on_page, entries_of, cars_from, with_identities}
use Rattle.pm_types.proofs.Fronts.{with_front, regroup}
use Rattle.pm_types.proofs.Results.{ok_same, bind_ok, bound, err_same}
use Rattle.pm_graphs.specs.declared.fault.ReadFault.{ReadFault}
use Rattle.pm_graphs.proofs.Faults.{fails_too, first_fails, then_fails}
use Rattle.pm_graphs.specs.Reading.{of_page, Fails, link_at, car_on, entry_car, with_car, car_list}

-- a page of another digest is damaged
pub other_digest : (store : Store) (page : ℕ) (kept bytes found : List ℕ) → bytes ≡ store.page page → found ≡ sha256 bytes → bytes_eq kept found ≡ false → undamaged store page kept ≡ Err (Damaged page kept found)
other_digest store page kept bytes found is digest other =
    let same : sha256 (store.page page) ≡ found = ap sha256 (sym is) ∙ sym digest in
    ap (λ (f : List ℕ). if bytes_eq kept f then Ok tt else Err (Damaged page kept f)) same ∙ ap (λ (b : Bool). if b then Ok tt else Err (Damaged page kept found)) other

-- a fault in a page
pub page_fails : {A : Type 0} (fault : PageFault) (page : ℕ) (read : Result A ℕ) → PageGives {X = A} (Err fault) read → Fails {X = A} (of_page page fault) (on_page page read)
page_fails (Malformed at) page read is = ap (on_page page) is
page_fails (NoPageMemory _) page read is = tt

pub link_kept : (store : Store) (met : Met) (page : ℕ) (kept : List ℕ) (fault : ReadFault) → Fails {X = Unit {0}} fault (undamaged store page kept) → Fails {X = CatalogPage} fault (link_at store met page kept)
unfolding link_at
link_kept store met page kept fault is = first_fails fault (undamaged store page kept) _ is

pub link_page : (store : Store) (met : Met) (page : ℕ) (kept bytes : List ℕ) (count : ℕ) (u : Unit {0}) (fault : PageFault) → undamaged store page kept ≡ Ok u → bytes ≡ store.page page → count ≡ store.count
    → PageGives {X = CatalogPage} (Err fault) (catalog_at (Some count) met bytes) → Fails {X = CatalogPage} (of_page page fault) (link_at store met page kept)
unfolding link_at
link_page store met page kept bytes count u fault is read counted given =
    then_fails (of_page page fault) (undamaged store page kept) u _ is
    (page_fails fault page (catalog_at (Some store.count) met (store.page page)) (rw (← read, ← counted) given))

pub link_read : (store : Store) (met : Met) (page : ℕ) (kept bytes : List ℕ) (count : ℕ) (u : Unit {0}) (found : CatalogPage) → undamaged store page kept ≡ Ok u → bytes ≡ store.page page → count ≡ store.count
    → catalog_at (Some count) met bytes ≡ Ok found → link_at store met page kept ≡ Ok found
unfolding link_at
link_read store met page kept bytes count u found is read counted given =
    bound (undamaged store page kept) _ u _ is (ap (on_page page) ((λ i. catalog_at (Some (sym counted i)) met (sym read i)) ∙ given))

pub car_kept : (most next : ℕ) (store : Store) (met : Numbers) (number page : ℕ) (kept : List ℕ) (fault : ReadFault) → Fails {X = Unit {0}} fault (undamaged store page kept) → Fails {X = KeptPage} fault (car_on most next store met number page kept)
unfolding car_on
car_kept most next store met number page kept fault is = first_fails fault (undamaged store page kept) _ is

pub car_page : (most next : ℕ) (store : Store) (met : Numbers) (number page : ℕ) (kept bytes : List ℕ) (u : Unit {0}) (fault : PageFault) → undamaged store page kept ≡ Ok u → bytes ≡ store.page page
    → PageGives {X = CarImage} (Err fault) (car_at (a_car most next (Some number)) met bytes) → Fails {X = KeptPage} (of_page page fault) (car_on most next store met number page kept)
unfolding car_on
car_page most next store met number page kept bytes u fault is read given =
    then_fails (of_page page fault) (undamaged store page kept) u _ is
    (first_fails (of_page page fault) (on_page page (car_at (a_car most next (Some number)) met (store.page page))) _
    (page_fails fault page (car_at (a_car most next (Some number)) met (store.page page)) (rw (← read) given)))

pub car_read : (most next : ℕ) (store : Store) (met : Numbers) (number page : ℕ) (kept bytes : List ℕ) (u : Unit {0}) (image : CarImage) → undamaged store page kept ≡ Ok u → bytes ≡ store.page page
    → car_at (a_car most next (Some number)) met bytes ≡ Ok image → car_on most next store met number page kept ≡ Ok (record { image = image; page = page; digest = kept })
unfolding car_on
car_read most next store met number page kept bytes u image is read given =
    bound (undamaged store page kept) _ u _ is
    (bound (on_page page (car_at (a_car most next (Some number)) met (store.page page))) _ image _ (ap (on_page page) (ap (λ (b : List ℕ). car_at (a_car most next (Some number)) met b) (sym read) ∙ given)) refl)

-- ---- cars one after another

-- one of two steps failed
fails_chain : {A B C D F : Type 0} (first : Result A OpenFault) (second : Result B OpenFault) (f : B → C) (g : C → D) (rest : B → Result F OpenFault) (fault : OpenFault)
    → ((first >>= λ a. second >>= λ b. Ok (f b)) >>= λ c. Ok (g c)) ≡ Err fault → (first >>= λ a. second >>= rest) ≡ Err fault
fails_chain {A} {B} {C} {D} {F} (Err e) second f g rest fault is = ap (λ (e : OpenFault). Err e) (err_same {A = D} e fault is)
fails_chain {A} {B} {C} {D} {F} (Ok a) (Err e) f g rest fault is = ap (λ (e : OpenFault). Err e) (err_same {A = D} e fault is)
fails_chain (Ok a) (Ok b) f g rest fault is = cc

module _ (most next : ℕ) (store : Store) where
  cars_fault : (met : Numbers) (entry : CatEntry) (entries : List CatEntry) (fault : OpenFault) → entry_car most next store met entry ≡ Err fault → cars_from most next store met (entry ∷ entries) ≡ Err fault
  unfolding cars_from car_on
  cars_fault met (Root name at) entries fault is = cc
  cars_fault met (Car number train page digest) entries fault is =
      fails_chain (undamaged store page digest) (on_page page (car_at (a_car most next (Some number)) met (store.page page))) _ _ _ fault is

  -- the cars of entries are that of the first and those of the others
  cars_step : (met : Numbers) (entry : CatEntry) (entries : List CatEntry) (car : Option KeptPage) (front : List KeptPage) → entry_car most next store met entry ≡ Ok car
      → with_front front (cars_from most next store met (entry ∷ entries)) ≡ with_front (front ++ car_list car) (cars_from most next store (with_car met car) entries)
  unfolding cars_from car_on
  cars_step met (Root name at) entries car front is =
      let same : None ≡ car = ok_same {A = Option KeptPage} None car is in
      subst (λ (c : Option KeptPage). with_front front (cars_from most next store met entries) ≡ with_front (front ++ car_list c) (cars_from most next store (with_car met c) entries)) same
      (ap (λ (f : List KeptPage). with_front f (cars_from most next store met entries)) (sym (append-nil front)))
  cars_step met (Car number train page digest) entries car front is =
      let one = bind_ok (car_on most next store met number page digest) _ car is in
      let two = bind_ok (undamaged store page digest) _ one.0 one.1 in
      let three = bind_ok (on_page page (car_at (a_car most next (Some number)) met (store.page page))) _ one.0 two.2 in
      let kept : KeptPage = record { image = three.0; page = page; digest = digest } in
      let same_kept : kept ≡ one.0 = ok_same kept one.0 three.2 in
      let same : Some one.0 ≡ car = ok_same {A = Option KeptPage} (Some one.0) car one.2 in
      subst (λ (c : Option KeptPage). with_front front (cars_from most next store met (Car number train page digest ∷ entries)) ≡ with_front (front ++ car_list c) (cars_from most next store (with_car met c) entries)) (ap Some same_kept ∙ same)
      (ap (with_front front) (bound (undamaged store page digest) _ two.0 _ two.1 (bound (on_page page (car_at (a_car most next (Some number)) met (store.page page))) _ three.0 _ three.1 refl))
      ∙ regroup front kept (cars_from most next store (with_identities met three.0.slots) entries))

  cars_fail : (met : Numbers) (entry : CatEntry) (entries : List CatEntry) (front : List KeptPage) (fault : ReadFault) → Fails {X = Option KeptPage} fault (entry_car most next store met entry)
      → Fails {X = List KeptPage} fault (with_front front (cars_from most next store met (entry ∷ entries)))
  cars_fail met entry entries front fault is =
      fails_too {A = Option KeptPage} {B = List KeptPage} fault (entry_car most next store met entry) (with_front front (cars_from most next store met (entry ∷ entries)))
      (λ e failed. ap (with_front front) (cars_fault met entry entries e failed)) is

  -- one entry more was read
  pub cars_on : (met : Numbers) (all rest : List CatEntry) (i : ℕ) (entry : CatEntry) (car : Option KeptPage) (front : List KeptPage) (total : Result (List KeptPage) OpenFault)
      → drop i all ≡ entry ∷ drop (i + 1) all → entry_car most next store met entry ≡ Ok car → with_front front (cars_from most next store met (drop i all ++ rest)) ≡ total
      → with_front (front ++ car_list car) (cars_from most next store (with_car met car) (drop (i + 1) all ++ rest)) ≡ total
  cars_on met all rest i entry car front total here is so_far =
      sym (cars_step met entry (drop (i + 1) all ++ rest) car front is) ∙ ap (λ (es : List CatEntry). with_front front (cars_from most next store met (es ++ rest))) (sym here) ∙ so_far

  pub cars_end : (met : Numbers) (all rest : List CatEntry) (i : ℕ) (entry : CatEntry) (front : List KeptPage) (fault : ReadFault) (total : Result (List KeptPage) OpenFault)
      → drop i all ≡ entry ∷ drop (i + 1) all → Fails {X = Option KeptPage} fault (entry_car most next store met entry) → with_front front (cars_from most next store met (drop i all ++ rest)) ≡ total
      → Fails {X = List KeptPage} fault total
  cars_end met all rest i entry front fault total here is so_far =
      subst (λ (r : Result (List KeptPage) OpenFault). Fails {X = List KeptPage} fault r) (ap (λ (es : List CatEntry). with_front front (cars_from most next store met (es ++ rest))) (sym here) ∙ so_far)
      (cars_fail met entry (drop (i + 1) all ++ rest) front fault is)

  -- the entries of a page were read: those behind them are left
  pub page_done : (met : Numbers) (all rest : List CatEntry) (i : ℕ) (front : List KeptPage) (total : Result (List KeptPage) OpenFault) → length all ≤ i
      → with_front front (cars_from most next store met (drop i all ++ rest)) ≡ total → with_front front (cars_from most next store met rest) ≡ total
  page_done met all rest i front total le so_far = ap (λ (es : List CatEntry). with_front front (cars_from most next store met (es ++ rest))) (sym (drop_of_length-le all le)) ∙ so_far

  -- the pages of a catalog, one after another
  pub pages_on : (met after : Numbers) (all : Catalog) (i : ℕ) (page : ℕ × CatalogPage) (front done : List KeptPage) (total : Result (List KeptPage) OpenFault) → drop i all ≡ page ∷ drop (i + 1) all
      → with_front done (cars_from most next store after (entries_of (drop (i + 1) all))) ≡ with_front front (cars_from most next store met (page.1.entries ++ entries_of (drop (i + 1) all)))
      → with_front front (cars_from most next store met (entries_of (drop i all))) ≡ total
      → with_front done (cars_from most next store after (entries_of (drop (i + 1) all))) ≡ total
  pages_on met after all i page front done total here is so_far =
      is ∙ ap (λ (c : Catalog). with_front front (cars_from most next store met (entries_of c))) (sym here) ∙ so_far

  pub pages_end : (met : Numbers) (all : Catalog) (i : ℕ) (page : ℕ × CatalogPage) (front : List KeptPage) (fault : ReadFault) (total : Result (List KeptPage) OpenFault) → drop i all ≡ page ∷ drop (i + 1) all
      → Fails {X = List KeptPage} fault (with_front front (cars_from most next store met (page.1.entries ++ entries_of (drop (i + 1) all))))
      → with_front front (cars_from most next store met (entries_of (drop i all))) ≡ total → Fails {X = List KeptPage} fault total
  pages_end met all i page front fault total here is so_far =
      subst (λ (r : Result (List KeptPage) OpenFault). Fails {X = List KeptPage} fault r) (ap (λ (c : Catalog). with_front front (cars_from most next store met (entries_of c))) (sym here) ∙ so_far) is

  pub pages_done : (met : Numbers) (all : Catalog) (i : ℕ) (front : List KeptPage) (total : Result (List KeptPage) OpenFault) → length all ≤ i
      → with_front front (cars_from most next store met (entries_of (drop i all))) ≡ total → total ≡ Ok front
  unfolding cars_from
  pages_done met all i front total le so_far =
      sym so_far ∙ ap (λ (c : Catalog). with_front front (cars_from most next store met (entries_of c))) (drop_of_length-le all le) ∙ ap Ok (append-nil front)
