-- What is cut at the edge of a page.
use Rattle.std.proofs.Common.{◌≡◌, ℕ, zero, suc, ◌+◌, ◌*◌, ◌<◌, ◌≤◌, List, [], ◌∷◌, ◌++◌, replicate, refl, sym, arith}
use Rattle.std.proofs.lemmas.List.{append-nil, length-replicate}
use Rattle.pm_types.specs.declared.limits.TheConstants.{PAGE_BYTES}
use Rattle.pm_image.specs.declared.catalog_kind.TheConstants.{ENTRIES, CAR_ENTRY_BYTES, ROOT_ENTRY_BYTES}
use Rattle.pm_image.specs.declared.catalog.CatEntry.{CatEntry}
use Rattle.pm_image.specs.CatalogPages.{catalog_used, entry_size}
use Rattle.pm_copies.specs.Cutting.{FitsAlone, cut}
use Rattle.pm_law_copies.specs.Layout.Examples.{a_car, a_root}
use Rattle.pm_law_copies.proofs.LayoutLemmas.Cutting.{one_cut}

one_page : (page : List CatEntry) → catalog_used page ≤ PAGE_BYTES → cut page ≡ page ∷ []
one_page page fits = sym (one_cut page (page ∷ []) (record { whole = append-nil page; fit = (fits, tt); filled = tt; some = omega arith }))

two_pages : (page : List CatEntry) (entry : CatEntry) → catalog_used page ≤ PAGE_BYTES → PAGE_BYTES < catalog_used page + entry_size entry → FitsAlone entry → cut (page ++ entry ∷ []) ≡ page ∷ (entry ∷ []) ∷ []
two_pages page entry fits full alone =
    sym (one_cut (page ++ entry ∷ []) (page ∷ (entry ∷ []) ∷ []) (record { whole = refl; fit = (fits, (alone, tt)); filled = (full, tt); some = omega arith }))

cars_used : (n : ℕ) → catalog_used (replicate n a_car) ≡ CAR_ENTRY_BYTES * n + ENTRIES
cars_used zero = refl
cars_used (suc n) = let rest = cars_used n in omega (arith, rest)

cars_and_root : (n bytes : ℕ) → catalog_used (replicate n a_car ++ a_root bytes ∷ []) ≡ CAR_ENTRY_BYTES * n + (ENTRIES + ROOT_ENTRY_BYTES + bytes)
cars_and_root zero bytes = omega (arith, length-replicate {A = ℕ} bytes 97)
cars_and_root (suc n) bytes = let rest = cars_and_root n bytes in omega (arith, rest)

pub only_cars : (n : ℕ) → CAR_ENTRY_BYTES * n + ENTRIES ≤ PAGE_BYTES → cut (replicate n a_car) ≡ replicate n a_car ∷ []
only_cars n fits = one_page (replicate n a_car) (let used = cars_used n in omega (arith, used, fits))

pub one_car_more : (n : ℕ) → CAR_ENTRY_BYTES * n + ENTRIES ≤ PAGE_BYTES → PAGE_BYTES < CAR_ENTRY_BYTES * n + (ENTRIES + CAR_ENTRY_BYTES) → cut (replicate n a_car ++ a_car ∷ []) ≡ replicate n a_car ∷ (a_car ∷ []) ∷ []
one_car_more n fits full = let used = cars_used n in two_pages (replicate n a_car) a_car (omega (arith, used, fits)) (omega (arith, used, full)) (omega arith)

pub with_root : (n bytes : ℕ) → CAR_ENTRY_BYTES * n + (ENTRIES + ROOT_ENTRY_BYTES + bytes) ≤ PAGE_BYTES → cut (replicate n a_car ++ a_root bytes ∷ []) ≡ (replicate n a_car ++ a_root bytes ∷ []) ∷ []
with_root n bytes fits = one_page (replicate n a_car ++ a_root bytes ∷ []) (let used = cars_and_root n bytes in omega (arith, used, fits))

pub then_root : (n bytes : ℕ) → CAR_ENTRY_BYTES * n + ENTRIES ≤ PAGE_BYTES → PAGE_BYTES < CAR_ENTRY_BYTES * n + (ENTRIES + ROOT_ENTRY_BYTES + bytes) → bytes ≤ 64 → cut (replicate n a_car ++ a_root bytes ∷ []) ≡ replicate n a_car ∷ (a_root bytes ∷ []) ∷ []
then_root n bytes fits full short =
    let used = cars_used n in
    let name = length-replicate {A = ℕ} bytes 97 in
    two_pages (replicate n a_car) (a_root bytes) (omega (arith, used, fits)) (omega (arith, used, full, name)) (omega (arith, name, short))
