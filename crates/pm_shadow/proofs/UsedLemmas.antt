-- The pages that a graph stands on.
use Rattle.std.proofs.Common.{◌≡◌, ◌⊎◌, inl, inr, ⊎_elim, ℕ, zero, suc, Bool, true, false, List, [], ◌∷◌, map, Some, Ok, refl, subst}
use Rattle.std.specs.Prelude.{Contains, ◌==◌, if◌then◌else◌}
use Rattle.std.specs.FinSet as set
use Rattle.std.proofs.lemmas.List.Elements.{Contains-append_left}
use Rattle.std.proofs.lemmas.Bool.{eqb-true, eq-eqb}
use Rattle.pm_layout.specs.declared.header.Header.{Header}
use Rattle.pm_layout.specs.Headers.{most_fields}
use Rattle.pm_types.proofs.Results.{ok_same, bind_ok}
use Rattle.pm_model.proofs.Members.{at_first, in_rest, in_none, first_or_rest}
use Rattle.pm_image.specs.declared.catalog.CatalogPage.{CatalogPage}
use Rattle.pm_image.specs.declared.settled.KeptPage.{KeptPage}
use Rattle.pm_image.specs.CatalogPages.{Met, catalog_at, meeting_page}
use Rattle.pm_image.specs.Graphs.{images_of, Pages, Graph, Catalog, undamaged, on_page, catalog_from, catalog_of, most_pages, entries_of, cars_from, linked, sites_of, graph_of, used_pages}

-- a number is in a list or not
pub in_or_not : (xs : List ℕ) (x : ℕ) → Contains xs x ⊎ (Contains xs x → ⊥)
in_or_not [] x = inr (in_none x)
in_or_not (y ∷ xs) x = by (y == x) refl (in_or_not xs x)
  where
    by : (b : Bool) → (y == x) ≡ b → (Contains xs x ⊎ (Contains xs x → ⊥)) → Contains (y ∷ xs) x ⊎ (Contains (y ∷ xs) x → ⊥)
    by true here rest = inl (subst (λ (z : ℕ). Contains (y ∷ xs) z) (eqb-true y x here) (at_first y xs))
    by false other (inl there) = inl (in_rest y x xs there)
    by false other (inr not_there) = inr (λ found. ⊎_elim (λ (same : y ≡ x). let same_test : (y == x) ≡ true = eq-eqb y x same in absurd (cc (other, same_test))) not_there (first_or_rest y x xs found))

-- the pages of a catalog
abbrev chain_pages : Catalog → List ℕ
chain_pages catalog = map (λ (page : ℕ × CatalogPage). page.0) catalog

begins : (n : ℕ) (store : Pages) (met : Met) (page : ℕ) (kept : List ℕ) (catalog : Catalog) → catalog_from n store met page kept ≡ Ok catalog → Contains (chain_pages catalog) page
unfolding catalog_from
begins zero store met page kept catalog is = cc
begins (suc n) store met page kept catalog is =
    let one = bind_ok (undamaged store page kept) _ catalog is in
    let two = bind_ok (on_page page (catalog_at (Some store.count) met (store.page page))) _ catalog one.2 in
    let three = bind_ok (if two.0.next == 0 then Ok [] else catalog_from n store (meeting_page met two.0) two.0.next two.0.digest) _ catalog two.2 in
    subst (λ (c : Catalog). Contains (chain_pages c) page) (ok_same {A = Catalog} ((page, two.0) ∷ three.0) catalog three.2) (at_first page (chain_pages three.0))

-- the first page of a graph is the one that the header names
pub graph_first : (store : Pages) (header : Header) (graph : Graph) → graph_of store header ≡ Ok graph → Contains (used_pages graph) header.first
unfolding graph_of
graph_first store header graph is =
    let one = bind_ok (catalog_of store header) _ graph is in
    let two = bind_ok (cars_from (most_fields header.version) header.next store set.empty (entries_of one.0)) _ graph one.2 in
    let three = bind_ok (linked (images_of two.0) (sites_of one.0 two.0)) _ graph two.2 in
    let made : Graph = record { catalog = one.0; cars = two.0 } in
    subst (λ (g : Graph). Contains (used_pages g) header.first) (ok_same made graph three.2)
    (Contains-append_left (chain_pages one.0) (map (λ (kept : KeptPage). kept.page) two.0) header.first (begins most_pages store _ header.first header.digest one.0 one.1))
