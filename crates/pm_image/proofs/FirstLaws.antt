-- What a store stands for after its first checkpoint.
use Rattle.std.proofs.Common.{◌≡◌, ℕ, suc, ◌<◌, Bool, true, false, cond, not, ◌&&◌, nat_lt, nat_le, List, [], ◌∷◌, Option, Some, None, Ok, refl, sym, ap, subst, ◌∙◌, arith, lit≤}
use Rattle.std.specs.Prelude.{codes}
use Rattle.std.specs.FinSet as set
use Rattle.std.specs.FinSet.{contains-empty, contains-insert}
use Rattle.std.specs.FinMap.{get, insert, empty, len, values, get-empty, get-insert}
use Rattle.std.specs.Ordering.{nat_cmp, eq_by_cmp}
use Rattle.std.specs.Cmp.{nat_cmp_total}
use Rattle.std.proofs.lemmas.List.{length-replicate}
use Rattle.std.proofs.lemmas.Bool.{eqb-true}
use Rattle.sha2.specs.Sha256.{sha256}
use Rattle.sha2.proofs.Facts256.{length-sha256}
use Rattle.pm_types.specs.declared.limits.TheConstants.{FIELDS}
use Rattle.pm_model.specs.Heap.{Object, Heap}
use Rattle.pm_model.specs.World.{Roots}
use Rattle.pm_types.specs.Orders.{name_cmp}
use Rattle.pm_model.specs.Copying.{reached}
use Rattle.pm_types.proofs.Orders.{names_total}
use Rattle.pm_model.proofs.Unused.{tied_nat}
use Rattle.pm_model.proofs.Members.{is_value}
use Rattle.pm_model.proofs.Reached.{IsFrom, reached_whole, same_count}
use Rattle.pm_image.specs.declared.settled.KeptPage.{KeptPage}
use Rattle.pm_image.specs.CarPages.{CarScope, car_at}
use Rattle.pm_image.specs.CatalogPages.{Met, nothing_met, catalog_at}
use Rattle.pm_image.specs.Opening.{current, page_of, page_count}
use Rattle.pm_image.specs.Graphs.{Pages, Graph, on_page, catalog_from, catalog_of, cars_from, linked, graph_of, copy_of}
use Rattle.pm_image.specs.Stands.{pages_of, StandsForCopy}
use Rattle.pm_image.specs.First.{first_bytes, first_car, first_car_page, first_catalog, first_catalog_page, first_header, first_copy}
use Rattle.pm_types.proofs.Results.{bound}
use Rattle.pm_image.proofs.FrameLaws.{opened_as}
use Rattle.pm_image.proofs.CarAgain.{car_again}
use Rattle.pm_image.proofs.CatalogAgain.{catalog_again}
use Rattle.pm_image.proofs.BlankLaws.{kept_page}

-- what was met where a catalog begins that begins on page 4
abbrev pub begun : Met
begun = record nothing_met { pages = set.insert set.empty 4 }

page_3_is_new : set.contains (set.insert (set.empty {R = nat_cmp}) 4) 3 ≡ false
page_3_is_new = contains-insert nat_cmp_total (set.empty {R = nat_cmp}) 4 3 ∙ contains-empty nat_cmp 3

below : (a b : ℕ) → a < b → nat_lt a b ≡ true
below a b lt = grind (arith)

page_3_is_free : (count : ℕ) → 4 < count → (nat_le 2 3 && (nat_lt 3 count && not (set.contains (set.insert (set.empty {R = nat_cmp}) 4) 3))) ≡ true
page_3_is_free count many =
    ap (λ (b : Bool). nat_lt 3 count && not b) page_3_is_new ∙ ap (λ (b : Bool). b && true) (below 3 count (omega (arith, many)))

pub catalog_is_read : (count : ℕ) (bytes : List ℕ) → 4 < count → bytes ≡ first_catalog_page → catalog_at (Some count) begun bytes ≡ Ok first_catalog
unfolding first_catalog_page
catalog_is_read count bytes many is =
    ap (catalog_at (Some count) begun) is
    ∙ catalog_again (Some count) begun first_catalog
    (record {
      fits = lit≤ tt;
      next = refl;
      next_digest = refl;
      entries = (
        record { before_roots = refl; numbered = omega arith; other = contains-empty nat_cmp 1; in_order = omega arith; free = page_3_is_free count many },
        (
          record { named = record { some = omega arith; short = lit≤ tt; each = (refl, tt) }; in_order = refl; left = refl; has_car = omega arith },
          tt,
        ),
      );
    })
    (record {
      next = lit≤ tt;
      digest = length-replicate {A = ℕ} 32 0;
      entries = ((lit≤ tt, lit≤ tt, lit≤ tt, length-sha256 first_car_page), (record { car = lit≤ tt; slot = lit≤ tt }, tt));
    })

first_chain : (n : ℕ) (pages : Pages) → 4 < pages.count → pages.page 4 ≡ first_catalog_page → catalog_from (suc n) pages begun 4 (sha256 first_catalog_page) ≡ Ok ((4, first_catalog) ∷ [])
unfolding catalog_from
first_chain n pages many is =
    bound _ _ tt _ (kept_page pages 4 first_catalog_page is)
    (bound _ _ first_catalog _ (ap (on_page 4) (catalog_is_read pages.count (pages.page 4) many is)) refl)

-- what the car is read against
scope : CarScope
scope = record { most = FIELDS; next = 2; number = Some 1 }

car_is_read : (bytes : List ℕ) → bytes ≡ first_car_page → car_at scope set.empty bytes ≡ Ok first_car
unfolding first_car_page scope
car_is_read bytes is =
    car_again scope set.empty bytes first_car (lit≤ tt)
    (record {
      fits = lit≤ tt;
      ascend = (omega arith, lit≤ tt, tt);
      free = (contains-empty nat_cmp 1, tt);
      slots = (record { within = (lit≤ tt, lit≤ tt); numbered = (omega arith, (tt, (tt, tt))) }, tt);
    })
    (record { number = lit≤ tt; slots = ((lit≤ tt, (tt, (tt, tt))), tt) })
    refl is

first_kept : KeptPage
first_kept = record { image = first_car; page = 3; digest = sha256 first_car_page }

first_cars : (pages : Pages) → pages.page 3 ≡ first_car_page → cars_from FIELDS 2 pages set.empty first_catalog.entries ≡ Ok (first_kept ∷ [])
unfolding cars_from first_kept scope
first_cars pages is =
    bound _ _ tt _ (kept_page pages 3 first_car_page is)
    (bound _ _ first_car _ (ap (on_page 3) (car_is_read (pages.page 3) is)) refl)

first_graph : Graph
first_graph = record { catalog = (4, first_catalog) ∷ []; cars = first_kept ∷ [] }

graph_is_first : (pages : Pages) → 4 < pages.count → pages.page 3 ≡ first_car_page → pages.page 4 ≡ first_catalog_page → graph_of pages first_header ≡ Ok first_graph
unfolding graph_of linked first_graph first_kept
graph_is_first pages many is_car is_catalog =
    bound (catalog_of pages first_header) _ ((4, first_catalog) ∷ []) _ (first_chain 18446744073709551614 pages many is_catalog)
    (bound (cars_from FIELDS 2 pages set.empty first_catalog.entries) _ (first_kept ∷ []) _ (first_cars pages is_car) refl)

-- the root reaches the only object
first_heap : Heap
first_heap = insert empty 1 (record { fields = None ∷ None ∷ []; bytes = first_bytes })

first_roots : Roots
first_roots = insert empty (codes "a") 1

cond_none : {X : Type 0} (b : Bool) (x y : X) → cond b (Some x) None ≡ Some y → b ≡ true
cond_none true x y is = refl
cond_none false x y is = cc

is_named : get first_roots (codes "a") ≡ Some 1
unfolding first_roots
is_named = get-insert names_total (empty {R = name_cmp}) (codes "a") 1 (codes "a")

only_first : (id : ℕ) (object : Object) → get first_heap id ≡ Some object → id ≡ 1
unfolding first_heap
only_first id object is =
    eqb-true id 1 (sym (tied_nat id 1) ∙ cond_none (eq_by_cmp nat_cmp id 1) (record { fields = None ∷ None ∷ []; bytes = first_bytes }) object
    (ap (λ (rest : Option Object). cond (eq_by_cmp nat_cmp id 1) (Some (record { fields = None ∷ None ∷ []; bytes = first_bytes })) rest) (sym (get-empty nat_cmp id))
    ∙ sym (get-insert nat_cmp_total (empty {R = nat_cmp}) 1 (record { fields = None ∷ None ∷ []; bytes = first_bytes }) id) ∙ is))

all_reached : reached (len first_heap) first_heap (values first_roots) ≡ first_heap
all_reached =
    reached_whole (len first_heap) first_heap (values first_roots) (same_count (len first_heap))
    (λ id object is. subst (IsFrom first_heap (values first_roots)) (sym (only_first id object is)) (1, [], is_value names_total first_roots (codes "a") 1 is_named, refl))

copy_is_first : first_copy ≡ copy_of 2 first_graph
unfolding first_graph first_kept first_heap first_roots
copy_is_first = ap (λ (heap : Heap). record { heap = heap; roots = first_roots; next = 2 }) (sym all_reached)

-- bytes with the header, the car and the catalog of a first checkpoint stand for its copy
pub first_stands : (bytes : List ℕ) (slot : ℕ) → current bytes ≡ Ok (record { slot = slot; header = first_header }) → 4 < page_count bytes
    → page_of bytes 3 ≡ first_car_page → page_of bytes 4 ≡ first_catalog_page → StandsForCopy bytes 1 first_copy
unfolding first_graph
first_stands bytes slot is_current many is_car is_catalog =
    record {
      found = record { current = record { slot = slot; header = first_header }; graph = first_graph };
      is_found = opened_as bytes (record { slot = slot; header = first_header }) first_graph is_current (graph_is_first (pages_of bytes) many is_car is_catalog);
      is_number = refl;
      is_copy = copy_is_first;
    }
