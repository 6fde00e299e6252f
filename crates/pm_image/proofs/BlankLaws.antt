-- A store that has just been made stands for copy 0, of nothing.
use Rattle.std.proofs.Common.{◌≡◌, ℕ, suc, ◌-◌, ◌/◌, Bool, ◌==◌, ◌&&◌, nat_lt, List, [], ◌∷◌, ◌++◌, length, get_or, take, drop, replicate, Some, None, Ok, Err, refl, sym, ap, subst, ◌∙◌, arith, lit≤, length-append, if◌then◌else◌}
use Rattle.std.specs.FinMap.{empty, values, len-empty}
use Rattle.std.specs.Ordering.{nat_cmp}
use Rattle.std.proofs.lemmas.List.{length-replicate, get_or_append_left, get_or-append_right, get_or-replicate, append_assoc, take_all, take_at, drop_at}
use Rattle.std.proofs.lemmas.Slice.Eq.{bytes_eq-Decides}
use Rattle.sha2.specs.Sha256.{sha256}
use Rattle.sha2.proofs.Facts256.{length-sha256}
use Rattle.pm_types.specs.declared.limits.TheConstants.{PAGE_BYTES}
use Rattle.pm_types.specs.declared.fault.OpenFault.TheVariants.{NotAStore, Damaged}
use Rattle.pm_layout.specs.Headers.{header_at, header_spelling}
use Rattle.pm_layout.proofs.HeaderLaws.{spelled_length, header_again}
use Rattle.pm_model.specs.Heap.{Object, Heap}
use Rattle.pm_model.specs.World.{Roots, empty_copy}
use Rattle.pm_model.specs.Copying.{copied, reached}
use Rattle.pm_image.specs.CatalogPages.{Met, catalog_at, catalog_spelling}
use Rattle.pm_image.specs.Opening.{current, page_of, page_count, header_body_of, is_open, open_slot, greater_slot, epoch_in, header_in, sound_header}
use Rattle.pm_image.specs.Graphs.{Pages, Graph, undamaged, on_page, catalog_from, catalog_of, cars_from, linked, graph_of, copy_of}
use Rattle.pm_image.specs.Stands.{pages_of, StandsForCopy}
use Rattle.pm_image.specs.Blank.{blank_catalog, blank_catalog_page, blank_header, blank_store}
use Rattle.pm_types.proofs.Results.{bound}
use Rattle.pm_image.proofs.FrameLaws.{opened_as}
use Rattle.pm_image.proofs.CatalogAgain.{catalog_again}

-- a page whose digest is kept is not damaged
pub kept_page : (pages : Pages) (page : ℕ) (bytes : List ℕ) → pages.page page ≡ bytes → undamaged pages page (sha256 bytes) ≡ Ok tt
kept_page pages page bytes is =
    ap (λ (b : Bool). if b then Ok tt else Err (Damaged page (sha256 bytes) (sha256 (pages.page page)))) ((bytes_eq-Decides (sha256 bytes) (sha256 (pages.page page))).1 (ap sha256 (sym is)))

-- the catalog without an entry is read as such
blank_read : (count : ℕ) (met : Met) (bytes : List ℕ) → bytes ≡ blank_catalog_page → catalog_at (Some count) met bytes ≡ Ok blank_catalog
unfolding blank_catalog_page
blank_read count met bytes is =
    ap (catalog_at (Some count) met) is
    ∙ catalog_again (Some count) met blank_catalog (record { fits = omega arith; next = refl; next_digest = refl; entries = tt }) (record { next = lit≤ tt; digest = length-replicate {A = ℕ} 32 0; entries = tt })

blank_chain : (n : ℕ) (pages : Pages) (met : Met) → pages.page 2 ≡ blank_catalog_page → catalog_from (suc n) pages met 2 (sha256 blank_catalog_page) ≡ Ok ((2, blank_catalog) ∷ [])
unfolding catalog_from
blank_chain n pages met is =
    bound _ _ tt _ (kept_page pages 2 blank_catalog_page is)
    (bound _ _ blank_catalog _ (ap (on_page 2) (blank_read pages.count met (pages.page 2) is)) refl)

-- the graph of nothing
blank_graph : Graph
blank_graph = record { catalog = (2, blank_catalog) ∷ []; cars = [] }

graph_is_blank : (pages : Pages) → pages.page 2 ≡ blank_catalog_page → graph_of pages blank_header ≡ Ok blank_graph
unfolding graph_of cars_from linked blank_graph
graph_is_blank pages is = bound (catalog_of pages blank_header) _ ((2, blank_catalog) ∷ []) _ (blank_chain 18446744073709551614 pages _ is) refl

no_heap : Heap
no_heap = empty

no_roots : Roots
no_roots = empty

copied_empty : copied no_heap no_roots 1 ≡ empty_copy
unfolding reached no_heap no_roots
copied_empty = ap (λ (n : ℕ). record { heap = reached n no_heap (values no_roots); roots = no_roots; next = 1 }) (len-empty nat_cmp Object)

copy_is_empty : empty_copy ≡ copy_of 1 blank_graph
unfolding blank_graph no_heap no_roots
copy_is_empty = sym copied_empty

-- bytes with the header of the store that has just been made, and its catalog, stand for copy 0, of nothing
pub blank_behind : (bytes : List ℕ) (slot : ℕ) → current bytes ≡ Ok (record { slot = slot; header = blank_header }) → page_of bytes 2 ≡ blank_catalog_page → StandsForCopy bytes 0 empty_copy
unfolding blank_graph
blank_behind bytes slot is_current is_page =
    record {
      found = record { current = record { slot = slot; header = blank_header }; graph = blank_graph };
      is_found = opened_as bytes (record { slot = slot; header = blank_header }) blank_graph is_current (graph_is_blank (pages_of bytes) is_page);
      is_number = refl;
      is_copy = copy_is_empty;
    }

-- ---- the store that has just been made, byte for byte

spelled : List ℕ
spelled = header_spelling blank_header

length-spelled : length spelled ≡ 96
unfolding spelled
length-spelled = spelled_length blank_header (length-sha256 blank_catalog_page)

length-catalog : length blank_catalog_page ≡ PAGE_BYTES
unfolding blank_catalog_page catalog_spelling
length-catalog = omega (arith, length-append (catalog_spelling blank_catalog) (replicate (PAGE_BYTES - length (catalog_spelling blank_catalog)) 0), length-replicate {A = ℕ} (PAGE_BYTES - length (catalog_spelling blank_catalog)) 0)

gap : List ℕ
gap = replicate 16287 0

front : List ℕ
front = spelled ++ (gap ++ 0xa5 ∷ [])

zeros : List ℕ
zeros = replicate PAGE_BYTES 0

length-front : length front ≡ PAGE_BYTES
unfolding front gap
length-front = omega (arith, length-append {A = ℕ} spelled (replicate 16287 0 ++ 0xa5 ∷ []), length-append {A = ℕ} (replicate 16287 0) (0xa5 ∷ []), length-replicate {A = ℕ} 16287 0, length-spelled)

store : List ℕ
store = front ++ (zeros ++ blank_catalog_page)

length-store : length store ≡ 49152
unfolding store zeros
length-store = omega (arith, length-append {A = ℕ} front (replicate PAGE_BYTES 0 ++ blank_catalog_page), length-append {A = ℕ} (replicate PAGE_BYTES 0) blank_catalog_page, length-replicate {A = ℕ} PAGE_BYTES 0, length-front, length-catalog)

store_is : blank_store ≡ store
unfolding blank_store store front zeros gap spelled
store_is = refl

gate_0 : get_or store 16383 0 ≡ 0xa5
unfolding store front gap
gate_0 =
    get_or_append_left front (zeros ++ blank_catalog_page) 0 16383 (omega (arith, length-front))
    ∙ get_or-append_right {X = ℕ} spelled (replicate 16287 0 ++ 0xa5 ∷ []) 96 16383 0 length-spelled (omega arith)
    ∙ get_or-append_right {X = ℕ} (replicate 16287 0) (0xa5 ∷ []) 16287 16287 0 (length-replicate {A = ℕ} 16287 0) (omega arith)

gate_1 : get_or store 32767 0 ≡ 0
unfolding store zeros
gate_1 =
    get_or-append_right {X = ℕ} front (replicate PAGE_BYTES 0 ++ blank_catalog_page) PAGE_BYTES 32767 0 length-front (omega arith)
    ∙ get_or_append_left {A = ℕ} (replicate PAGE_BYTES 0) blank_catalog_page 0 16383 (omega (arith, length-replicate {A = ℕ} PAGE_BYTES 0))
    ∙ get_or-replicate {A = ℕ} PAGE_BYTES 16383 0 0 (omega arith)

body_0 : header_body_of store 0 ≡ spelled
unfolding store front
body_0 = ap (take 96) (append_assoc spelled (gap ++ 0xa5 ∷ []) (zeros ++ blank_catalog_page)) ∙ take_at spelled ((gap ++ 0xa5 ∷ []) ++ (zeros ++ blank_catalog_page)) 96 length-spelled

page_2 : page_of store 2 ≡ blank_catalog_page
unfolding store zeros
page_2 =
    ap (take PAGE_BYTES) (ap (drop 32768) (sym (append_assoc {A = ℕ} front (replicate PAGE_BYTES 0) blank_catalog_page)) ∙ drop_at {A = ℕ} (front ++ replicate PAGE_BYTES 0) blank_catalog_page 32768 (omega (arith, length-append {A = ℕ} front (replicate PAGE_BYTES 0), length-front, length-replicate {A = ℕ} PAGE_BYTES 0)))
    ∙ take_all PAGE_BYTES blank_catalog_page (omega (arith, length-catalog))

open_is : open_slot store ≡ Some 0
open_is =
    ap (λ (gate : ℕ). if (gate == 0xa5) && is_open store 1 then Some (greater_slot (epoch_in store 0) (epoch_in store 1)) else if gate == 0xa5 then Some 0 else if is_open store 1 then Some 1 else None) gate_0
    ∙ ap (λ (gate : ℕ). if gate == 0xa5 then Some (greater_slot (epoch_in store 0) (epoch_in store 1)) else Some 0) gate_1

header_is : header_at (header_body_of store 0) ≡ Ok blank_header
unfolding spelled
header_is =
    header_again (header_body_of store 0) blank_header (record { version = refl; some = omega arith; last = lit≤ tt }) (record { epoch = lit≤ tt; first = lit≤ tt; digest = length-sha256 blank_catalog_page }) body_0

current_is : current store ≡ Ok (record { slot = 0; header = blank_header })
unfolding current
current_is =
    ap (λ (n : ℕ). if nat_lt n 32768 then Err NotAStore else header_in store (open_slot store)) length-store
    ∙ ap (header_in store) open_is
    ∙ ap (sound_header (page_count store) 0) header_is
    ∙ ap (λ (n : ℕ). sound_header (n / PAGE_BYTES) 0 (Ok blank_header)) length-store

-- the store that has just been made stands for copy 0, of nothing
pub blank_stands : StandsForCopy blank_store 0 empty_copy
blank_stands = subst (λ (bytes : List ℕ). StandsForCopy bytes 0 empty_copy) (sym store_is) (blank_behind store 0 current_is page_2)

-- and its current header is that of copy 0, in slot 0
pub blank_current : current blank_store ≡ Ok (record { slot = 0; header = blank_header })
blank_current = ap current store_is ∙ current_is
