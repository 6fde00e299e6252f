-- A store that stands for a copy: what it lists is accepted.
use Rattle.std.proofs.Common.{◌≡◌, ℕ, ◌*◌, ◌/◌, ◌<◌, ◌≤◌, ◌&&◌, Bool, true, false, nat_lt, refl, ap, sym, subst, ◌∙◌, List, length, take, drop, Option, Some, None, Result, Ok, Err, arith, length-take, length-drop, if◌then◌else◌}
use Rattle.std.proofs.lemmas.Bool.{ltb-false}
use Rattle.pm_types.specs.declared.limits.TheConstants.{PAGE_BYTES}
use Rattle.pm_types.specs.declared.fault.OpenFault.TheVariants.{NotAStore, Malformed}
use Rattle.pm_layout.specs.declared.header.Header.{Header}
use Rattle.pm_layout.specs.declared.header.HeaderFault.{HeaderFault}
use Rattle.pm_layout.specs.Headers.{HasHeaderSpelling, header_at}
use Rattle.pm_layout.proofs.Numbers.{IsBytes, IsBytes-take, IsBytes-drop}
use Rattle.pm_layout.proofs.HeaderLaws.{header_found}
use Rattle.pm_types.proofs.Results.{bind_ok, ok_same, if_ok, wanted_ok}
use Rattle.pm_image.specs.Opening.{page_count, header_body_of, is_open, epoch_in, greater_slot, open_slot, Current, is_placed, sound_header, header_in, current}
use Rattle.pm_image.specs.Graphs.{graph_of, entries_of, copy_of}
use Rattle.pm_image.specs.Stands.{Opened, opened, pages_of, copy_in, StandsForCopy}
use Rattle.pm_image.proofs.RuleLaws.{current_placed}
use Rattle.pm_copies.specs.Accepted.{IsAccepted}
use Rattle.pm_model.specs.World.{Copy, begin}
use Rattle.pm_view.specs.View.{SpaceView}
use Rattle.pm_view.specs.Law.{HeapLaw}
use Rattle.pm_view.specs.Represents.{Represents}
use Rattle.pm_copies.specs.Listed.{copy_listed}
use Rattle.pm_copies.specs.Opened.{listed_graph, IsOpenedStore}
use Rattle.pm_law_copies.proofs.Follows.{AreWhole}
use Rattle.pm_law_copies.proofs.FoundCars.{graph_accepted, graph_copy}
use Rattle.pm_law_copies.proofs.OpenedLaw.{keeps_law}
use Rattle.pm_law_copies.proofs.OpenedStands.{stands}

-- the pages of a list of bytes are whole
page_length : (bytes : List ℕ) (page : ℕ) → page < length bytes / PAGE_BYTES → length (take PAGE_BYTES (drop (PAGE_BYTES * page) bytes)) ≡ PAGE_BYTES
page_length bytes page below = omega (arith, below, length-take PAGE_BYTES (drop (PAGE_BYTES * page) bytes), length-drop (PAGE_BYTES * page) bytes)

pub whole_pages : (bytes : List ℕ) → IsBytes bytes → AreWhole (pages_of bytes)
whole_pages bytes fits page below = (page_length bytes page below, IsBytes-take PAGE_BYTES (drop (PAGE_BYTES * page) bytes) (IsBytes-drop (PAGE_BYTES * page) bytes fits))

-- ---- the header

either_slot : (a b : ℕ) → greater_slot a b ≤ 1
either_slot a b = elim (nat_lt a b) as (λ c. (if c then 1 else 0) ≤ 1) [ true ↦ omega arith | false ↦ omega arith ]

small_slot : (bytes : List ℕ) (slot : ℕ) → open_slot bytes ≡ Some slot → slot ≤ 1
small_slot bytes slot is = by (is_open bytes 0 && is_open bytes 1) (is_open bytes 0) (is_open bytes 1) is
  where
    same : (m n : ℕ) → Some m ≡ Some n → m ≡ n
    same m n is = cc

    by : (a b c : Bool) → (if a then Some (greater_slot (epoch_in bytes 0) (epoch_in bytes 1)) else if b then Some 0 else if c then Some 1 else None) ≡ Some slot → slot ≤ 1
    by true b c is = subst (λ n. n ≤ 1) (same (greater_slot (epoch_in bytes 0) (epoch_in bytes 1)) slot is) (either_slot (epoch_in bytes 0) (epoch_in bytes 1))
    by false true c is = subst (λ n. n ≤ 1) (same 0 slot is) (omega arith)
    by false false true is = subst (λ n. n ≤ 1) (same 1 slot is) (omega arith)
    by false false false is = cc

InRange : Header → Type 0
InRange header = (1 ≤ header.next) × (header.next ≤ 4294967296)

body_length : (bytes : List ℕ) (slot : ℕ) → slot ≤ 1 → 2 * PAGE_BYTES ≤ length bytes → length (header_body_of bytes slot) ≡ 96
body_length bytes slot small long = omega (arith, small, long, length-take 96 (drop (PAGE_BYTES * slot) bytes), length-drop (PAGE_BYTES * slot) bytes)

in_range : (h : Header) → HasHeaderSpelling h → InRange h
unfolding InRange
in_range h has = let some = has.some in (omega (arith, some), has.last)

sound_range : (count slot : ℕ) (body : List ℕ) (read : Result Header HeaderFault) (now : Current) → read ≡ header_at body → length body ≡ 96 → IsBytes body → sound_header count slot read ≡ Ok now → InRange now.header
sound_range count slot body (Err fault) now is long fits sound = cc
sound_range count slot body (Ok header) now is long fits sound =
    let found : Current = record { slot = slot; header = header } in
    let parts = wanted_ok (is_placed count header) (Malformed slot 24) (Ok found) now sound in
    let known = header_found body (Ok header) long fits is in
    subst (λ (c : Current). InRange c.header) (ok_same found now parts.1) (in_range header known.0)

slot_range : (bytes : List ℕ) (slot : Option ℕ) (now : Current) → open_slot bytes ≡ slot → 2 * PAGE_BYTES ≤ length bytes → IsBytes bytes → header_in bytes slot ≡ Ok now → InRange now.header
slot_range bytes None now is long fits sound = cc
slot_range bytes (Some slot) now is long fits sound =
    sound_range (page_count bytes) slot (header_body_of bytes slot) (header_at (header_body_of bytes slot)) now refl (body_length bytes slot (small_slot bytes slot is) long)
    (IsBytes-take 96 (drop (PAGE_BYTES * slot) bytes) (IsBytes-drop (PAGE_BYTES * slot) bytes fits)) sound

current_range : (bytes : List ℕ) (now : Current) → IsBytes bytes → current bytes ≡ Ok now → InRange now.header
unfolding current
current_range bytes now fits is =
    let parts = if_ok (nat_lt (length bytes) (2 * PAGE_BYTES)) NotAStore (header_in bytes (open_slot bytes)) now is in
    slot_range bytes (open_slot bytes) now refl (ltb-false (length bytes) (2 * PAGE_BYTES) parts.0) fits parts.1

-- ---- the store

-- the graph of a store that was opened was found
pub record IsFound (bytes : List ℕ) (found : Opened) : Type 0 where
  pub current : current bytes ≡ Ok found.current
  pub graph : graph_of (pages_of bytes) found.current.header ≡ Ok found.graph

pub store_found : (bytes : List ℕ) (found : Opened) → opened bytes ≡ Ok found → IsFound bytes found
unfolding opened
store_found bytes found is =
    let one = bind_ok (current bytes) _ found is in
    let two = bind_ok (graph_of (pages_of bytes) one.0.header) _ found one.2 in
    let made : Opened = record { current = one.0; graph = two.0 } in
    subst (IsFound bytes) (ok_same made found two.2) (record { current = one.1; graph = two.1 })

pub store_accepted : (bytes : List ℕ) (found : Opened) → IsBytes bytes → opened bytes ≡ Ok found → IsAccepted (listed_graph found.graph) (entries_of found.graph.catalog) found.current.header.next
unfolding InRange
store_accepted bytes found fits is =
    let parts = store_found bytes found is in
    graph_accepted (pages_of bytes) found.current.header found.graph (whole_pages bytes fits) (current_placed bytes found.current parts.current) (current_range bytes found.current fits parts.current) parts.graph

-- the space that opening makes of a store keeps the heap law
pub store_law : (bytes : List ℕ) (view : SpaceView) → IsBytes bytes → IsOpenedStore bytes view → HeapLaw view
store_law bytes view fits is = keeps_law (listed_graph is.found.graph) (entries_of is.found.graph.catalog) is.found.current.header.next view (store_accepted bytes is.found fits is.is_found) is.is_opened

pub store_copy : (bytes : List ℕ) (found : Opened) → opened bytes ≡ Ok found → copy_listed (listed_graph found.graph) (entries_of found.graph.catalog) found.current.header.next ≡ copy_of found.current.header.next found.graph
store_copy bytes found is = graph_copy (pages_of bytes) found.current.header found.graph found.current.header.next (store_found bytes found is).graph

-- and stands for the world of its copy
pub store_stands : (bytes : List ℕ) (number : ℕ) (copy : Copy) (view : SpaceView) → IsBytes bytes → StandsForCopy bytes number copy → IsOpenedStore bytes view → Represents view (begin number copy)
store_stands bytes number copy view fits stood is =
    let same : is.found ≡ stood.found = ok_same is.found stood.found (sym is.is_found ∙ stood.is_found) in
    let world = stands (listed_graph is.found.graph) (entries_of is.found.graph.catalog) is.found.current.header.next view (store_accepted bytes is.found fits is.is_found) is.is_opened number in
    let copies : copy_listed (listed_graph is.found.graph) (entries_of is.found.graph.catalog) is.found.current.header.next ≡ copy = store_copy bytes is.found is.is_found ∙ ap copy_in same ∙ sym stood.is_copy in
    subst (λ (copy : Copy). Represents view (begin number copy)) copies world
