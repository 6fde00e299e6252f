-- What was read is what opening finds, and why nothing was read.
use Rattle.std.proofs.Common.{◌≡◌, ℕ, ◌≤◌, true, List, Option, Result, Ok, Err, refl, arith, nat_lt, nat_le, ◌&&◌}
use Rattle.std.specs.Prelude.{IfErr, IfOk}
use Rattle.std.proofs.lemmas.List.Elements.{All-contains}
use Rattle.pm_types.specs.declared.fault.OpenFault.{OpenFault}
use Rattle.pm_disk.specs.Disk.{IfTold}
use Rattle.pm_layout.specs.declared.header.Header.{Header}
use Rattle.pm_image.specs.declared.settled.KeptPage.{KeptPage}
use Rattle.pm_image.specs.Graphs.{Catalog, Graph, graph_of, used_pages}
use Rattle.pm_image.specs.Opening.{current, is_placed, page_count}
use Rattle.pm_image.specs.Stands.{pages_of}
use Rattle.pm_image.proofs.FrameLaws.{graph_too, opened_as}
use Rattle.pm_shadow.specs.State.{State}
use Rattle.pm_shadow.specs.Images.{Heads, IsSoundState}
use Rattle.pm_shadow.proofs.AttachLemmas.{heads_current}
use Rattle.pm_graphs.specs.Reading.{IsReadWhole, IsThere, store_of}
use Rattle.pm_graphs.specs.Reopening.{IsGraph}
use Rattle.pm_reopen.specs.Opening.{IsUnopened}
use Rattle.pm_reopen.proofs.OpenLaws.{graph_unopened, used_there}
use Rattle.pm_ship.specs.Offers.{IsFound}

placed : (count : ℕ) (header : Header) → IsThere count header.first → is_placed count header ≡ true
placed count header there =
    let low = there.from_2 in
    let high = there.there in
    let from_2 : nat_le 2 header.first ≡ true = grind (arith) in
    let below : nat_lt header.first count ≡ true = grind (arith) in
    λ i. from_2 i && below i

module _ (s : State) (bytes : List ℕ) (images : List ℕ → Type 0) (sound : IsSoundState s bytes images) (left : images bytes) where
  heads : Heads bytes s.slot s.header
  heads = (sound.each bytes left).heads

  header_now : IsThere s.count s.header.first → current bytes ≡ Ok (record { slot = s.slot; header = s.header })
  header_now there =
      let counted = sound.counted in
      let below = there.there in
      heads_current bytes s.slot s.header heads (placed (page_count bytes) s.header (record { from_2 = there.from_2; there = omega (arith, below, counted) }))

  -- the graph that was read is found by opening
  pub graph_opened : (catalog : Catalog) (cars : List KeptPage) → IsThere s.count s.header.first → IsReadWhole s.count s.header.next catalog cars
      → IsGraph (Ok (catalog, cars)) (graph_of (store_of s.count bytes) s.header) → IsFound s bytes (record { catalog = catalog; cars = cars })
  graph_opened catalog cars there whole read =
      let graph : Graph = record { catalog = catalog; cars = cars } in
      opened_as bytes (record { slot = s.slot; header = s.header }) graph (header_now there)
      (graph_too (store_of s.count bytes) (pages_of bytes) s.header graph read
      (λ page within.
      let here = All-contains (IsThere s.count) (used_pages graph) page (used_there s.count s.header.next catalog cars (used_pages graph) refl whole) within in
      let counted = sound.counted in
      let below = here.there in
      (omega (arith, below, counted), refl)))

module _ (s : State) (contents : Option (List ℕ)) (images : List ℕ → Type 0) (sound : IfTold contents (λ bytes. IsSoundState s bytes images)) (left : IfTold contents images) (there : IsThere s.count s.header.first) where
  -- where something was read
  pub found_if : (result : Result (Catalog × List KeptPage) OpenFault) → IfTold contents (λ bytes. IsGraph result (graph_of (store_of s.count bytes) s.header))
      → IfOk result (λ read. IsReadWhole s.count s.header.next read.0 read.1) → IfOk result (λ read. IfTold contents (λ bytes. IsFound s bytes (record { catalog = read.0; cars = read.1 })))
  found_if (Ok read) graph whole = λ bytes told. graph_opened s bytes images (sound bytes told) (left bytes told) read.0 read.1 there whole (graph bytes told)
  found_if (Err fault) graph whole = tt

  -- and where nothing was
  pub fault_if : s.settled ≤ s.count → (result : Result (Catalog × List KeptPage) OpenFault) → IfTold contents (λ bytes. IsGraph result (graph_of (store_of s.count bytes) s.header))
      → IfErr result (λ fault. IfTold contents (λ bytes. IsUnopened s bytes fault))
  fault_if within (Ok read) graph = tt
  fault_if within (Err fault) graph = λ bytes told. graph_unopened s bytes images (sound bytes told) (left bytes told) fault within there (graph bytes told)
