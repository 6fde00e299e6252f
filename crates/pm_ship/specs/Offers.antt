-- What a store has to ship.
use Rattle.std.specs.Prelude.{◌≡◌, ℕ, List, map, Option, Ok}
use Rattle.pm_types.specs.declared.address.Addr.{Addr}
use Rattle.pm_disk.specs.Disk.{IfTold}
use Rattle.pm_layout.specs.declared.header.Header.{Header}
use Rattle.pm_model.specs.World.{Copy}
use Rattle.pm_image.specs.Graphs.{Graph, entries_of}
use Rattle.pm_image.specs.Stands.{Opened, opened}
use Rattle.pm_shadow.specs.State.{State}
use Rattle.pm_shadow.specs.Copies.{current_graph}
use Rattle.pm_copies.specs.Accepted.{roots_in}
use Rattle.pm_copies.specs.Listed.{Listed, copy_listed}
use Rattle.pm_copies.specs.Opened.{listed_graph}
use Rattle.pm_copies.specs.Plans.{root_entry}

-- The number of a store's copy; its next identity; its cars in the order of the catalog, each with its train; and its
-- roots, each a name with its address.
pub record Offer : Type 0 where
  pub epoch : ℕ
  pub next : ℕ
  pub list : List Listed
  pub roots : List (List ℕ × Addr)

-- what this graph behind this header has
abbrev pub offer_of : Header → Graph → Offer
offer_of header graph = record { epoch = header.epoch; next = header.next; list = listed_graph graph; roots = roots_in (entries_of graph.catalog) }

-- what a store has in which this was found
abbrev pub offer_in : Opened → Offer
offer_in found = offer_of found.current.header found.graph

-- the copy that it is
abbrev pub copy_offered : Offer → Copy
copy_offered offer = copy_listed offer.list (map root_entry offer.roots) offer.next

-- this graph is what opening finds in these bytes, behind the header of these pages
abbrev pub IsFound : State → List ℕ → Graph → Type 0
IsFound s bytes graph = opened bytes ≡ Ok (current_graph s graph)

-- It is what these pages have: by their header, and where the disk tells its contents by what opening finds in them.
pub record IsOffered (s : State) (contents : Option (List ℕ)) (offer : Offer) : Type 0 where
  pub epoch : offer.epoch ≡ s.header.epoch
  pub next : offer.next ≡ s.header.next
  pub found : IfTold contents (λ bytes. (graph : Graph) × IsFound s bytes graph × (offer ≡ offer_of s.header graph))

-- Two stores have the same copy, whatever its number: next identity, cars in order with their trains, and roots. How
-- their catalogs are divided into pages, and on which pages they stand, may differ.
pub record AreSame (one other : Offer) : Type 0 where
  pub next : one.next ≡ other.next
  pub list : one.list ≡ other.list
  pub roots : one.roots ≡ other.roots
