-- The graph of the current copy, and that of the next one, in the pages of a store.
use Rattle.std.specs.Prelude.{◌≡◌, ℕ, ◌<◌, ◌≤◌, List, Contains, true, Ok}
use Rattle.pm_layout.specs.declared.header.Header.{Header}
use Rattle.pm_image.specs.Opening.{page_count}
use Rattle.pm_image.specs.Graphs.{Graph, graph_of, used_pages}
use Rattle.pm_image.specs.Stands.{Opened, pages_of}
use Rattle.pm_shadow.specs.declared.page_use.PageUse.TheVariants.{Claimed}
use Rattle.pm_shadow.specs.Uses.{is_next}
use Rattle.pm_shadow.specs.State.{State, other, keeps}

-- the page is one that the store had when its header became current, and is not written
pub record IsKept (s : State) (page : ℕ) : Type 0 where
  pub from_2 : 2 ≤ page
  pub settled : page < s.settled
  pub kept : keeps s page ≡ true

-- These are the pages of the current copy: each that its catalog and its cars stand on, and no other.
pub record AreUsed (s : State) (bytes : List ℕ) (pages : List ℕ) : Type 0 where
  pub graph : Graph
  pub found : graph_of (pages_of bytes) s.header ≡ Ok graph
  pub all : (page : ℕ) → Contains (used_pages graph) page → Contains pages page
  pub only : (page : ℕ) → Contains pages page → Contains (used_pages graph) page

-- This graph stands behind the current header, and its pages are kept. Where the pages of the current copy are
-- known, they are those of the graph and no others.
pub record KeepsGraph (s : State) (bytes : List ℕ) (graph : Graph) : Type 0 where
  pub found : graph_of (pages_of bytes) s.header ≡ Ok graph
  pub first : Contains (used_pages graph) s.header.first
  pub kept : (page : ℕ) → Contains (used_pages graph) page → IsKept s page
  pub only : s.known ≡ true → (page : ℕ) → 2 ≤ page → keeps s page ≡ true → Contains (used_pages graph) page

-- a page that the graph of the current copy does not use, and that was not claimed
pub record IsUnused (s : State) (graph : Graph) (page : ℕ) : Type 0 where
  pub from_2 : 2 ≤ page
  pub apart : Contains (used_pages graph) page → ⊥
  pub unclaimed : s.uses page ≡ Claimed → ⊥

-- the page is the lowest such
pub record IsLowestUnused (s : State) (graph : Graph) (page : ℕ) : Type 0 where
  pub unused : IsUnused s graph page
  pub lowest : (below : ℕ) → below < page → IsUnused s graph below → ⊥

-- the page was claimed or kept, and is there
pub record IsNext (s : State) (bytes : List ℕ) (page : ℕ) : Type 0 where
  pub from_2 : 2 ≤ page
  pub there : page < page_count bytes
  pub counted : page < s.count
  pub next : is_next (s.uses page) ≡ true

-- This graph will stand behind this header, and its pages are those that were claimed or kept, and no others.
pub record NextGraph (s : State) (bytes : List ℕ) (header : Header) (graph : Graph) : Type 0 where
  pub found : graph_of (pages_of bytes) header ≡ Ok graph
  pub first : Contains (used_pages graph) header.first
  pub next : (page : ℕ) → Contains (used_pages graph) page → IsNext s bytes page
  pub only : (page : ℕ) → is_next (s.uses page) ≡ true → Contains (used_pages graph) page

-- what opening finds where this graph stands behind the current header
abbrev pub current_graph : State → Graph → Opened
current_graph s graph = record { current = record { slot = s.slot; header = s.header }; graph = graph }

-- what opening finds once this header is published, and this graph stands behind it
abbrev pub next_graph : State → Header → Graph → Opened
next_graph s header graph = record { current = record { slot = other s.slot; header = header }; graph = graph }

-- These are the same current header and the same pages of its copy, known in both or in neither.
pub record KeepsSamePages (s t : State) : Type 0 where
  pub slot : t.slot ≡ s.slot
  pub header : t.header ≡ s.header
  pub settled : t.settled ≡ s.settled
  pub known : t.known ≡ s.known
  pub kept : (page : ℕ) → keeps t page ≡ keeps s page
