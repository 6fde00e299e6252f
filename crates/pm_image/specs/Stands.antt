-- What the bytes of a store stand for, and why others are refused.
use Rattle.std.specs.Prelude.{◌≡◌, ℕ, ◌<◌, List, Contains, Option, Some, None, Result, Ok, Err}
use Rattle.pm_types.specs.declared.fault.OpenFault.{OpenFault}
use Rattle.pm_model.specs.World.{Copy}
use Rattle.pm_types.specs.Results.{◌>>=◌}
use Rattle.pm_image.specs.Opening.{Current, current, page_of, page_count}
use Rattle.pm_image.specs.Graphs.{Pages, Graph, graph_of, copy_of}

-- the pages of a list of bytes
abbrev pub pages_of : List ℕ → Pages
pages_of bytes = record { count = page_count bytes; page = page_of bytes }

-- what opening finds: the current header, and the graph behind it
pub record Opened : Type 0 where
  pub current : Current
  pub graph : Graph

-- What is found in bytes, or the first rule that fails: of the header, of the catalog, of the cars, of the
-- addresses.
unfoldable pub opened : List ℕ → Result Opened OpenFault
opened bytes = do
  now ← current bytes
  graph ← graph_of (pages_of bytes) now.header
  Ok (record { current = now; graph = graph })

-- the copy that was found
abbrev pub copy_in : Opened → Copy
copy_in found = copy_of found.current.header.next found.graph

-- The bytes stand for this copy, under this number: all rules hold, the number is the epoch of the current
-- header, and the copy is that of the graph behind it.
pub record StandsForCopy (bytes : List ℕ) (number : ℕ) (copy : Copy) : Type 0 where
  pub found : Opened
  pub is_found : opened bytes ≡ Ok found
  pub is_number : number ≡ found.current.header.epoch
  pub is_copy : copy ≡ copy_in found

-- the answer to a fault, and none where there is none
abbrev pub fault_of : {A : Type 0} → Result A OpenFault → Option OpenFault
fault_of (Ok x) = None
fault_of (Err fault) = Some fault

-- the answer of the first rule that fails for these bytes, if one does
abbrev pub refusal : List ℕ → Option OpenFault
refusal bytes = fault_of (opened bytes)

-- In the one store each of these pages is as in the other, and is one of its pages.
abbrev pub SamePages : List ℕ → Pages → Pages → Type 0
SamePages used a b = (page : ℕ) → Contains used page → (page < b.count) × (b.page page ≡ a.page page)
