-- Finite maps whose values are mapped.
use Rattle.std.specs.Prelude.{List, map}
use Rattle.std.specs.declared.cmp.Ordering.{Ordering}
use Rattle.std.specs.FinMap.{FinMap, entries, from_sorted}

-- the same keys in their order, each with what f makes of its value
abbrev pub mapped_entries : {K X Y : Type 0} → (X → Y) → List (K × X) → List (K × Y)
mapped_entries f es = map (λ e. (e.0, f e.1)) es

-- a map of the same keys, each with what f makes of its value
unfoldable pub mapped : {K X Y : Type 0} {R : K → K → Ordering} → (X → Y) → FinMap R X → FinMap R Y
mapped f m = from_sorted (mapped_entries f (entries m))
