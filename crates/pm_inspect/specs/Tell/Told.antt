-- Which text is that of a store, whatever is told of it.
use Rattle.std.specs.Prelude.{◌≡◌, ◌⊎◌, ◌≤◌, ℕ, List, codes, length}
use Rattle.pm_model.specs.World.{Copy}
use Rattle.pm_image.specs.Stands.{StandsForCopy}
use Rattle.pm_view.specs.View.{SpaceView}
use Rattle.pm_view.specs.Law.{HeapLaw}
use Rattle.pm_copies.specs.Listed.{copy_in}
use Rattle.pm_copies.specs.Opened.{IsOpenedStore}
use Rattle.pm_dump.specs.Dump.{dump_of, dump_text_of}
use Rattle.pm_inspect.specs.Report.{report_text}
use Rattle.pm_walk.specs.Paths.Paths.{Path, IsPathOf, IsReached}
use Rattle.pm_walk.specs.Paths.PathText.{path_text_of}

-- what a text has to be, by what is seen of a space and by the number of its last settled copy
abbrev pub Telling : Type 1
Telling = SpaceView → ℕ → List ℕ → Type 0

-- The text tells so of the store that these bytes are: of a space that opening makes of them, under the number of the copy
-- for which they stand, which is the one in that space.
pub record IsTold (Says : Telling) (bytes text : List ℕ) : Type 0 where
  pub view : SpaceView
  pub number : ℕ
  pub store : IsOpenedStore bytes view
  pub stands : StandsForCopy bytes number (copy_in view)
  pub says : Says view number text

-- the text tells so of some space that keeps the heap law
pub record IsToldOfSome (Says : Telling) (text : List ℕ) : Type 0 where
  pub view : SpaceView
  pub number : ℕ
  pub law : HeapLaw view
  pub says : Says view number text

-- ---- the report

-- the text is the report of a space
abbrev pub Reports : Telling
Reports view number text = text ≡ report_text view number

-- the text is the report of the store that these bytes are
abbrev pub IsReport : List ℕ → List ℕ → Type 0
IsReport bytes text = IsTold Reports bytes text

-- ---- the dump

-- the text is that of the dump of a space's copy
abbrev pub Dumps : Telling
Dumps view number text = text ≡ dump_text_of (dump_of (copy_in view))

-- ---- the path

-- the text is that of a path through the copy, from a name to the object of this identity, and none has fewer steps
pub record TellsPath (copy : Copy) (id : ℕ) (text : List ℕ) : Type 0 where
  pub path : Path
  pub leads : IsPathOf copy id path
  pub shortest : (other : Path) → IsPathOf copy id other → length path.steps ≤ length other.steps
  pub is : text ≡ path_text_of path

-- the names of the copy do not reach the object of this identity, and the text says that there is no path
pub record TellsNone (copy : Copy) (id : ℕ) (text : List ℕ) : Type 0 where
  pub unreached : IsReached copy id → ⊥
  pub is : text ≡ codes "none\n"

-- the text is that of a path, or `none` exactly where there is none
abbrev pub GivesPath : ℕ → Telling
GivesPath id view number text = TellsPath (copy_in view) id text ⊎ TellsNone (copy_in view) id text
