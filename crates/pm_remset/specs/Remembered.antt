-- A remembered set: the slot of the car that each source names.
use Rattle.std.specs.Prelude.{◌≡◌, ℕ, ◌==◌, ◌++◌, Bool, true, false, List, Option, Some, None}
use Rattle.std.specs.declared.cmp.Ordering.TheVariants.{Less}
use Rattle.std.specs.Ordering.{is_le}
use Rattle.std.specs.Option.{option_map}
use Rattle.std.specs.Fn.{Shared}
use Rattle.std.specs.FinMap.{FinMap, entries, get}
use Rattle.std.specs.List.{AllByRecursion, Contains, find}
use Rattle.std.specs.List.Sorted.{IsStrictlySortedBy}
use Rattle.pm_types.specs.declared.source.RefSource.{RefSource}
use Rattle.pm_types.specs.Orders.{source_cmp}

-- the slot that each source names
abbrev pub Remembered : Type 0
Remembered = FinMap source_cmp ℕ

-- what is said of a source and the slot that it names
abbrev pub Fact : Type 1
Fact = RefSource → ℕ → Type 0

-- the fact holds of each entry
abbrev pub EachEntry : Fact → Remembered → Type 0
EachEntry holds set = (source : RefSource) (slot : ℕ) → get set source ≡ Some slot → holds source slot

-- an entry that passes, while each one below it fails
pub record IsFirstEntry (passes fails : Fact) (set : Remembered) (source : RefSource) (slot : ℕ) : Type 0 where
  pub there : get set source ≡ Some slot
  pub passed : passes source slot
  pub lower_failed : (other : RefSource) (at : ℕ) → get set other ≡ Some at → source_cmp other source ≡ Less
      → fails other at

-- the first entry that passes, or none where each one fails
abbrev pub FindsFirst : Fact → Fact → Remembered → Option (RefSource × ℕ) → Type 0
FindsFirst passes fails set None = EachEntry fails set
FindsFirst passes fails set (Some e) = IsFirstEntry passes fails set e.0 e.1

-- the entry that stands first in order among those at which the test answers true
abbrev pub first_that : (RefSource → ℕ → Bool) → Remembered → Option (RefSource × ℕ)
first_that test set = find (λ e. test e.0 e.1) (entries set)

-- what finds the first entry at which the test answers true
abbrev pub FindsFirstThat : (RefSource → ℕ → Bool) → Remembered → Option (RefSource × ℕ) → Type 0
FindsFirstThat test set found =
    FindsFirst (λ source slot. test source slot ≡ true) (λ source slot. test source slot ≡ false) set found

-- the least source that names the slot, or none where none does
abbrev pub FindsLeastOf : Remembered → ℕ → Option RefSource → Type 0
FindsLeastOf set slot found = FindsFirstThat (λ _ at. at == slot) set (option_map (λ source. (source, slot)) found)

-- the least entry whose source is not below this one, or none where each one is
abbrev pub FindsAtOrAfter : Remembered → RefSource → Option (RefSource × ℕ) → Type 0
FindsAtOrAfter set from found = FindsFirstThat (λ source _. is_le (source_cmp from source)) set found

module _ {F : Type 0} (calls : Shared F (RefSource × (ℕ × Unit {0})) Bool) (test : F) where
  -- the test may answer this at an entry
  abbrev pub Answers : Bool → Fact
  Answers answer source slot = calls.post test (source, (slot, tt)) answer

  -- the least entry at which the test answers true, or none where it answers false at each; it does at each below
  abbrev pub FindsPassing : Remembered → Option (RefSource × ℕ) → Type 0
  FindsPassing set found = FindsFirst (Answers true) (Answers false) set found

-- the sources that name the slot went to the end of a list: in order, each once, all of them and no others
pub record AppendsSources (set : Remembered) (slot : ℕ) (before after : List RefSource) : Type 0 where
  pub sources : List RefSource
  pub appended : after ≡ before ++ sources
  pub in_order : IsStrictlySortedBy source_cmp sources
  pub each_names : AllByRecursion (λ source. get set source ≡ Some slot) sources
  pub all : (source : RefSource) → get set source ≡ Some slot → Contains sources source
