-- Sources in a list, each with the slot that it names. No public clause cites this module.
use Rattle.std.specs.Prelude.{◌≡◌, ℕ, ◌<◌, ◌≤◌, ◌==◌, true, cond, List, [], ◌∷◌, length, slice_index_or}
use Rattle.std.specs.declared.cmp.Ordering.TheVariants.{Less, Greater}
use Rattle.std.specs.Option.{is_some}
use Rattle.std.specs.Ordering.{is_le}
use Rattle.std.specs.FinMap.{get, insert}
use Rattle.std.specs.List.{AllWithin}
use Rattle.std.specs.List.Sorted.{IsStrictlySortedBy}
use Rattle.std.specs.Map.{keys_of}
use Rattle.pm_types.specs.declared.source.RefSource.{RefSource}
use Rattle.pm_types.specs.Orders.{source_cmp}
use Rattle.pm_remset.specs.Remembered.{Remembered}

-- a source, and the slot that it names
abbrev pub Entry : Type 0
Entry = RefSource × ℕ

-- the sources rise
abbrev pub IsInOrder : List Entry → Type 0
IsInOrder es = IsStrictlySortedBy source_cmp (keys_of es)

-- the entry at this place is the source's
pub record IsEntry (es : List Entry) (source : RefSource) (at : ℕ) : Type 0 where
  pub within : at < length es
  pub here : (d : Entry) → (slice_index_or es at d).0 ≡ source

-- no entry is the source's, and this is the place for one: behind those of sources below it, and before those above it
pub record IsGap (es : List Entry) (source : RefSource) (at : ℕ) : Type 0 where
  pub within : at ≤ length es
  pub below : AllWithin (λ e. source_cmp e.0 source ≡ Less) es 0 at
  pub above : AllWithin (λ e. source_cmp e.0 source ≡ Greater) es at (length es)

-- the place of the first entry whose source is not below this one, or the number of entries
pub record IsFirstFrom (es : List Entry) (source : RefSource) (at : ℕ) : Type 0 where
  pub within : at ≤ length es
  pub below : AllWithin (λ e. source_cmp e.0 source ≡ Less) es 0 at
  pub above : AllWithin (λ e. is_le (source_cmp source e.0) ≡ true) es at (length es)

-- the sources of the entries that name the slot
abbrev pub named : ℕ → List Entry → List RefSource
named slot [] = []
named slot (e ∷ es) = cond (e.1 == slot) (e.0 ∷ named slot es) (named slot es)

-- a set with the source and the slot that it names, if it did not have the source
abbrev pub with_added : Remembered → RefSource → ℕ → Remembered
with_added set source slot = cond (is_some (get set source)) set (insert set source slot)
