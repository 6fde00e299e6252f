-- How many entries each page of a catalog has, before the pages of its cars are known.
use Rattle.std.specs.Prelude.{◌≡◌, ℕ, List, [], ◌∷◌, ◌++◌, length, map, replicate}
use Rattle.pm_types.specs.declared.address.Addr.{Addr}
use Rattle.pm_image.specs.declared.catalog.CatEntry.{CatEntry}
use Rattle.pm_image.specs.declared.catalog.CatEntry.TheVariants.{Car}
use Rattle.pm_image.specs.CatalogPages.{catalog_used, entry_size}
use Rattle.pm_copies.specs.Plans.{root_entry}
use Rattle.pm_copies.specs.Cutting.{OnePage, IsCutInto}
use Rattle.pm_save.specs.declared.progress.place.PlacedCar.{PlacedCar}
use Rattle.pm_save.specs.declared.progress.cuts.Counter.{Counter}

-- the entry of a car before its page is known
abbrev pub drafted : PlacedCar → CatEntry
drafted one = Car one.number one.train 0 (replicate 32 0)

-- the entries of cars and roots
abbrev pub drafted_entries : List PlacedCar → List (List ℕ × Addr) → List CatEntry
drafted_entries cars roots = map drafted cars ++ map root_entry roots

-- how many entries each page has
abbrev pub lengths : List OnePage → List ℕ
lengths pages = map (λ (page : OnePage). length page) pages

-- These entries were met: they are cut into pages, of which all but the last have so many entries each, and the last one has
-- so many, which take so many bytes.
pub record IsCounted (met : List CatEntry) (it : Counter) : Type 0 where
  pub pages : List OnePage
  pub last : OnePage
  pub cut : IsCutInto met (pages ++ last ∷ [])
  pub counts : it.counts.items ≡ lengths pages
  pub count : it.count ≡ length last
  pub used : it.used ≡ catalog_used last

-- the same, where this entry is the next one of the last page
pub record IsRoomy (met : List CatEntry) (entry : CatEntry) (it : Counter) : Type 0 where
  pub pages : List OnePage
  pub last : OnePage
  pub cut : IsCutInto (met ++ entry ∷ []) (pages ++ (last ++ entry ∷ []) ∷ [])
  pub counts : it.counts.items ≡ lengths pages
  pub count : it.count ≡ length last
  pub used : it.used ≡ catalog_used last

-- These entries more were met.
abbrev pub CountsOn : List CatEntry → Counter → Counter → Type 0
CountsOn more old new = (met : List CatEntry) → IsCounted met old → IsCounted (met ++ more) new

-- There is room for the next entry, if it has so many bytes.
abbrev pub MakesRoom : ℕ → Counter → Counter → Type 0
MakesRoom size old new =
    (met : List CatEntry) (entry : CatEntry) → size ≡ entry_size entry → IsCounted met old → IsRoomy met entry new
