-- Where the addresses of a page stand.
use Rattle.std.proofs.Common.{◌≡◌, ℕ, ◌+◌, ◌-◌, ◌*◌, ◌≤◌, false, List, [], ◌∷◌, ◌++◌, length, take, drop, replicate, Option, Some, None, refl, sym, ap, subst, ◌∙◌, append_assoc, arith, length-append}
use Rattle.std.specs.List.{flat_map, slice_range, AllByRecursion}
use Rattle.std.proofs.lemmas.List.{take_at, drop_at}
use Rattle.byteorder.specs.Endian.{big_bytes}
use Rattle.pm_types.specs.declared.limits.TheConstants.{PAGE_BYTES, CAR_HEAD_BYTES}
use Rattle.pm_types.specs.declared.address.Addr.{Addr}
use Rattle.pm_types.specs.declared.object.Slot.{Slot}
use Rattle.pm_types.specs.declared.object.Slot.TheVariants.{Live, Moved}
use Rattle.pm_layout.specs.Spelling.{address, field, spelling, slot_size, Stands}
use Rattle.pm_layout.proofs.Sizes.{field_length, fields_length}
use Rattle.pm_layout.proofs.Texts.{Stands-split}
use Rattle.pm_image.specs.declared.catalog_kind.TheConstants.{ENTRIES, CAR_ENTRY_BYTES, ROOT_ENTRY_BYTES}
use Rattle.pm_image.specs.declared.car.CarImage.{CarImage}
use Rattle.pm_image.specs.declared.catalog.CatEntry.{CatEntry}
use Rattle.pm_image.specs.declared.catalog.CatEntry.TheVariants.{Car, Root}
use Rattle.pm_image.specs.declared.catalog.CatalogPage.{CatalogPage}
use Rattle.pm_image.specs.CarPages.{car_magic, car_spelling, padded, record_spelling}
use Rattle.pm_image.specs.CatalogPages.{IsCatalogInRange, IsEntryInRange, catalog_magic, catalog_spelling, entry_size, entry_spelling}
use Rattle.pm_image.specs.Graphs.{Site, field_sites, record_sites, root_sites, slot_sites}
use Rattle.pm_image.proofs.CarSizes.{record_length}
use Rattle.pm_image.proofs.CatalogTakes.{car_size, root_size}
use Rattle.pm_law_copies.proofs.GraphsLemmas.Lists.{all_both}

-- the twelve bytes of an address stand at its place in these bytes, which are those of its page
pub record IsAt (bytes : List ℕ) (page : ℕ) (site : Site) : Type 0 where
  pub of_page : site.page ≡ page
  pub spelled : slice_range bytes site.at (site.at + 12) ≡ address site.to

-- an entry is spelled in the bytes of its size
abbrev pub HasSize : CatEntry → Type 0
HasSize entry = length (entry_spelling entry) ≡ entry_size entry

-- an entry whose numbers and digest the types can hold is
sizes : (entries : List CatEntry) → AllByRecursion IsEntryInRange entries → AllByRecursion HasSize entries
sizes [] range = tt
sizes (Car car train page digest ∷ entries) range = (car_size car train page digest range.0.3, sizes entries range.1)
sizes (Root name to ∷ entries) range = (root_size name to, sizes entries range.1)

abbrev pub AreAt : List ℕ → ℕ → List Site → Type 0
AreAt bytes page sites = AllByRecursion (IsAt bytes page) sites

address_length : (to : Addr) → length (address to) ≡ 12
unfolding address
address_length to = refl

-- an address that stands somewhere is the twelve bytes there
stood : (bytes : List ℕ) (place end : ℕ) (to : Addr) → Stands bytes place (address to) end → slice_range bytes place (place + 12) ≡ address to
stood bytes place end to stands =
    let twelve : place + 12 - place ≡ 12 = omega arith in
    ap (λ (n : ℕ). take n (drop place bytes)) twelve ∙ ap (λ (t : List ℕ). take 12 t) stands.parts ∙ take_at (address to) (drop end bytes) 12 (address_length to)

module _ (bytes : List ℕ) (page : ℕ) where
  fields_stand : (place end : ℕ) (fields : List (Option Addr)) → place ≤ length bytes → Stands bytes place (flat_map field fields) end → AreAt bytes page (field_sites page place fields)
  unfolding field
  fields_stand place end [] start stands = tt
  fields_stand place end (None ∷ fields) start stands =
      let parts = Stands-split bytes (field None) (flat_map field fields) place (place + 12) end start (ap (λ (n : ℕ). place + n) (field_length None)) stands in
      fields_stand (place + 12) end fields parts.first.inside parts.second
  fields_stand place end (Some to ∷ fields) start stands =
      let parts = Stands-split bytes (field (Some to)) (flat_map field fields) place (place + 12) end start (ap (λ (n : ℕ). place + n) (field_length (Some to))) stands in
      (record { of_page = refl; spelled = stood bytes place (place + 12) to parts.first }, fields_stand (place + 12) end fields parts.first.inside parts.second)

  slot_stands : (place end : ℕ) (number : ℕ) (slot : Slot) → place ≤ length bytes → Stands bytes place (record_spelling (number, slot)) end → AreAt bytes page (slot_sites page place slot)
  unfolding spelling
  slot_stands place end number (Live object) start stands =
      let rest : List ℕ = flat_map field object.fields ++ object.bytes in
      let head : List ℕ = big_bytes 4 number ++ 1 ∷ (big_bytes 8 object.id ++ (big_bytes 2 (length object.fields) ++ big_bytes 2 (length object.bytes))) in
      let one = Stands-split bytes head rest place (place + 17) end start refl stands in
      let two = Stands-split bytes (flat_map field object.fields) object.bytes (place + 17) (place + 17 + 12 * length object.fields) end one.first.inside (ap (λ (n : ℕ). place + 17 + n) (fields_length object.fields)) one.second in
      fields_stand (place + 17) (place + 17 + 12 * length object.fields) object.fields one.first.inside two.first
  slot_stands place end number (Moved to) start stands =
      let parts = Stands-split bytes (big_bytes 4 number ++ 2 ∷ []) (address to) place (place + 5) end start refl stands in
      (record { of_page = refl; spelled = stood bytes (place + 5) end to parts.second }, tt)

  -- the addresses of records stand at their places
  pub records_stand : (place end : ℕ) (records : List (ℕ × Slot)) → place ≤ length bytes → Stands bytes place (flat_map record_spelling records) end → AreAt bytes page (record_sites page place records)
  records_stand place end [] start stands = tt
  records_stand place end (first ∷ records) start stands =
      let next : ℕ = place + 4 + slot_size first.1 in
      let sized : place + length (record_spelling first) ≡ next = omega (arith, record_length first) in
      let parts = Stands-split bytes (record_spelling first) (flat_map record_spelling records) place next end start sized stands in
      all_both (IsAt bytes page) (slot_sites page place first.1) (record_sites page next records) (slot_stands place next first.0 first.1 start parts.first) (records_stand next end records parts.first.inside parts.second)

  entry_stands : (place end : ℕ) (name : List ℕ) (to : Addr) → place ≤ length bytes → Stands bytes place (entry_spelling (Root name to)) end → AreAt bytes page (record { page = page; at = place + 2 + length name; to = to; to_live = false } ∷ [])
  unfolding entry_spelling
  entry_stands place end name to start stands =
      let mid : ℕ = place + 2 + length name in
      let sized : place + length (2 ∷ (length name ∷ name)) ≡ mid = omega arith in
      let parts = Stands-split bytes (2 ∷ (length name ∷ name)) (address to) place mid end start sized stands in
      (record { of_page = refl; spelled = stood bytes mid end to parts.second }, tt)

  -- the addresses of roots stand at their places
  pub entries_stand : (place end : ℕ) (entries : List CatEntry) → place ≤ length bytes → AllByRecursion HasSize entries → Stands bytes place (flat_map entry_spelling entries) end → AreAt bytes page (root_sites page place entries)
  entries_stand place end [] start sizes stands = tt
  entries_stand place end (Car car train at digest ∷ entries) start sizes stands =
      let parts = Stands-split bytes (entry_spelling (Car car train at digest)) (flat_map entry_spelling entries) place (place + CAR_ENTRY_BYTES) end start (ap (λ (n : ℕ). place + n) sizes.0) stands in
      entries_stand (place + CAR_ENTRY_BYTES) end entries parts.first.inside sizes.1 parts.second
  entries_stand place end (Root name to ∷ entries) start sizes stands =
      let next : ℕ = place + ROOT_ENTRY_BYTES + length name in
      let sized : place + length (entry_spelling (Root name to)) ≡ next = omega (arith, root_size name to) in
      let parts = Stands-split bytes (entry_spelling (Root name to)) (flat_map entry_spelling entries) place next end start sized stands in
      all_both (IsAt bytes page) (record { page = page; at = place + 2 + length name; to = to; to_live = false } ∷ []) (root_sites page next entries) (entry_stands place next name to start parts.first) (entries_stand next end entries parts.first.inside sizes.1 parts.second)

-- a text and zeros: where the text stands
whole_stands : (bytes text : List ℕ) → length bytes ≡ PAGE_BYTES → bytes ≡ padded text → Stands bytes 0 text (length text)
whole_stands bytes text whole spelled =
    let zeros : List ℕ = replicate (PAGE_BYTES - length text) 0 in
    let long = ap length spelled in
    record {
      inside = omega (arith, long, length-append text zeros);
      parts = spelled ∙ ap (λ (t : List ℕ). text ++ t) (sym (drop_at text zeros (length text) refl) ∙ ap (λ (t : List ℕ). drop (length text) t) (sym spelled));
    }

-- the addresses of the page of a car
pub car_places : (bytes : List ℕ) (page : ℕ) (car : CarImage) → length bytes ≡ PAGE_BYTES → bytes ≡ padded (car_spelling car) → AreAt bytes page (record_sites page CAR_HEAD_BYTES car.slots)
unfolding car_spelling
car_places bytes page car whole spelled =
    let records : List ℕ = flat_map record_spelling car.slots in
    let head : List ℕ = car_magic ++ (big_bytes 8 car.number ++ big_bytes 2 (length car.slots)) in
    let stands = whole_stands bytes (car_spelling car) whole spelled in
    let parts = Stands-split bytes head records 0 CAR_HEAD_BYTES (length (car_spelling car)) (omega arith) refl stands in
    records_stand bytes page CAR_HEAD_BYTES (length (car_spelling car)) car.slots parts.first.inside parts.second

-- the addresses of a page of the catalog
pub catalog_places : (bytes : List ℕ) (page : ℕ) (catalog : CatalogPage) → length bytes ≡ PAGE_BYTES → IsCatalogInRange catalog → bytes ≡ padded (catalog_spelling catalog) → AreAt bytes page (root_sites page ENTRIES catalog.entries)
unfolding catalog_spelling
catalog_places bytes page catalog whole range spelled =
    let entries : List ℕ = flat_map entry_spelling catalog.entries in
    let head : List ℕ = catalog_magic ++ (big_bytes 8 catalog.next ++ (catalog.digest ++ big_bytes 2 (length catalog.entries))) in
    let stands = whole_stands bytes (catalog_spelling catalog) whole spelled in
    let sized : 0 + length head ≡ ENTRIES = omega (arith, range.digest, length-append catalog.digest (big_bytes 2 (length catalog.entries))) in
    let same : catalog_spelling catalog ≡ head ++ entries =
    ap (λ (t : List ℕ). catalog_magic ++ (big_bytes 8 catalog.next ++ t)) (sym (append_assoc catalog.digest (big_bytes 2 (length catalog.entries)) entries)) in
    let parts = Stands-split bytes head entries 0 ENTRIES (length (catalog_spelling catalog)) (omega arith) sized (subst (λ (t : List ℕ). Stands bytes 0 t (length (catalog_spelling catalog))) same stands) in
    entries_stand bytes page ENTRIES (length (catalog_spelling catalog)) catalog.entries parts.first.inside (sizes catalog.entries range.entries) parts.second
