-- How the entries of a catalog are counted.
use Rattle.std.proofs.Common.{◌≡◌, ℕ, ◌+◌, ◌<◌, ◌≤◌, arith, sym, ap, subst, ◌∙◌, List, [], ◌∷◌, ◌++◌, length, map, take, get_or, append_assoc}
use Rattle.std.proofs.lemmas.List.{length-append, map-append, take_more}
use Rattle.pm_types.specs.declared.limits.TheConstants.{PAGE_BYTES}
use Rattle.pm_image.specs.declared.catalog_kind.TheConstants.{ENTRIES}
use Rattle.pm_image.specs.declared.catalog.CatEntry.{CatEntry}
use Rattle.pm_image.specs.CatalogPages.{catalog_used, entry_size}
use Rattle.pm_copies.specs.Cutting.{OnePage, FitsAlone, IsCutInto, cut}
use Rattle.pm_save.specs.declared.progress.cuts.Counter.{Counter}
use Rattle.pm_save.specs.Progress.Counted.{IsCounted, IsRoomy, lengths}

-- the bytes of entries with one more behind
pub used_behind : (page : OnePage) (entry : CatEntry) → catalog_used (page ++ entry ∷ []) ≡ catalog_used page + entry_size entry
used_behind [] entry = omega arith
used_behind (first ∷ page) entry = omega (arith, used_behind page entry)

-- the page that is filled has room for the entry
pub still_roomy : (met : List CatEntry) (entry : CatEntry) (size : ℕ) (it : Counter) → IsCounted met it → size ≡ entry_size entry → it.used + size ≤ PAGE_BYTES
    → ((entries : List CatEntry) (pages : List OnePage) (last : OnePage) (entry : CatEntry) → IsCutInto entries (pages ++ last ∷ []) → catalog_used last + entry_size entry ≤ PAGE_BYTES → IsCutInto (entries ++ entry ∷ []) (pages ++ (last ++ entry ∷ []) ∷ []))
    → IsRoomy met entry it
still_roomy met entry size it had is room law = record {
  pages = had.pages;
  last = had.last;
  cut = law met had.pages had.last entry had.cut (let used = had.used in omega (arith, used, is, room));
  counts = had.counts;
  count = had.count;
  used = had.used;
}

-- it has none, and the next one was begun
pub page_ended : (met : List CatEntry) (entry : CatEntry) (size : ℕ) (old new : Counter) → IsCounted met old → size ≡ entry_size entry → size ≤ 78 → PAGE_BYTES < old.used + size
    → new.counts.items ≡ old.counts.items ++ old.count ∷ [] → new.count ≡ 0 → new.used ≡ ENTRIES
    → ((entries : List CatEntry) (pages : List OnePage) (last : OnePage) (entry : CatEntry) → IsCutInto entries (pages ++ last ∷ []) → FitsAlone entry → PAGE_BYTES < catalog_used last + entry_size entry → IsCutInto (entries ++ entry ∷ []) (pages ++ last ∷ (entry ∷ []) ∷ []))
    → IsRoomy met entry new
page_ended met entry size old new had is small past counts count used law = record {
  pages = had.pages ++ had.last ∷ [];
  last = [];
  cut = subst (IsCutInto (met ++ entry ∷ [])) (sym (append_assoc had.pages (had.last ∷ []) ((entry ∷ []) ∷ [])))
      (law met had.pages had.last entry had.cut (omega (arith, is, small)) (let was = had.used in omega (arith, was, is, past)));
  counts = counts ∙ (λ i. had.counts i ++ had.count i ∷ []) ∙ sym (map-append (λ (page : OnePage). length page) had.pages (had.last ∷ []));
  count = count;
  used = used;
}

-- the entry was put there
pub one_more : (met : List CatEntry) (entry : CatEntry) (size : ℕ) (old new : Counter) → IsRoomy met entry old → size ≡ entry_size entry
    → new.counts.items ≡ old.counts.items → new.count ≡ old.count + 1 → new.used ≡ old.used + size → IsCounted (met ++ entry ∷ []) new
one_more met entry size old new had is counts count used = record {
  pages = had.pages;
  last = had.last ++ entry ∷ [];
  cut = had.cut;
  counts = counts ∙ had.counts;
  count = count ∙ ap (λ n. n + 1) had.count ∙ sym (length-append had.last (entry ∷ []));
  used = used ∙ (λ i. had.used i + is i) ∙ sym (used_behind had.last entry);
}

-- all were met
pub all_counted : (met : List CatEntry) (it : Counter) (counts : List ℕ) → IsCounted met it → counts ≡ it.counts.items ++ it.count ∷ []
    → ((entries : List CatEntry) (pages : List OnePage) → IsCutInto entries pages → pages ≡ cut entries) → counts ≡ lengths (cut met)
all_counted met it counts had is law =
    is ∙ (λ i. had.counts i ++ had.count i ∷ []) ∙ sym (map-append (λ (page : OnePage). length page) had.pages (had.last ∷ []))
    ∙ ap lengths (law met (had.pages ++ had.last ∷ []) had.cut)

-- the entries of one more
pub entries_more : {A : Type 0} (entry : A → CatEntry) (met : List CatEntry) (xs : List A) (i : ℕ) (x : A) → i < length xs → x ≡ get_or xs i x
    → (met ++ map entry (take i xs)) ++ entry x ∷ [] ≡ met ++ map entry (take (i + 1) xs)
entries_more {A} entry met xs i x inside is =
    append_assoc met (map entry (take i xs)) (entry x ∷ [])
    ∙ ap (λ (es : List CatEntry). met ++ es) (sym (map-append entry (take i xs) (x ∷ [])) ∙ ap (map entry) (ap (λ (y : A). take i xs ++ y ∷ []) is ∙ sym (take_more xs i x inside)))
