-- Entries are written one after the other.
use Rattle.std.proofs.Common.{◌≡◌, ℕ, ◌+◌, ◌≤◌, ◌<◌, List, [], ◌∷◌, ◌++◌, length, take, drop, get_or, sym, ap, subst, ◌∙◌, arith}
use Rattle.std.specs.Global.{Vec}
use Rattle.std.specs.List.{flat_map}
use Rattle.std.proofs.lemmas.List.{take-append-drop, take_more, append-nil}
use Rattle.std.proofs.lemmas.Grind.{flat_map-append}
use Rattle.pm_layout.specs.Room.{Appends}
use Rattle.pm_layout.proofs.Sizes.{Appends-then}
use Rattle.pm_image.specs.declared.catalog_kind.TheConstants.{ENTRIES}
use Rattle.pm_image.specs.declared.catalog.CatEntry.{CatEntry}
use Rattle.pm_image.specs.CatalogPages.{entry_spelling, entry_size, catalog_used}

-- what two lists of entries use
used_both : (xs ys : List CatEntry) → catalog_used (xs ++ ys) + ENTRIES ≡ catalog_used xs + catalog_used ys
used_both [] ys = omega arith
used_both (x ∷ xs) ys = let others = used_both xs ys in omega arith

used_at_least : (xs : List CatEntry) → ENTRIES ≤ catalog_used xs
used_at_least [] = omega arith
used_at_least (x ∷ xs) = let others = used_at_least xs in omega arith

-- the entries up to the next
next_entry : (es : List CatEntry) (i : ℕ) (e : CatEntry) → i < length es → e ≡ get_or es i e → take (i + 1) es ≡ take i es ++ e ∷ []
next_entry es i e lt is = take_more es i e lt ∙ ap (λ (x : CatEntry). take i es ++ x ∷ []) (sym is)

-- what the entries up to the next use
pub used_more : (es : List CatEntry) (i : ℕ) (e : CatEntry) → i < length es → e ≡ get_or es i e → catalog_used (take (i + 1) es) ≡ catalog_used (take i es) + entry_size e
used_more es i e lt is =
    let whole = used_both (take i es) (e ∷ []) in
    let same : catalog_used (take (i + 1) es) ≡ catalog_used (take i es ++ e ∷ []) = ap catalog_used (next_entry es i e lt is) in
    omega arith

-- some of the entries use no more than all
pub used_front : (es : List CatEntry) (i : ℕ) → catalog_used (take i es) ≤ catalog_used es
used_front es i =
    let whole = used_both (take i es) (drop i es) in
    let same : catalog_used (take i es ++ drop i es) ≡ catalog_used es = ap catalog_used (take-append-drop i es) in
    let least = used_at_least (drop i es) in
    omega arith

-- one entry more was written
pub entries_more : (old mid new : Vec ℕ) (es : List CatEntry) (i : ℕ) (e : CatEntry) → i < length es → e ≡ get_or es i e → Appends old mid (flat_map entry_spelling (take i es)) → Appends mid new (entry_spelling e) → Appends old new (flat_map entry_spelling (take (i + 1) es))
entries_more old mid new es i e lt is before one =
    let text : flat_map entry_spelling (take i es) ++ entry_spelling e ≡ flat_map entry_spelling (take (i + 1) es) =
    ap (λ (t : List ℕ). flat_map entry_spelling (take i es) ++ t) (sym (append-nil (entry_spelling e)))
    ∙ sym (flat_map-append entry_spelling (take i es) (e ∷ [])) ∙ ap (λ (xs : List CatEntry). flat_map entry_spelling xs) (sym (next_entry es i e lt is)) in
    subst (λ (t : List ℕ). Appends old new t) text (Appends-then old mid new (flat_map entry_spelling (take i es)) (entry_spelling e) before one)
