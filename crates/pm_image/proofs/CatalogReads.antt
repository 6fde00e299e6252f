-- Steps of reading a catalog page.
use Rattle.std.proofs.Common.{◌≡◌, ℕ, ◌+◌, ◌-◌, ◌<◌, ◌≤◌, Bool, true, false, not, cond, ltb, leb, ◌&&◌, List, [], ◌∷◌, length, get_or, drop, Option, Some, None, Result, Ok, Err, IsTrue, refl, sym, ap, subst, ◌∙◌, arith, length-take, length-drop}
use Rattle.std.specs.List.{AllByRecursion, position_from, slice_range}
use Rattle.std.proofs.lemmas.Bool.{le-leb, lt-ltb, lt-leb}
use Rattle.std.proofs.lemmas.Iterator.Adapters.{position_from-zero}
use Rattle.std.proofs.lemmas.List.Quantifiers.{position-Some}
use Rattle.pm_types.specs.Names.{is_name_byte, IsName}
use Rattle.pm_types.specs.declared.limits.TheConstants.{NAME_BYTES}
use Rattle.pm_layout.specs.Reading.{address_at}
use Rattle.pm_image.specs.declared.catalog_kind.TheConstants.{ROOT_ENTRY_BYTES}
use Rattle.pm_image.specs.declared.catalog.CatEntry.{CatEntry}
use Rattle.pm_image.specs.declared.catalog.CatEntry.TheVariants.{Root}
use Rattle.pm_image.specs.declared.fault.PageFault.{PageFault}
use Rattle.pm_image.specs.Answers.{Gives}
use Rattle.pm_image.specs.Steps.{tested}
use Rattle.pm_types.specs.Results.{◌>>=◌}
use Rattle.pm_image.specs.CatalogPages.{Met, bad_name_byte, name_bytes, is_next_name, has_root_left, root_entry_at}
use Rattle.pm_image.specs.CatalogReading.{name_at, root_at}

-- what the second step gives is what all give
pub gives_then : {X Y : Type 0} (x : X) (read : Result X ℕ) (f : X → Result Y ℕ) (y : Result Y PageFault) → read ≡ Ok x → Gives y (f x) → Gives y (read >>= f)
gives_then x read f y is given = subst (λ (r : Result _ ℕ). Gives y (r >>= f)) (sym is) given

-- ---- names

not_true : (b : Bool) → IsTrue b → not b ≡ false
not_true true h = refl
not_true false h = cc

-- where each element passes, none is found that fails
none_fails : (p : ℕ → Bool) (i : ℕ) (xs : List ℕ) → AllByRecursion (λ x. IsTrue (p x)) xs → position_from (λ x. not (p x)) i xs ≡ None
none_fails p i [] h = refl
none_fails p i (x ∷ xs) h = ap (λ (b : Bool). cond b (Some i) (position_from (λ y. not (p y)) (i + 1) xs)) (not_true (p x) h.0) ∙ none_fails p (i + 1) xs h.1

-- a name has no byte that no name has
pub no_bad_byte : (name : List ℕ) → IsName name → bad_name_byte name ≡ None
no_bad_byte name is = position_from-zero (λ b. not (is_name_byte b)) name ∙ none_fails is_name_byte 0 name is.each

-- as many bytes as are asked for, where they are inside
pub part_length : (page : List ℕ) (place len : ℕ) → place + len ≤ length page → length (slice_range page place (place + len)) ≡ len
part_length page place len inside = omega (arith, length-take (place + len - place) (drop place page), length-drop place page)

-- the length of a name is in range
fits_name : (len : ℕ) → 0 < len → len ≤ 64 → (ltb 0 len && leb len NAME_BYTES) ≡ true
fits_name len some short = ap (λ (b : Bool). b && leb len NAME_BYTES) (lt-ltb 0 len some) ∙ le-leb len 64 short

pub named : (page : List ℕ) (at len place : ℕ) → place + len ≤ length page → IsName (slice_range page place (place + len)) → name_at page at len place ≡ Ok (slice_range page place (place + len))
unfolding name_at
named page at len place inside is =
    let long = part_length page place len inside in
    let some = is.some in
    let short = is.short in
    rw (fits_name len (omega arith) (omega arith), no_bad_byte (slice_range page place (place + len)) is) refl

pub nameless : (page : List ℕ) (at len place : ℕ) → place + len ≤ length page → slice_range page place (place + len) ≡ [] → name_at page at len place ≡ Err at
unfolding name_at
nameless page at len place inside is =
    let none : len ≡ 0 = sym (part_length page place len inside) ∙ ap length is in
    rw none refl

pub name_too_long : (page : List ℕ) (at len place : ℕ) → place + len ≤ length page → 64 < length (slice_range page place (place + len)) → name_at page at len place ≡ Err at
unfolding name_at
name_too_long page at len place inside long =
    let e = part_length page place len inside in
    let some : ltb 0 len ≡ true = lt-ltb 0 len (omega arith) in
    let high : leb len NAME_BYTES ≡ false = lt-leb len 64 (omega arith) in
    rw (some, high) refl

pub badly_named : (page : List ℕ) (at len place ahead : ℕ) → place + len ≤ length page → length (slice_range page place (place + len)) ≤ 64 → bad_name_byte (slice_range page place (place + len)) ≡ Some ahead → name_at page at len place ≡ Err (place + ahead)
unfolding name_at
badly_named page at len place ahead inside short bad =
    let e = part_length page place len inside in
    let there = position-Some (λ b. not (is_name_byte b)) (slice_range page place (place + len)) ahead 0 bad in
    let lt = there.0 in
    rw (fits_name len (omega arith) (omega arith), bad) refl

-- ---- roots

passed_on : {A B C E : Type 0} (r : Result A E) (s : Result B E) (x : C) (D : Type 0) (f : C → Result D E) → (r >>= λ a. s >>= λ b. f x) ≡ ((r >>= λ a. s >>= λ b. Ok x) >>= f)
passed_on (Ok a) (Ok b) x D f = refl
passed_on (Ok a) (Err e) x D f = refl
passed_on (Err e) s x D f = refl

-- a root's entry is its name, and then the rest
pub root_by_name : (count : Option ℕ) (met : Met) (page : List ℕ) (place : ℕ)
    → root_entry_at count met page place ≡ (name_at page (place + 1) (get_or page (place + 1) 0) (place + 2) >>= λ name. root_at count met page (place + 1) name (place + 2 + get_or page (place + 1) 0))
unfolding root_entry_at name_at root_at
root_by_name count met page place =
    let len = get_or page (place + 1) 0 in
    let name = slice_range page (place + 2) (place + 2 + len) in
    let at = address_at page (place + 2 + len) in
    let rest : ℕ → List ℕ → Result (CatEntry × ℕ) ℕ = λ end word. tested (is_next_name met.name word && has_root_left count met.roots) (place + 1) >>= λ u. tested (ltb 0 at.car) (place + 2 + len) >>= λ v. Ok (Root word at, end) in
    let same : place + ROOT_ENTRY_BYTES + len ≡ place + 2 + len + 12 = omega arith in
    ap (λ (end : ℕ). tested (ltb 0 len && leb len NAME_BYTES) (place + 1) >>= λ u. name_bytes (place + 2) (bad_name_byte name) >>= λ v. rest end name) same
    ∙ passed_on (tested (ltb 0 len && leb len NAME_BYTES) (place + 1)) (name_bytes (place + 2) (bad_name_byte name)) name (CatEntry × ℕ) (rest (place + 2 + len + 12))
