-- The pages of a store that was just made.
use Rattle.std.proofs.Common.{◌≡◌, ◌⊎◌, inl, inr, ℕ, ◌+◌, ◌-◌, ◌*◌, ◌/◌, ◌<◌, ◌≤◌, Bool, true, false, List, [], ◌∷◌, ◌++◌, length, get_or, take, drop, replicate, Option, Some, None, refl, sym, ◌∙◌, ap, subst, arith, lit≤, length-append, append_assoc}
use Rattle.std.specs.Prelude.{Contains, nat_lt, ◌==◌, if◌then◌else◌, option_map}
use Rattle.std.proofs.lemmas.Bool.{lt-ltb, le-ltb, cases_lt}
use Rattle.std.proofs.lemmas.List.{length-replicate, get_or_append_left, get_or-append_right, get_or-replicate, drop_at, take_all}
use Rattle.sha2.proofs.Facts256.{length-sha256}
use Rattle.pm_types.specs.declared.limits.TheConstants.{PAGE_BYTES}
use Rattle.pm_layout.specs.declared.header.Header.{Header}
use Rattle.pm_layout.specs.Headers.{header_spelling, HasHeaderSpelling}
use Rattle.pm_layout.proofs.HeaderLaws.{spelled_length}
use Rattle.pm_model.proofs.Members.{at_first, in_none, first_or_rest}
use Rattle.pm_image.specs.CatalogPages.{catalog_spelling}
use Rattle.pm_image.specs.Opening.{open_gate, is_open, page_count, page_of}
use Rattle.pm_image.specs.Blank.{blank_catalog, blank_catalog_page, blank_header, blank_store, header_page}
use Rattle.pm_image.proofs.BlankLaws.{blank_current}
use Rattle.pm_shadow.specs.declared.page_use.PageUse.{PageUse}
use Rattle.pm_shadow.specs.declared.page_use.PageUse.TheVariants.{Free, Current}
use Rattle.pm_shadow.specs.Uses.{UsesOnlyListed, new_uses}
use Rattle.pm_shadow.specs.State.{State, new_store}
use Rattle.pm_shadow.specs.Images.{Heads, Holds, IsSoundState}
use Rattle.pm_shadow.proofs.AttachLemmas.{current_parts}

-- ---- which pages are used

only_first : (page : ℕ) → Contains (2 ∷ []) page → 2 ≡ page
only_first page found = by (first_or_rest 2 page [] found)
  where
    by : (2 ≡ page) ⊎ Contains [] page → 2 ≡ page
    by (inl same) = same
    by (inr there) = absurd (in_none page there)

-- they are those of a new store where page 2 alone was listed
pub new_uses_are : (uses : ℕ → PageUse) → UsesOnlyListed (2 ∷ []) uses → uses ≡ new_uses
new_uses_are uses is = λ i page. here page (cases_lt page 3) i
  where
    as_test : (page : ℕ) (b : Bool) → nat_lt page 3 ≡ b → (if b then Current else Free) ≡ new_uses page
    as_test page b is = ap (λ (b : Bool). if b then Current else Free) (sym is)

    low : (page : ℕ) → page < 3 → (page < 2) ⊎ (2 ≤ page) → uses page ≡ Current
    low page lt (inl header) = is.headers page header
    low page lt (inr from_2) = let same : 2 ≡ page = omega arith in is.listed page (subst (λ (p : ℕ). Contains (2 ∷ []) p) same (at_first 2 []))

    here : (page : ℕ) → (page < 3) ⊎ (3 ≤ page) → uses page ≡ new_uses page
    here page (inl lt) = low page lt (cases_lt page 2) ∙ as_test page true (lt-ltb page 3 lt)
    here page (inr le) = is.others page (omega arith) (λ found. let same = only_first page found in absurd (omega arith)) ∙ as_test page false (le-ltb page 3 le)

-- ---- its bytes

page_long : (n : ℕ) (body : List ℕ) (gate : ℕ) → length (body ++ (replicate n 0 ++ gate ∷ [])) ≡ length body + n + 1
page_long n body gate = omega (arith, length-append body (replicate n 0 ++ gate ∷ []), length-append (replicate {A = ℕ} n 0) (gate ∷ []), length-replicate {A = ℕ} n 0)

three_long : (n : ℕ) (first back : List ℕ) → length (first ++ (replicate n 0 ++ back)) ≡ length first + n + length back
three_long n first back = omega (arith, length-append first (replicate n 0 ++ back), length-append (replicate {A = ℕ} n 0) back, length-replicate {A = ℕ} n 0)

second_zero : (n at : ℕ) (first back : List ℕ) → length first ≡ n → at < n → get_or (first ++ (replicate n 0 ++ back)) (n + at) 0 ≡ 0
second_zero n at first back long lt =
    let same : n + at - n ≡ at = omega arith in
    get_or-append_right first (replicate n 0 ++ back) n (n + at) 0 long (omega arith)
    ∙ ap (λ (k : ℕ). get_or (replicate n 0 ++ back) k 0) same
    ∙ get_or_append_left (replicate {A = ℕ} n 0) back 0 at (omega (arith, length-replicate {A = ℕ} n 0))
    ∙ get_or-replicate {A = ℕ} n at 0 0 lt

third_page : (n : ℕ) (first back : List ℕ) → length first ≡ n → length back ≡ n → take n (drop (2 * n) (first ++ (replicate n 0 ++ back))) ≡ back
third_page n first back long too =
    ap (λ (t : List ℕ). take n (drop (2 * n) t)) (sym (append_assoc first (replicate n 0) back))
    ∙ ap (take n) (drop_at (first ++ replicate n 0) back (2 * n) (omega (arith, length-append first (replicate n 0), length-replicate {A = ℕ} n 0, long)))
    ∙ take_all n back (omega (arith, too))

body_long : length (header_spelling blank_header) ≡ 96
body_long = spelled_length blank_header (length-sha256 blank_catalog_page)

first_long : length (header_page (header_spelling blank_header) open_gate) ≡ PAGE_BYTES
first_long = omega (arith, page_long (PAGE_BYTES - 97) (header_spelling blank_header) open_gate, body_long)

catalog_long : length blank_catalog_page ≡ PAGE_BYTES
unfolding blank_catalog_page catalog_spelling
catalog_long = omega (arith, length-append (catalog_spelling blank_catalog) (replicate (PAGE_BYTES - length (catalog_spelling blank_catalog)) 0), length-replicate {A = ℕ} (PAGE_BYTES - length (catalog_spelling blank_catalog)) 0)

store_long : length blank_store ≡ 3 * PAGE_BYTES
unfolding blank_store
store_long = omega (arith, three_long PAGE_BYTES (header_page (header_spelling blank_header) open_gate) blank_catalog_page, first_long, catalog_long)

pub three_pages : page_count blank_store ≡ 3
three_pages = ap (λ (n : ℕ). n / PAGE_BYTES) store_long

pub catalog_stands : page_of blank_store 2 ≡ blank_catalog_page
unfolding blank_store
catalog_stands = third_page PAGE_BYTES (header_page (header_spelling blank_header) open_gate) blank_catalog_page first_long catalog_long

gate_shut : is_open blank_store 1 ≡ false
unfolding blank_store
gate_shut = ap (λ (gate : ℕ). gate == open_gate) (second_zero PAGE_BYTES 16383 (header_page (header_spelling blank_header) open_gate) blank_catalog_page first_long (omega arith))

-- ---- what is known of it

pub new_sound : (bytes : List ℕ) (images : List ℕ → Type 0) → bytes ≡ blank_store → ((image : List ℕ) → images image → image ≡ bytes) → IsSoundState new_store bytes images
new_sound bytes images is only =
    let head = current_parts blank_store (record { slot = 0; header = blank_header }) blank_current in
    record {
      counted = let same = ap page_count is in omega (arith, same, three_pages);
      each = λ image now. subst (λ (it : List ℕ). Holds new_store bytes it) (sym (only image now)) (record {
        heads = subst (λ (it : List ℕ). Heads it 0 blank_header) (sym is) head.heads;
        shut = λ closed. ap (λ (it : List ℕ). is_open it 1) is ∙ gate_shut;
        outdone = λ up. absurd (cc);
        pages = λ page kept low old. (let same = ap page_count is in omega (arith, same, three_pages), refl);
      });
    }

-- a state of three pages, whose header and uses are these
abbrev fresh_with : Header → (ℕ → PageUse) → State
fresh_with header uses = record { slot = 0; header = header; settled = 3; count = 3; known = true; uses = uses; closed = true; failed = false }

pub fresh_is : (header : Header) (uses : ℕ → PageUse) → header ≡ blank_header → UsesOnlyListed (2 ∷ []) uses → fresh_with header uses ≡ new_store
fresh_is header uses same listed = λ i. fresh_with (same i) (new_uses_are uses listed i)

pub fresh_sound : (header : Header) (uses : ℕ → PageUse) (bytes : List ℕ) (images : List ℕ → Type 0) → header ≡ blank_header → UsesOnlyListed (2 ∷ []) uses
    → bytes ≡ blank_store → ((image : List ℕ) → images image → image ≡ bytes) → IsSoundState (fresh_with header uses) bytes images
fresh_sound header uses bytes images same listed is only = subst (λ (s : State). IsSoundState s bytes images) (sym (fresh_is header uses same listed)) (new_sound bytes images is only)

blank_spelled : HasHeaderSpelling blank_header
blank_spelled = record { version = refl; some = omega arith; last = lit≤ tt }

pub fresh_spelled : (header : Header) → header ≡ blank_header → HasHeaderSpelling header
fresh_spelled header same = subst (λ (h : Header). HasHeaderSpelling h) (sym same) blank_spelled

-- what is told after a store was made on a disk that tells nothing of a byte
pub blank_told : (old now : Option (List ℕ)) (made : List ℕ) → ((bytes : List ℕ) → old ≡ Some bytes → length bytes ≡ 0)
    → ((bytes : List ℕ) → old ≡ Some bytes → length bytes ≡ 0 → now ≡ Some made) → (old ≡ None → now ≡ None) → now ≡ option_map (λ _. made) old
blank_told None now made empty blank untold = untold refl
blank_told (Some bytes) now made empty blank untold = blank bytes refl (empty bytes refl)
