-- A catalog page is read part by part.
use Rattle.std.proofs.Common.{◌≡◌, ℕ, List, Option, Result, Ok, Err, refl, sym, ap, subst, ◌∙◌}
use Rattle.std.specs.List.{slice_range}
use Rattle.pm_layout.specs.Reading.{number_from}
use Rattle.pm_image.specs.declared.catalog_kind.TheConstants.{ENTRIES}
use Rattle.pm_image.specs.declared.fault.PageFault.{PageFault}
use Rattle.pm_image.specs.declared.catalog.CatEntry.{CatEntry}
use Rattle.pm_image.specs.declared.catalog.CatalogPage.{CatalogPage}
use Rattle.pm_image.specs.Steps.{tested, magic_at, rest_at}
use Rattle.pm_types.specs.Results.{◌>>=◌}
use Rattle.pm_image.specs.Answers.{answer, Gives}
use Rattle.pm_image.specs.CatalogPages.{Met, meeting_next, catalog_magic, is_next_page, has_next_digest, entries_at, catalog_at}
use Rattle.pm_image.specs.CatalogReading.{next_page_at, next_digest_at}
use Rattle.pm_image.proofs.Answered.{answer_gives, fails_too}
use Rattle.pm_image.proofs.CatalogReads.{gives_then}
use Rattle.pm_types.proofs.Results.{same_after}

whole : {A B C E : Type 0} (r : Result A E) (x : B) (f : B → Result C E) → (r >>= λ u. f x) ≡ ((r >>= λ u. Ok x) >>= f)
whole (Ok u) x f = refl
whole (Err e) x f = refl

-- what is left after the entries
abbrev ended : List ℕ → ℕ → List ℕ → List CatEntry × ℕ → Result CatalogPage ℕ
ended page next digest es = rest_at page es.1 >>= λ v. Ok (record { next = next; digest = digest; entries = es.0 })

-- what is left after the digest of the next page
abbrev listed : Option ℕ → Met → List ℕ → ℕ → List ℕ → Result CatalogPage ℕ
listed count met page next digest = entries_at count (meeting_next met next) page (number_from 2 page 44) ENTRIES >>= ended page next digest

abbrev parts : Option ℕ → Met → List ℕ → Result CatalogPage ℕ
parts count met page = magic_at catalog_magic page >>= λ u. next_page_at count met.pages page >>= λ next. next_digest_at next page >>= λ digest. listed count met page next digest

by_parts : (count : Option ℕ) (met : Met) (page : List ℕ) → catalog_at count met page ≡ parts count met page
unfolding catalog_at next_page_at next_digest_at
by_parts count met page =
    let next = number_from 8 page 4 in
    let digest = slice_range page 12 44 in
    same_after (magic_at catalog_magic page) _ _ (λ u.
    whole (tested (is_next_page count met.pages next) 4) next (λ n. tested (has_next_digest n digest) 12 >>= λ w. listed count met page n digest)
    ∙ same_after (tested (is_next_page count met.pages next) 4 >>= λ v. Ok next) _ _ (λ n. whole (tested (has_next_digest n digest) 12) digest (λ d. listed count met page n d)))

-- ---- the step that failed, and those before it that did not

pub magic_fails : (count : Option ℕ) (met : Met) (page : List ℕ) (fault : PageFault) → ◌≡◌ {A = Result (Unit {0}) PageFault} (Err fault) (answer (magic_at catalog_magic page)) → Gives {X = CatalogPage} (Err fault) (catalog_at count met page)
magic_fails count met page fault e =
    rw (by_parts count met page) (fails_too fault (magic_at catalog_magic page) (λ u. next_page_at count met.pages page >>= λ next. next_digest_at next page >>= λ digest. listed count met page next digest) (answer_gives (Err fault) (magic_at catalog_magic page) e))

after_magic : (count : Option ℕ) (met : Met) (page : List ℕ) (u : Unit {0}) (y : Result CatalogPage PageFault) → Ok u ≡ answer (magic_at catalog_magic page)
    → Gives y (next_page_at count met.pages page >>= λ next. next_digest_at next page >>= λ digest. listed count met page next digest) → Gives y (catalog_at count met page)
after_magic count met page u y e given =
    rw (by_parts count met page) (gives_then u (magic_at catalog_magic page) (λ u. next_page_at count met.pages page >>= λ next. next_digest_at next page >>= λ digest. listed count met page next digest) y (answer_gives (Ok u) (magic_at catalog_magic page) e) given)

pub next_fails : (count : Option ℕ) (met : Met) (page : List ℕ) (u : Unit {0}) (fault : PageFault) → Ok u ≡ answer (magic_at catalog_magic page) → ◌≡◌ {A = Result ℕ PageFault} (Err fault) (answer (next_page_at count met.pages page)) → Gives {X = CatalogPage} (Err fault) (catalog_at count met page)
next_fails count met page u fault e0 e =
    after_magic count met page u (Err fault) e0 (fails_too fault (next_page_at count met.pages page) (λ next. next_digest_at next page >>= λ digest. listed count met page next digest) (answer_gives (Err fault) (next_page_at count met.pages page) e))

after_next : (count : Option ℕ) (met : Met) (page : List ℕ) (u : Unit {0}) (next : ℕ) (y : Result CatalogPage PageFault) → Ok u ≡ answer (magic_at catalog_magic page) → Ok next ≡ answer (next_page_at count met.pages page)
    → Gives y (next_digest_at next page >>= λ digest. listed count met page next digest) → Gives y (catalog_at count met page)
after_next count met page u next y e0 e1 given =
    after_magic count met page u y e0 (gives_then next (next_page_at count met.pages page) (λ next. next_digest_at next page >>= λ digest. listed count met page next digest) y (answer_gives (Ok next) (next_page_at count met.pages page) e1) given)

pub digest_fails : (count : Option ℕ) (met : Met) (page : List ℕ) (u : Unit {0}) (next : ℕ) (fault : PageFault) → Ok u ≡ answer (magic_at catalog_magic page) → Ok next ≡ answer (next_page_at count met.pages page)
    → ◌≡◌ {A = Result (List ℕ) PageFault} (Err fault) (answer (next_digest_at next page)) → Gives {X = CatalogPage} (Err fault) (catalog_at count met page)
digest_fails count met page u next fault e0 e1 e =
    after_next count met page u next (Err fault) e0 e1 (fails_too fault (next_digest_at next page) (λ digest. listed count met page next digest) (answer_gives (Err fault) (next_digest_at next page) e))

-- the parts before the entries were read
pub record Begun (count : Option ℕ) (met : Met) (page : List ℕ) (u : Unit {0}) (next : ℕ) (digest : List ℕ) : Type 0 where
  pub magic : Ok u ≡ answer (magic_at catalog_magic page)
  pub next_page : Ok next ≡ answer (next_page_at count met.pages page)
  pub next_digest : Ok digest ≡ answer (next_digest_at next page)

after_digest : (count : Option ℕ) (met : Met) (page : List ℕ) (u : Unit {0}) (next : ℕ) (digest : List ℕ) (y : Result CatalogPage PageFault) → Begun count met page u next digest → Gives y (listed count met page next digest) → Gives y (catalog_at count met page)
after_digest count met page u next digest y b given =
    after_next count met page u next y b.magic b.next_page (gives_then digest (next_digest_at next page) (λ digest. listed count met page next digest) y (answer_gives (Ok digest) (next_digest_at next page) b.next_digest) given)

pub entries_fail : (count : Option ℕ) (met met2 : Met) (page : List ℕ) (u : Unit {0}) (next len : ℕ) (digest : List ℕ) (fault : PageFault) → Begun count met page u next digest → met2 ≡ meeting_next met next → len ≡ number_from 2 page 44
    → Gives {X = List CatEntry × ℕ} (Err fault) (entries_at count met2 page len ENTRIES) → Gives {X = CatalogPage} (Err fault) (catalog_at count met page)
entries_fail count met met2 page u next len digest fault b same counted given =
    let there : Gives {X = List CatEntry × ℕ} (Err fault) (entries_at count (meeting_next met next) page (number_from 2 page 44) ENTRIES) =
    subst (λ (n : ℕ). Gives {X = List CatEntry × ℕ} (Err fault) (entries_at count (meeting_next met next) page n ENTRIES)) counted (subst (λ (m : Met). Gives {X = List CatEntry × ℕ} (Err fault) (entries_at count m page len ENTRIES)) same given) in
    after_digest count met page u next digest (Err fault) b (fails_too fault (entries_at count (meeting_next met next) page (number_from 2 page 44) ENTRIES) (ended page next digest) there)

after_entries : (count : Option ℕ) (met met2 : Met) (page : List ℕ) (u : Unit {0}) (next len : ℕ) (digest : List ℕ) (es : List CatEntry × ℕ) (y : Result CatalogPage PageFault) → Begun count met page u next digest → met2 ≡ meeting_next met next → len ≡ number_from 2 page 44
    → entries_at count met2 page len ENTRIES ≡ Ok es → Gives y (ended page next digest es) → Gives y (catalog_at count met page)
after_entries count met met2 page u next len digest es y b same counted read given =
    let there : entries_at count (meeting_next met next) page (number_from 2 page 44) ENTRIES ≡ Ok es =
    ap (λ (n : ℕ). entries_at count (meeting_next met next) page n ENTRIES) (sym counted) ∙ ap (λ (m : Met). entries_at count m page len ENTRIES) (sym same) ∙ read in
    after_digest count met page u next digest y b (gives_then es (entries_at count (meeting_next met next) page (number_from 2 page 44) ENTRIES) (ended page next digest) y there given)

pub rest_fails : (count : Option ℕ) (met met2 : Met) (page : List ℕ) (u : Unit {0}) (next len : ℕ) (digest : List ℕ) (es : List CatEntry × ℕ) (fault : PageFault) → Begun count met page u next digest → met2 ≡ meeting_next met next → len ≡ number_from 2 page 44
    → entries_at count met2 page len ENTRIES ≡ Ok es → ◌≡◌ {A = Result (Unit {0}) PageFault} (Err fault) (answer (rest_at page es.1)) → Gives {X = CatalogPage} (Err fault) (catalog_at count met page)
rest_fails count met met2 page u next len digest es fault b same counted read e =
    after_entries count met met2 page u next len digest es (Err fault) b same counted read (fails_too fault (rest_at page es.1) (λ v. Ok (record { next = next; digest = digest; entries = es.0 })) (answer_gives (Err fault) (rest_at page es.1) e))

pub all_read : (count : Option ℕ) (met met2 : Met) (page : List ℕ) (u v : Unit {0}) (next len : ℕ) (digest : List ℕ) (es : List CatEntry × ℕ) → Begun count met page u next digest → met2 ≡ meeting_next met next → len ≡ number_from 2 page 44
    → entries_at count met2 page len ENTRIES ≡ Ok es → Ok v ≡ answer (rest_at page es.1) → catalog_at count met page ≡ Ok (record { next = next; digest = digest; entries = es.0 })
all_read count met met2 page u v next len digest es b same counted read e =
    after_entries count met met2 page u next len digest es (Ok (record { next = next; digest = digest; entries = es.0 })) b same counted read
    (gives_then v (rest_at page es.1) (λ v. Ok (record { next = next; digest = digest; entries = es.0 })) (Ok (record { next = next; digest = digest; entries = es.0 })) (answer_gives (Ok v) (rest_at page es.1) e) refl)
