-- A page that is written, and the others.
use Rattle.std.proofs.Common.{◌≡◌, ◌⊎◌, inl, inr, ⊎_elim, ℕ, ◌+◌, ◌*◌, ◌<◌, ◌≤◌, List, length, take, drop, Option, Some, sym, ◌∙◌, ap, subst, arith}
use Rattle.std.specs.Prelude.{option_map}
use Rattle.std.proofs.lemmas.Bool.{cases_lt, cases_eq}
use Rattle.pm_types.specs.declared.limits.TheConstants.{PAGE_BYTES}
use Rattle.pm_disk.specs.Writes.{written, Torn}
use Rattle.pm_disk.proofs.WriteLemmas.{torn_written, length-written}
use Rattle.pm_image.specs.Opening.{page_of, page_count}
use Rattle.pm_shadow.specs.Images.{place_of, WritesPage}
use Rattle.pm_shadow.proofs.SlotLemmas.{part_torn, part_written, page_inside}

-- a page that was written is read
pub page_reads : (page : ℕ) (new old : List ℕ) → length new ≡ PAGE_BYTES → page_of (written (place_of page) new old) page ≡ new
page_reads page new old len =
    ap (λ (n : ℕ). take n (drop (place_of page) (written (place_of page) new old))) (sym len) ∙ part_written (place_of page) new old (omega arith)

-- it is one of the pages
pub page_there : (page : ℕ) (new old : List ℕ) → length new ≡ PAGE_BYTES → page < page_count (written (place_of page) new old)
page_there page new old len = let long = length-written (place_of page) new old (omega arith) in omega arith

pub torn_page : (page : ℕ) (new old : List ℕ) → length new ≡ PAGE_BYTES → Torn (place_of page) PAGE_BYTES old (written (place_of page) new old)
torn_page page new old len = subst (λ (n : ℕ). Torn (place_of page) n old (written (place_of page) new old)) len (torn_written (place_of page) new old)

-- two pages lie apart
pub aside : (page other : ℕ) → (other ≡ page → ⊥) → (PAGE_BYTES * other + PAGE_BYTES ≤ place_of page) ⊎ (place_of page + PAGE_BYTES ≤ PAGE_BYTES * other)
aside page other apart =
    ⊎_elim (λ (lt : other < page). inl (omega arith)) (λ (le : page ≤ other). ⊎_elim (λ (same : other ≡ page). absurd (apart same)) (λ (differ : other ≡ page → ⊥). inr (omega (arith, differ))) (cases_eq other page)) (cases_lt other page)

-- a page stays through a write of other places that was cut short
pub page_stays : (at m : ℕ) (was image : List ℕ) → Torn at m was image → (page : ℕ) → page < page_count was → (PAGE_BYTES * page + PAGE_BYTES ≤ at) ⊎ (at + m ≤ PAGE_BYTES * page) → page_of image page ≡ page_of was page
page_stays at m was image torn page there apart = part_torn at m was image torn (PAGE_BYTES * page) PAGE_BYTES (page_inside page was there) apart

writes_page : (page : ℕ) (new was : List ℕ) → length new ≡ PAGE_BYTES → WritesPage page new was (written (place_of page) new was)
writes_page page new was len = record {
  there = page_there page new was len;
  here = page_reads page new was len;
  others = λ other apart there. page_stays (place_of page) PAGE_BYTES was (written (place_of page) new was) (torn_page page new was len) other there (aside page other apart);
}

-- where the contents were told before and after
pub page_made : (page : ℕ) (new : List ℕ) (before after : Option (List ℕ)) (was now : List ℕ) → length new ≡ PAGE_BYTES → after ≡ option_map (written (place_of page) new) before → before ≡ Some was → after ≡ Some now → WritesPage page new was now
page_made page new before after was now len is told then =
    let same : Some (written (place_of page) new was) ≡ Some now = sym (is ∙ ap (option_map (written (place_of page) new)) told) ∙ then in
    let one : written (place_of page) new was ≡ now = cc same in
    subst (WritesPage page new was) one (writes_page page new was len)
