-- The parts of a catalog page, written one after the other.
use Rattle.std.proofs.Common.{◌≡◌, ℕ, ◌-◌, ◌≤◌, ◌<◌, List, [], ◌++◌, length, take, replicate, ap, ◌∙◌, append_assoc, arith}
use Rattle.std.specs.List.{flat_map}
use Rattle.std.proofs.lemmas.List.{take_all}
use Rattle.byteorder.specs.Endian.{big_bytes}
use Rattle.pm_types.specs.declared.limits.TheConstants.{PAGE_BYTES}
use Rattle.pm_image.specs.declared.catalog.CatEntry.{CatEntry}
use Rattle.pm_image.specs.declared.catalog.CatalogPage.{CatalogPage}
use Rattle.pm_image.specs.CarPages.{padded}
use Rattle.pm_image.specs.CatalogPages.{catalog_magic, entry_spelling, catalog_used, catalog_spelling}
use Rattle.pm_image.proofs.CatalogAgain.{few_entries}

-- entries that fit a page are counted by two bytes
pub counted : (page : CatalogPage) (es : List CatEntry) → es ≡ page.entries → catalog_used page.entries ≤ PAGE_BYTES → length es < 65536
counted page es same fits = omega (arith, few_entries page.entries, ap length same)

-- the magic, the next page, its digest, the count and the entries are the spelling
pub all_written : (page : CatalogPage) (es : List CatEntry) (a b c d e f : List ℕ) → es ≡ page.entries → a ≡ [] → b ≡ a ++ catalog_magic → c ≡ b ++ big_bytes 8 page.next → d ≡ c ++ page.digest → e ≡ d ++ big_bytes 2 (length es) → f ≡ e ++ flat_map entry_spelling es → f ≡ catalog_spelling page
unfolding catalog_spelling
all_written page es a b c d e f same none magic next digest count entries =
    let text : List CatEntry → List ℕ = λ xs. catalog_magic ++ (big_bytes 8 page.next ++ (page.digest ++ (big_bytes 2 (length xs) ++ flat_map entry_spelling xs))) in
    let front : b ≡ catalog_magic = magic ∙ ap (λ (t : List ℕ). t ++ catalog_magic) none in
    let more : c ≡ catalog_magic ++ big_bytes 8 page.next = next ∙ ap (λ (t : List ℕ). t ++ big_bytes 8 page.next) front in
    entries ∙ ap (λ (t : List ℕ). t ++ flat_map entry_spelling es) (count ∙ ap (λ (t : List ℕ). t ++ big_bytes 2 (length es)) (digest ∙ ap (λ (t : List ℕ). t ++ page.digest) more))
    ∙ append_assoc ((catalog_magic ++ big_bytes 8 page.next) ++ page.digest) (big_bytes 2 (length es)) (flat_map entry_spelling es)
    ∙ append_assoc (catalog_magic ++ big_bytes 8 page.next) page.digest (big_bytes 2 (length es) ++ flat_map entry_spelling es)
    ∙ append_assoc catalog_magic (big_bytes 8 page.next) (page.digest ++ (big_bytes 2 (length es) ++ flat_map entry_spelling es))
    ∙ ap text same

-- filled up with zeros it is the page
pub filled_up : (page : CatalogPage) (text : List ℕ) (len : ℕ) → text ≡ catalog_spelling page → len ≡ length text → len ≤ PAGE_BYTES → take PAGE_BYTES text ++ replicate (PAGE_BYTES - len) 0 ≡ padded (catalog_spelling page)
filled_up page text len spelled same fits =
    let few : length text ≤ PAGE_BYTES = omega arith in
    ap (λ (t : List ℕ). t ++ replicate (PAGE_BYTES - len) 0) (take_all PAGE_BYTES text few)
    ∙ ap (λ (n : ℕ). text ++ replicate (PAGE_BYTES - n) 0) same
    ∙ ap padded spelled
