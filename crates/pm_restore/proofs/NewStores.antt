-- The pages of a store that was just made are those of a new store.
use Rattle.std.proofs.Common.{◌≡◌, ◌⊎◌, inl, inr, ℕ, ◌<◌, ◌≤◌, Bool, true, List, [], ◌∷◌, Option, refl, sym, ap, subst, ◌∙◌, arith, if◌then◌else◌}
use Rattle.std.specs.Prelude.{Contains}
use Rattle.std.proofs.lemmas.Bool.{cases_lt, le-ltb, true≢false}
use Rattle.pm_disk.specs.Disk.{IfTold}
use Rattle.pm_model.proofs.Members.{at_first, first_or_rest, in_none}
use Rattle.pm_image.specs.Blank.{blank_header, blank_store}
use Rattle.pm_image.specs.Stands.{pages_of}
use Rattle.pm_shadow.specs.declared.page_use.PageUse.TheVariants.{Free, Current}
use Rattle.pm_shadow.specs.State.{keeps, keeps_by, new_store}
use Rattle.pm_shadow.specs.Copies.{IsKept, KeepsGraph}
use Rattle.pm_shadow.proofs.NewLemmas.{catalog_stands, three_pages}
use Rattle.pm_copies.specs.Plans.{graph_of_plan}
use Rattle.pm_copies.specs.Laid.{IsLaidBehind}
use Rattle.pm_law_copies.specs.Layout.Examples.{nothing}
use Rattle.pm_law_copies.proofs.LayoutLemmas.Again.{laid_found}
use Rattle.pm_law_copies.proofs.LayoutLemmas.Nothing.{holds_nothing}
use Rattle.pm_restore.specs.Restored.{IsNewStore}

laid : IsLaidBehind (pages_of blank_store) blank_header nothing
laid = let three = three_pages in holds_nothing (pages_of blank_store) (omega (arith, three)) catalog_stands

only_2 : (page : ℕ) → Contains (2 ∷ []) page → 2 ≡ page
only_2 page found = by (first_or_rest 2 page [] found)
  where
    by : (2 ≡ page) ⊎ Contains [] page → 2 ≡ page
    by (inl same) = same
    by (inr there) = absurd (in_none page there)

kept_2 : (page : ℕ) → 2 ≡ page → IsKept new_store page
kept_2 page same = subst (λ (p : ℕ). IsKept new_store p) same (record { from_2 = omega arith; settled = omega arith; kept = refl })

kept_alone : (page : ℕ) → 2 ≤ page → keeps new_store page ≡ true → Contains (2 ∷ []) page
kept_alone page from_2 kept = by (cases_lt page 3)
  where
    by : (page < 3) ⊎ (3 ≤ page) → Contains (2 ∷ []) page
    by (inl lt) = let same : 2 ≡ page = omega (arith, lt, from_2) in subst (λ (p : ℕ). Contains (2 ∷ []) p) same (at_first 2 [])
    by (inr le) = absurd (true≢false (sym kept ∙ ap (λ (b : Bool). keeps_by true (if b then Current else Free)) (le-ltb page 3 le)))

blank_keeps : KeepsGraph new_store blank_store (graph_of_plan nothing)
blank_keeps = record {
  found = (let three = three_pages in laid_found (pages_of blank_store) blank_header nothing (omega (arith, three)) laid);
  first = at_first 2 [];
  kept = λ page there. kept_2 page (only_2 page there);
  only = λ known page from_2 kept. kept_alone page from_2 kept;
}

pub made_new : (contents : Option (List ℕ)) → IfTold contents (λ bytes. bytes ≡ blank_store) → IsNewStore new_store contents
made_new contents blank = record {
  is_new = refl;
  nothing_laid = λ bytes told. subst (λ (store : List ℕ). KeepsGraph new_store store (graph_of_plan nothing)) (sym (blank bytes told)) blank_keeps;
}
