-- What pages are used for once some are kept and one is claimed.
use Rattle.std.proofs.Common.{◌≡◌, ◌⊎◌, inl, inr, ⊎_elim, ℕ, ◌==◌, Bool, true, false, not, List, [], ◌∷◌, Contains, refl, sym, ap, subst, ◌∙◌, arith, if◌then◌else◌}
use Rattle.std.specs.List.{AllByRecursion}
use Rattle.std.proofs.lemmas.Bool.{eqb-true}
use Rattle.std.proofs.lemmas.Bool.Decides.{nat_tests}
use Rattle.pm_model.proofs.Members.{at_first, first_or_rest, in_none, in_rest}
use Rattle.pm_shadow.specs.declared.page_use.PageUse.{PageUse}
use Rattle.pm_shadow.specs.declared.page_use.PageUse.TheVariants.{Free, Claimed, Kept}
use Rattle.pm_shadow.specs.Uses.{with_use}
use Rattle.pm_shadow.specs.State.{State, keeps, keeps_by, with_kept}
use Rattle.pm_shadow.specs.Copies.{KeepsSamePages}
use Rattle.pm_shadow.proofs.CopyLemmas.{kept_keeps}
use Rattle.pm_shadow.proofs.UsedLemmas.{in_or_not}
use Rattle.pm_law_copies.proofs.GraphsLemmas.Lists.{all_follow}
use Rattle.pm_saving.specs.Tied.{with_all_kept}

pub use_here : (page : ℕ) (u : PageUse) (uses : ℕ → PageUse) → with_use page u uses page ≡ u
use_here page u uses = ap (λ (b : Bool). if b then u else uses page) (self page)
  where
    self : (x : ℕ) → (x == x) ≡ true
    self x = grind (arith, nat_tests)

pub use_other : (page other : ℕ) (u : PageUse) (uses : ℕ → PageUse) → (other ≡ page → ⊥) → with_use page u uses other ≡ uses other
use_other page other u uses apart = by (other == page) refl
  where
    by : (b : Bool) → (other == page) ≡ b → (if b then u else uses other) ≡ uses other
    by true is = absurd (apart (eqb-true other page is))
    by false is = refl

pub same_or_not : (a b : ℕ) → (a ≡ b) ⊎ (a ≡ b → ⊥)
same_or_not a b = by (a == b) refl
  where
    by : (t : Bool) → (a == b) ≡ t → (a ≡ b) ⊎ (a ≡ b → ⊥)
    by true is = inl (eqb-true a b is)
    by false is = inr (λ same. let test : (a == b) ≡ true = grind (arith, nat_tests, same) in absurd (cc (is, test)))

-- one change behind another
pub same_then : (s t u : State) → KeepsSamePages s t → KeepsSamePages t u → KeepsSamePages s u
same_then s t u one two = record {
  slot = two.slot ∙ one.slot;
  header = two.header ∙ one.header;
  settled = two.settled ∙ one.settled;
  known = two.known ∙ one.known;
  kept = λ page. two.kept page ∙ one.kept page;
}

pub all_kept_same : (pages : List ℕ) (s : State) → AllByRecursion (λ (page : ℕ). keeps s page ≡ true) pages → KeepsSamePages s (with_all_kept pages s)
all_kept_same [] s all = record { slot = refl; header = refl; settled = refl; known = refl; kept = λ page. refl }
all_kept_same (page ∷ pages) s all =
    let here = kept_keeps s page all.0 in
    same_then s (with_kept s page) (with_all_kept (page ∷ pages) s) here
    (all_kept_same pages (with_kept s page) (all_follow (λ (page : ℕ). keeps s page ≡ true) (λ (q : ℕ). keeps (with_kept s page) q ≡ true) pages (λ q is. here.kept q ∙ is) all.1))

pub all_kept_count : (pages : List ℕ) (s : State) → (with_all_kept pages s).count ≡ s.count
all_kept_count [] s = refl
all_kept_count (page ∷ pages) s = all_kept_count pages (with_kept s page)

pub all_kept_failed : (pages : List ℕ) (s : State) → (with_all_kept pages s).failed ≡ s.failed
all_kept_failed [] s = refl
all_kept_failed (page ∷ pages) s = all_kept_failed pages (with_kept s page)

pub all_kept_other : (pages : List ℕ) (s : State) (page : ℕ) → (Contains pages page → ⊥) → (with_all_kept pages s).uses page ≡ s.uses page
all_kept_other [] s page none = refl
all_kept_other (first ∷ pages) s page none =
    all_kept_other pages (with_kept s first) page (λ there. none (in_rest first page pages there))
    ∙ use_other first page Kept s.uses (λ same. none (subst (Contains (first ∷ pages)) (sym same) (at_first first pages)))

pub all_kept_in : (pages : List ℕ) (s : State) (page : ℕ) → Contains pages page → (with_all_kept pages s).uses page ≡ Kept
all_kept_in [] s page within = absurd (in_none page within)
all_kept_in (first ∷ pages) s page within =
    ⊎_elim (λ (there : Contains pages page). all_kept_in pages (with_kept s first) page there)
    (λ (none : Contains pages page → ⊥).
    ⊎_elim
    (λ (same : first ≡ page). all_kept_other pages (with_kept s first) page none ∙ subst (λ (q : ℕ). with_use first Kept s.uses q ≡ Kept) same (use_here first Kept s.uses))
    (λ there. absurd (none there)) (first_or_rest first page pages within))
    (in_or_not pages page)

-- a page that may be claimed, or was, is none of the current copy
pub free_keeps : (s : State) (page : ℕ) → s.known ≡ true → s.uses page ≡ Free → keeps s page ≡ false
free_keeps s page known free = ap (keeps_by s.known) free ∙ ap not known

pub claimed_keeps_not : (s : State) (page : ℕ) → s.uses page ≡ Claimed → keeps s page ≡ false
claimed_keeps_not s page claimed = ap (keeps_by s.known) claimed
