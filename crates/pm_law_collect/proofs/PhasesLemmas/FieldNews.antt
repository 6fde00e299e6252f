-- What effective sets give once the cars heard of each field of an object.
use Rattle.std.proofs.Common.{◌≡◌, ℕ, zero, suc, ◌+◌, ◌<◌, ◌==◌, false, cond, refl, ap, sym, ◌∙◌, List, [], ◌∷◌, ◌++◌, Option, Some, None, is_some, arith}
use Rattle.std.specs.Option.{option_map, option_flatten}
use Rattle.std.specs.List.{slice_get}
use Rattle.std.specs.FinMap.{get}
use Rattle.std.proofs.lemmas.Bool.{eqb-true, eq-eqb, true≢false, false_from_ne_true}
use Rattle.pm_types.specs.declared.address.Addr.{Addr}
use Rattle.pm_types.specs.declared.source.RefSource.{RefSource}
use Rattle.pm_types.specs.declared.source.Change.{Change}
use Rattle.pm_view.specs.View.{Sources}
use Rattle.pm_view.specs.Effective.{with_source, applied, effective_in}
use Rattle.pm_view.specs.Barrier.{news}
use Rattle.pm_view.specs.Collecting.{field_news}
use Rattle.pm_law_commands.proofs.RowLemmas.News.{news-append}

-- what a set gives after the changes for each field, one after the other
abbrev pub folded : (ℕ → Option Addr → Option ℕ → Option ℕ) → ℕ → List (Option Addr) → Option ℕ → Option ℕ
folded step n [] o = o
folded step n (f ∷ fs) o = folded step (n + 1) fs (step n f o)

pub applied-both : (set : Sources) (cs ds : List Change) → applied set (cs ++ ds) ≡ applied (applied set cs) ds
applied-both set [] ds = refl
applied-both set (c ∷ cs) ds = applied-both (with_source set c.source c.slot) cs ds

module _ (e : ℕ) (y : RefSource) (tell : ℕ → Option Addr → List (ℕ × Change)) (step : ℕ → Option Addr → Option ℕ → Option ℕ)
    (one : (n : ℕ) (f : Option Addr) (set : Sources) → get (applied set (news e (tell n f))) y ≡ step n f (get set y)) where
  pub applied_fields : (n : ℕ) (fs : List (Option Addr)) (set : Sources) → get (applied set (news e (field_news tell n fs))) y ≡ folded step n fs (get set y)
  applied_fields n [] set = refl
  applied_fields n (f ∷ fs) set =
      ap (λ cs. get (applied set cs) y) (news-append e (tell n f) (field_news tell (n + 1) fs))
      ∙ ap (λ s. get s y) (applied-both set (news e (tell n f)) (news e (field_news tell (n + 1) fs)))
      ∙ applied_fields (n + 1) fs (applied set (news e (tell n f)))
      ∙ ap (folded step (n + 1) fs) (one n f set)

  -- the effective set of a car that has both a set and a queue, or neither, and hears only where it stands
  pub effective_fields : (set : Option Sources) (queue : Option (List Change)) (fs : List (Option Addr)) → is_some set ≡ is_some queue → (is_some queue ≡ false → folded step 0 fs None ≡ None)
      → effective_in set (option_map (λ q. q ++ news e (field_news tell 0 fs)) queue) y ≡ folded step 0 fs (effective_in set queue y)
  effective_fields None None fs both deaf = sym (deaf refl)
  effective_fields None (Some q) fs both deaf = absurd (true≢false (sym both))
  effective_fields (Some set) None fs both deaf = absurd (true≢false both)
  effective_fields (Some set) (Some q) fs both deaf = ap (λ s. get s y) (applied-both set q (news e (field_news tell 0 fs))) ∙ applied_fields 0 fs (applied set q)

-- steps that leave everything as it is
pub folded_none : (step : ℕ → Option Addr → Option ℕ → Option ℕ) → ((n : ℕ) (f : Option Addr) (o : Option ℕ) → step n f o ≡ o) → (n : ℕ) (fs : List (Option Addr)) (o : Option ℕ) → folded step n fs o ≡ o
folded_none step none n [] o = refl
folded_none step none n (f ∷ fs) o = ap (folded step (n + 1) fs) (none n f o) ∙ folded_none step none (n + 1) fs o

-- steps of one index alone
pub folded_past : (h : Option Addr → Option ℕ → Option ℕ) (i n : ℕ) → i < n → (fs : List (Option Addr)) (o : Option ℕ) → folded (λ m f o. cond (m == i) (h f o) o) n fs o ≡ o
folded_past h i n past [] o = refl
folded_past h i n past (f ∷ fs) o =
    ap (λ b. folded (λ m f o. cond (m == i) (h f o) o) (n + 1) fs (cond b (h f o) o)) (false_from_ne_true (n == i) (λ same. let one = eqb-true n i same in omega (arith, past, one)))
    ∙ folded_past h i (n + 1) (omega (arith, past)) fs o

folded_at : (h : Option Addr → Option ℕ → Option ℕ) → ((o : Option ℕ) → h None o ≡ o) → (i n : ℕ) → (fs : List (Option Addr)) (o : Option ℕ)
    → folded (λ m f o. cond (m == n + i) (h f o) o) n fs o ≡ h (option_flatten (slice_get fs i)) o
folded_at h null i n [] o = sym (null o)
folded_at h null zero n (f ∷ fs) o =
    ap (λ b. folded (λ m f o. cond (m == n + zero) (h f o) o) (n + 1) fs (cond b (h f o) o)) (eq-eqb n (n + zero) (omega arith))
    ∙ folded_past h (n + zero) (n + 1) (omega arith) fs (h f o)
folded_at h null (suc i) n (f ∷ fs) o =
    ap (λ b. folded (λ m f o. cond (m == n + suc i) (h f o) o) (n + 1) fs (cond b (h f o) o)) (false_from_ne_true (n == n + suc i) (λ same. let one = eqb-true n (n + suc i) same in omega (arith, one)))
    ∙ ap (λ k. folded (λ m f o. cond (m == k) (h f o) o) (n + 1) fs o) (let same : n + suc i ≡ n + 1 + i = omega arith in same)
    ∙ folded_at h null i (n + 1) fs o

-- the step of the index of a field has what the field stores
pub folded_field : (h : Option Addr → Option ℕ → Option ℕ) → ((o : Option ℕ) → h None o ≡ o) → (i : ℕ) (fs : List (Option Addr)) (o : Option ℕ)
    → folded (λ m f o. cond (m == i) (h f o) o) 0 fs o ≡ h (option_flatten (slice_get fs i)) o
folded_field h null i fs o = ap (λ k. folded (λ m f o. cond (m == k) (h f o) o) 0 fs o) (let same : i ≡ 0 + i = omega arith in same) ∙ folded_at h null i 0 fs o
