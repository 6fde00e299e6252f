-- A tree in which a test by the key let entries stay, seen as a map.
use Rattle.std.proofs.Common.{◌≡◌, cond, List, [], ◌∷◌, Bool, true, false, Option, Some, None, refl, sym, ap, ◌∙◌}
use Rattle.std.specs.List.{filter}
use Rattle.std.specs.declared.cmp.Ordering.{Ordering}
use Rattle.std.specs.Cmp.{IsTotalOrder}
use Rattle.std.specs.Ordering.{is_eq}
use Rattle.std.specs.FinMap.{FinMap, IsAntisymmetric, find, from_entries, get, retain_keys, get-from_entries, same_map}
use Rattle.pm_model.proofs.Maps.{tied_key, retain_get}

-- what a search finds where an entry stays or goes, and stands at the key or elsewhere
found_of : {X : Type 0} (stays here now : Bool) (x : X) (rest : Option X) → (here ≡ true → stays ≡ now) → cond stays (cond here (Some x) (cond now rest None)) (cond now rest None) ≡ cond now (cond here (Some x) rest) None
found_of true true true x rest is = refl
found_of true true false x rest is = cc (is refl)
found_of true false true x rest is = refl
found_of true false false x rest is = refl
found_of false true true x rest is = cc (is refl)
found_of false true false x rest is = refl
found_of false false true x rest is = refl
found_of false false false x rest is = refl

same_either : {X : Type 0} (now : Bool) (x : X) → x ≡ cond now x x
same_either true x = refl
same_either false x = refl

module _ {K X : Type 0} {R : K → K → Ordering} (o : IsTotalOrder R) (same : IsAntisymmetric R) where
  find_step : (stays : Bool) (q : K) (e : K × X) (rest : List (K × X)) → find R q (cond stays (e ∷ rest) rest) ≡ cond stays (cond (is_eq (R q e.0)) (Some e.1) (find R q rest)) (find R q rest)
  find_step true q e rest = refl
  find_step false q e rest = refl

  find_filter : (p : K → Bool) (es : List (K × X)) (q : K) → find R q (filter (λ (e : K × X). p e.0) es) ≡ cond (p q) (find R q es) None
  find_filter p [] q = same_either (p q) None
  find_filter p (e ∷ es) q =
      find_step (p e.0) q e (filter (λ (e : K × X). p e.0) es)
      ∙ ap (λ found. cond (p e.0) (cond (is_eq (R q e.0)) (Some e.1) found) found) (find_filter p es q)
      ∙ found_of (p e.0) (is_eq (R q e.0)) (p q) e.1 (find R q es) (λ tie. ap p (sym (tied_key same q e.0 tie)))

  -- what it is once a test let entries stay
  pub retained : (p : K → Bool) (old new : List (K × X)) (v : FinMap R X) → from_entries {R = R} old ≡ v → new ≡ filter (λ (e : K × X). p e.0) old → from_entries {R = R} new ≡ retain_keys v p
  retained p old new v is left =
      same_map o same _ _ (λ q.
      get-from_entries o new q ∙ ap (find R q) left ∙ find_filter p old q
      ∙ ap (λ found. cond (p q) found None) (sym (get-from_entries o old q) ∙ ap (λ m. get m q) is)
      ∙ sym (retain_get o same v p q))
