-- A set that is made from the last that was told on.
use Rattle.std.proofs.Common.{◌≡◌, ℕ, inl, inr, Bool, true, false, cond, refl, sym, ap, ◌∙◌, List, [], ◌∷◌, ◌++◌, Option, Some, None}
use Rattle.std.specs.Ordering.{eq_by_cmp}
use Rattle.std.specs.Option.{is_some}
use Rattle.std.specs.List.{fold}
use Rattle.std.specs.FinMap.{empty, get, insert, get-empty, get-insert, same_map}
use Rattle.std.proofs.lemmas.Bool.{cases_Bool}
use Rattle.pm_types.specs.declared.source.RefSource.{RefSource}
use Rattle.pm_types.specs.Orders.{source_cmp}
use Rattle.pm_types.proofs.Orders.{sources_total, sources_antisymmetric}
use Rattle.pm_types.proofs.Shown.{tied}
use Rattle.pm_remset.specs.Gathered.{with_told, gathered}
use Rattle.pm_remset.specs.Listed.{with_added}
use Rattle.pm_remset.specs.Remembered.{Remembered}

-- the first of two answers that is one
abbrev beside : Option ℕ → Option ℕ → Option ℕ
beside None other = other
beside (Some n) other = Some n

-- a set answers what one says, and what the other says where that one says nothing
pub record IsOver (set rest all : Remembered) : Type 0 where
  pub answers : (q : RefSource) → get all q ≡ beside (get set q) (get rest q)

-- nothing was told yet
pub over_begins : (set all : Remembered) → set ≡ empty → IsOver set all all
over_begins set all none = record { answers = λ q. sym (ap (λ found. beside found (get all q)) (ap (λ s. get s q) none ∙ get-empty source_cmp q)) }

-- nothing is left
pub over_ends : (set rest all : Remembered) → rest ≡ empty → IsOver set rest all → set ≡ all
over_ends set rest all none over =
    same_map sources_total sources_antisymmetric _ _ (λ q. sym (over.answers q ∙ ap (beside (get set q)) (ap (λ s. get s q) none ∙ get-empty source_cmp q) ∙ alone (get set q)))
  where
    alone : (found : Option ℕ) → beside found None ≡ found
    alone None = refl
    alone (Some n) = refl

-- what is told last
pub gathered_last : (told : List (RefSource × ℕ)) (e : RefSource × ℕ) → gathered (told ++ e ∷ []) ≡ insert (gathered told) e.0 e.1
gathered_last told e = folded told empty
  where
    folded : (told : List (RefSource × ℕ)) (set : Remembered) → fold with_told set (told ++ e ∷ []) ≡ insert (fold with_told set told) e.0 e.1
    folded [] set = refl
    folded (t ∷ told) set = folded told (with_told set t)

-- of one that is told the set knows already, or is given it
known : (t : Bool) (n : ℕ) (found later : Option ℕ) → (t ≡ true → is_some found ≡ true) → beside found (cond t (Some n) later) ≡ beside found later
known true n None later is = let no : false ≡ true = is refl in cc
known true n (Some m) later is = refl
known false n found later is = refl

given : (t : Bool) (n : ℕ) (found later : Option ℕ) → (t ≡ true → is_some found ≡ false) → beside found (cond t (Some n) later) ≡ beside (cond t (Some n) found) later
given true n None later is = refl
given true n (Some m) later is = let no : true ≡ false = is refl in cc
given false n found later is = refl

module _ (set rest all : Remembered) (e : RefSource × ℕ) (over : IsOver set (insert rest e.0 e.1) all) where
  told_at : (q : RefSource) → get all q ≡ beside (get set q) (cond (eq_by_cmp source_cmp q e.0) (Some e.1) (get rest q))
  told_at q = over.answers q ∙ ap (beside (get set q)) (get-insert sources_total rest e.0 e.1 q)

  same_source : (q : RefSource) → eq_by_cmp source_cmp q e.0 ≡ true → q ≡ e.0
  same_source q tie = sources_antisymmetric q e.0 (tied (source_cmp q e.0) tie)

  knows_it : is_some (get set e.0) ≡ true → (q : RefSource) → get all q ≡ beside (get set q) (get rest q)
  knows_it has q = told_at q ∙ known (eq_by_cmp source_cmp q e.0) e.1 (get set q) (get rest q) (λ tie. ap (λ x. is_some (get set x)) (same_source q tie) ∙ has)

  is_given_it : is_some (get set e.0) ≡ false → (q : RefSource) → get all q ≡ beside (get (insert set e.0 e.1) q) (get rest q)
  is_given_it none q =
      told_at q ∙ given (eq_by_cmp source_cmp q e.0) e.1 (get set q) (get rest q) (λ tie. ap (λ x. is_some (get set x)) (same_source q tie) ∙ none)
      ∙ ap (λ found. beside found (get rest q)) (sym (get-insert sources_total set e.0 e.1 q))

  -- the last that was left was added
  pub over_added : IsOver (with_added set e.0 e.1) rest all
  over_added = record {
    answers = λ q. elim (cases_Bool (is_some (get set e.0))) [
      | inl has ↦ knows_it has q ∙ ap (λ b. beside (get (cond b set (insert set e.0 e.1)) q) (get rest q)) (sym has)
      | inr none ↦ is_given_it none q ∙ ap (λ b. beside (get (cond b set (insert set e.0 e.1)) q) (get rest q)) (sym none)
    ];
  }
