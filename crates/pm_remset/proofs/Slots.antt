-- No pair of a slot stands behind one of a later slot.
use Rattle.std.proofs.Common.{◌≡◌, ℕ, ◌<◌, ◌==◌, ◌||◌, ◌&&◌, Bool, true, false, refl, ap, ◌∙◌, arith, List, [], ◌∷◌}
use Rattle.std.proofs.lemmas.Bool.Decides.{nat_tests}
use Rattle.std.specs.declared.cmp.Ordering.TheVariants.{Less}
use Rattle.std.specs.Ordering.{is_eq}
use Rattle.std.specs.List.{AllByRecursion, list_any}
use Rattle.std.specs.BTreeMap.{is_at}
use Rattle.pm_types.specs.declared.source.RefSource.{RefSource}
use Rattle.pm_types.specs.contracts.source.RefSourceOrd.TheImpl.{ghosts}
use Rattle.pm_remset.specs.Indexed.{pair_cmp}
use Rattle.pm_remset.proofs.Sources.{at_pair}

and_false : (b : Bool) → (b && false) ≡ false
and_false true = refl
and_false false = refl

module _ (slot : ℕ) where
  -- a pair above one of a later slot is of a later slot
  later_pair : (p k : ℕ × RefSource) → slot < p.0 → pair_cmp p k ≡ Less → slot < k.0
  later_pair p k later less = grind (arith, nat_tests, later, less)

  pub not_at : (source : RefSource) (k : ℕ × RefSource) → (slot ≡ k.0 → ⊥) → is_at (pair_cmp (slot, source)) k ≡ false
  not_at source k apart =
      let differ : (slot == k.0) ≡ false = grind (arith, nat_tests, apart) in
      at_pair slot k.0 source k.1 ∙ ap (λ b. b && is_eq (ghosts.cmp source k.1)) differ

  pub none_later : (source : RefSource) (p : ℕ × RefSource) (ps : List (ℕ × RefSource)) → slot < p.0 → AllByRecursion (λ k. pair_cmp p k ≡ Less) ps → list_any (is_at (pair_cmp (slot, source))) ps ≡ false
  none_later source p [] later h = refl
  none_later source p (k ∷ ks) later h =
      let above = later_pair p k later h.0 in
      (λ i. not_at source k (λ same. omega (arith, above, same)) i || none_later source p ks later h.1 i)
