-- Callers and entries side by side.
use Rattle.std.proofs.Common.{◌≡◌, ℕ, suc, ◌+◌, ◌<◌, List, [], ◌∷◌, ◌++◌, length, length-append, zip, arith, refl, ap, ◌∙◌, subst, sym}
use Rattle.pm_types.specs.declared.entry.Entry.{Entry}
use Rattle.pm_passes.proofs.Passes.{all_map, all_more}
use Rattle.pm_seats.specs.Kept.{IsPaired}

module _ {A B : Type 0} where
  zip_more : (xs : List A) (ys : List B) (x : A) (y : B) → length xs ≡ length ys → zip (xs ++ x ∷ []) (ys ++ y ∷ []) ≡ zip xs ys ++ (x, y) ∷ []
  zip_more [] [] x y same = refl
  zip_more [] (b ∷ ys) x y same = absurd (omega (arith, same))
  zip_more (a ∷ xs) [] x y same = absurd (omega (arith, same))
  zip_more (a ∷ xs) (b ∷ ys) x y same = ap (λ l. (a, b) ∷ l) (zip_more xs ys x y (omega (arith, same)))

  pub zip_long : (xs : List A) (ys : List B) → length xs ≡ length ys → length (zip xs ys) ≡ length ys
  zip_long [] [] same = refl
  zip_long [] (b ∷ ys) same = absurd (omega (arith, same))
  zip_long (a ∷ xs) [] same = absurd (omega (arith, same))
  zip_long (a ∷ xs) (b ∷ ys) same = ap suc (zip_long xs ys (omega (arith, same)))

-- the log has one entry more
pub log_more : (callers later : List ℕ) (journal then : List Entry) (number : ℕ) (entry : Entry) → length callers ≡ length journal → later ≡ callers ++ number ∷ [] → then ≡ journal ++ entry ∷ []
    → zip later then ≡ zip callers journal ++ (number, entry) ∷ []
log_more callers later journal then number entry same more longer = (λ i. zip (more i) (longer i)) ∙ zip_more callers journal number entry same

-- one entry more has a caller
pub paired_more : (callers : List ℕ) (journal then : List Entry) (next number : ℕ) (entry : Entry) → IsPaired callers journal next → number < next → then ≡ journal ++ entry ∷ [] → IsPaired (callers ++ number ∷ []) then next
paired_more callers journal then next number entry paired below longer = record {
  each =
      let one : length (callers ++ number ∷ []) ≡ length callers + 1 = length-append callers (number ∷ []) in
      let other : length then ≡ length journal + 1 = ap length longer ∙ length-append journal (entry ∷ []) in
      let same = paired.each in
      omega (arith, one, other, same);
  drawn = all_more (λ (n : ℕ). n < next) callers (number ∷ []) paired.drawn (below, tt);
  some = paired.some;
}

-- a journal that stays has the same callers
pub paired_still : (callers : List ℕ) (journal then : List Entry) (next : ℕ) → IsPaired callers journal next → then ≡ journal → IsPaired callers then next
paired_still callers journal then next paired same = subst (λ (j : List Entry). IsPaired callers j next) (sym same) paired

-- a number more was drawn
pub paired_drawn : (callers : List ℕ) (journal : List Entry) (next : ℕ) → IsPaired callers journal next → IsPaired callers journal (suc next)
paired_drawn callers journal next paired = record {
  each = paired.each;
  drawn = all_map (λ (n : ℕ) (below : n < next). omega (arith, below)) callers paired.drawn;
  some = omega arith;
}
