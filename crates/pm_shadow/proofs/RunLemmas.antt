-- How runs of calls of a disk are joined.
use Rattle.std.proofs.Common.{◌≡◌, inl, inr, ℕ, ◌-◌, List, length, Option, Some, None, refl, ◌∙◌, subst}
use Rattle.std.specs.Prelude.{option_map}
use Rattle.pm_disk.specs.Writes.{written, Torn, TornIfTold}
use Rattle.pm_disk.specs.Disk.{LeavesOnly, SameImages, Elapses}
use Rattle.pm_disk.specs.Ordered.{IsInOrder}
use Rattle.pm_disk.proofs.RunLemmas.{started, goes_on, joined, weaker}
use Rattle.pm_shadow.specs.Runs.{IsCut, OnlyLooks}

module _ {D : Type 0} (moment : D → ℕ) (since : D → ℕ → List ℕ → Type 0) where
  -- two writes, each with a sync behind it
  pub in_order : (old mid new : D) (images mid_images : List ℕ → Type 0) (bytes first : List ℕ) (first_at second_at n : ℕ)
      → LeavesOnly moment since old mid (IsCut first_at (length first) images) → LeavesOnly moment since mid new (IsCut second_at n mid_images)
      → ((left : List ℕ) → mid_images left → left ≡ written first_at first bytes)
      → LeavesOnly moment since old new (IsInOrder images bytes first_at first second_at n)
  in_order old mid new images mid_images bytes first first_at second_at n one two only =
      let P : List ℕ → Type 0 = IsInOrder images bytes first_at first second_at n in
      joined moment since old mid new P
      (weaker moment since old mid (IsCut first_at (length first) images) P one (λ left cut. inr (inl cut)))
      (weaker moment since mid new (IsCut second_at n mid_images) P two (λ left cut. inr (inr (subst (λ (was : List ℕ). Torn second_at n was left) (only cut.0 cut.1) cut.2))))

-- bytes that are told after a change were told before it
pub told_before : (f : List ℕ → List ℕ) (old : Option (List ℕ)) (bytes : List ℕ) → option_map f old ≡ Some bytes → (was : List ℕ) × (old ≡ Some was) × (bytes ≡ f was)
told_before f None bytes is = absurd (cc)
told_before f (Some was) bytes is = (was, refl, cc)

-- and so they were before a write that was cut short
pub torn_before : (at n : ℕ) (old new : Option (List ℕ)) (bytes : List ℕ) → TornIfTold at n old new → new ≡ Some bytes → (was : List ℕ) × (old ≡ Some was) × Torn at n was bytes
torn_before at n None new bytes torn is = let gone = torn.untold refl in absurd (cc)
torn_before at n (Some was) new bytes torn is =
    let it = torn.told was refl in
    let same : it.0 ≡ bytes = cc (it.1, is) in
    (was, refl, subst (λ (b : List ℕ). Torn at n was b) same it.2)

module _ {D : Type 0} (contents : D → Option (List ℕ)) (image : D → List ℕ → Type 0) (moment : D → ℕ) (since : D → ℕ → List ℕ → Type 0) where
  -- one call that writes nothing
  pub one_look : (old new : D) → ((left : List ℕ) → since old (moment old) left → image old left) → contents new ≡ contents old → SameImages (image old) (image new) → Elapses (moment old) (moment new) (since old) (since new) (image new)
      → OnlyLooks contents image moment since old new
  one_look old new now told images time = record {
    told = told;
    images = images;
    leaves = goes_on moment since old old new (image old) (image new) (started moment since old (image old) now) time images.no_more;
  }

  -- one run that writes nothing behind another
  pub looks_then : (old mid new : D) → OnlyLooks contents image moment since old mid → OnlyLooks contents image moment since mid new → OnlyLooks contents image moment since old new
  looks_then old mid new one two = record {
    told = two.told ∙ one.told;
    images = record { no_more = λ left now. one.images.no_more left (two.images.no_more left now); no_fewer = λ left was. two.images.no_fewer left (one.images.no_fewer left was) };
    leaves = joined moment since old mid new (image old) one.leaves (weaker moment since mid new (image mid) (image old) two.leaves one.images.no_more);
  }
