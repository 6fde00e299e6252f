-- What a crash may leave of an engine's disk, call by call.
use Rattle.std.proofs.Common.{◌≡◌, ◌⊎◌, inl, inr, ⊎_elim, ◌≤◌, ℕ, true, false, List, Option, None, sym, ap, subst, ◌∙◌, arith}
use Rattle.std.specs.List.{Contains}
use Rattle.std.specs.Option.{IsSome, is_some}
use Rattle.pm_disk.specs.Disk.{LeavesOnly}
use Rattle.pm_model.specs.World.{World, Copy}
use Rattle.pm_model.specs.Journal.{chain, settled_in}
use Rattle.pm_image.specs.Stands.{StandsForCopy}
use Rattle.pm_saving.specs.Serving.{Serving, opening, world}
use Rattle.pm_saving.specs.Images.{IsCopyInProgress, IsLast, IsOfChain, IsOfRun, IsSettledCopy, IsTold, KeepsImages}

-- no call has answered that the disk failed
abbrev pub IsSound : Serving → Type 0
IsSound it = it.stopped ≡ None

not_stopped : (it : Serving) → IsSound it → IsSome it.stopped → ⊥
not_stopped it sound some = let none : false ≡ true = sym (ap is_some sound) ∙ some in cc none

-- while no call has, an image stands for the last acknowledged copy, or for one that was
settled_of : (it : Serving) (image : List ℕ) → IsSound it → IsLast it image → IsSettledCopy (world it) image
settled_of it image sound (inl settled) = settled
settled_of it image sound (inr begun) = absurd (not_stopped it sound begun.0)

chain_of : (it : Serving) (image : List ℕ) → IsSound it → IsOfRun it image → IsOfChain (opening it) it.journal image
chain_of it image sound (inl kept) = kept
chain_of it image sound (inr begun) = absurd (not_stopped it sound begun.0)

-- the copy that has settled is another's
as_settled : (w v : World) (image : List ℕ) → settled_in v ≡ settled_in w → IsSettledCopy w image → IsSettledCopy v image
as_settled w v image same stands = subst (λ (kept : ℕ × Copy). StandsForCopy image kept.0 kept.1) (sym same) stands

-- a chain that is another's
as_chain : (old new : Serving) (image : List ℕ) → chain (opening new) new.journal ≡ chain (opening old) old.journal → IsOfChain (opening old) old.journal image → IsOfChain (opening new) new.journal image
as_chain old new image same kept = (kept.0, subst (λ (copies : List (ℕ × Copy)). Contains copies kept.0) (sym same) kept.1, kept.2)

module _ {D : Type 0} (contents : D → Option (List ℕ)) (image : D → List ℕ → Type 0) (moment : D → ℕ) (since : D → ℕ → List ℕ → Type 0) (opened : D) where
  -- a call that makes no call of the disk, and after which the same copies have settled
  pub stays : (old new : Serving) (disk : D) → IsSound old → settled_in (world new) ≡ settled_in (world old)
      → chain (opening new) new.journal ≡ chain (opening old) old.journal → KeepsImages contents image moment since opened old disk → KeepsImages contents image moment since opened new disk
  stays old new disk sound settled same keeps = record {
    later = keeps.later;
    told = keeps.told;
    now = λ told left is. inl (as_settled (world old) (world new) left settled (settled_of old left sound (keeps.now told left is)));
    ever = λ told left is. inl (as_chain old new left same (chain_of old left sound (keeps.ever told left is)));
  }

  -- a call of which each image stands so
  module _ (old : Serving) (before after : D) (P : List ℕ → Type 0) (sound : IsSound old) (keeps : KeepsImages contents image moment since opened old before)
      (leaves : IsTold (contents opened) → LeavesOnly moment since before after P) (told : IsTold (contents before) → IsTold (contents after))
      (counts : (t : ℕ) (bytes : List ℕ) → t ≤ moment after → image after bytes → since after t bytes) where
    goes : (new : Serving) → ((left : List ℕ) → P left → IsLast new left) → ((left : List ℕ) → P left → IsOfRun new left) → ((left : List ℕ) → IsOfChain (opening old) old.journal left → IsOfRun new left)
        → KeepsImages contents image moment since opened new after
    goes new last run chained = record {
      later = λ is. let first = keeps.later is in let later = (leaves is).later in omega (arith, first, later);
      told = λ is. told (keeps.told is);
      now = λ is left there. last left ((leaves is).each left (counts (moment before) left (leaves is).later there));
      ever = λ is left there. ⊎_elim
          (λ (was : since before (moment opened) left). chained left (chain_of old left sound (keeps.ever is left was)))
          (run left)
          ((leaves is).before (moment opened) left (keeps.later is) there);
    }

    -- the last acknowledged copy alone
    pub spared : (new : Serving) → settled_in (world new) ≡ settled_in (world old) → chain (opening new) new.journal ≡ chain (opening old) old.journal
        → Contains (chain (opening old) old.journal) (settled_in (world old)) → ((left : List ℕ) → P left → IsSettledCopy (world old) left) → KeepsImages contents image moment since opened new after
    spared new settled same there stands = goes new
        (λ left is. inl (as_settled (world old) (world new) left settled (stands left is)))
        (λ left is. inl (as_chain old new left same (settled_in (world old), there, stands left is)))
        (λ left is. inl (as_chain old new left same is))

    -- the last acknowledged copy, or the one in progress, where the call answered that the disk failed
    pub failed : (new : Serving) → IsSome new.stopped → world new ≡ world old → chain (opening new) new.journal ≡ chain (opening old) old.journal
        → Contains (chain (opening old) old.journal) (settled_in (world old)) → ((left : List ℕ) → P left → IsSettledCopy (world old) left ⊎ IsCopyInProgress (world old) left)
        → KeepsImages contents image moment since opened new after
    failed new some same_world same there stands =
        let in_world : (left : List ℕ) → IsCopyInProgress (world old) left → IsCopyInProgress (world new) left = λ left is. subst (λ (w : World). IsCopyInProgress w left) (sym same_world) is in
        goes new
        (λ left is. ⊎_elim (λ (settled : IsSettledCopy (world old) left). inl (subst (λ (w : World). IsSettledCopy w left) (sym same_world) settled)) (λ (begun : IsCopyInProgress (world old) left). inr (some, in_world left begun)) (stands left is))
        (λ left is. ⊎_elim (λ (settled : IsSettledCopy (world old) left). inl (as_chain old new left same (settled_in (world old), there, settled))) (λ (begun : IsCopyInProgress (world old) left). inr (some, in_world left begun)) (stands left is))
        (λ left is. inl (as_chain old new left same is))

    -- a copy was acknowledged: it or the one before at each moment of the call, and it alone after
    pub acknowledged : (new : Serving) → (longer : List (ℕ × Copy)) → chain (opening new) new.journal ≡ longer → ((kept : ℕ × Copy) → Contains (chain (opening old) old.journal) kept → Contains longer kept) → Contains longer (settled_in (world new))
        → Contains (chain (opening old) old.journal) (settled_in (world old)) → ((left : List ℕ) → P left → IsSettledCopy (world old) left ⊎ IsSettledCopy (world new) left)
        → (IsTold (contents opened) → (left : List ℕ) → image after left → IsSettledCopy (world new) left) → KeepsImages contents image moment since opened new after
    acknowledged new longer is_longer more there was_there stands only =
        let in_new : (left : List ℕ) → IsOfChain (opening old) old.journal left → IsOfRun new left =
        λ left kept. inl (kept.0, subst (λ (copies : List (ℕ × Copy)). Contains copies kept.0) (sym is_longer) (more kept.0 kept.1), kept.2) in
        record {
          later = λ is. let first = keeps.later is in let later = (leaves is).later in omega (arith, first, later);
          told = λ is. told (keeps.told is);
          now = λ is left here. inl (only is left here);
          ever = λ is left here. ⊎_elim
              (λ (was : since before (moment opened) left). in_new left (chain_of old left sound (keeps.ever is left was)))
              (λ (during : P left). ⊎_elim
              (λ (settled : IsSettledCopy (world old) left). in_new left (settled_in (world old), was_there, settled))
              (λ (settled : IsSettledCopy (world new) left). inl (settled_in (world new), subst (λ (copies : List (ℕ × Copy)). Contains copies (settled_in (world new))) (sym is_longer) there, settled))
              (stands left during))
              ((leaves is).before (moment opened) left (keeps.later is) here);
        }

  -- the disk as it was opened
  pub begins : (it : Serving) → Contains (chain (opening it) it.journal) (settled_in (world it)) → ((bytes : List ℕ) → since opened (moment opened) bytes → image opened bytes)
      → (IsTold (contents opened) → (left : List ℕ) → image opened left → IsSettledCopy (world it) left) → KeepsImages contents image moment since opened it opened
  begins it there only_now stands = record {
    later = λ is. omega arith;
    told = λ is. is;
    now = λ is left here. inl (stands is left here);
    ever = λ is left here. inl (settled_in (world it), there, stands is left (only_now left here));
  }
