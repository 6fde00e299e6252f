-- How a run of calls of a disk goes on.
use Rattle.std.proofs.Common.{inl, inr, ⊎_elim, ℕ, List, arith}
use Rattle.pm_disk.specs.Disk.{Elapses, LeavesOnly}

module _ {D : Type 0} (moment : D → ℕ) (since : D → ℕ → List ℕ → Type 0) where
  -- before the first call
  pub started : (old : D) (P : List ℕ → Type 0) → ((image : List ℕ) → since old (moment old) image → P image) → LeavesOnly moment since old old P
  started old P here = record { later = omega arith; each = here; before = λ t image le left. inl left }

  -- one call more, after which a crash leaves what has P
  pub goes_on : (old mid new : D) (P images : List ℕ → Type 0) → LeavesOnly moment since old mid P → Elapses (moment mid) (moment new) (since mid) (since new) images
      → ((image : List ℕ) → images image → P image) → LeavesOnly moment since old new P
  goes_on old mid new P images so_far time here = record {
    later = omega (arith, so_far.later, time.later);
    each = λ image left. ⊎_elim (so_far.each image) (here image) (time.nothing_else (moment old) image so_far.later left);
    before = λ t image le left. ⊎_elim (so_far.before t image le) (λ now. inr (here image now)) (time.nothing_else t image (omega (arith, le, so_far.later)) left);
  }

  -- one run behind another, with images of one kind
  pub joined : (old mid new : D) (P : List ℕ → Type 0) → LeavesOnly moment since old mid P → LeavesOnly moment since mid new P → LeavesOnly moment since old new P
  joined old mid new P one two = record {
    later = omega (arith, one.later, two.later);
    each = λ image left. ⊎_elim (one.each image) (λ p. p) (two.before (moment old) image one.later left);
    before = λ t image le left. ⊎_elim (one.before t image le) (λ p. inr p) (two.before t image (omega (arith, le, one.later)) left);
  }

  -- what has P has Q
  pub weaker : (old new : D) (P Q : List ℕ → Type 0) → LeavesOnly moment since old new P → ((image : List ℕ) → P image → Q image) → LeavesOnly moment since old new Q
  weaker old new P Q so_far goes = record {
    later = so_far.later;
    each = λ image left. goes image (so_far.each image left);
    before = λ t image le left. ⊎_elim (λ was. inl was) (λ now. inr (goes image now)) (so_far.before t image le left);
  }
