-- In which order a store is made.
use Rattle.std.proofs.Common.{◌≡◌, ℕ, ◌+◌, ◌*◌, ◌<◌, ◌≤◌, List, Some, sym, ◌∙◌, subst, arith}
use Rattle.pm_types.specs.declared.limits.TheConstants.{PAGE_BYTES}
use Rattle.pm_disk.specs.declared.disk.Disk.{Ghosts}
use Rattle.pm_disk.specs.Disk.{Elapses, LeavesOnly, OnlyTorn}
use Rattle.pm_disk.specs.Made.{Made, MadeMore}
use Rattle.pm_disk.specs.Writes.{Torn}
use Rattle.pm_disk.proofs.WriteLemmas.{torn_refl}
use Rattle.pm_disk.proofs.RunLemmas.{started, goes_on, joined, weaker}
use Rattle.pm_image.specs.Opening.{gate_place}
use Rattle.pm_shadow.specs.Runs.{IsCut, OnlyLooks}
use Rattle.pm_shadow.specs.Init.{MakesInOrder, OpensLast}

-- a write within a range that was written, cut short as it was
torn_wide : (n at m : ℕ) (a b c : List ℕ) → at + m ≤ n → Torn 0 n a b → Torn at m b c → Torn 0 n a c
torn_wide n at m a b c le one two = record {
  no_shorter = let first = one.no_shorter in let second = two.no_shorter in omega (arith, first, second);
  no_longer = let first = one.no_longer in let second = two.no_longer in omega (arith, first, second, le);
  before = λ i lt before. absurd (omega arith);
  behind = λ i lt behind. let longer = one.no_shorter in two.behind i (omega (arith, lt, longer)) (omega (arith, le, behind)) ∙ one.behind i lt behind;
}

-- an image is cut short nowhere
pub cut_none : (n : ℕ) (images : List ℕ → Type 0) (left : List ℕ) → images left → IsCut 0 n images left
cut_none n images left now = (left, now, torn_refl 0 n left)

-- one write more within the range
pub cut_more : (n at m : ℕ) (images mid_images : List ℕ → Type 0) → at + m ≤ n → ((left : List ℕ) → mid_images left → IsCut 0 n images left) → (left : List ℕ) → IsCut at m mid_images left → IsCut 0 n images left
cut_more n at m images mid_images le so_far left cut =
    let was = so_far cut.0 cut.1 in
    (was.0, was.1, torn_wide n at m was.0 cut.0 left le was.2 cut.2)

-- Calls that write within the three pages: at each moment of them, and then.
pub record IsWithin {D : Type 0} (d : Ghosts D) (old new : D) : Type 0 where
  pub leaves : LeavesOnly d.moment d.since old new (IsCut 0 (3 * PAGE_BYTES) (d.image old))
  pub now : (left : List ℕ) → d.image new left → IsCut 0 (3 * PAGE_BYTES) (d.image old) left

module _ {D : Type 0} (d : Ghosts D) (old : D) where
  abbrev Within : List ℕ → Type 0
  Within = IsCut 0 (3 * PAGE_BYTES) (d.image old)

  pub begins : ((left : List ℕ) → d.since old (d.moment old) left → d.image old left) → IsWithin d old old
  begins only = record { leaves = started d.moment d.since old Within (λ left was. cut_none (3 * PAGE_BYTES) (d.image old) left (only left was)); now = cut_none (3 * PAGE_BYTES) (d.image old) }

  module _ (mid new : D) (at m : ℕ) (so_far : IsWithin d old mid) (le : at + m ≤ 3 * PAGE_BYTES) (torn : OnlyTorn at m (d.image mid) (d.image new)) where
    more : (left : List ℕ) → IsCut at m (d.image mid) left → Within left
    more = cut_more (3 * PAGE_BYTES) at m (d.image old) (d.image mid) le so_far.now

    -- one write more
    pub then_writes : Elapses (d.moment mid) (d.moment new) (d.since mid) (d.since new) (d.image new) → IsWithin d old new
    then_writes time = record {
      leaves = goes_on d.moment d.since old mid new Within (d.image new) so_far.leaves time (λ left now. more left (torn left now));
      now = λ left now. more left (torn left now);
    }

    -- one run more
    pub then_runs : LeavesOnly d.moment d.since mid new (IsCut at m (d.image mid)) → IsWithin d old new
    then_runs run = record {
      leaves = joined d.moment d.since old mid new Within so_far.leaves (weaker d.moment d.since mid new (IsCut at m (d.image mid)) Within run more);
      now = λ left now. more left (torn left now);
    }

  -- the gate was written behind a sync
  pub ordered : (pages : List ℕ) (mid new : D) (place : ℕ) → place ≡ gate_place 0 → IsWithin d old mid → IsWithin d old new → MadeMore 3 1 0 (d.made old) (d.made mid) → d.contents mid ≡ Some pages → ((left : List ℕ) → d.image mid left → left ≡ pages)
      → LeavesOnly d.moment d.since mid new (IsCut place 1 (d.image mid)) → MakesInOrder d pages old new
  ordered pages mid new place is before whole made shut synced run = record {
    within = whole.leaves;
    last = λ four. (
      mid,
      record {
        made = made;
        shut = shut;
        synced = synced;
        before = before.leaves;
        behind = weaker d.moment d.since mid new (IsCut place 1 (d.image mid)) (Torn (gate_place 0) 1 pages) run
            (λ left cut. subst (λ (at : ℕ). Torn at 1 pages left) is (subst (λ (was : List ℕ). Torn place 1 was left) (synced cut.0 cut.1) cut.2));
      },
    );
  }

-- a disk that was only looked at before
module _ {D : Type 0} (d : Ghosts D) (pages : List ℕ) (old seen new : D) (looks : OnlyLooks d.contents d.image d.moment d.since old seen) (made : d.made seen ≡ d.made old) where
  abbrev Cut : (List ℕ → Type 0) → List ℕ → Type 0
  Cut images = IsCut 0 (3 * PAGE_BYTES) images

  same_cut : (left : List ℕ) → Cut (d.image seen) left → Cut (d.image old) left
  same_cut left cut = (cut.0, looks.images.no_more cut.0 cut.1, cut.2)

  behind_looks : (now : D) → LeavesOnly d.moment d.since seen now (Cut (d.image seen)) → LeavesOnly d.moment d.since old now (Cut (d.image old))
  behind_looks now run =
      joined d.moment d.since old seen now (Cut (d.image old))
      (weaker d.moment d.since old seen (d.image old) (Cut (d.image old)) looks.leaves (cut_none (3 * PAGE_BYTES) (d.image old)))
      (weaker d.moment d.since seen now (Cut (d.image seen)) (Cut (d.image old)) run same_cut)

  opens_behind : (mid : D) → OpensLast d pages seen mid new → OpensLast d pages old mid new
  opens_behind mid it = record {
    made = subst (λ (was : Made). MadeMore 3 1 0 was (d.made mid)) made it.made;
    shut = it.shut;
    synced = it.synced;
    before = behind_looks mid it.before;
    behind = it.behind;
  }

  pub order_behind : MakesInOrder d pages seen new → MakesInOrder d pages old new
  order_behind it = record {
    within = behind_looks new it.within;
    last = λ four. let last = it.last (subst (λ (was : Made). (d.made new).writes ≡ was.writes + 4) (sym made) four) in (last.0, opens_behind last.0 last.1);
  }

-- where no fourth write was made
pub early : {D : Type 0} (d : Ghosts D) (pages : List ℕ) (old new : D) → LeavesOnly d.moment d.since old new (IsCut 0 (3 * PAGE_BYTES) (d.image old)) → (d.made new).writes < (d.made old).writes + 4
    → MakesInOrder d pages old new
early d pages old new within few = record { within = within; last = λ four. absurd (omega (arith, few, four)) }

-- where other bytes are the same
pub order_of : {D : Type 0} (d : Ghosts D) (pages others : List ℕ) (old new : D) → pages ≡ others → MakesInOrder d pages old new → MakesInOrder d others old new
order_of d pages others old new same it = subst (λ (them : List ℕ). MakesInOrder d them old new) same it
