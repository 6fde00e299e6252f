-- What holds of an engine with a nursery once it was opened, and once its journal has more room.
use Rattle.std.proofs.Common.{◌≡◌, ℕ, nat_eq, List, [], ◌++◌, None, sym, ap, subst, inl}
use Rattle.std.specs.Option.{IsSome}
use Rattle.std.specs.Ordering.{nat_cmp}
use Rattle.std.specs.FinMap.{get, get-empty}
use Rattle.std.specs.List.{IsDistinct}
use Rattle.std.specs.Global.{Vec}
use Rattle.std.proofs.Math.Logic.{∥∥₁_elim, ∥∥₁_map, ∥∥₁_prop}
use Rattle.pm_types.specs.declared.entry.Entry.{Entry}
use Rattle.pm_disk.specs.declared.disk.Disk.{Ghosts}
use Rattle.pm_model.specs.Heap.{Object}
use Rattle.pm_model.specs.World.{World}
use Rattle.pm_model.specs.Journal.{after}
use Rattle.pm_model.proofs.ClosedLaws.{closed_after}
use Rattle.pm_view.specs.View.{SpaceView}
use Rattle.pm_view.specs.Represents.{Represents}
use Rattle.pm_space.specs.Shown.{view}
use Rattle.pm_saving.specs.Serving.{Serving, just_opened, opening, world}
use Rattle.pm_engine.specs.declared.works.start.Start.{Start}
use Rattle.pm_engine.specs.declared.works.works.Works.{Works}
use Rattle.pm_engine.specs.Works.Seen.{IsCrashSafe, seen}
use Rattle.pm_engine.specs.Works.Working.{journal_in, past_in, view_in}
use Rattle.pm_nursery.specs.Young.{NurseryView, IsYoung, no_nursery}
use Rattle.pm_law_young.proofs.Owned.{opening_young}
use Rattle.pm_young.specs.Entering.{IsPresent, KeepsEntered}
use Rattle.pm_young.specs.Kept.{StandsYoung}

-- ---- nothing is young

pub no_young : (id : ℕ) → get no_nursery.objects id ≡ None
no_young id = get-empty nat_cmp id

pub none_young : (id : ℕ) → IsSome (get no_nursery.objects id) → ⊥
none_young id is = let never : IsSome {T = Object} None = subst IsSome (no_young id) is in cc never

-- ---- the journal has more room

module _ {D : Type 0} {F : Type 0} {g : Ghosts D} (start : Start D F g) (works : Works D F g) (nursery : NurseryView) (journal : Vec Entry) (same : journal.items ≡ works.journal.items) where
  pub within_kept : ∥ StandsYoung start works nursery ∥₁ → ∥ StandsYoung start (record works { journal = journal }) nursery ∥₁
  within_kept known = ∥∥₁_map known (λ it. record {
    within = it.within;
    represents = it.represents;
    young = subst (λ (entries : List Entry). IsYoung it.within nursery (after (opening (seen start None works)) (past_in works ++ entries))) (sym same) it.young;
    opened = it.opened;
  })

-- ---- nothing has happened yet

distinct_none : IsDistinct nat_eq []
unfolding IsDistinct
distinct_none = tt

module _ {D : Type 0} {F : Type 0} {g : Ghosts D} (start : Start D F g) (works : Works D F g) (begins : seen start None works ≡ just_opened start.number (seen start None works).opened (seen start None works).saving) where
  same_view : view_in works ≡ view start.space.value.parts
  same_view = ap (λ (it : Serving). it.view) begins

  pub keeps_begun : ∥ KeepsEntered (view start.space.value.parts) (view_in works) no_nursery [] ∥₁
  keeps_begun = ∣ record {
    present = λ id is. inl (subst (λ (v : SpaceView). IsPresent v id) same_view is);
    once = distinct_none;
    apart = λ id never. absurd (cc never);
    given = λ id never. absurd (cc never);
    young = λ id is. absurd (none_young id is);
  } ∣₁

  same_world : world (seen start None works) ≡ opening (seen start None works)
  same_world = ap (λ (it : Serving). after (opening (seen start None works)) it.journal) begins

  begun : IsCrashSafe start None works → Represents (view_in works) (world (seen start None works)) → StandsYoung start works no_nursery
  begun safe represents = record {
    within = world (seen start None works);
    represents = represents;
    young = opening_young (world (seen start None works)) (closed_after (opening (seen start None works)) (journal_in works) safe.journal.closed);
    opened = λ id there. subst (λ (w : World). IsSome (get w.heap id)) (sym same_world) there;
  }

  pub within_begun : ∥ IsCrashSafe start None works ∥₁ → ∥ Represents (view_in works) (world (seen start None works)) ∥₁ → ∥ StandsYoung start works no_nursery ∥₁
  within_begun safe represents = ∥∥₁_elim safe ∥∥₁_prop (λ it. ∥∥₁_map represents (λ stands. begun it stands))
