use Rattle.std.proofs.Common.{⊎_elim, inl, inr}
use Rattle.std.specs.Coded.{Coded-set, coded_ℕ}
use Rattle.std.proofs.Math.Logic.{∥∥₁_map}
use Rattle.pm_law_saving.proofs.ServingLemmas.Splitting.{splits_once}
use Rattle.pm_engine.proofs.WorksLemmas.Asking.{settled_now, splits_closed, splits_legal}
use Rattle.pm_young.specs.Halts.{stopped_by}
use Rattle.pm_young.specs.Seen.{serving}
use Rattle.pm_young.proofs.Halted.{memory_none}
use Rattle.pm_young.proofs.Reached.{stands_or_young}
use Rattle.pm_young.proofs.engine.YoungEngine.keep_their_images.Goals as goal

pub returns-clause-closed : goal.returns-clause-closed
returns-clause-closed g c = splits_closed (serving c.args.self.now) (∥∥₁_map c.args.self.now.safe (λ safe. safe.journal.closed))

pub returns-clause-legal : goal.returns-clause-legal
returns-clause-legal g c = splits_legal _ _ (∥∥₁_map c.args.self.now.safe (λ safe. safe.journal.legal))

pub returns-clause-images : goal.returns-clause-images
returns-clause-images g c = ∥∥₁_map c.args.self.now.safe (λ safe. safe.images)

pub returns-clause-settled : goal.returns-clause-settled
returns-clause-settled g c = λ none. settled_now c.args.self.now.opening (stopped_by c.args.self.now.halted) c.args.self.now.works none c.args.self.now.safe

pub returns-clause-memory : goal.returns-clause-memory
returns-clause-memory g c = λ is.
    let it = c.args.self.now in
    settled_now it.opening (stopped_by it.halted) it.works (memory_none it.halted is) it.safe

pub returns-clause-disk : goal.returns-clause-disk
returns-clause-disk g c = λ is told left here. ∥∥₁_map c.args.self.now.safe (λ safe. ⊎_elim (λ settled. inl settled) (λ begun. inr begun.1) (safe.images.now told left here))

pub returns-clause-told : goal.returns-clause-told
returns-clause-told g c = splits_once (Coded-set coded_ℕ _ _) (∥∥₁_map c.args.self.now.safe (λ safe. safe.journal.told))

pub returns-clause-counted : goal.returns-clause-counted
returns-clause-counted g c = c.args.self.now.counted

pub returns-clause-comes_in : goal.returns-clause-comes_in
returns-clause-comes_in g c = c.args.self.now.comes_in

pub returns-clause-reached : goal.returns-clause-reached
returns-clause-reached g c = λ running id path.
    let it = c.args.self.now in
    stands_or_young it.opening it.works it.nursery c.sound.ensures (it.within running) id path
