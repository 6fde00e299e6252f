use Rattle.std.specs.Coded.{Coded-set, coded_ℕ, coded_option}
use Rattle.std.proofs.Math.Logic.{∥∥₁_map}
use Rattle.pm_engine.specs.Shown.{disk_in, opened_count, past_of, unmade_in}
use Rattle.pm_engine.proofs.WorksLemmas.Whole.{none_known}
use Rattle.pm_lock.proofs.Laws.{splits_cause, splits_once, splits_unmade, within_once}
use Rattle.pm_lock.proofs.book.Book.keep_its_engine.Goals as goal

pub returns-clause-goes : goal.returns-clause-goes
returns-clause-goes g c = ∥∥₁_map c.args.self.now.kept (λ is. is.engine.goes)

pub returns-clause-whole : goal.returns-clause-whole
returns-clause-whole g c = none_known (past_of c.args.self.now.engine) (∥∥₁_map c.args.self.now.kept (λ is. is.engine.whole))

pub returns-clause-stopped : goal.returns-clause-stopped
returns-clause-stopped g c = splits_once (Coded-set (coded_option coded_ℕ) _ _) (∥∥₁_map c.args.self.now.kept (λ is. is.engine.stopped))

pub returns-clause-cause : goal.returns-clause-cause
returns-clause-cause g c =
    let self = c.args.self.now in
    splits_cause self.fault (opened_count self.first.value) (g.D.Disk.count (disk_in self.first.value)) (g.D.Disk.count (disk_in self.engine)) (∥∥₁_map self.kept (λ is. is.engine.cause))

pub returns-clause-room : goal.returns-clause-room
returns-clause-room g c = splits_once (within_once _ _) (∥∥₁_map c.args.self.now.kept (λ is. is.engine.room))

pub returns-clause-short : goal.returns-clause-short
returns-clause-short g c = ∥∥₁_map c.args.self.now.kept (λ is. is.engine.short)

pub returns-clause-unmade : goal.returns-clause-unmade
returns-clause-unmade g c =
    let self = c.args.self.now in
    splits_unmade self.fault (unmade_in self.engine) (unmade_in self.first.value) (∥∥₁_map self.kept (λ is. is.engine.unmade))
