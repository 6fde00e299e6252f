use Rattle.std.proofs.Common.{inl, inr, Err, Some, refl, sym, ap, subst, ◌∙◌}
use Rattle.pm_shadow.specs.Pages.{disk_of}
use Rattle.pm_saving.specs.Paging.{left_of}
use Rattle.pm_save.specs.Writer.Shown.{writing}
use Rattle.pm_ship.specs.declared.fault.ShipFault.{ShipFault}
use Rattle.pm_ship.specs.Cars.{cars_kept}
use Rattle.pm_ship.specs.Stores.{offered}
use Rattle.pm_ship.specs.Shipped.{LeavesWritten}
use Rattle.pm_ship.proofs.WriteLemmas.{copy_laid, either_spared, most_written, none_written, part_written, whole_written}
use Rattle.pm_ship.proofs.next_copy.write_copy.Goals as goal

pub returns-in-Err-clause-leaves : goal.returns-in-Err-clause-leaves
returns-in-Err-clause-leaves g c =
    none_written (offered c.args.first) c.args.to.now c.requires.tied.sound (λ left now. g.met.E.Disk.only_now (disk_of c.args.to.now) left now)

pub settle_from-requires : goal.settle_from-requires
settle_from-requires g c = record { tied = c.in-Ok.ensures.begun.tied _ _ c.requires.later c.requires.tied }

pub returns-in-Ok-settle_from-clause-laid : goal.returns-in-Ok-settle_from-clause-laid
returns-in-Ok-settle_from-clause-laid g c =
    copy_laid (offered c.args.first) c.args.standby.settled c.in-Ok.cars (writing c.in-Ok.writer) c.in-Ok.ensures.begun c.args.to.now c.settle_from.new.pages
    c.requires.tied.known (writing c.settle_from.new.self) c.in-Ok-settle_from.epoch c.in-Ok-settle_from.ensures.settled c.requires.tied
    c.left-written.result (c.left-written.ensures ∙ ap left_of c.in-Ok.ensures.begun.is_progress) (record { epoch = c.in-Ok-settle_from.epoch; written = c.left-written.result }) refl refl

pub returns-in-Ok-settle_from-clause-leaves : goal.returns-in-Ok-settle_from-clause-leaves
returns-in-Ok-settle_from-clause-leaves g c =
    whole_written (offered c.args.first) c.args.to.now c.settle_from.new.pages (record { epoch = c.in-Ok-settle_from.epoch; written = c.left-written.result })
    (either_spared (offered c.args.first) c.args.standby.settled c.in-Ok.cars (writing c.in-Ok.writer) c.in-Ok.ensures.begun c.args.to.now c.settle_from.new.pages c.settle_from.ensures.leaves)
    c.in-Ok-settle_from.ensures.tied.sound c.settle_from.ensures.causes.told c.in-Ok-settle_from.ensures.causes.cause

pub returns-clause-leaves : goal.returns-clause-leaves
returns-clause-leaves g c =
    subst (λ (fault : ShipFault). LeavesWritten (offered c.args.first) c.args.to.now c.settle_from.new.pages (Err fault)) (sym c.of_saving.ensures)
    (part_written (offered c.args.first) c.args.to.now c.settle_from.new.pages (writing c.in-Ok.writer) (writing c.settle_from.new.self) (Some (cars_kept c.in-Ok.cars))
    c.faults-before.result c.faults.result c.in-Err-settle_from.fault c.faults-before.ensures c.faults.ensures
    (either_spared (offered c.args.first) c.args.standby.settled c.in-Ok.cars (writing c.in-Ok.writer) c.in-Ok.ensures.begun c.args.to.now c.settle_from.new.pages c.settle_from.ensures.leaves)
    c.in-Err-settle_from.ensures.memory c.in-Err-settle_from.ensures.tied_still c.settle_from.ensures.causes.told c.in-Err-settle_from.ensures.causes.cause)

pub returns-in-Err-clause-most : goal.returns-in-Err-clause-most
returns-in-Err-clause-most g c = inl refl

pub returns-in-Ok-settle_from-clause-most : goal.returns-in-Ok-settle_from-clause-most
returns-in-Ok-settle_from-clause-most g c =
    inr (most_written (offered c.args.first) c.args.standby.settled c.in-Ok.cars (writing c.in-Ok.writer) c.in-Ok.ensures.begun c.args.to.now c.settle_from.new.pages c.settle_from.ensures.causes.made)

pub returns-clause-most : goal.returns-clause-most
returns-clause-most g c =
    inr (most_written (offered c.args.first) c.args.standby.settled c.in-Ok.cars (writing c.in-Ok.writer) c.in-Ok.ensures.begun c.args.to.now c.settle_from.new.pages c.settle_from.ensures.causes.made)
