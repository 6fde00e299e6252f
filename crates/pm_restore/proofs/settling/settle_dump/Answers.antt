use Rattle.std.proofs.Common.{subst, ◌+◌}
use Rattle.std.proofs.lemmas.Result.{err_from_is_err_and}
use Rattle.pm_disk.specs.Made.{MadeAtMost}
use Rattle.pm_shadow.specs.Pages.{disk_of, state}
use Rattle.pm_saving.specs.Paging.{left}
use Rattle.pm_dump.specs.Dump.{Dump as Says}
use Rattle.pm_restore.specs.Restored.{IsRestored, LeavesEither, LeavesEmpty, dump_progress}
use Rattle.pm_restore.proofs.RestoreLemmas.{before_1, either_empty, either_spared, made_at_most, memory_spared, none_made, on_memory, settled_dump, still_empty, tied_at}
use Rattle.pm_restore.proofs.settling.settle_dump.Goals as goal

pub returns-in_err-packed-clause-leaves : goal.returns-in_err-packed-clause-leaves
returns-in_err-packed-clause-leaves g c =
    let it = c.args.pages.now in
    either_empty c.args.dump.now it it (still_empty it c.requires.new (λ left now. g.met.D.Disk.only_now (disk_of it) left now))

pub returns-in_err-packed-clause-memory : goal.returns-in_err-packed-clause-memory
returns-in_err-packed-clause-memory g c =
    let it = c.args.pages.now in
    on_memory (LeavesEmpty it it) c.from_residual.result
    (still_empty it c.requires.new (λ left now. g.met.D.Disk.only_now (disk_of it) left now))

pub returns-in_err-writer-clause-leaves : goal.returns-in_err-writer-clause-leaves
returns-in_err-writer-clause-leaves g c =
    let it = c.args.pages.now in
    either_empty c.args.dump.now it it (still_empty it c.requires.new (λ left now. g.met.D.Disk.only_now (disk_of it) left now))

pub returns-in_err-writer-clause-memory : goal.returns-in_err-writer-clause-memory
returns-in_err-writer-clause-memory g c =
    let it = c.args.pages.now in
    on_memory (LeavesEmpty it it) c.from_residual-in_err-writer.result
    (still_empty it c.requires.new (λ left now. g.met.D.Disk.only_now (disk_of it) left now))

pub settle_from-requires : goal.settle_from-requires
settle_from-requires g c =
    let s = state c.args.pages.now in
    let contents = g.D.Disk.contents (disk_of c.args.pages.now) in
    record { tied = c.in_ok-writer.ensures.tied s contents (before_1 s contents c.requires.new) (tied_at s contents c.requires.new) }

pub returns-in_err-settle_from-clause-leaves : goal.returns-in_err-settle_from-clause-leaves
returns-in_err-settle_from-clause-leaves g c =
    subst (λ (d : Says). LeavesEither d c.args.pages.now c.settle_from.new.pages) c.in_ok-packed.ensures
    (either_spared c.in_ok-packed.packed _ c.in_ok-writer.ensures c.args.pages.now c.settle_from.new.pages c.requires.new c.settle_from.ensures.leaves)

pub returns-clause-leaves : goal.returns-clause-leaves
returns-clause-leaves g c =
    subst (λ (d : Says). LeavesEither d c.args.pages.now c.settle_from.new.pages) c.in_ok-packed.ensures
    (either_spared c.in_ok-packed.packed _ c.in_ok-writer.ensures c.args.pages.now c.settle_from.new.pages c.requires.new c.settle_from.ensures.leaves)

pub returns-clause-restored : goal.returns-clause-restored
returns-clause-restored g c =
    subst (λ (d : Says). IsRestored d c.args.pages.now c.settle_from.new.pages) c.in_ok-packed.ensures
    (settled_dump c.in_ok-packed.packed _ c.in_ok-writer.ensures c.args.pages.now c.settle_from.new.pages c.requires.new.is_new _ _ c.in_ok-settle_from.ensures.settled)

pub returns-in_err-settle_from-clause-memory : goal.returns-in_err-settle_from-clause-memory
returns-in_err-settle_from-clause-memory g c =
    let p = err_from_is_err_and c.from_residual-in_err-settle_from.result c.from_residual-in_err-settle_from.ensures.1 in
    rw (p.1, p.2) (memory_spared c.args.pages.now c.settle_from.new.pages c.requires.new _ _ _ c.in_err-settle_from.field-0.0 c.in_err-settle_from.ensures.memory)

pub returns-in_err-packed-clause-most : goal.returns-in_err-packed-clause-most
returns-in_err-packed-clause-most g c = none_made c.args.dump.now (g.D.Disk.made (disk_of c.args.pages.now))

pub returns-in_err-writer-clause-most : goal.returns-in_err-writer-clause-most
returns-in_err-writer-clause-most g c = none_made c.args.dump.now (g.D.Disk.made (disk_of c.args.pages.now))

pub returns-in_err-settle_from-clause-most : goal.returns-in_err-settle_from-clause-most
returns-in_err-settle_from-clause-most g c =
    let old = g.D.Disk.made (disk_of c.args.pages.now) in
    let new = g.D.Disk.made (disk_of c.settle_from.new.pages) in
    subst (λ (d : Says). MadeAtMost (left (dump_progress d) + 2) 2 old new) c.in_ok-packed.ensures
    (made_at_most c.in_ok-packed.packed _ c.in_ok-writer.ensures (state c.args.pages.now) old new c.requires.new.is_new c.settle_from.ensures.causes.made)

pub returns-clause-most : goal.returns-clause-most
returns-clause-most g c =
    let old = g.D.Disk.made (disk_of c.args.pages.now) in
    let new = g.D.Disk.made (disk_of c.settle_from.new.pages) in
    subst (λ (d : Says). MadeAtMost (left (dump_progress d) + 2) 2 old new) c.in_ok-packed.ensures
    (made_at_most c.in_ok-packed.packed _ c.in_ok-writer.ensures (state c.args.pages.now) old new c.requires.new.is_new c.settle_from.ensures.causes.made)
