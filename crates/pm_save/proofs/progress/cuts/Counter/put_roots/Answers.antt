use Rattle.std.proofs.Common.{ap, subst, List, ℕ, ◌++◌, ◌+◌, length, map, take}
use Rattle.pm_image.specs.declared.catalog_kind.TheConstants.{ROOT_ENTRY_BYTES}
use Rattle.pm_image.specs.declared.catalog.CatEntry.{CatEntry}
use Rattle.pm_copies.specs.Plans.{root_entry}
use Rattle.pm_save.specs.Progress.Counted.{IsCounted}
use Rattle.pm_save.proofs.ProgressLemmas.CountLemmas.{entries_more}
use Rattle.pm_save.proofs.progress.cuts.Counter.put_roots.Goals as goal

pub loop-name-preserved : goal.loop-name-preserved
loop-name-preserved c met had =
    let roots = c.args.roots.now in
    let i = c.loop-name.name-index in
    let root = c.loop-name-item.result in
    subst (λ (es : List CatEntry). IsCounted es c.put.new.self) (entries_more root_entry met roots i root c.loop-name-test.true c.loop-name-item.is)
    (c.in_ok-put.ensures (root_entry root) (ap (λ (bytes : List ℕ). ROOT_ENTRY_BYTES + length bytes) c.as_slice.ensures.bytes) (met ++ map root_entry (take i roots)) (c.loop-name.invariant met had))
