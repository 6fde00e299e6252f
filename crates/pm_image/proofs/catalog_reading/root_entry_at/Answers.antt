use Rattle.std.proofs.Common.{◌+◌, ℕ, List, get_or}
use Rattle.std.proofs.lemmas.Result.{err_from_is_err_and}
use Rattle.pm_image.specs.CatalogReading.{name_at, root_at}
use Rattle.pm_image.proofs.Answered.{answer_gives, fails_too}
use Rattle.pm_image.proofs.CatalogReads.{root_by_name, gives_then}
use Rattle.pm_image.proofs.catalog_reading.root_entry_at.Goals as goal

pub returns-in_err-name : goal.returns-in_err-name
returns-in_err-name c =
    let len = get_or c.args.page.now (c.args.place + 1) 0 in
    let p = err_from_is_err_and c.from_residual.result c.from_residual.ensures.1 in
    rw (p.1, p.2, root_by_name c.args.count c.args.met.now c.args.page.now c.args.place)
    (fails_too c.in_err-name.field-0.0 (name_at c.args.page.now (c.args.place + 1) len (c.args.place + 2))
    (λ (name : List ℕ). root_at c.args.count c.args.met.now c.args.page.now (c.args.place + 1) name (c.args.place + 2 + len)) c.in_err-name.ensures)

pub returns : goal.returns
returns c =
    let len = get_or c.args.page.now (c.args.place + 1) 0 in
    rw (root_by_name c.args.count c.args.met.now c.args.page.now c.args.place)
    (gives_then c.in_ok-name.name (name_at c.args.page.now (c.args.place + 1) len (c.args.place + 2))
    (λ (name : List ℕ). root_at c.args.count c.args.met.now c.args.page.now (c.args.place + 1) name (c.args.place + 2 + len)) c.root_at.result c.in_ok-name.ensures
    (answer_gives c.root_at.result _ c.root_at.ensures))
