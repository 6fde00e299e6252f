use Rattle.std.proofs.lemmas.Result.{err_from_is_err_and}
use Rattle.pm_image.proofs.CatalogParts.{magic_fails, next_fails, digest_fails, entries_fail, rest_fails, all_read}
use Rattle.pm_image.proofs.catalog_reading.catalog_at.Goals as goal

pub returns-in_err-check_magic-clause-exact : goal.returns-in_err-check_magic-clause-exact
returns-in_err-check_magic-clause-exact c =
    let p = err_from_is_err_and c.from_residual.result c.from_residual.ensures.1 in
    rw (p.1, p.2) (magic_fails c.args.count c.args.met.now c.args.page.now c.in_err-check_magic.field-0.0 c.in_err-check_magic.ensures)

pub returns-in_err-next-clause-exact : goal.returns-in_err-next-clause-exact
returns-in_err-next-clause-exact c =
    let p = err_from_is_err_and c.from_residual-in_err-next.result c.from_residual-in_err-next.ensures.1 in
    rw (p.1, p.2) (next_fails c.args.count c.args.met.now c.args.page.now c.in_ok-check_magic.field-0 c.in_err-next.field-0.0 c.in_ok-check_magic.ensures c.in_err-next.ensures)

pub returns-in_err-digest-clause-exact : goal.returns-in_err-digest-clause-exact
returns-in_err-digest-clause-exact c =
    let p = err_from_is_err_and c.from_residual-in_err-digest.result c.from_residual-in_err-digest.ensures.1 in
    rw (p.1, p.2)
    (digest_fails c.args.count c.args.met.now c.args.page.now c.in_ok-check_magic.field-0 c.in_ok-next.next c.in_err-digest.field-0.0 c.in_ok-check_magic.ensures c.in_ok-next.ensures c.in_err-digest.ensures)

pub returns-in_err-entries-clause-exact : goal.returns-in_err-entries-clause-exact
returns-in_err-entries-clause-exact c =
    let p = err_from_is_err_and c.from_residual-in_err-entries.result c.from_residual-in_err-entries.ensures.1 in
    rw (p.1, p.2)
    (entries_fail c.args.count c.args.met.now c.meet_next.new.self c.args.page.now c.in_ok-check_magic.field-0 c.in_ok-next.next c.u16_at.result c.in_ok-digest.digest c.in_err-entries.field-0.0
    (record { magic = c.in_ok-check_magic.ensures; next_page = c.in_ok-next.ensures; next_digest = c.in_ok-digest.ensures }) c.in_ok-meet_next.ensures c.u16_at.ensures c.in_err-entries.ensures.exact)

pub returns-in_err-check_rest-clause-exact : goal.returns-in_err-check_rest-clause-exact
returns-in_err-check_rest-clause-exact c =
    let p = err_from_is_err_and c.from_residual-in_err-check_rest.result c.from_residual-in_err-check_rest.ensures.1 in
    rw (p.1, p.2)
    (rest_fails c.args.count c.args.met.now c.meet_next.new.self c.args.page.now c.in_ok-check_magic.field-0 c.in_ok-next.next c.u16_at.result c.in_ok-digest.digest (c.in_ok-entries.entries, c.in_ok-entries.end) c.in_err-check_rest.field-0.0
    (record { magic = c.in_ok-check_magic.ensures; next_page = c.in_ok-next.ensures; next_digest = c.in_ok-digest.ensures }) c.in_ok-meet_next.ensures c.u16_at.ensures c.in_ok-entries.ensures.exact c.in_err-check_rest.ensures)

pub returns-clause-exact : goal.returns-clause-exact
returns-clause-exact c =
    all_read c.args.count c.args.met.now c.meet_next.new.self c.args.page.now c.in_ok-check_magic.field-0 c.in_ok-check_rest.field-0 c.in_ok-next.next c.u16_at.result c.in_ok-digest.digest (c.in_ok-entries.entries, c.in_ok-entries.end)
    (record { magic = c.in_ok-check_magic.ensures; next_page = c.in_ok-next.ensures; next_digest = c.in_ok-digest.ensures }) c.in_ok-meet_next.ensures c.u16_at.ensures c.in_ok-entries.ensures.exact c.in_ok-check_rest.ensures
