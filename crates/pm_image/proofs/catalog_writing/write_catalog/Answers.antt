use Rattle.std.proofs.Common.{◌≡◌, ◌≤◌, ap, ◌∙◌, arith}
use Rattle.pm_types.specs.declared.limits.TheConstants.{PAGE_BYTES}
use Rattle.pm_image.specs.CatalogPages.{catalog_used}
use Rattle.pm_image.proofs.CatalogWrites.{counted, all_written, filled_up}
use Rattle.pm_image.proofs.catalog_writing.write_catalog.Goals as goal

pub overflow_cast-entries : goal.overflow_cast-entries
overflow_cast-entries c = omega (arith, counted c.args.page.now c.as_slice-entries.result.now c.as_slice-entries.ensures c.requires.fits)

pub returns-clause-spelled : goal.returns-clause-spelled
returns-clause-spelled c =
    let written = c.put_entries.new.out in
    let spelled = all_written c.args.page.now c.as_slice-entries.result.now c.in_ok-out.out.items c.put_bytes.new.out.items c.put_u64.new.out.items c.put_bytes-2.new.out.items c.put_u16.new.out.items written.items c.as_slice-entries.ensures c.in_ok-out.ensures.items c.put_bytes.ensures.items c.put_u64.ensures.items c.put_bytes-2.ensures.items c.put_u16.ensures.items c.put_entries.ensures.text.items in
    let same : catalog_used c.as_slice-entries.result.now ≡ catalog_used c.args.page.now.entries = ap catalog_used c.as_slice-entries.ensures in
    let few : written.len ≤ PAGE_BYTES = omega (arith, c.put_entries.ensures.sized, c.put_u16.ensures.len, c.put_bytes-2.ensures.len, c.put_u64.ensures.len, c.put_bytes.ensures.len, c.in_ok-out.ensures.len) in
    c.in_ok-resize.ensures.items ∙ filled_up c.args.page.now written.items written.len spelled written.ok.0 few
