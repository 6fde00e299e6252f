use Rattle.std.proofs.Common.{◌≡◌, Some, length, ap, ◌∙◌}
use Rattle.std.specs.Prelude.{option_map}
use Rattle.pm_disk.specs.Writes.{written}
use Rattle.pm_shadow.proofs.RunLemmas.{in_order}
use Rattle.pm_shadow.proofs.runs.write_one_by_one.Goals as goal

pub returns-clause-in_order : goal.returns-clause-in_order
returns-clause-in_order g c bytes told =
    let whole : g.D.Disk.contents c.write_and_sync.new.disk ≡ Some (written c.args.first_at c.args.first.now bytes) =
    c.in_ok-write_and_sync.ensures.written ∙ ap (option_map (written c.args.first_at c.args.first.now)) told in
    in_order g.D.Disk.moment g.D.Disk.since c.args.disk.now c.write_and_sync.new.disk c.write_and_sync-2.new.disk (g.D.Disk.image c.args.disk.now) (g.D.Disk.image c.write_and_sync.new.disk) bytes c.args.first.now c.args.first_at c.args.second_at (length c.args.second.now)
    c.write_and_sync.ensures.leaves c.write_and_sync-2.ensures.leaves (c.in_ok-write_and_sync.ensures.only (written c.args.first_at c.args.first.now bytes) whole)
