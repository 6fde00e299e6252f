use Rattle.pm_dump.specs.Lent.{object_shown}
use Rattle.pm_model.specs.Copying.{held_ids}
use Rattle.std.specs.List.{AllByRecursion}
use Rattle.pm_dump.specs.Sound.{IsListed}
use Rattle.pm_law_copies.proofs.Lists.{all_at}
use Rattle.pm_restore.specs.Packing.Packing.{DumpEntry}
use Rattle.pm_restore.proofs.PartLemmas.{held_listed}
use Rattle.pm_restore.proofs.slots.slot_at.Goals as goal

pub addresses_in-requires-clause-listed : goal.addresses_in-requires-clause-listed
addresses_in-requires-clause-listed c =
    held_listed c.args.dump.now.objects c.object-object.result.fields.now
    (all_at (λ (e : DumpEntry). AllByRecursion (IsListed c.args.dump.now.objects) (held_ids e.1)) c.args.dump.now.objects c.args.place (object_shown c.object-object.result) c.requires.sound.fields c.object-object.ensures)
