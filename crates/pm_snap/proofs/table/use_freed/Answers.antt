use Rattle.pm_snap.proofs.KeySets.{remove_above}
use Rattle.pm_snap.proofs.table.use_freed.Goals as goal

pub returns-else-key-next-clause-keys : goal.returns-else-key-next-clause-keys
returns-else-key-next-clause-keys c = remove_above c.args.freed.now.keys c.args.key c.args.next c.requires c.if-key-next.false
