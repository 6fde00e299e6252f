use Rattle.std.proofs.Common.{subst}
use Rattle.pm_snap.specs.Snapped.{IsSound}
use Rattle.pm_snap.proofs.Tables.{sound_table}
use Rattle.pm_snap.proofs.table.Table.sound.Goals as goal

pub returns : goal.returns
returns g c = subst IsSound c.self.view_is (sound_table c.self.inside.values c.self.inside.kept c.self.invariant.keys.zero_unused c.self.invariant.zero_unnoted)
