use Rattle.std.proofs.Common.{subst}
use Rattle.pm_handles.specs.Sound.{IsSound}
use Rattle.pm_handles.proofs.Held.{sound_held}
use Rattle.pm_handles.proofs.handles.Handles.sound.Goals as goal

pub returns : goal.returns
returns c = subst IsSound c.self.view_is (sound_held c.self.inside.held.items c.self.invariant)
