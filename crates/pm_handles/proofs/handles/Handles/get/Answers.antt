use Rattle.std.proofs.Common.{◌+◌, ◌*◌, ◌<◌, length, arith}
use Rattle.pm_handles.proofs.Held.{read}
use Rattle.pm_handles.proofs.handles.Handles.get.Goals as goal

pub returns : goal.returns
returns c =
    let few : c.args.client < 8 = c.requires.client in
    let small : c.args.register < 1024 = c.requires.register in
    let all = c.self.invariant in
    let inside : c.args.client * 1024 + c.args.register < length c.self.inside.held.items = omega (arith, few, small, all) in
    rw (← c.self.view_is) (read c.args.client c.args.register c.self.inside.held.items c.index.result.now small inside (rw c.place_of.ensures at c.index.ensures))
