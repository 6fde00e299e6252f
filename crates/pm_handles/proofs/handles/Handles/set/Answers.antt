use Rattle.std.proofs.Common.{◌+◌, ◌*◌, ◌<◌, length, arith}
use Rattle.pm_handles.proofs.Held.{read, written}
use Rattle.pm_handles.proofs.handles.Handles.set.Goals as goal

pub returns-clause-old : goal.returns-clause-old
returns-clause-old c =
    let few : c.args.client < 8 = c.requires.client in
    let small : c.args.register < 1024 = c.requires.register in
    let all = c.self.invariant in
    let inside : c.args.client * 1024 + c.args.register < length c.self.inside.held.items = omega (arith, few, small, all) in
    rw (← c.self.view_is) (read c.args.client c.args.register c.self.inside.held.items c.index-old.result.now small inside (rw c.place_of-place.ensures at c.index-old.ensures))

pub returns-clause-after : goal.returns-clause-after
returns-clause-after c =
    let few : c.args.client < 8 = c.requires.client in
    let small : c.args.register < 1024 = c.requires.register in
    let all = c.self.invariant in
    let inside : c.args.client * 1024 + c.args.register < length c.self.inside.held.items = omega (arith, few, small, all) in
    rw (← c.self.view_is, c.place_of-place.ensures) (written c.args.client c.args.register c.self.inside.held.items c.args.at small inside)
