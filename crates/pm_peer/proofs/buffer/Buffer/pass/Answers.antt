use Rattle.std.proofs.Common.{◌≡◌, ◌≤◌, ◌+◌, ◌-◌, length, drop, ap, sym, ◌∙◌, arith}
use Rattle.std.specs.List.{slice_range}
use Rattle.pm_peer.specs.Buffers.{BufferState}
use Rattle.pm_peer.proofs.Parts.{length_part, rest_part}
use Rattle.pm_peer.proofs.buffer.Buffer.pass.Goals as goal

pub returns-clause-kept : goal.returns-clause-kept
returns-clause-kept c =
    let i = c.self.inside in
    let same : length (slice_range i.bytes.items i.from i.to) ≡ length c.args.self.now.kept = ap (λ (b : BufferState). length b.kept) c.self.view_is in
    let whole = c.self.invariant.0 in
    let order = c.self.invariant.1 in
    let inside = c.self.invariant.2 in
    let long = length_part i.bytes.items i.from i.to order (omega (arith, whole, inside)) in
    let within : c.args.at + 1 ≤ i.to - i.from = omega (arith, same, long, c.requires.within) in
    sym (rest_part i.bytes.items i.from i.to (c.args.at + 1) within) ∙ ap (λ (b : BufferState). drop (c.args.at + 1) b.kept) c.self.view_is
