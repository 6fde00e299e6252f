use Rattle.std.proofs.Common.{arith, ap, length}
use Rattle.pm_dump.specs.Dump.{Dump as Says}
use Rattle.pm_dump.proofs.Strays.{as_many}
use Rattle.pm_dump.proofs.dump.Dump.object.Goals as goal

pub object_at-requires-clause-within : goal.object_at-requires-clause-within
object_at-requires-clause-within c =
    let parts = c.self.inside.parts in
    let within = c.requires in
    let shown = ap (λ (dump : Says). length dump.objects) c.self.view_is in
    let many = as_many 0 0 parts.places.items parts.fields.items parts.bytes.items in
    omega (arith, within, shown, many)
