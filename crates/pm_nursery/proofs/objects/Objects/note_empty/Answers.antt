use Rattle.std.proofs.Common.{◌≡◌, length, false, rules}
use Rattle.pm_nursery.proofs.Alone.{no_length, nothing_listed}
use Rattle.pm_nursery.proofs.objects.Objects.note_empty.Goals as goal

pub invariant_of-self : goal.invariant_of-self
invariant_of-self c =
    let none : length c.self.inside.young.items ≡ 0 = search rules in
    nothing_listed c.self.inside.young.items (no_length c.self.inside.young.items none) false
