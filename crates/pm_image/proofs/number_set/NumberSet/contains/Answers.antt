use Rattle.std.proofs.Common.{arith}
use Rattle.std.proofs.lemmas.Grind.{common_steps}
use Rattle.pm_image.specs.Marked.{seen_far}
use Rattle.pm_image.proofs.Marks.{has_seen}
use Rattle.pm_image.proofs.NumberSets.{contains_shown}
use Rattle.pm_image.proofs.number_set.NumberSet.contains.Goals as goal

pub returns-then-is_marked : goal.returns-then-is_marked
returns-then-is_marked c =
    let seen = has_seen c.self.inside.near.items (seen_far c.self.inside.far) c.args.self.now c.self.view_is c.args.number in
    grind (arith, common_steps, seen, c.is_marked.ensures, c.if-is_marked.true)

pub returns-else-is_marked : goal.returns-else-is_marked
returns-else-is_marked c =
    let seen = has_seen c.self.inside.near.items (seen_far c.self.inside.far) c.args.self.now c.self.view_is c.args.number in
    let shown = contains_shown c.self.inside.far c.args.number in
    grind (arith, common_steps, seen, shown, c.is_marked.ensures, c.if-is_marked.false, c.contains.ensures)
