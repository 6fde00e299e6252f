use Rattle.std.proofs.Common.{◌≤◌, refl, arith}
use Rattle.std.proofs.lemmas.Bool.Decides.{nat_tests}
use Rattle.pm_types.specs.declared.limits.TheConstants.{LAST_ID}
use Rattle.pm_space.specs.Shown.{view}
use Rattle.pm_law_commands.proofs.Births.{spent_law, spent_stands}
use Rattle.pm_mutate.proofs.young.spend.Goals as goal

pub invariant_of-space : goal.invariant_of-space
invariant_of-space g c =
    let v = view c.args.space.now.parts in
    let below = c.if-next-ge-END_ID.false in
    let room : v.next ≤ LAST_ID = grind (arith, nat_tests, below) in
    record {
      kept = spent_law v c.args.space.now.kept room;
      still = λ train is. refl;
      sole = c.a_source_or_a_birth_leaves_the_slot_that_moved.ensures.identity v c.args.space.now.moved c.args.space.now.sole;
    }

pub returns-clause-worlds : goal.returns-clause-worlds
returns-clause-worlds g c = λ world stands.
    let v = view c.args.space.now.parts in
    let below = c.if-next-ge-END_ID.false in
    let room : v.next ≤ LAST_ID = grind (arith, nat_tests, below) in spent_stands v c.args.space.now.kept room world stands
