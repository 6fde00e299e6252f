use Rattle.std.proofs.Common.{◌≡◌, true, sym, nat_le, arith, Ok}
use Rattle.std.specs.FinMap.{len}
use Rattle.std.proofs.lemmas.Bool.{cond-true}
use Rattle.std.proofs.lemmas.Bool.Decides.{nat_tests}
use Rattle.pm_types.specs.declared.limits.TheConstants.{ROOTS}
use Rattle.pm_types.specs.declared.reply.Reply.TheVariants.{TooManyRoots}
use Rattle.pm_mutate.proofs.CommandsLemmas.FreeNumbers.{spare_root, is_spare}
use Rattle.pm_mutate.proofs.CommandsLemmas.Made.{made_still}
use Rattle.pm_mutate.proofs.commands.naming.bind_new.Goals as goal

pub returns-then-len : goal.returns-then-len
returns-then-len g c =
    let many : nat_le ROOTS (len c.args.parts.now.roots) ≡ true = let same = c.len.ensures in let over = c.if-len.true in grind (arith, nat_tests, same, over) in
    record { row = made_still c.args.parts.now (Ok TooManyRoots) (spare_root c.args.parts.now.roots, is_spare c.args.parts.now.roots, sym (cond-true _ _ _ many)) }
