use Rattle.std.proofs.Common.{◌≡◌, true, nat_lt, sym, ◌∙◌, arith, Ok}
use Rattle.std.proofs.lemmas.Bool.{cond-true, cond-false}
use Rattle.std.proofs.lemmas.Bool.Decides.{nat_tests}
use Rattle.pm_types.specs.declared.limits.TheConstants.{LAST_ID}
use Rattle.pm_types.specs.declared.reply.Reply.TheVariants.{TooLarge, IdsSpent}
use Rattle.pm_space.proofs.OpenedCars.{lowest_vacant}
use Rattle.pm_mutate.proofs.CommandsLemmas.Made.{made_still}
use Rattle.pm_mutate.proofs.commands.birth.new.Goals as goal

pub returns-then-is_too_large : goal.returns-then-is_too_large
returns-then-is_too_large g c =
    let number = c.vacant-number.result in record {
      row = made_still c.args.parts.now (Ok TooLarge)
          (number, lowest_vacant c.args.parts.now.cars number c.vacant-number.ensures, sym (cond-true _ _ _ (sym c.is_too_large.ensures ∙ c.if-is_too_large.true)));
    }

pub returns-then-parts : goal.returns-then-parts
returns-then-parts g c =
    let number = c.vacant-number.result in
    let spent : nat_lt LAST_ID c.args.parts.now.next ≡ true = let over = c.if-parts.true in grind (arith, nat_tests, over) in record {
      row = made_still c.args.parts.now (Ok IdsSpent)
          (number, lowest_vacant c.args.parts.now.cars number c.vacant-number.ensures, sym (cond-false _ _ _ (sym c.is_too_large.ensures ∙ c.if-is_too_large.false) ∙ cond-true _ _ _ spent));
    }
