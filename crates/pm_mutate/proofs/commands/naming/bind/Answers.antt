use Rattle.std.proofs.Common.{refl, sym, ap, subst, ◌∙◌, IsSome}
use Rattle.pm_types.specs.declared.reply.Reply.TheVariants.{Done}
use Rattle.pm_view.specs.Commands.{bind}
use Rattle.pm_law_commands.proofs.RowLemmas.Numbers.{found_by_number}
use Rattle.pm_space.specs.Shown.{view}
use Rattle.pm_mutate.proofs.CommandsLemmas.FreeNumbers.{spare_root, is_spare}
use Rattle.pm_mutate.proofs.commands.naming.bind.Goals as goal

pub spread-requires-clause-there : goal.spread-requires-clause-there
spread-requires-clause-there g c =
    subst IsSome (sym (found_by_number c.args.parts.now.roots c.sound.ensures.differ c.args.name.now (c.in-Some.number, c.in-Some.field-0-1) (sym c.in-Some.ensures))) refl

pub returns-in_ok-spread-in-Some : goal.returns-in_ok-spread-in-Some
returns-in_ok-spread-in-Some g c =
    let spare = spare_root c.args.parts.now.roots in record {
      row = record {
        ok = (
          spare,
          is_spare c.args.parts.now.roots,
          ap (λ v. (Done, v)) c.in_ok-spread-in-Some.ensures.ok ∙ ap (λ o. bind (view c.args.parts.now) c.args.name.now o spare c.args.at) c.in-Some.ensures,
        );
        err = tt;
        rest = c.in_ok-spread-in-Some.ensures.rest;
      };
    }
