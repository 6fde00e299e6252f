use Rattle.std.proofs.Common.{ap, Ok}
use Rattle.pm_types.specs.declared.reply.Reply.TheVariants.{NoHandle}
use Rattle.pm_view.specs.Commands.{row_root}
use Rattle.pm_space.specs.Shown.{view}
use Rattle.pm_mutate.proofs.CommandsLemmas.FreeNumbers.{spare_root, is_spare}
use Rattle.pm_mutate.proofs.CommandsLemmas.Made.{made_still}
use Rattle.pm_mutate.proofs.commands.naming.root.Goals as goal

pub returns-in-None : goal.returns-in-None
returns-in-None g c =
    let spare = spare_root c.args.parts.now.roots in record {
      row = made_still c.args.parts.now (Ok NoHandle)
          (spare, is_spare c.args.parts.now.roots, ap (λ o. row_root (view c.args.parts.now) c.args.name.now spare o) c.in-None.ensures);
    }
