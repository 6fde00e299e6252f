use Rattle.std.proofs.Common.{refl, ap, ◌∙◌}
use Rattle.pm_types.specs.declared.limits.TheConstants.{REGISTERS}
use Rattle.pm_types.specs.declared.reply.Reply.TheVariants.{Done}
use Rattle.pm_view.specs.Commands.{emptied}
use Rattle.pm_space.specs.Shown.{view}
use Rattle.pm_space.proofs.OpenedCars.{same_view}
use Rattle.pm_mutate.proofs.commands.closing.close.Goals as goal

pub returns : goal.returns
returns g c =
    let same = same_view (view c.args.parts.now) _ _ _ _ refl c.in_ok-make_room_to_close.ensures.sets c.in_ok-make_room_to_close.ensures.queues refl in
    record {
      row = record {
        ok = ap (λ v. (Done, v)) (c.empty_registers.ensures.view ∙ ap (λ v. emptied v c.args.client REGISTERS) same);
        err = tt;
        rest = record { frozen = c.empty_registers.ensures.rest.frozen; place = c.empty_registers.ensures.rest.place };
      };
    }
