use Rattle.std.proofs.Common.{◌+◌, None, refl, sym, ap, ◌∙◌, arith}
use Rattle.std.specs.FinMap.{get}
use Rattle.pm_types.specs.declared.source.RefSource.TheVariants.{Handle}
use Rattle.pm_view.specs.Rows.{spread}
use Rattle.pm_space.specs.Linked.{told_by}
use Rattle.pm_space.specs.Shown.{view}
use Rattle.pm_mutate.specs.Commands.Closing.{stored_in}
use Rattle.pm_mutate.proofs.CommandsLemmas.Emptying.{fewer, room_for, room_left, stored_next, stored_here, emptied_next, emptied_sets, emptied_trains, emptied_later, housed_still}
use Rattle.pm_mutate.proofs.commands.closing.empty_registers.Goals as goal

pub loop-register-init : goal.loop-register-init
loop-register-init g c =
    let v = view c.args.parts.now in
    record {
      seen = refl;
      room = λ car count within. fewer c.args.parts.now.links car count (stored_in v.registers c.args.client c.args.count car) (omega (arith, within)) (c.requires.room car);
      rest = record { frozen = refl; place = refl };
    }

pub empty_register-requires-clause-housed : goal.empty_register-requires-clause-housed
empty_register-requires-clause-housed g c =
    let v = view c.args.parts.now in
    let i = c.loop-register.register in
    let seen = c.loop-register.invariant.seen in
    housed_still v (view c.loop-register.parts)
    (ap (λ v. v.sets) seen ∙ emptied_sets v c.args.client i) (ap (λ v. v.trains) seen ∙ emptied_trains v c.args.client i) c.requires.housed

pub empty_register-requires-clause-room : goal.empty_register-requires-clause-room
empty_register-requires-clause-room g c =
    let v = view c.args.parts.now in
    let i = c.loop-register.register in
    let seen = c.loop-register.invariant.seen in
    room_for c.loop-register.parts.links _ (λ a is.
    c.loop-register.invariant.room a.car 1
    (stored_here v.registers c.args.client i c.args.count a
    (sym (ap (λ v. get v.registers (c.args.client, i)) seen ∙ emptied_later v c.args.client i i (omega arith)) ∙ is) c.loop-register-test.true))

pub loop-register-preserved : goal.loop-register-preserved
loop-register-preserved g c =
    let v = view c.args.parts.now in
    let i = c.loop-register.register in
    let seen = c.loop-register.invariant.seen in
    let here = ap (λ v. get v.registers (c.args.client, i)) seen ∙ emptied_later v c.args.client i i (omega arith) in
    record {
      seen = c.empty_register.ensures.view ∙ ap (λ v. spread v (Handle c.args.client i) None) seen ∙ emptied_next v c.args.client i;
      room = λ car count within.
          c.empty_register.ensures.used car count
          (c.loop-register.invariant.room car (count + told_by car (get (view c.loop-register.parts).registers (c.args.client, i)))
          (room_left _ _ _ _ count _ (stored_next v.registers c.args.client i car) (ap (told_by car) here) within));
      rest = record { frozen = c.empty_register.ensures.rest.frozen ∙ c.loop-register.invariant.rest.frozen; place = c.empty_register.ensures.rest.place ∙ c.loop-register.invariant.rest.place };
    }
