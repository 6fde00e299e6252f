use Rattle.std.proofs.Common.{ap, sym, subst, ◌∙◌, refl}
use Rattle.std.specs.FinMap.{get}
use Rattle.pm_types.specs.declared.command.Cmd.{Cmd}
use Rattle.pm_types.specs.declared.command.Cmd.TheVariants.{Bind}
use Rattle.pm_types.specs.declared.reply.Reply.TheVariants.{TooManyRoots}
use Rattle.pm_space.specs.Shown.{view}
use Rattle.pm_young.specs.Parts.{AnswersSpace, LetsJoinedEscape}
use Rattle.pm_young.proofs.Answered.{refused_answers, still_answers}
use Rattle.pm_young.proofs.Named.{bind_lets, bind_refused}
use Rattle.pm_nursery.proofs.Parts.{found_of}
use Rattle.pm_young.proofs.naming.bind_young.Goals as goal

pub returns-then-has_no_room-clause-ok : goal.returns-then-has_no_room-clause-ok
returns-then-has_no_room-clause-ok g c =
    let v = view c.args.space.now.parts in
    let n = c.args.nursery.now in
    let found = found_of _ c.requires.young in
    subst (λ (cmd : Cmd). AnswersSpace c.args.client cmd v v n n c.args.entered.now.items c.args.entered.now.items TooManyRoots) (sym c.requires.bind)
    (still_answers c.args.client (Bind c.args.name.now c.args.reg) v v n n TooManyRoots
    (refused_answers v n c.args.client (Bind c.args.name.now c.args.reg) TooManyRoots refl tt
    (bind_refused v c.args.space.now.kept n c.args.client c.args.reg c.args.name.now found.0 found.1 c.sound.ensures (sym c.has_no_room.ensures ∙ c.if-has_no_room.true)))
    c.args.entered.now.items)

pub answer_after_escape-requires-clause-lets : goal.answer_after_escape-requires-clause-lets
answer_after_escape-requires-clause-lets g c =
    let v = view c.args.space.now.parts in
    let n = c.args.nursery.now in
    subst (λ (cmd : Cmd). LetsJoinedEscape v n c.args.client cmd c.in-Some.id) (sym c.requires.bind)
    (bind_lets v c.args.space.now.kept n c.args.client c.args.reg c.args.name.now c.in-Some.id (ap (λ r. get n.registers (c.args.client, r)) (sym c.number.ensures.number) ∙ sym c.in-Some.ensures) c.sound.ensures (sym c.has_no_room.ensures ∙ c.if-has_no_room.false))
