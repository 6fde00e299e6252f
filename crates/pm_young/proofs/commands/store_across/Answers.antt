use Rattle.std.proofs.Common.{◌≡◌, true, false, None, Some, ap, sym, subst, ◌∙◌, refl}
use Rattle.std.specs.FinMap.{get}
use Rattle.pm_types.specs.declared.command.Cmd.{Cmd}
use Rattle.pm_types.specs.declared.command.Cmd.TheVariants.{Store}
use Rattle.pm_model.specs.Frames.{makes_object}
use Rattle.pm_view.specs.Commands.{is_act}
use Rattle.pm_space.specs.Shown.{view}
use Rattle.pm_nursery.specs.Escaping.{SetsField}
use Rattle.pm_young.specs.Parts.{AnswersSpace, IsAcceptedIn, LetsJoinedEscape, ReadsNoneBut}
use Rattle.pm_young.proofs.Answered.{refused_answers, refusal_short, still_answers}
use Rattle.pm_young.proofs.Sided.{store_object_old, store_object_young, store_reads, stands_apart, value_lets}
use Rattle.pm_young.proofs.commands.store_across.Goals as goal

pub returns-in-Some-clause-ok : goal.returns-in-Some-clause-ok
returns-in-Some-clause-ok g c =
    let v = view c.args.space.now.parts in
    let n = c.args.nursery.now in
    let reply = c.in-Some.reply in
    let judged = c.in-Some.ensures in
    subst (λ (cmd : Cmd). AnswersSpace c.args.client cmd v v n n c.args.entered.now.items c.args.entered.now.items reply) (sym c.requires.store)
    (still_answers c.args.client (Store c.args.reg c.args.index c.args.value) v v n n reply (refused_answers v n c.args.client (Store c.args.reg c.args.index c.args.value) reply judged.refusal (refusal_short (Store c.args.reg c.args.index c.args.value) reply judged.refusal) judged.answer_is) c.args.entered.now.items)

pub answer_after_escape-requires-clause-act : goal.answer_after_escape-requires-clause-act
answer_after_escape-requires-clause-act g c = subst (λ (cmd : Cmd). is_act cmd ≡ true) (sym c.requires.store) refl

pub answer_after_escape-requires-clause-no_birth : goal.answer_after_escape-requires-clause-no_birth
answer_after_escape-requires-clause-no_birth g c = subst (λ (cmd : Cmd). makes_object cmd ≡ false) (sym c.requires.store) refl

pub answer_after_escape-requires-clause-reads : goal.answer_after_escape-requires-clause-reads
answer_after_escape-requires-clause-reads g c =
    let v = view c.args.space.now.parts in
    let n = c.args.nursery.now in
    subst (λ (cmd : Cmd). ReadsNoneBut n c.args.client cmd c.in-Some-held.id) (sym c.requires.store) (store_reads n c.args.client c.args.reg c.args.index c.args.value c.in-Some-held.id (store_object_old n c.args.client c.args.reg c.args.index c.args.value c.in-Some-held.id c.requires.both (ap (λ r. get n.registers (c.args.client, r)) (sym c.number.ensures.number) ∙ sym c.in-Some-held.ensures)) (ap (λ r. get n.registers (c.args.client, r)) (sym c.number.ensures.number) ∙ sym c.in-Some-held.ensures))

pub answer_after_escape-requires-clause-lets : goal.answer_after_escape-requires-clause-lets
answer_after_escape-requires-clause-lets g c =
    let v = view c.args.space.now.parts in
    let n = c.args.nursery.now in
    subst (λ (cmd : Cmd). LetsJoinedEscape v n c.args.client cmd c.in-Some-held.id) (sym c.requires.store)
    (value_lets v n c.args.client c.args.reg c.args.index c.args.value (Store c.args.reg c.args.index c.args.value) (refl, refl, refl) c.in-None.ensures c.in-Some-held.id (store_object_old n c.args.client c.args.reg c.args.index c.args.value c.in-Some-held.id c.requires.both (ap (λ r. get n.registers (c.args.client, r)) (sym c.number.ensures.number) ∙ sym c.in-Some-held.ensures)) (ap (λ r. get n.registers (c.args.client, r)) (sym c.number.ensures.number) ∙ sym c.in-Some-held.ensures) (c.sound.ensures.held c.in-Some-held.id ((c.args.client, c.args.value), (ap (λ r. get n.registers (c.args.client, r)) (sym c.number.ensures.number) ∙ sym c.in-Some-held.ensures))))

pub answer_after_escape-requires-clause-stands : goal.answer_after_escape-requires-clause-stands
answer_after_escape-requires-clause-stands g c = stands_apart (view c.args.space.now.parts) c.args.nursery.now c.requires.stands

pub object_escapes-requires-clause-sets : goal.object_escapes-requires-clause-sets
object_escapes-requires-clause-sets g c = subst (λ (cmd : Cmd). SetsField cmd c.args.reg c.args.index c.args.value) (sym c.requires.store) (refl, refl, refl)

pub object_escapes-requires-clause-accepted : goal.object_escapes-requires-clause-accepted
object_escapes-requires-clause-accepted g c =
    let v = view c.args.space.now.parts in
    let n = c.args.nursery.now in
    subst (λ (cmd : Cmd). IsAcceptedIn v n c.args.client cmd c.args.reg c.args.index c.args.value) (sym c.requires.store) c.in-None.ensures

pub object_escapes-requires-clause-young : goal.object_escapes-requires-clause-young
object_escapes-requires-clause-young g c =
    let v = view c.args.space.now.parts in
    let n = c.args.nursery.now in
    store_object_young n c.args.client c.args.reg c.args.index c.args.value c.requires.both (ap (λ r. get n.registers (c.args.client, r)) (sym c.number.ensures.number) ∙ sym c.in-None-held.ensures)

pub object_escapes-requires-clause-old : goal.object_escapes-requires-clause-old
object_escapes-requires-clause-old g c =
    let v = view c.args.space.now.parts in
    let n = c.args.nursery.now in
    (ap (λ r. get n.registers (c.args.client, r)) (sym c.number.ensures.number) ∙ sym c.in-None-held.ensures)
