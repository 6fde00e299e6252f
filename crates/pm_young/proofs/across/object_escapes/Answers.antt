use Rattle.std.proofs.Common.{◌≡◌, ◌<◌, ℕ, length, Option, Some, ap, sym, subst, ◌∙◌, arith}
use Rattle.std.specs.Option.{IsSome, IsSomeAnd}
use Rattle.std.specs.FinMap.{get}
use Rattle.pm_model.specs.Heap.{Object}
use Rattle.pm_space.specs.Shown.{view}
use Rattle.pm_nursery.specs.Young.{NurseryView}
use Rattle.pm_nursery.proofs.Parts.{found_of}
use Rattle.pm_young.specs.Bringing.{CarriesJoined, CarriesJoinedPart, MayYoungComeIn, StandsApart}
use Rattle.pm_young.proofs.Admitted.{on_err}
use Rattle.pm_young.proofs.Nulled.{answers_stored, field_there, left_apart, left_may, left_young, loses_nulled, loses_stored}
use Rattle.pm_young.proofs.across.object_escapes.Goals as goal

pub set_field-requires-clause-field : goal.set_field-requires-clause-field
set_field-requires-clause-field g c =
    let v = view c.args.space.now.parts in
    let n = c.args.nursery.now in
    let id = c.in-Some.id in
    let holds : get n.registers (c.args.client, c.args.reg) ≡ Some id = ap (λ r. get n.registers (c.args.client, r)) (sym c.number.ensures.number) ∙ sym c.in-Some.ensures in
    let known = found_of (get n.objects id) (c.sound.ensures.held id ((c.args.client, c.args.reg), holds)) in
    subst (λ (o : Option Object). IsSomeAnd o (λ object. c.args.index < length object.fields)) (sym known.1) (field_there v n c.sound.ensures c.args.client c.args.cmd.now c.args.reg c.args.index c.args.value c.requires.accepted id holds known.0 known.1 c.requires.stands)

pub carry_joined-requires-clause-young : goal.carry_joined-requires-clause-young
carry_joined-requires-clause-young g c =
    let v = view c.args.space.now.parts in
    let n = c.args.nursery.now in
    let id = c.in-Some.id in
    let holds : get n.registers (c.args.client, c.args.reg) ≡ Some id = ap (λ r. get n.registers (c.args.client, r)) (sym c.number.ensures.number) ∙ sym c.in-Some.ensures in
    let known = found_of (get n.objects id) (c.sound.ensures.held id ((c.args.client, c.args.reg), holds)) in
    let left_is = c.set_field.ensures known.0 known.1 in
    subst (λ (left : NurseryView). IsSome (get left.objects id)) (sym left_is) (left_young v n c.sound.ensures c.args.client c.args.cmd.now c.args.reg c.args.index c.args.value c.requires.accepted id holds known.0 known.1)

pub carry_joined-requires-clause-may : goal.carry_joined-requires-clause-may
carry_joined-requires-clause-may g c =
    let v = view c.args.space.now.parts in
    let n = c.args.nursery.now in
    let id = c.in-Some.id in
    let holds : get n.registers (c.args.client, c.args.reg) ≡ Some id = ap (λ r. get n.registers (c.args.client, r)) (sym c.number.ensures.number) ∙ sym c.in-Some.ensures in
    let known = found_of (get n.objects id) (c.sound.ensures.held id ((c.args.client, c.args.reg), holds)) in
    let left_is = c.set_field.ensures known.0 known.1 in
    subst (MayYoungComeIn v) (sym left_is) (left_may v n c.sound.ensures c.args.client c.args.cmd.now c.args.reg c.args.index c.args.value c.requires.accepted id holds known.0 known.1 c.requires.may)

pub carry_joined-requires-clause-stands : goal.carry_joined-requires-clause-stands
carry_joined-requires-clause-stands g c =
    let v = view c.args.space.now.parts in
    let n = c.args.nursery.now in
    let id = c.in-Some.id in
    let holds : get n.registers (c.args.client, c.args.reg) ≡ Some id = ap (λ r. get n.registers (c.args.client, r)) (sym c.number.ensures.number) ∙ sym c.in-Some.ensures in
    let known = found_of (get n.objects id) (c.sound.ensures.held id ((c.args.client, c.args.reg), holds)) in
    let left_is = c.set_field.ensures known.0 known.1 in
    subst (λ (left : NurseryView). ∥ StandsApart v left ∥₁) (sym left_is) (left_apart v n c.sound.ensures c.args.client c.args.cmd.now c.args.reg c.args.index c.args.value c.requires.accepted id holds known.0 known.1 c.requires.stands)

pub returns-in_err-carry_joined-clause-err : goal.returns-in_err-carry_joined-clause-err
returns-in_err-carry_joined-clause-err g c =
    let v = view c.args.space.now.parts in
    let n = c.args.nursery.now in
    let id = c.in-Some.id in
    let holds : get n.registers (c.args.client, c.args.reg) ≡ Some id = ap (λ r. get n.registers (c.args.client, r)) (sym c.number.ensures.number) ∙ sym c.in-Some.ensures in
    let known = found_of (get n.objects id) (c.sound.ensures.held id ((c.args.client, c.args.reg), holds)) in
    let left_is = c.set_field.ensures known.0 known.1 in
    on_err c.from_residual.result
    (loses_nulled v n c.sound.ensures c.args.client c.args.cmd.now c.args.reg c.args.index c.args.value c.requires.sets c.requires.accepted id holds known.0 known.1 c.requires.old (view c.carry_joined.new.space.parts) c.args.entered.now.items c.carry_joined.new.entered.items
    (subst (λ (left : NurseryView). CarriesJoinedPart v left id c.args.entered.now.items (view c.carry_joined.new.space.parts) c.carry_joined.new.entered.items) left_is c.in_err-carry_joined.ensures.part))

pub returns-in_err-store_within-clause-err : goal.returns-in_err-store_within-clause-err
returns-in_err-store_within-clause-err g c =
    let v = view c.args.space.now.parts in
    let n = c.args.nursery.now in
    let id = c.in-Some.id in
    let holds : get n.registers (c.args.client, c.args.reg) ≡ Some id = ap (λ r. get n.registers (c.args.client, r)) (sym c.number.ensures.number) ∙ sym c.in-Some.ensures in
    let known = found_of (get n.objects id) (c.sound.ensures.held id ((c.args.client, c.args.reg), holds)) in
    let left_is = c.set_field.ensures known.0 known.1 in
    let next = c.store_within.ensures.next in
    on_err c.from_residual-in_err-store_within.result
    (loses_stored v n c.sound.ensures c.args.client c.args.cmd.now c.args.reg c.args.index c.args.value c.requires.sets c.requires.accepted id holds known.0 known.1 c.requires.old (view c.carry_joined.new.space.parts) c.carry_joined.new.nursery c.args.entered.now.items c.carry_joined.new.entered.items (subst (λ (left : NurseryView). CarriesJoined v left id c.args.entered.now.items (view c.carry_joined.new.space.parts) c.carry_joined.new.nursery c.carry_joined.new.entered.items) left_is c.in_ok-carry_joined.ensures.ok) (view c.store_within.new.space.parts) c.store_within.ensures.objects (omega (arith, next)))

pub returns-clause-ok : goal.returns-clause-ok
returns-clause-ok g c =
    let v = view c.args.space.now.parts in
    let n = c.args.nursery.now in
    let id = c.in-Some.id in
    let holds : get n.registers (c.args.client, c.args.reg) ≡ Some id = ap (λ r. get n.registers (c.args.client, r)) (sym c.number.ensures.number) ∙ sym c.in-Some.ensures in
    let known = found_of (get n.objects id) (c.sound.ensures.held id ((c.args.client, c.args.reg), holds)) in
    let left_is = c.set_field.ensures known.0 known.1 in
    let next = c.store_within.ensures.next in
    answers_stored v n c.sound.ensures c.args.client c.args.cmd.now c.args.reg c.args.index c.args.value c.requires.sets c.requires.accepted id holds known.0 known.1 c.requires.old (view c.carry_joined.new.space.parts) c.carry_joined.new.nursery c.args.entered.now.items c.carry_joined.new.entered.items (subst (λ (left : NurseryView). CarriesJoined v left id c.args.entered.now.items (view c.carry_joined.new.space.parts) c.carry_joined.new.nursery c.carry_joined.new.entered.items) left_is c.in_ok-carry_joined.ensures.ok) (view c.store_within.new.space.parts) c.store_within.ensures.objects (omega (arith, next)) c.in_ok-store_within.ensures.worlds
