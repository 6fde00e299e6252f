use Rattle.std.proofs.Common.{◌≡◌, ◌<◌, ◌≤◌, inl, inr, length, List, ℕ, ap, sym, subst, ◌∙◌, arith}
use Rattle.pm_types.specs.declared.limits.TheConstants.{END_ID, FIELDS, OBJECT_BYTES}
use Rattle.pm_model.specs.Answer.{fresh}
use Rattle.pm_space.specs.Shown.{view}
use Rattle.pm_young.specs.Parts.{IsBornYoung}
use Rattle.pm_young.proofs.Admitted.{on_err}
use Rattle.pm_young.proofs.Births.{bear_answers, bear_loses, bear_loses_part, may_after, refused_large, refused_spent, room_after}
use Rattle.pm_young.proofs.birth.bear.Goals as goal

pub returns-then-count-gt-FIELDS-clause-ok : goal.returns-then-count-gt-FIELDS-clause-ok
returns-then-count-gt-FIELDS-clause-ok g c =
    let many = c.if-count-gt-FIELDS.true in
    refused_large c.args.client c.args.reg c.args.count c.args.bytes.now (view c.args.space.now.parts) c.args.nursery.now c.args.entered.now.items (inl (grind (arith, many)))

pub returns-then-as_slice-gt-OBJECT_BYTES-clause-ok : goal.returns-then-as_slice-gt-OBJECT_BYTES-clause-ok
returns-then-as_slice-gt-OBJECT_BYTES-clause-ok g c =
    let long = c.if-as_slice-gt-OBJECT_BYTES.true in
    let bytes = ap length c.as_slice.ensures in
    refused_large c.args.client c.args.reg c.args.count c.args.bytes.now (view c.args.space.now.parts) c.args.nursery.now c.args.entered.now.items (inr (grind (arith, long, bytes)))

pub returns-then-space-ge-END_ID-clause-ok : goal.returns-then-space-ge-END_ID-clause-ok
returns-then-space-ge-END_ID-clause-ok g c =
    let v = view c.args.space.now.parts in
    let n = c.args.nursery.now in
    let over = c.if-count-gt-FIELDS.false in
    let long = c.if-as_slice-gt-OBJECT_BYTES.false in
    let bytes = ap length c.as_slice.ensures in
    let few : c.args.count ≤ FIELDS = grind (arith, over) in
    let short : length c.args.bytes.now ≤ OBJECT_BYTES = grind (arith, long, bytes) in
    let end = c.if-space-ge-END_ID.true in
    refused_spent c.args.client c.args.reg c.args.count c.args.bytes.now v n c.args.entered.now.items few short (grind (arith, end))

pub returns-in_err-sweep_if_full-clause-err : goal.returns-in_err-sweep_if_full-clause-err
returns-in_err-sweep_if_full-clause-err g c =
    let v = view c.args.space.now.parts in
    let n = c.args.nursery.now in
    let over = c.if-count-gt-FIELDS.false in
    let long = c.if-as_slice-gt-OBJECT_BYTES.false in
    let bytes = ap length c.as_slice.ensures in
    let few : c.args.count ≤ FIELDS = grind (arith, over) in
    let short : length c.args.bytes.now ≤ OBJECT_BYTES = grind (arith, long, bytes) in
    let end = c.if-space-ge-END_ID.false in
    let room : v.next < END_ID = grind (arith, end) in
    on_err c.from_residual.result (bear_loses_part c.args.client c.args.reg c.args.count c.args.bytes.now v n c.sound.ensures c.args.entered.now.items few short room (view c.sweep_if_full.new.space.parts) c.sweep_if_full.new.entered.items c.in_err-sweep_if_full.ensures.part)

pub give_birth-requires-clause-few : goal.give_birth-requires-clause-few
give_birth-requires-clause-few g c = room_after (view c.args.space.now.parts) (view c.sweep_if_full.new.space.parts) c.args.nursery.now c.sweep_if_full.new.nursery c.args.entered.now.items c.sweep_if_full.new.entered.items c.in_ok-sweep_if_full.ensures.ok

pub give_birth-requires-clause-may : goal.give_birth-requires-clause-may
give_birth-requires-clause-may g c = may_after (view c.args.space.now.parts) (view c.sweep_if_full.new.space.parts) c.args.nursery.now c.sweep_if_full.new.nursery c.args.entered.now.items c.sweep_if_full.new.entered.items c.in_ok-sweep_if_full.ensures.ok c.requires.may

pub returns-in_err-id-clause-err : goal.returns-in_err-id-clause-err
returns-in_err-id-clause-err g c =
    let v = view c.args.space.now.parts in
    let n = c.args.nursery.now in
    let over = c.if-count-gt-FIELDS.false in
    let long = c.if-as_slice-gt-OBJECT_BYTES.false in
    let bytes = ap length c.as_slice.ensures in
    let few : c.args.count ≤ FIELDS = grind (arith, over) in
    let short : length c.args.bytes.now ≤ OBJECT_BYTES = grind (arith, long, bytes) in
    let end = c.if-space-ge-END_ID.false in
    let room : v.next < END_ID = grind (arith, end) in
    on_err c.from_residual-in_err-id.result
    (bear_loses c.args.client c.args.reg c.args.count c.args.bytes.now v n c.sound.ensures c.args.entered.now.items few short room (view c.sweep_if_full.new.space.parts) (view c.give_birth.new.space.parts) c.sweep_if_full.new.nursery c.sweep_if_full.new.entered.items c.in_ok-sweep_if_full.ensures.ok c.in_err-id.ensures.err)

pub returns-clause-ok : goal.returns-clause-ok
returns-clause-ok g c =
    let v = view c.args.space.now.parts in
    let n = c.args.nursery.now in
    let over = c.if-count-gt-FIELDS.false in
    let long = c.if-as_slice-gt-OBJECT_BYTES.false in
    let bytes = ap length c.as_slice.ensures in
    let few : c.args.count ≤ FIELDS = grind (arith, over) in
    let short : length c.args.bytes.now ≤ OBJECT_BYTES = grind (arith, long, bytes) in
    let end = c.if-space-ge-END_ID.false in
    let room : v.next < END_ID = grind (arith, end) in
    bear_answers c.args.client c.args.reg c.args.count c.args.bytes.now v n c.sound.ensures c.args.entered.now.items few short room (view c.sweep_if_full.new.space.parts) (view c.give_birth.new.space.parts) c.sweep_if_full.new.nursery c.give_birth.new.nursery c.sweep_if_full.new.entered.items c.in_ok-id.id c.in_ok-sweep_if_full.ensures.ok
    (subst (λ (bytes : List ℕ). IsBornYoung c.args.client c.args.reg (fresh c.args.count bytes) (view c.sweep_if_full.new.space.parts) (view c.give_birth.new.space.parts) c.sweep_if_full.new.nursery c.give_birth.new.nursery) c.as_slice-2.ensures c.in_ok-id.ensures.born)
    c.in_ok-id.ensures.id
