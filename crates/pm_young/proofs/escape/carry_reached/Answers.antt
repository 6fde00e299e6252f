use Rattle.std.proofs.Common.{List, ℕ, sym, subst}
use Rattle.pm_space.specs.Shown.{view}
use Rattle.pm_nursery.specs.Escaping.{IsAscending}
use Rattle.pm_nursery.specs.Sweeping.{AreReached, AreYoung}
use Rattle.pm_young.specs.Bringing.{HoldsWithin, MayAllComeIn, StandsWithout}
use Rattle.pm_young.proofs.Admitted.{on_err}
use Rattle.pm_young.proofs.Carried.{carries_if, carries_none, carries_part_if, reached_apart, reached_may, reached_within, reached_young}
use Rattle.pm_young.proofs.escape.carry_reached.Goals as goal

pub returns-in_err-ids-clause-part : goal.returns-in_err-ids-clause-part
returns-in_err-ids-clause-part g c = on_err c.from_residual.result (carries_none (view c.args.space.now.parts) c.args.nursery.now c.args.entered.now.items)

pub escape-requires-clause-young : goal.escape-requires-clause-young
escape-requires-clause-young g c = subst (AreYoung c.args.nursery.now) (sym c.as_slice.ensures.value) (reached_young c.args.nursery.now c.in_ok-ids.ids.items c.in_ok-ids.ensures.reached c.sound.ensures)

pub escape-requires-clause-within : goal.escape-requires-clause-within
escape-requires-clause-within g c = subst (HoldsWithin c.args.nursery.now.objects) (sym c.as_slice.ensures.value) (reached_within c.args.nursery.now c.in_ok-ids.ids.items c.in_ok-ids.ensures.reached)

pub escape-requires-clause-may : goal.escape-requires-clause-may
escape-requires-clause-may g c =
    subst (MayAllComeIn (view c.args.space.now.parts)) (sym c.as_slice.ensures.value) (reached_may c.args.nursery.now c.in_ok-ids.ids.items c.in_ok-ids.ensures.reached (view c.args.space.now.parts) c.sound.ensures c.requires.may)

pub escape-requires-clause-stands : goal.escape-requires-clause-stands
escape-requires-clause-stands g c =
    subst (λ (ids : List ℕ). ∥ StandsWithout (view c.args.space.now.parts) ids ∥₁) (sym c.as_slice.ensures.value)
    (reached_apart c.args.nursery.now c.in_ok-ids.ids.items c.in_ok-ids.ensures.reached (view c.args.space.now.parts) c.sound.ensures c.requires.stands)

pub returns-clause-ok : goal.returns-clause-ok
returns-clause-ok g c =
    carries_if c.escape.result (view c.args.space.now.parts) (view c.escape.new.space.parts) c.args.nursery.now c.args.entered.now.items c.escape.new.entered.items c.as_slice.result.now
    (subst IsAscending (sym c.as_slice.ensures.value) c.in_ok-ids.ensures.ascending) (subst (AreReached c.args.nursery.now) (sym c.as_slice.ensures.value) c.in_ok-ids.ensures.reached) c.escape.ensures.worlds c.escape.ensures.rows c.escape.ensures.enters

pub returns-clause-part : goal.returns-clause-part
returns-clause-part g c =
    carries_part_if c.escape.result (view c.args.space.now.parts) (view c.escape.new.space.parts) c.args.nursery.now c.args.entered.now.items c.escape.new.entered.items c.as_slice.result.now
    (subst IsAscending (sym c.as_slice.ensures.value) c.in_ok-ids.ensures.ascending) (subst (AreReached c.args.nursery.now) (sym c.as_slice.ensures.value) c.in_ok-ids.ensures.reached) c.escape.ensures.part
