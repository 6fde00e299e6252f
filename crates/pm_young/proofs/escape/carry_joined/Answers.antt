use Rattle.std.proofs.Common.{ℕ, List, sym, subst, ◌∙◌}
use Rattle.pm_space.specs.Shown.{view}
use Rattle.pm_nursery.specs.Escaping.{IsAscending}
use Rattle.pm_nursery.specs.Joined.{AreJoined}
use Rattle.pm_nursery.specs.Sweeping.{AreYoung, GoesOut}
use Rattle.pm_young.specs.Bringing.{EntersPart, MayAllComeIn, StandsWithout}
use Rattle.pm_young.proofs.Admitted.{on_err}
use Rattle.pm_young.proofs.Crossed.{are_young, joined_apart, joined_may, joined_none, joined_part}
use Rattle.pm_young.proofs.escape.carry_joined.Goals as goal

pub returns-in_err-ids-clause-part : goal.returns-in_err-ids-clause-part
returns-in_err-ids-clause-part g c = on_err c.from_residual.result (joined_none (view c.args.space.now.parts) c.args.nursery.now c.args.id c.args.entered.now.items)

pub escape-requires-clause-young : goal.escape-requires-clause-young
escape-requires-clause-young g c = subst (AreYoung c.args.nursery.now) (sym c.as_slice.ensures.value) (are_young c.args.nursery.now c.sound.ensures c.args.id c.requires.young c.in_ok-ids.ids.items c.in_ok-ids.ensures.joined)

pub escape-requires-clause-may : goal.escape-requires-clause-may
escape-requires-clause-may g c =
    subst (MayAllComeIn (view c.args.space.now.parts)) (sym c.as_slice.ensures.value)
    (joined_may c.args.nursery.now c.sound.ensures c.args.id c.requires.young c.in_ok-ids.ids.items c.in_ok-ids.ensures.joined (view c.args.space.now.parts) c.requires.may)

pub escape-requires-clause-stands : goal.escape-requires-clause-stands
escape-requires-clause-stands g c =
    subst (λ (ids : List ℕ). ∥ StandsWithout (view c.args.space.now.parts) ids ∥₁) (sym c.as_slice.ensures.value)
    (joined_apart c.args.nursery.now c.sound.ensures c.args.id c.requires.young c.in_ok-ids.ids.items c.in_ok-ids.ensures.joined (view c.args.space.now.parts) c.requires.stands)

pub returns-in_err-escape-clause-part : goal.returns-in_err-escape-clause-part
returns-in_err-escape-clause-part g c =
    on_err c.from_residual-in_err-escape.result
    (joined_part (view c.args.space.now.parts) (view c.escape.new.space.parts) c.args.nursery.now c.sound.ensures c.args.id c.requires.young c.args.entered.now.items c.escape.new.entered.items c.as_slice.result.now
    (subst IsAscending (sym c.as_slice.ensures.value) c.in_ok-ids.ensures.ascending) (subst (AreJoined c.args.nursery.now.objects c.args.id) (sym c.as_slice.ensures.value) c.in_ok-ids.ensures.joined)
    c.in_err-escape.ensures.part)

pub returns-clause-ok : goal.returns-clause-ok
returns-clause-ok g c =
    record {
      ids = c.as_slice.result.now;
      ascending = subst IsAscending (sym c.as_slice.ensures.value) c.in_ok-ids.ensures.ascending;
      joined = subst (AreJoined c.args.nursery.now.objects c.args.id) (sym c.as_slice.ensures.value) c.in_ok-ids.ensures.joined;
      young = subst (AreYoung c.args.nursery.now) (sym c.as_slice.ensures.value) (are_young c.args.nursery.now c.sound.ensures c.args.id c.requires.young c.in_ok-ids.ids.items c.in_ok-ids.ensures.joined);
      brings = c.in_ok-escape.ensures.worlds;
      rows = c.in_ok-escape.ensures.rows;
      enters = c.in_ok-escape.ensures.enters;
      leaves = subst (λ (ids : List ℕ). GoesOut c.args.nursery.now ids c.carry_off.new.self) (c.as_slice-2.ensures.value ∙ sym c.as_slice.ensures.value) c.carry_off.ensures;
    }
