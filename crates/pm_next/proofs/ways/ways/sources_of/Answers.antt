use Rattle.std.proofs.Common.{[], sym, ap, subst}
use Rattle.std.specs.Option.{unwrap_or}
use Rattle.std.specs.FinMap.{empty}
use Rattle.pm_remset.specs.Remembered.{AppendsSources}
use Rattle.pm_space.specs.Linked.{set_of}
use Rattle.pm_space.proofs.Linking.{at_car, not_at_car}
use Rattle.pm_next.proofs.WaysLemmas.Choices.{none_appended}
use Rattle.pm_next.proofs.ways.ways.sources_of.Goals as goal

pub returns-in_ok-of_slot-in-Some : goal.returns-in_ok-of_slot-in-Some
returns-in_ok-of_slot-in-Some g c =
    let links = c.args.parts.now.links in
    let held = ap (λ o. unwrap_or o empty) (at_car set_of links c.args.at.car c.in-Some.links.now (sym c.in-Some.ensures)) in
    subst (λ set. AppendsSources set c.args.at.slot [] c.of_slot.new.out.items) (sym held)
    (subst (λ before. AppendsSources c.in-Some.links.now.set c.args.at.slot before c.of_slot.new.out.items) c.new-sources.ensures.items c.in_ok-of_slot-in-Some.ensures.ok)

pub returns-in-None : goal.returns-in-None
returns-in-None g c =
    let links = c.args.parts.now.links in
    let held = ap (λ o. unwrap_or o empty) (not_at_car set_of links c.args.at.car (sym c.in-None.ensures)) in
    subst (λ set. AppendsSources set c.args.at.slot [] c.new-sources.result.items) (sym held)
    (subst (λ after. AppendsSources empty c.args.at.slot [] after) (sym c.new-sources.ensures.items) (none_appended c.args.at.slot))
