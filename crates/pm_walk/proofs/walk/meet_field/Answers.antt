use Rattle.std.proofs.Common.{ap, ◌∙◌, subst, Some, Option}
use Rattle.pm_types.specs.declared.address.Addr.{Addr}
use Rattle.pm_space.specs.Shown.{view}
use Rattle.pm_walk.specs.Walked.{IsFieldAt}
use Rattle.pm_walk.proofs.Steps.{field_leads_to, field_kept}
use Rattle.pm_walk.proofs.walk.meet_field.Goals as goal

pub meet-requires-clause-kept : goal.meet-requires-clause-kept
meet-requires-clause-kept g c =
    let v = view c.args.space.now.parts in
    let it = c.requires.held in
    c.a_copy_is_walked_by_addresses.ensures.field v it.one.at it.object c.args.index c.in-Some.to c.args.space.now.kept (field_kept v c.args.walk.now c.args.place c.args.index c.args.field c.requires.sound it) (it.holds ∙ ap Some c.in-Some.is)

pub meet-requires-clause-led : goal.meet-requires-clause-led
meet-requires-clause-led g c =
    let v = view c.args.space.now.parts in
    field_leads_to v c.args.walk.now.found.items c.args.place c.args.index c.in-Some.to (subst (λ (o : Option Addr). IsFieldAt v c.args.walk.now.found.items c.args.place c.args.index o) c.in-Some.is c.requires.held)
