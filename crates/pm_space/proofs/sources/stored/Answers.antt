use Rattle.std.proofs.Common.{sym, ap, subst, ◌∙◌}
use Rattle.pm_view.specs.Reading.{stored}
use Rattle.pm_space.specs.Shown.{view, IsThere}
use Rattle.pm_space.proofs.sources.stored.Goals as goal

pub field-requires : goal.field-requires
field-requires g c = subst (IsThere (view c.args.parts.now)) c.in-Field.is c.requires

pub returns-in-Root : goal.returns-in-Root
returns-in-Root g c = c.at.ensures.value ∙ sym (ap (stored (view c.args.parts.now)) c.in-Root.is)

pub returns-in-Handle : goal.returns-in-Handle
returns-in-Handle g c = c.get.ensures ∙ sym (ap (stored (view c.args.parts.now)) c.in-Handle.is)

pub returns-in-Field : goal.returns-in-Field
returns-in-Field g c = c.field.ensures ∙ sym (ap (stored (view c.args.parts.now)) c.in-Field.is)
