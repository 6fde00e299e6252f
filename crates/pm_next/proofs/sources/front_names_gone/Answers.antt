use Rattle.std.proofs.Common.{sym, ap, ◌∙◌}
use Rattle.pm_space.specs.Shown.{view}
use Rattle.pm_space.proofs.Fronts.{waits, none_waits}
use Rattle.pm_law_collect.specs.Work.Names.{names_gone, front_names_gone}
use Rattle.pm_next.proofs.Fixes.{no_front_gone, front_gone}
use Rattle.pm_next.proofs.sources.front_names_gone.Goals as goal

pub returns-in_default : goal.returns-in_default
returns-in_default g c = sym (ap (front_names_gone (view c.args.parts.now) c.args.car) (none_waits c.args.parts.now.links c.args.car (sym c.in_default.ensures)))

pub returns-in_default-front : goal.returns-in_default-front
returns-in_default-front g c =
    let v = view c.args.parts.now in
    let links = c.in-Some.links.now in
    no_front_gone v c.args.car links.queue.changes c.in_default-front.ensures ∙ sym (ap (front_names_gone v c.args.car) (waits c.args.parts.now.links c.args.car links links (sym c.in-Some.ensures)))

pub returns-in-Some-slot : goal.returns-in-Some-slot
returns-in-Some-slot g c =
    let v = view c.args.parts.now in
    let links = c.in-Some.links.now in
    front_gone v c.args.car links.queue.changes c.in-Some-front.change.now c.has_gone.result c.in-Some-front.ensures (c.has_gone.ensures ∙ sym (ap (names_gone v c.args.car) c.in-Some-slot.is))
    ∙ sym (ap (front_names_gone v c.args.car) (waits c.args.parts.now.links c.args.car links links (sym c.in-Some.ensures)))

pub returns-in-None : goal.returns-in-None
returns-in-None g c =
    let v = view c.args.parts.now in
    let links = c.in-Some.links.now in
    front_gone v c.args.car links.queue.changes c.in-Some-front.change.now _ c.in-Some-front.ensures (sym (ap (names_gone v c.args.car) c.in-None.is))
    ∙ sym (ap (front_names_gone v c.args.car) (waits c.args.parts.now.links c.args.car links links (sym c.in-Some.ensures)))
